use mir.Val.{of_z, to_z}
use Rattle.std.proofs.Common.{◌≡◌, rules, sym, subst, w64}
use Rattle.std.specs.Prelude.{◌↔◌, IsTrue}
use Rattle.sdb_model.specs.Causes.{IsBusy, IsCaused, IsRejected, before}
use Rattle.sdb_contents.specs.Commits.{executed_of}
use Rattle.check_answers.proofs.Decided.{if_ok}
use Rattle.check_answers.proofs.caused.has_cause.Goals as goal

pub returns-in-Rows : goal.returns-in-Rows
returns-in-Rows c = if_ok c.is_of_rows.result (λ b h. subst (λ a. IsTrue b ↔ IsCaused c.args.catalog.now c.args.events.now c.args.client (executed_of c.args.executed.now) a) (sym c.in-Rows.is) h) c.is_of_rows.ensures

pub returns-in-Count : goal.returns-in-Count
returns-in-Count c = if_ok c.is_of_count.result (λ b h. subst (λ a. IsTrue b ↔ IsCaused c.args.catalog.now c.args.events.now c.args.client (executed_of c.args.executed.now) a) (sym c.in-Count.is) h) c.is_of_count.ensures

pub returns-in-Done : goal.returns-in-Done
returns-in-Done c = if_ok c.is_of_done.result (λ b h. subst (λ a. IsTrue b ↔ IsCaused c.args.catalog.now c.args.events.now c.args.client (executed_of c.args.executed.now) a) (sym c.in-Done.is) h) c.is_of_done.ensures

pub returns-in-Committed : goal.returns-in-Committed
returns-in-Committed c = if_ok c.is_of_commit.result (λ b h. subst (λ a. IsTrue b ↔ IsCaused c.args.catalog.now c.args.events.now c.args.client (executed_of c.args.executed.now) a) (sym c.in-Committed.is) h) c.is_of_commit.ensures

pub returns-in-Duplicate : goal.returns-in-Duplicate
returns-in-Duplicate c = if_ok c.is_of_duplicate_then.result (λ b h. subst (λ a. IsTrue b ↔ IsCaused c.args.catalog.now c.args.events.now c.args.client (executed_of c.args.executed.now) a) (sym c.in-Duplicate.is) h) c.is_of_duplicate_then.ensures

pub returns-in-Busy : goal.returns-in-Busy
returns-in-Busy c =
    let same : to_z w64 (of_z w64 c.in-Busy.at) ≡ c.in-Busy.at = search rules in
    if_ok c.is_busy.result (λ b h. subst (λ a. IsTrue b ↔ IsCaused c.args.catalog.now c.args.events.now c.args.client (executed_of c.args.executed.now) a) (sym c.in-Busy.is) (subst (λ n. IsTrue b ↔ IsBusy c.args.events.now c.args.client (executed_of c.args.executed.now) c.in-Busy.key c.in-Busy.id n) same h)) c.is_busy.ensures

pub returns-in-Conflict : goal.returns-in-Conflict
returns-in-Conflict c = if_ok c.is_conflict.result (λ b h. subst (λ a. IsTrue b ↔ IsCaused c.args.catalog.now c.args.events.now c.args.client (executed_of c.args.executed.now) a) (sym c.in-Conflict.is) h) c.is_conflict.ensures

pub returns-in-Expired : goal.returns-in-Expired
returns-in-Expired c = if_ok c.is_expired.result (λ b h. subst (λ a. IsTrue b ↔ IsCaused c.args.catalog.now c.args.events.now c.args.client (executed_of c.args.executed.now) a) (sym c.in-Expired.is) h) c.is_expired.ensures

pub returns-in-Faulted : goal.returns-in-Faulted
returns-in-Faulted c = if_ok c.has_fault.result (λ b h. subst (λ a. IsTrue b ↔ IsCaused c.args.catalog.now c.args.events.now c.args.client (executed_of c.args.executed.now) a) (sym c.in-Faulted.is) h) c.has_fault.ensures

pub returns-in-Unknown : goal.returns-in-Unknown
returns-in-Unknown c = if_ok c.is_unknown.result (λ b h. subst (λ a. IsTrue b ↔ IsCaused c.args.catalog.now c.args.events.now c.args.client (executed_of c.args.executed.now) a) (sym c.in-Unknown.is) h) c.is_unknown.ensures

pub returns-in-BadRecord : goal.returns-in-BadRecord
returns-in-BadRecord c = if_ok c.is_bad_record.result (λ b h. subst (λ a. IsTrue b ↔ IsCaused c.args.catalog.now c.args.events.now c.args.client (executed_of c.args.executed.now) a) (sym c.in-BadRecord.is) h) c.is_bad_record.ensures

pub returns-in-Refused : goal.returns-in-Refused
returns-in-Refused c = if_ok c.is_refused.result (λ b h. subst (λ a. IsTrue b ↔ IsCaused c.args.catalog.now c.args.events.now c.args.client (executed_of c.args.executed.now) a) (sym c.in-Refused.is) h) c.is_refused.ensures

pub returns-in-Vacuuming : goal.returns-in-Vacuuming
returns-in-Vacuuming c =
    if_ok c.is_turned_with.result (λ b h. subst (λ a. IsTrue b ↔ IsCaused c.args.catalog.now c.args.events.now c.args.client (executed_of c.args.executed.now) a) (sym c.in-Vacuuming.is) (subst (λ a. IsTrue b ↔ IsRejected c.args.catalog.now (before (executed_of c.args.executed.now) c.args.events.now) c.args.client c.args.executed.now.text a) c.in-Vacuuming.is h)) c.is_turned_with.ensures

pub returns-in-OpenTransactions : goal.returns-in-OpenTransactions
returns-in-OpenTransactions c =
    if_ok c.is_turned_with-in-OpenTransactions.result (λ b h. subst (λ a. IsTrue b ↔ IsCaused c.args.catalog.now c.args.events.now c.args.client (executed_of c.args.executed.now) a) (sym c.in-OpenTransactions.is) (subst (λ a. IsTrue b ↔ IsRejected c.args.catalog.now (before (executed_of c.args.executed.now) c.args.events.now) c.args.client c.args.executed.now.text a) c.in-OpenTransactions.is h)) c.is_turned_with-in-OpenTransactions.ensures
