-- Which calls of a client prepare a record: those that a COMMIT makes first of all.
use Rattle.std.proofs.Common.{◌≡◌, ◌<◌, ◌^◌, ℤ, Bool, true, false, List, [], ◌∷◌, map, Option, Some, None, IfSome, refl, sym, ap, subst, ◌∙◌}
use Rattle.std.specs.Prelude.{◌||◌, Contains, filter, not, slice_get}
use Rattle.std.specs.List.{AllByRecursion}
use Rattle.std.specs.Option.{option_map}
use Rattle.law_runs.specs.Types.{Access, Check, Condition, DecidePhase, Decision, Meta, Read, Record, RecoverPhase, Request, Scan, TxId, Write}
use Rattle.sdb_types.specs.declared.record.Condition.TheVariants as condition
use Rattle.sdb_types.specs.declared.record.Request.TheVariants as ask
use Rattle.sdb_types.specs.declared.record.State.TheVariants as state
use Rattle.sdb_types.specs.Contents.{is_version}
use Rattle.sdb_types.specs.declared.record.Put.{Put}
use Rattle.sdb_types.proofs.Public.{append_all as each_append, clash, none_some, some_is}
use Rattle.sdb_record.specs.declared.access.Access.TheVariants as access
use Rattle.sdb_record.specs.declared.coordinator.Decision.TheVariants as decision
use Rattle.sdb_record.specs.Among.{is_written}
use Rattle.sdb_record.specs.Groups.{grouped, in_groups}
use Rattle.sdb_record.specs.Coordinator.{coordinator_row_of}
use Rattle.sdb_record.specs.Meta.{id_in, is_moment, is_unresolved, moment_in, moment_in_value}
use Rattle.sdb_record.specs.Names.{tx_prepared_at}
use Rattle.sdb_record.specs.Parts.{before_record}
use Rattle.sdb_record.specs.Rolls.{IsBaseOf, IsWrite, base_columns, forward_record, new_columns, next_version, prepared_record, state_of_change}
use Rattle.sdb_record.proofs.Public.{forward-committed, marked-time, prepared-columns, prepared-version, time-fits, version-writer, with_base}
use Rattle.sdb_txn.proofs.Public.{before_firm}
use Rattle.sdb_model.specs.Calls.{StoreCall}
use Rattle.sdb_model.specs.Requests.{any_of, records_put}
use Rattle.sdb_model.specs.Transactions.{is_prepared_record, prepares}
use Rattle.sdb_phases.specs.declared.step.DecidePhase.TheVariants as decide
use Rattle.sdb_phases.specs.declared.step.RecoverPhase.TheVariants as phase
use Rattle.sdb_phases.specs.Checks.{check_of_read, check_of_scan, checks}
use Rattle.sdb_phases.specs.Commit.{Stage, Preparing, Checking, Deciding, Forward, Stopping, Back, Over, pending}
use Rattle.sdb_phases.specs.Recover.{recover_back, recover_forward, recover_request_at, is_as_found}
use Rattle.sdb_phases.specs.Steps.{decide_request_at}
use Rattle.sdb_phases.specs.Work.{Work, abort_of, back_of, decide_of, forward_of, forwards_of, look_of, prepare_of, prepares_of, is_as_prepared}
use Rattle.sdb_txn.specs.Read.{Asking, Ended, ReadStage, Resolving, read_pending_at, request_of}
use Rattle.sdb_vacuum.specs.Vacuum as vacuum
use Rattle.sdb_vacuum.specs.Vacuum.{VacuumStage, pending_at}
use Rattle.law_protocol.proofs.Public.{firm_no, sent_among, sent_records}
use Rattle.law_clients.proofs.Public.{each_at, each_map}
use Rattle.law_answers.proofs.Public.{all_in_groups, mapped_at, open_is, undo_unprepared}
use Rattle.law_answers.specs.Reads.{ReadsBy}
use Rattle.law_answers.specs.Vacuums.{VacuumStageBy}
use Rattle.law_runs.proofs.GroupPuts.{any_found, any_none}

-- a record that is prepared has the moment at which it was
pub moment_of : (w : Write) (u : TxId) (now : ℤ) → is_moment now ≡ true → moment_in (prepared_record w u now).columns tx_prepared_at ≡ Some now
moment_of w u now is = ap (λ ps. moment_in ps tx_prepared_at) (prepared-columns w u now) ∙ ap moment_in_value (marked-time u (state_of_change w.change) (next_version w.base) now (with_base (new_columns w.change) (base_columns w.base))) ∙ time-fits now is

---- requests that prepare nothing

module _ (id : TxId) where
  pub row_no : (u : TxId) (d : Decision) (now : ℤ) (c : Condition) → prepares id (ask.PutIf (coordinator_row_of u d now) c) ≡ false
  unfolding coordinator_row_of
  row_no u d now c = refl

  pub forward_no : (r : Record) (now : ℤ) (c : Condition) → prepares id (ask.PutIf (forward_record r now) c) ≡ false
  forward_no r now c = firm_no id (forward_record r now) c (forward-committed r now)

  pub forwards_no : (u : TxId) (now : ℤ) (g : List Write) → prepares id (forwards_of u now g) ≡ false
  forwards_no u now g = ap (any_of (is_prepared_record id)) (sent_records (map (forward_of u now) g)) ∙ any_none (is_prepared_record id) (map (λ (p : Put). p.rec) (map (forward_of u now) g)) (each g)
    where
      each : (ws : List Write) → AllByRecursion (λ r. is_prepared_record id r ≡ false) (map (λ (p : Put). p.rec) (map (forward_of u now) ws))
      each [] = tt
      each (w ∷ ws) = (forward_no (prepared_record w u now) now (is_as_prepared u w), each ws)

  -- a record that is unresolved was put over a committed one, or over none
  pub base_of : (r : Record) → is_unresolved r ≡ true → IfSome (before_record r) (IsBaseOf r.key)
  base_of r is_open = by (before_record r) refl
    where
      by : (o : Option Record) → before_record r ≡ o → IfSome o (IsBaseOf r.key)
      by None e = tt
      by (Some b) e = before_firm r b is_open e

  -- a recovery prepares nothing
  pub recover_no : (rec : Record) (meta : Meta) (p : RecoverPhase) (q : Request) → is_unresolved rec ≡ true → recover_request_at rec meta p ≡ Some q → prepares id q ≡ false
  recover_no rec meta phase.Look q is_open e = sym (ap (prepares id) (some_is (look_of meta.id) q e))
  recover_no rec meta (phase.Abort now) q is_open e = sym (ap (prepares id) (some_is (abort_of meta.id now) q e)) ∙ row_no meta.id decision.Aborted now condition.Absent
  recover_no rec meta phase.Again q is_open e = sym (ap (prepares id) (some_is (look_of meta.id) q e))
  recover_no rec meta (phase.Forward at) q is_open e = sym (ap (prepares id) (some_is (recover_forward rec meta at) q e)) ∙ forward_no rec at (is_as_found meta)
  recover_no rec meta phase.Back q is_open e = sym (ap (prepares id) (some_is (recover_back rec meta) q e)) ∙ undo_unprepared id rec.key (before_record rec) (is_as_found meta) (base_of rec is_open)
  recover_no rec meta phase.Ended q is_open e = none_some q e

  -- nor does a VACUUM
  pub sweep_no : (calls : List StoreCall) (s : VacuumStage) (q : Request) → VacuumStageBy calls s → pending_at s ≡ Some q → prepares id q ≡ false
  sweep_no calls (vacuum.Scanning span) q is e = sym (ap (prepares id) (some_is (ask.Scan span) q e))
  sweep_no calls (vacuum.Resolving rec meta p left) q is e = recover_no rec meta p q (open_is rec meta is.is_open).0 e
  sweep_no calls (vacuum.Removing b left) q is e = by (id_in b.columns) e
    where
      by : (o : Option TxId) → option_map (λ (i : TxId). ask.DeleteIf b.key (condition.Version i state.Committed)) o ≡ Some q → prepares id q ≡ false
      by None k = none_some q k
      by (Some i) k = sym (ap (prepares id) (some_is (ask.DeleteIf b.key (condition.Version i state.Committed)) q k))
  sweep_no calls vacuum.Over q is e = none_some q e

  -- nor does a read
  pub read_no : (calls : List StoreCall) (a : Access) (s : ReadStage) (q : Request) → ReadsBy calls s → read_pending_at (request_of a) s ≡ Some q → prepares id q ≡ false
  read_no calls (access.Get key) Asking q is e = sym (ap (prepares id) (some_is (ask.Get key) q e))
  read_no calls (access.Scan span) Asking q is e = sym (ap (prepares id) (some_is (ask.Scan span) q e))
  read_no calls a (Resolving images rec meta p left) q is e = recover_no rec meta p q (open_is rec meta is.is_open).0 e
  read_no calls a (Ended s) q is e = none_some q e

  ---- a COMMIT

  pub checks_no : (p : Work) → AllByRecursion (λ c. prepares id c.request ≡ false) (checks p)
  checks_no p =
      each_append (λ (c : Check). prepares id c.request ≡ false) (map check_of_read (filter (λ r. not (is_written p.writes r.key)) p.reads)) (map (check_of_scan p.writes) p.scans)
      (each_map (λ (c : Check). prepares id c.request ≡ false) check_of_read (filter (λ r. not (is_written p.writes r.key)) p.reads) (reads (filter (λ r. not (is_written p.writes r.key)) p.reads)))
      (each_map (λ (c : Check). prepares id c.request ≡ false) (check_of_scan p.writes) p.scans (scans p.scans))
    where
      reads : (xs : List Read) → AllByRecursion (λ r. prepares id (check_of_read r).request ≡ false) xs
      reads [] = tt
      reads (x ∷ xs) = (refl, reads xs)

      scans : (xs : List Scan) → AllByRecursion (λ s. prepares id (check_of_scan p.writes s).request ≡ false) xs
      scans [] = tt
      scans (x ∷ xs) = (refl, scans xs)

  pub decide_no : (u : TxId) (now : ℤ) (d : DecidePhase) (q : Request) → decide_request_at u now d ≡ Some q → prepares id q ≡ false
  decide_no u now decide.Put q e = sym (ap (prepares id) (some_is (decide_of u now) q e)) ∙ row_no u decision.Committed now condition.Absent
  decide_no u now decide.Look q e = sym (ap (prepares id) (some_is (look_of u) q e))
  decide_no u now decide.Abort q e = sym (ap (prepares id) (some_is (abort_of u now) q e)) ∙ row_no u decision.Aborted now condition.Absent
  decide_no u now decide.Again q e = sym (ap (prepares id) (some_is (look_of u) q e))
  decide_no u now decide.Ended q e = none_some q e

  -- what a write's record is put for, and when
  writer_is : (p : Work) (w : Write) → id.0 < 2 ^ 128 → p.id.0 < 2 ^ 128 → is_prepared_record id (prepared_record w p.id p.now) ≡ true → id ≡ p.id
  writer_is p w fits own h = some_is id p.id (sym (writer_of (is_version id state.Prepared (prepared_record w p.id p.now)) refl h) ∙ version-writer (prepared_record w p.id p.now) p.id (state_of_change w.change) own (prepared-version w p.id p.now))
    where
      writer_of : (b : Bool) → is_version id state.Prepared (prepared_record w p.id p.now) ≡ b → (is_version id state.Prepared (prepared_record w p.id p.now) || is_version id state.Deleted (prepared_record w p.id p.now)) ≡ true → id_in (prepared_record w p.id p.now).columns ≡ Some id
      writer_of true e k = version-writer (prepared_record w p.id p.now) id state.Prepared fits e
      writer_of false e k = version-writer (prepared_record w p.id p.now) id state.Deleted fits (sym (ap (λ b. b || is_version id state.Deleted (prepared_record w p.id p.now)) e) ∙ k)

  moment_is : (p : Work) (w : Write) → is_moment p.now ≡ true → moment_in (prepared_record w p.id p.now).columns tx_prepared_at ≡ Some p.now
  moment_is p w is = moment_of w p.id p.now is

  -- a record is put for a transaction, at a moment
  abbrev IsOwnPut : Work → Record → Type 0
  IsOwnPut p r = (id ≡ p.id) × (moment_in r.columns tx_prepared_at ≡ Some p.now)

  group_own : (p : Work) (g : List Write) (r : Record) → id.0 < 2 ^ 128 → p.id.0 < 2 ^ 128 → is_moment p.now ≡ true → prepares id (prepares_of p.id p.now g) ≡ true → Contains (records_put (prepares_of p.id p.now g)) r → IsOwnPut p r
  group_own p g r fits own moment is puts =
      let one = any_found (is_prepared_record id) (records_put (prepares_of p.id p.now g)) is in
      let by = sent_among (prepare_of p.id p.now) g one.0 one.1 in
      let put = sent_among (prepare_of p.id p.now) g r puts in
      (writer_is p by.0 fits own (ap (is_prepared_record id) (sym by.2) ∙ one.2), ap (λ (y : Record). moment_in y.columns tx_prepared_at) put.2 ∙ moment_is p put.0 moment)

  -- A COMMIT prepares for its own transaction, with the moment at which it was accepted.
  pub commit_own : (p : Work) (s : Stage) (q : Request) (r : Record) → pending p s ≡ Some q → AllByRecursion IsWrite p.writes → id.0 < 2 ^ 128 → p.id.0 < 2 ^ 128 → is_moment p.now ≡ true → prepares id q ≡ true → Contains (records_put q) r → (id ≡ p.id) × (moment_in r.columns tx_prepared_at ≡ Some p.now)
  commit_own p (Preparing i) q r e writes fits own moment is put =
      let x = mapped_at (prepares_of p.id p.now) (grouped p.writes) i q e in group_own p x.0 r fits own moment (ap (prepares id) x.2 ∙ is) (subst (λ (y : Request). Contains (records_put y) r) (sym x.2) put)
  commit_own p (Checking i) q r e writes fits own moment is put = by (slice_get (checks p) i) refl e
    where
      by : (o : Option Check) → slice_get (checks p) i ≡ o → option_map (λ (c : Check). c.request) o ≡ Some q → (id ≡ p.id) × (moment_in r.columns tx_prepared_at ≡ Some p.now)
      by None f k = none_some q k
      by (Some c) f k = clash (sym is ∙ ap (prepares id) (sym (some_is c.request q k)) ∙ each_at (λ (y : Check). prepares id y.request ≡ false) (checks p) i c (checks_no p) f)
  commit_own p (Deciding d) q r e writes fits own moment is put = clash (sym is ∙ decide_no p.id p.now d q e)
  commit_own p (Forward i) q r e writes fits own moment is put = let x = mapped_at (forwards_of p.id p.now) (grouped p.writes) i q e in clash (sym is ∙ ap (prepares id) (sym x.2) ∙ forwards_no p.id p.now x.0)
  commit_own p (Stopping a n) q r e writes fits own moment is put = clash (sym is ∙ sym (ap (prepares id) (some_is (abort_of p.id p.now) q e)) ∙ row_no p.id decision.Aborted p.now condition.Absent)
  commit_own p (Back a n i) q r e writes fits own moment is put =
      let x = mapped_at (back_of p.id) (in_groups p.writes) i q e in
      clash (sym is ∙ ap (prepares id) (sym x.2) ∙ undo_unprepared id x.0.key x.0.base (is_as_prepared p.id x.0) (each_at IsWrite (in_groups p.writes) i x.0 (all_in_groups IsWrite p.writes writes) x.1).base)
  commit_own p (Over a) q r e writes fits own moment is put = none_some q e
