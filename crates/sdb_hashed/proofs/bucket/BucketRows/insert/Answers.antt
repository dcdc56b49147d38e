use Rattle.std.proofs.Common.{◌≡◌, List, true, sym, ap, subst, ◌∙◌}
use Rattle.std.specs.FinMap.{insert}
use Rattle.std.specs.List.{insert as insert_at}
use Rattle.sdb_types.specs.declared.record.Record.{Record}
use Rattle.sdb_types.specs.Contents.{rise}
use Rattle.sdb_hashed.specs.Bucket.{IsAt, IsGapFor, contents_of_bucket}
use Rattle.sdb_hashed.proofs.Sorting.{either_way, on_ok, replaced_rises, replaced_holds, inserted_rises, inserted_holds}
use Rattle.sdb_hashed.proofs.bucket.BucketRows.insert.Goals as goal

pub invariant_of-self : goal.invariant_of-self
invariant_of-self c =
    let rs = c.self.inside.records in
    let at = subst (λ (xs : List Record). IsAt xs c.args.rec.key c.in-Ok.i) (sym c.self.view_is) c.in-Ok.ensures.found in
    subst (λ (xs : List Record). rise xs ≡ true) (sym c.replace.ensures) (replaced_rises rs c.self.invariant c.in-Ok.i c.args.rec at)

pub returns-in-Ok-clause-ok : goal.returns-in-Ok-clause-ok
returns-in-Ok-clause-ok c =
    let rs = c.self.inside.records in
    let at = subst (λ (xs : List Record). IsAt xs c.args.rec.key c.in-Ok.i) (sym c.self.view_is) c.in-Ok.ensures.found in
    ap contents_of_bucket c.replace.ensures ∙ replaced_holds rs c.self.invariant c.in-Ok.i c.args.rec at ∙ ap (λ (xs : List Record). insert (contents_of_bucket xs) c.args.rec.key c.args.rec.columns) c.self.view_is

pub invariant_of-self-in-Err : goal.invariant_of-self-in-Err
invariant_of-self-in-Err c =
    let rs = c.self.inside.records in
    let gap = subst (λ (xs : List Record). IsGapFor xs c.args.rec.key c.in-Err.i) (sym c.self.view_is) c.in-Err.ensures.absent in
    either_way (λ (xs : List Record). rise xs ≡ true) c.insert.result rs (insert_at rs c.in-Err.i c.args.rec) c.insert.new.self c.insert.ensures.ok c.insert.ensures.err (inserted_rises rs c.self.invariant c.in-Err.i c.args.rec gap) c.self.invariant

pub returns-in-Err-clause-ok : goal.returns-in-Err-clause-ok
returns-in-Err-clause-ok c =
    let rs = c.self.inside.records in
    let gap = subst (λ (xs : List Record). IsGapFor xs c.args.rec.key c.in-Err.i) (sym c.self.view_is) c.in-Err.ensures.absent in
    on_ok c.insert.result (λ e. ap contents_of_bucket e ∙ inserted_holds rs c.self.invariant c.in-Err.i c.args.rec gap ∙ ap (λ (xs : List Record). insert (contents_of_bucket xs) c.args.rec.key c.args.rec.columns) c.self.view_is) c.insert.ensures.ok
