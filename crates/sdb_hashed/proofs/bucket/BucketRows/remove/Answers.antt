use Rattle.std.proofs.Common.{◌≡◌, List, true, sym, ap, subst, ◌∙◌}
use Rattle.std.specs.FinMap.{remove}
use Rattle.sdb_types.specs.declared.record.Record.{Record}
use Rattle.sdb_types.specs.Contents.{rise}
use Rattle.sdb_hashed.specs.Bucket.{IsAt, contents_of_bucket}
use Rattle.sdb_hashed.proofs.Sorting.{cut_rises, cut_holds, nothing_at}
use Rattle.sdb_hashed.proofs.bucket.BucketRows.remove.Goals as goal

pub invariant_of-self : goal.invariant_of-self
invariant_of-self c =
    let rs = c.self.inside.records in
    let at = subst (λ (xs : List Record). IsAt xs c.args.key.now c.in-Ok.i) (sym c.self.view_is) c.in-Ok.ensures.found in
    subst (λ (xs : List Record). rise xs ≡ true) (sym c.remove.ensures) (cut_rises rs c.self.invariant c.in-Ok.i c.args.key.now at)

pub returns-in-Ok : goal.returns-in-Ok
returns-in-Ok c =
    let rs = c.self.inside.records in
    let at = subst (λ (xs : List Record). IsAt xs c.args.key.now c.in-Ok.i) (sym c.self.view_is) c.in-Ok.ensures.found in
    ap contents_of_bucket c.remove.ensures ∙ cut_holds rs c.self.invariant c.in-Ok.i c.args.key.now at ∙ ap (λ (xs : List Record). remove (contents_of_bucket xs) c.args.key.now) c.self.view_is

pub returns-in-Err : goal.returns-in-Err
returns-in-Err c = nothing_at c.args.self.now c.args.key.now _ c.in-Err.ensures.absent
