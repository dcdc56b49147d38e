use Rattle.std.proofs.Common.{◌≡◌, List, true, sym, ap, subst, ◌∙◌}
use Rattle.sdb_types.specs.declared.record.Record.{Record}
use Rattle.sdb_types.specs.Contents.{rise}
use Rattle.sdb_store.specs.Batches.{replaced}
use Rattle.sdb_hashed.specs.Bucket.{IsAt, contents_of_bucket}
use Rattle.sdb_hashed.proofs.Sorting.{nothing_replaced, replaced_rises, replaced_there}
use Rattle.sdb_hashed.proofs.bucket.BucketRows.replace.Goals as goal

pub invariant_of-self : goal.invariant_of-self
invariant_of-self c =
    let rs = c.self.inside.records in
    let at = subst (λ (xs : List Record). IsAt xs c.args.rec.key c.in-Ok.i) (sym c.self.view_is) c.in-Ok.ensures.found in
    subst (λ (xs : List Record). rise xs ≡ true) (sym c.replace.ensures) (replaced_rises rs c.self.invariant c.in-Ok.i c.args.rec at)

pub returns-in-Ok : goal.returns-in-Ok
returns-in-Ok c =
    let rs = c.self.inside.records in
    let at = subst (λ (xs : List Record). IsAt xs c.args.rec.key c.in-Ok.i) (sym c.self.view_is) c.in-Ok.ensures.found in
    ap contents_of_bucket c.replace.ensures ∙ replaced_there rs c.in-Ok.i c.args.rec c.self.invariant at ∙ ap (λ (xs : List Record). replaced c.args.rec (contents_of_bucket xs)) c.self.view_is

pub returns-in-Err : goal.returns-in-Err
returns-in-Err c = nothing_replaced c.args.self.now c.args.rec _ c.in-Err.ensures.absent
