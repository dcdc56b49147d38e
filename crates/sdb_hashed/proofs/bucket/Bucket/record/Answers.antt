use Rattle.std.proofs.Common.{◌≡◌, List, true, subst}
use Rattle.std.specs.Slice.{IsItemAt}
use Rattle.sdb_types.specs.declared.record.Record.{Record}
use Rattle.sdb_types.specs.Contents.{rise}
use Rattle.sdb_hashed.proofs.Sorting.{at_record, no_record}
use Rattle.sdb_hashed.proofs.bucket.Bucket.record.Goals as goal

pub returns-in-Ok : goal.returns-in-Ok
returns-in-Ok c =
    at_record c.args.self.now c.args.key.now c.in-Ok.i c.at.result (subst (λ (rs : List Record). rise rs ≡ true) c.self.view_is c.self.invariant) c.in-Ok.ensures.found
    (subst (λ (rs : List Record). IsItemAt rs c.in-Ok.i c.at.result) c.self.view_is c.at.ensures)

pub returns-in-Err : goal.returns-in-Err
returns-in-Err c = no_record c.args.self.now c.args.key.now _ c.in-Err.ensures.absent
