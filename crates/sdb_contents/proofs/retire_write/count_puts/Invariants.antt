use Rattle.std.proofs.Common.{◌≡◌, ◌≤◌, take}
use Rattle.std.specs.Prelude.{count_by}
use Rattle.sdb_contents.specs.Copying.{is_put}
use Rattle.sdb_contents.proofs.retire_write.count_puts.Given as goal

abbrev pub invariant-loop-request : goal.invariant-loop-request
invariant-loop-request l = record {
  counted : l.count ≡ count_by is_put (take l.request-index l.requests);
  bound : l.count ≤ l.request-index;
}
