use Rattle.std.proofs.Common.{◌≡◌, take}
use Rattle.sdb_contents.specs.Copying.{requests_of}
use Rattle.sdb_contents.proofs.retire_write.requests_of.Given as goal

abbrev pub invariant-loop-table : goal.invariant-loop-table
invariant-loop-table l = l.requests ≡ requests_of (take l.table-index l.seen)
