use Rattle.std.proofs.Common.{◌≡◌, ◌≤◌, drop, length}
use Rattle.sdb_validate.specs.Merge.{merge}
use Rattle.sdb_validate.proofs.rescan.first_place.Given as goal

abbrev pub invariant-loop-i : goal.invariant-loop-i
invariant-loop-i l = record {
  within : l.next ≤ length l.rows;
  rest : merge (drop l.i l.wants) (drop l.next l.rows) ≡ merge l.wants l.rows;
}
