use Rattle.std.proofs.Common.{◌≡◌, ◌≤◌, count_by}
use Rattle.sdb_bench.specs.Counts.{is_uneven}
use Rattle.sdb_bench.specs.Draws.{numbers_below}
use Rattle.sdb_bench.proofs.counts.uneven_in.Given as goal

abbrev pub invariant-loop-p : goal.invariant-loop-p
invariant-loop-p l = (l.uneven ≡ count_by (is_uneven l.table.rows) (numbers_below l.p)) × (l.uneven ≤ l.p)
