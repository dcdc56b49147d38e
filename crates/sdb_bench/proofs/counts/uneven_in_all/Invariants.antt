use Rattle.std.proofs.Common.{◌≡◌, take, sum_by}
use Rattle.sdb_bench.specs.Counts.{uneven_in}
use Rattle.sdb_bench.proofs.counts.uneven_in_all.Given as goal

abbrev pub invariant-loop-table : goal.invariant-loop-table
invariant-loop-table l = l.uneven ≡ sum_by uneven_in (take l.table-index l.tables)
