use Rattle.std.proofs.Common.{◌≡◌, ◌≤◌, length, vec_len}
use Rattle.sdb_types.specs.Contents.{Contents}
use Rattle.sdb_store.specs.Batches.{ArePut}
use Rattle.sdb_store.proofs.batch.restore_each.Given as goal

abbrev pub invariant-loop-last : goal.invariant-loop-last
invariant-loop-last g l = (length l.found.items ≤ length l.puts) × ((before : Contents) → ArePut l.puts l.fn.found.items before (g.R.Rows.contents l.fn.rows) → ArePut l.puts l.found.items before (g.R.Rows.contents l.rows))

abbrev pub decreases-loop-last : goal.decreases-loop-last
decreases-loop-last g l = vec_len l.found
