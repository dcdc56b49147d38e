use Rattle.sdb_store.proofs.Batches.{AreMet}
use Rattle.sdb_store.proofs.batch.check.Given as goal

abbrev pub invariant-loop-put : goal.invariant-loop-put
invariant-loop-put g l = AreMet l.puts (g.R.Rows.contents l.rows) l.put-index l.place l.found.items
