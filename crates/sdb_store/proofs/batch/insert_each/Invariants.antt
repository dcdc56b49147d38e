use Rattle.std.proofs.Common.{◌≡◌, take}
use Rattle.sdb_types.specs.Contents.{all_put}
use Rattle.sdb_store.proofs.batch.insert_each.Given as goal

abbrev pub invariant-loop-put : goal.invariant-loop-put
invariant-loop-put g l = (l.done ≡ l.put-index) × (g.R.Rows.contents l.rows ≡ all_put (take l.put-index l.puts) (g.R.Rows.contents l.fn.rows))
