use Rattle.sdb_types.proofs.Batches.{together_of}
use Rattle.sdb_types.proofs.batch.are_together.Goals as goal

pub returns-in-len1-up : goal.returns-in-len1-up
returns-in-len1-up c = together_of c.args.puts.now c.first-item.result c.are_beside.result c.in-len1-up.len_at_least c.first-item.is c.are_beside.ensures
