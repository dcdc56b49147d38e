use Rattle.std.proofs.Common.{Err, ap, inr}
use Rattle.sdb_sqlite.proofs.batch.keep.Goals as goal

pub returns-in-Err : goal.returns-in-Err
returns-in-Err g c = inr (c.in-Err.error, c.commit.new.connection, c.in-Err.ensures, c.take_back.ensures, ap Err c.from.ensures)
