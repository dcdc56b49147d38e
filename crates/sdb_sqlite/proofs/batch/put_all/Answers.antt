use Rattle.std.proofs.Common.{inr}
use Rattle.sdb_sqlite.proofs.batch.put_all.Goals as goal

pub returns-in-Ok : goal.returns-in-Ok
returns-in-Ok g c = inr (record {
  count = c.in-Ok.field-0;
  begun = c.begin.new.connection;
  begins = c.in-Ok.ensures;
  last = c.put_each-written.new.connection;
  written = c.put_each-written.result;
  puts = rw c.as_slice.ensures at c.put_each-written.ensures;
  ends = c.end.ensures;
})
