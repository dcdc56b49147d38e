use Rattle.std.proofs.Common.{◌≡◌, ◌+◌, drop, Result}
use Rattle.sdb_sqlite.specs.declared.batch.BatchWritten.{BatchWritten}
use Rattle.sdb_sqlite.specs.declared.refused.Stopped.{Stopped}
use Rattle.sdb_sqlite.specs.Asked.{PutsEach}
use Rattle.sdb_sqlite.proofs.batch.put_each.Given as goal

abbrev pub invariant-loop-one : goal.invariant-loop-one
invariant-loop-one g l =
    (l.place ≡ l.one-index) × ((new : _) (result : Result BatchWritten Stopped) → PutsEach g.S.Store (l.one-index + 1) (drop l.one-index l.puts) l.connection new result → PutsEach g.S.Store 1 l.puts l.initial.connection new result)
