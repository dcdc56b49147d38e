use Rattle.std.proofs.Common.{◌≡◌, ◌++◌, map}
use Rattle.sdb_bench.specs.Draws.{numbers_below}
use Rattle.sdb_bench.specs.Script.{writer_of}
use Rattle.sdb_bench.proofs.clients.put_writers.Given as goal

abbrev pub invariant-loop-writer : goal.invariant-loop-writer
invariant-loop-writer l = l.clients ≡ l.initial.clients ++ map (writer_of l.turns) (numbers_below l.writer)
