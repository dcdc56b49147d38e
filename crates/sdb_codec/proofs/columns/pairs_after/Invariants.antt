use Rattle.std.proofs.Common.{None}
use Rattle.sdb_codec.specs.Reading.{items_at, pair_at}
use Rattle.sdb_codec.proofs.Loops.{Goes}
use Rattle.sdb_codec.proofs.columns.pairs_after.Given as goal

abbrev pub invariant-loop : goal.invariant-loop
invariant-loop l = Goes pair_at l.pairs l.count l.counter l.rest (items_at pair_at None l.count l.bytes)
