use Rattle.std.proofs.Common.{None}
use Rattle.sdb_codec.specs.Reading.{items_at, value_at}
use Rattle.sdb_codec.proofs.Loops.{Goes}
use Rattle.sdb_codec.proofs.fields.values_after.Given as goal

abbrev pub invariant-loop : goal.invariant-loop
invariant-loop l = Goes (λ before rest. value_at rest) l.values l.count l.counter l.rest (items_at (λ before rest. value_at rest) None l.count l.bytes)
