use Rattle.std.proofs.Common.{◌≡◌, [], ◌∷◌, ◌-◌, length}
use Rattle.sdb_report.specs.FieldReading.{many, next_value_at}
use Rattle.sdb_report.proofs.values.values_on.Given as goal

abbrev pub invariant-loop : goal.invariant-loop
invariant-loop l = many next_value_at (length l.bytes - l.counter) l.values l.rest ≡ many next_value_at (length l.bytes) (l.fn.first ∷ []) l.bytes
