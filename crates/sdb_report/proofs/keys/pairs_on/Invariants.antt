use Rattle.std.proofs.Common.{◌≡◌, [], ◌∷◌, ◌-◌, length}
use Rattle.sdb_report.specs.FieldReading.{many, next_pair_at}
use Rattle.sdb_report.proofs.keys.pairs_on.Given as goal

abbrev pub invariant-loop : goal.invariant-loop
invariant-loop l = many next_pair_at (length l.bytes - l.counter) l.pairs l.rest ≡ many next_pair_at (length l.bytes) (l.fn.first ∷ []) l.bytes
