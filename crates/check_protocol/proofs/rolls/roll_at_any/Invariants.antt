use Rattle.std.proofs.Common.{◌≡◌, drop}
use Rattle.std.specs.List.{list_any}
use Rattle.check_protocol.specs.Rules.{roll_each}
use Rattle.check_protocol.proofs.rolls.roll_at_any.Given as goal

abbrev pub invariant-loop-moment : goal.invariant-loop-moment
invariant-loop-moment l = list_any (λ m. roll_each l.observed l.past l.plans l.id.0 m l.keys l.puts) (drop l.moment-index l.moments) ≡ list_any (λ m. roll_each l.observed l.past l.plans l.id.0 m l.keys l.puts) l.moments
