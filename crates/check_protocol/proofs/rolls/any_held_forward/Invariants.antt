use Rattle.std.proofs.Common.{◌≡◌, drop}
use Rattle.check_protocol.specs.Rules.{any_prepared_forward}
use Rattle.check_protocol.proofs.rolls.any_held_forward.Given as goal

abbrev pub invariant-loop-rec : goal.invariant-loop-rec
invariant-loop-rec l = any_prepared_forward (drop l.rec-index l.observed) l.moment l.id.0 l.key l.target ≡ any_prepared_forward l.observed l.moment l.id.0 l.key l.target
