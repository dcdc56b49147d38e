use Rattle.std.proofs.Common.{◌≡◌, drop}
use Rattle.std.specs.List.{list_any}
use Rattle.std.specs.Prelude.{◌&&◌}
use Rattle.check_protocol.specs.Rules.{delays, same_action}
use Rattle.check_protocol.proofs.late.was_delayed.Given as goal

abbrev pub invariant-loop-labelled : goal.invariant-loop-labelled
invariant-loop-labelled l = list_any (λ p. delays l.request p.event && same_action p.action l.action) (drop l.labelled-index l.past) ≡ list_any (λ p. delays l.request p.event && same_action p.action l.action) l.past
