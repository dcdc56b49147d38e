use Rattle.std.proofs.Common.{◌≡◌, drop}
use Rattle.std.specs.List.{list_all}
use Rattle.check_protocol.specs.Rules.{is_shut}
use Rattle.check_protocol.proofs.rules.are_shut.Given as goal

abbrev pub invariant-loop-labelled : goal.invariant-loop-labelled
invariant-loop-labelled l = list_all (λ p. is_shut l.past p.action) (drop l.labelled-index l.past) ≡ list_all (λ p. is_shut l.past p.action) l.past
