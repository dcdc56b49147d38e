use Rattle.std.proofs.Common.{◌≡◌, drop}
use Rattle.std.specs.List.{list_any}
use Rattle.std.specs.Prelude.{◌&&◌}
use Rattle.std.specs.Option.{option_copied}
use Rattle.check_protocol.specs.Observed.{is_prepared_by}
use Rattle.check_protocol.specs.Rules.{has_before_or_none}
use Rattle.check_protocol.proofs.rolls.any_keeps.Given as goal

abbrev pub invariant-loop-rec : goal.invariant-loop-rec
invariant-loop-rec l = list_any (λ r. is_prepared_by l.id.0 l.key r && has_before_or_none (option_copied l.base) r) (drop l.rec-index l.observed) ≡ list_any (λ r. is_prepared_by l.id.0 l.key r && has_before_or_none (option_copied l.base) r) l.observed
