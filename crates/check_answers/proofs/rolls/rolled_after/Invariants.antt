use Rattle.std.proofs.Common.{◌≡◌, drop}
use Rattle.std.specs.List.{list_any}
use Rattle.check_answers.specs.Counts.{is_roll}
use Rattle.check_answers.proofs.rolls.rolled_after.Given as goal

abbrev pub invariant-loop-made : goal.invariant-loop-made
invariant-loop-made l = list_any (is_roll l.after l.request) (drop l.made-index l.calls) ≡ list_any (is_roll l.after l.request) l.calls
