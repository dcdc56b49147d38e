use Rattle.std.proofs.Common.{◌≡◌, drop}
use Rattle.std.specs.Prelude.{find}
use Rattle.std.specs.Option.{is_some}
use Rattle.check_tables.specs.Values.{decision_at}
use Rattle.check_tables.proofs.reply.first_decided.Given as goal

abbrev pub invariant-loop-made : goal.invariant-loop-made
invariant-loop-made l = find (λ m. is_some (decision_at l.row m)) (drop l.made-index l.calls) ≡ find (λ m. is_some (decision_at l.row m)) l.calls
