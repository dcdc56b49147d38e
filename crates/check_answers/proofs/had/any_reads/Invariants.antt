use Rattle.std.proofs.Common.{◌≡◌, drop}
use Rattle.std.specs.List.{list_any}
use Rattle.check_answers.specs.Rows.{reads_key}
use Rattle.check_answers.proofs.had.any_reads.Given as goal

abbrev pub invariant-loop-made : goal.invariant-loop-made
invariant-loop-made l = list_any (λ m. reads_key l.key m.request) (drop l.made-index l.calls) ≡ list_any (λ m. reads_key l.key m.request) l.calls
