use Rattle.std.proofs.Common.{◌≡◌, drop}
use Rattle.std.specs.List.{list_all}
use Rattle.sdb_model.specs.Counted.{is_seen}
use Rattle.check_answers.proofs.counts.are_seen.Given as goal

abbrev pub invariant-loop-made : goal.invariant-loop-made
invariant-loop-made l = list_all (λ m. is_seen m.how) (drop l.made-index l.calls) ≡ list_all (λ m. is_seen m.how) l.calls
