use Rattle.std.proofs.Common.{◌≡◌, drop}
use Rattle.std.specs.List.{list_any}
use Rattle.check_protocol.specs.Values.{item_of}
use Rattle.check_answers.specs.Tests.{is_changed}
use Rattle.check_answers.proofs.conflict.any_moved.Given as goal

abbrev pub invariant-loop-item : goal.invariant-loop-item
invariant-loop-item l = list_any (λ n. is_changed l.key l.found (item_of n)) (drop l.item-index l.read_set) ≡ list_any (λ n. is_changed l.key l.found (item_of n)) l.read_set
