use Rattle.std.proofs.Common.{◌≡◌, drop}
use Rattle.std.specs.List.{list_any}
use Rattle.check_protocol.specs.Values.{item_of}
use Rattle.check_answers.specs.Tests.{scan_differs}
use Rattle.check_answers.proofs.conflict.any_scan_differs.Given as goal

abbrev pub invariant-loop-item : goal.invariant-loop-item
invariant-loop-item l = list_any (λ n. scan_differs l.key l.base (item_of n)) (drop l.item-index l.read_set) ≡ list_any (λ n. scan_differs l.key l.base (item_of n)) l.read_set
