use Rattle.std.proofs.Common.{◌≡◌, drop}
use Rattle.std.specs.List.{list_all}
use Rattle.check_protocol.specs.Rules.{is_valid_item}
use Rattle.check_protocol.proofs.commit.are_valid_items.Given as goal

abbrev pub invariant-loop-item : goal.invariant-loop-item
invariant-loop-item l = list_all (is_valid_item l.observed) (drop l.item-index l.read_set) ≡ list_all (is_valid_item l.observed) l.read_set
