use Rattle.std.proofs.Common.{◌≡◌, drop}
use Rattle.std.specs.List.{list_all}
use Rattle.check_protocol.specs.Rules.{agrees}
use Rattle.check_protocol.proofs.rules.all_agree.Given as goal

abbrev pub invariant-loop-item : goal.invariant-loop-item
invariant-loop-item l = list_all (agrees l.writes) (drop l.item-index l.read_set) ≡ list_all (agrees l.writes) l.read_set
