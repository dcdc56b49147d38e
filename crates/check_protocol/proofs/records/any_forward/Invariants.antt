use Rattle.std.proofs.Common.{◌≡◌, drop}
use Rattle.std.specs.List.{list_any}
use Rattle.check_protocol.specs.Observed.{forward_from}
use Rattle.check_protocol.proofs.records.any_forward.Given as goal

abbrev pub invariant-loop-rec : goal.invariant-loop-rec
invariant-loop-rec l = list_any (forward_from l.found_in l.key l.base) (drop l.rec-index l.found_in) ≡ list_any (forward_from l.found_in l.key l.base) l.found_in
