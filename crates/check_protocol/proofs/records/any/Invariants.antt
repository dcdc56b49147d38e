use Rattle.std.proofs.Common.{◌≡◌, drop}
use Rattle.std.specs.List.{list_any}
use Rattle.check_protocol.specs.Observed.{has_trace}
use Rattle.check_protocol.proofs.records.any.Given as goal

abbrev pub invariant-loop-rec : goal.invariant-loop-rec
invariant-loop-rec l = list_any (has_trace l.trace) (drop l.rec-index l.found_in) ≡ list_any (has_trace l.trace) l.found_in
