use Rattle.std.proofs.Common.{◌≡◌, take}
use Rattle.std.specs.List.{filter_map}
use Rattle.check_protocol.specs.Observed.{row_moment}
use Rattle.check_protocol.proofs.records.moments.Given as goal

abbrev pub invariant-loop-rec : goal.invariant-loop-rec
invariant-loop-rec l = l.found ≡ filter_map (row_moment l.row) (take l.rec-index l.found_in)
