use Rattle.std.proofs.Common.{◌≡◌, drop}
use Rattle.check_protocol.specs.Observed.{is_forward}
use Rattle.check_protocol.proofs.records.is_forward.Given as goal

abbrev pub invariant-loop-moment : goal.invariant-loop-moment
invariant-loop-moment l = is_forward l.rec (drop l.moment-index l.moments) l.target ≡ is_forward l.rec l.moments l.target
