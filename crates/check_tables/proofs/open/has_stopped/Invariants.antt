use Rattle.std.proofs.Common.{◌≡◌, drop}
use Rattle.sdb_model.specs.Follows.{has_stopped}
use Rattle.check_tables.proofs.open.has_stopped.Given as goal

abbrev pub invariant-loop-event : goal.invariant-loop-event
invariant-loop-event l = has_stopped l.client (drop l.event-index l.past) ≡ has_stopped l.client l.past
