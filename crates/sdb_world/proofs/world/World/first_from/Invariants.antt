use Rattle.std.proofs.Common.{◌≤◌, ◌-◌}
use Rattle.sdb_model.specs.Follows.{AllIdle}
use Rattle.sdb_world.proofs.world.World.first_from.Given as goal

abbrev pub invariant-loop-client : goal.invariant-loop-client
invariant-loop-client l = record {
  up : l.low ≤ l.client;
  none : AllIdle l.self.script.clients l.self.events l.low l.client;
}

abbrev pub decreases-loop-client : goal.decreases-loop-client
decreases-loop-client l = l.high - l.client
