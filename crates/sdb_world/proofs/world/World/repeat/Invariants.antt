use Rattle.std.proofs.Common.{◌<◌, length}
use Rattle.sdb_contents.specs.Board.{GoOn}
use Rattle.law_runs.specs.World.{IsWorld}
use Rattle.sdb_world.specs.Broken.{BreaksWithin}
use Rattle.sdb_world.specs.Step.{AreSteps, HasCome}
use Rattle.sdb_world.proofs.world.World.repeat.Given as goal

abbrev pub invariant-loop : goal.invariant-loop
invariant-loop g l = record {
  some : 0 < length (g.R.Registry.state l.stores).views;
  world : IsWorld l.self;
  goes : GoOn (g.R.Registry.state l.initial.stores) (g.R.Registry.state l.stores);
  broken : BreaksWithin l.initial.self.events l.self.events (g.R.Registry.state l.initial.stores).views (g.R.Registry.state l.stores).views;
  come : HasCome (AreSteps l.initial.self.script.clients l.client l.counter l.initial.self.events) (g.R.Registry.state l.initial.stores) (g.R.Registry.state l.stores) l.initial.self l.self;
}
