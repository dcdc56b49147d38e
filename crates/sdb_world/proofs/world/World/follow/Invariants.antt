use Rattle.std.proofs.Common.{◌<◌, length, take}
use Rattle.sdb_model.specs.Follows.{AreOfMoves}
use Rattle.sdb_contents.specs.Board.{GoOn}
use Rattle.law_runs.specs.World.{IsWorld}
use Rattle.sdb_world.specs.Broken.{BreaksWithin}
use Rattle.sdb_world.specs.Step.{HasCome}
use Rattle.sdb_world.proofs.world.World.follow.Given as goal

abbrev pub invariant-loop-i : goal.invariant-loop-i
invariant-loop-i g l = record {
  some : 0 < length (g.R.Registry.state l.stores).views;
  world : IsWorld l.self;
  goes : GoOn (g.R.Registry.state l.initial.stores) (g.R.Registry.state l.stores);
  broken : BreaksWithin l.initial.self.events l.self.events (g.R.Registry.state l.initial.stores).views (g.R.Registry.state l.stores).views;
  come : HasCome (AreOfMoves l.initial.self.script (take l.i l.initial.self.script.moves) l.initial.self.events) (g.R.Registry.state l.initial.stores) (g.R.Registry.state l.stores) l.initial.self l.self;
}
