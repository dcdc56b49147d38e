use Rattle.std.proofs.Common.{◌<◌, ◌≤◌, List, length}
use Rattle.sdb_model.specs.declared.event.Event.{Event}
use Rattle.sdb_model.specs.Follows.{end_of}
use Rattle.sdb_contents.specs.Board.{GoOn}
use Rattle.law_runs.specs.World.{IsWorld}
use Rattle.sdb_world.specs.Broken.{BreaksWithin}
use Rattle.sdb_world.specs.Step.{HasCome}
use Rattle.sdb_world.proofs.Rounds.{Rests}
use Rattle.sdb_world.proofs.world.World.rest.Given as goal

abbrev pub invariant-loop : goal.invariant-loop
invariant-loop g l = record {
  some : 0 < length (g.R.Registry.state l.stores).views;
  world : IsWorld l.self;
  low : 0 < l.from;
  high : l.from ≤ end_of l.self.script.clients;
  goes : GoOn (g.R.Registry.state l.initial.stores) (g.R.Registry.state l.stores);
  broken : BreaksWithin l.initial.self.events l.self.events (g.R.Registry.state l.initial.stores).views (g.R.Registry.state l.stores).views;
  come : HasCome (λ (es : List Event). Rests l.initial.self.script.clients l.initial.self.events es l.from) (g.R.Registry.state l.initial.stores) (g.R.Registry.state l.stores) l.initial.self l.self;
}
