use Rattle.sdb_world.proofs.Fresh.{initial_new, world_new}
use Rattle.sdb_world.proofs.world.World.new.Goals as goal

pub returns-clause-world : goal.returns-clause-world
returns-clause-world c = world_new c.args.script c.len.result c.in_ok-client_slots.client_slots.items c.new-flights.result c.new-events.result c.requires.playable c.new-flights.ensures c.len.ensures c.in_ok-client_slots.ensures c.new-events.ensures

pub returns-clause-initial : goal.returns-clause-initial
returns-clause-initial c = initial_new c.args.script c.len.result c.in_ok-client_slots.client_slots.items c.new-flights.result c.new-events.result c.new-flights.ensures c.len.ensures c.in_ok-client_slots.ensures
