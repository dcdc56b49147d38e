use Rattle.sdb_stores.proofs.Routes.{no_routes}
use Rattle.sdb_stores.proofs.places.Places.clear.Goals as goal

pub invariant_of-self : goal.invariant_of-self
invariant_of-self c = no_routes c.clear.new.self.items c.clear-2.new.self c.clear.ensures.items c.clear-2.ensures.empty c.clear-2.ensures.ordered
