use Rattle.sdb_stores.proofs.Routes.{no_routes}
use Rattle.sdb_stores.proofs.places.Places.new.Goals as goal

pub invariant_of-result : goal.invariant_of-result
invariant_of-result c = no_routes c.new.result.items c.new-2.result c.new.ensures.items c.new-2.ensures.empty c.new-2.ensures.ordered
