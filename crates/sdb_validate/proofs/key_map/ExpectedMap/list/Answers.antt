use Rattle.sdb_validate.proofs.Trees.{listed_of_view}
use Rattle.sdb_validate.proofs.key_map.ExpectedMap.list.Goals as goal

pub returns : goal.returns
returns c = listed_of_view c.listed.result c.self.inside.wishes.entries c.args.self.now c.self.view_is c.listed.ensures.wants c.listed.ensures.ordered
