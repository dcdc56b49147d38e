use Rattle.sdb_shards.proofs.Slots.{called_box}
use Rattle.sdb_shards.proofs.parts.Parts.get.Goals as goal

pub returns : goal.returns
returns c = called_box _ c.get.result c.self.inside.parts.items c.args.self.now c.args.at c.index_mut-part.result.now c.get.new.self c.self.view_is c.requires c.index_mut-part.ensures.value c.get.ensures.called
