use Rattle.sdb_shards.proofs.Slots.{called_box}
use Rattle.sdb_shards.proofs.parts.Parts.delete_if.Goals as goal

pub returns : goal.returns
returns c = called_box _ c.delete_if.result c.self.inside.parts.items c.args.self.now c.args.at c.index_mut-part.result.now c.delete_if.new.self c.self.view_is c.requires c.index_mut-part.ensures.value c.delete_if.ensures.called
