use Rattle.sdb_shards.proofs.Slots.{called_box}
use Rattle.sdb_shards.proofs.parts.Parts.put_if.Goals as goal

pub returns : goal.returns
returns c = called_box _ c.put_if.result c.self.inside.parts.items c.args.self.now c.args.at c.index_mut-part.result.now c.put_if.new.self c.self.view_is c.requires c.index_mut-part.ensures.value c.put_if.ensures.called
