use Rattle.sdb_shards.proofs.Slots.{called_box}
use Rattle.sdb_shards.proofs.parts.Parts.put_all.Goals as goal

pub returns : goal.returns
returns c = called_box _ c.put_all.result c.self.inside.parts.items c.args.self.now c.args.at c.index_mut-part.result.now c.put_all.new.self c.self.view_is c.requires.inside c.index_mut-part.ensures.value c.put_all.ensures.called
