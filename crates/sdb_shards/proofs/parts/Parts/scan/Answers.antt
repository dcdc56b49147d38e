use Rattle.sdb_shards.proofs.Slots.{called_box}
use Rattle.sdb_shards.proofs.parts.Parts.scan.Goals as goal

pub returns : goal.returns
returns c = called_box _ c.scan.result c.self.inside.parts.items c.args.self.now c.args.at c.index_mut-part.result.now c.scan.new.self c.self.view_is c.requires c.index_mut-part.ensures.value c.scan.ensures.called
