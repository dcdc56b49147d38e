use Rattle.sdb_script.proofs.BlockLaws.{kept_still, said_still}
use Rattle.sdb_script.proofs.blocks.Blocks.add.Goals as goal

pub invariant_of-self : goal.invariant_of-self
invariant_of-self c = kept_still c.add_to.result c.self.inside.ended c.self.inside.last c.add_to.new.last c.args.text c.self.invariant c.add_to.ensures.ok c.add_to.ensures.err

pub returns : goal.returns
returns c = said_still c.add_to.result c.self.inside.ended c.args.self.now c.self.inside.last c.add_to.new.last c.args.text c.self.invariant c.self.view_is c.add_to.ensures.ok
