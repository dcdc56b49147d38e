use Rattle.std.proofs.Common.{sym}
use Rattle.sdb_script.proofs.BlockLaws.{known_last}
use Rattle.sdb_script.proofs.blocks.Blocks.has.Goals as goal

pub returns-else-is_among : goal.returns-else-is_among
returns-else-is_among c = known_last c.self.inside.ended c.args.self.now c.self.inside.last c.args.name.now c.is_named.result (sym c.if-is_among.ensures) c.is_named.ensures c.self.view_is
