use Rattle.std.proofs.Common.{ap, ◌∙◌}
use Rattle.sdb_script.specs.Begun.{last_count}
use Rattle.sdb_script.proofs.BlockLaws.{count_of_last}
use Rattle.sdb_script.proofs.blocks.Blocks.statements.Goals as goal

pub returns : goal.returns
returns c = c.statements_of_last.ensures ∙ count_of_last c.self.inside.ended c.self.inside.last c.self.invariant.1 ∙ ap last_count c.self.view_is
