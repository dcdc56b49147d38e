use Rattle.std.proofs.Common.{◌∙◌, sym}
use Rattle.sdb_exec.proofs.Misfits.{no_other_kind}
use Rattle.sdb_exec.proofs.refuse.find_other_kind.Goals as goal

pub returns-then-not-misfits : goal.returns-then-not-misfits
returns-then-not-misfits c = sym (no_other_kind c.args.table.now c.args.mentions.now (sym c.requires.misfits ∙ c.if-not-misfits.true))
