use Rattle.std.proofs.Common.{◌∙◌, sym}
use Rattle.sdb_exec.proofs.Misfits.{misfit_of_kind, misfit_unknown}
use Rattle.sdb_exec.proofs.refuse.is_misfit.Goals as goal

pub returns-in-Some : goal.returns-in-Some
returns-in-Some c = c.is_literal_of_other_kind.ensures ∙ sym (misfit_of_kind c.args.table.now c.args.mention.now c.in-Some.kind (sym c.find_kind.ensures ∙ c.in-Some.is))

pub returns-in-None : goal.returns-in-None
returns-in-None c = sym (misfit_unknown c.args.table.now c.args.mention.now (sym c.find_kind.ensures ∙ c.in-None.is))
