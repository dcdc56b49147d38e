use Rattle.std.proofs.Common.{◌∙◌, ap, sym}
use Rattle.sdb_model.specs.Refused.{missing_refusal}
use Rattle.sdb_exec.proofs.refuse.missing_fault.Goals as goal

pub returns-in-Insert : goal.returns-in-Insert
returns-in-Insert c = c.insert_fault.ensures ∙ ap (missing_refusal c.args.table.now) (sym c.in-Insert.is)

pub returns-in-Upsert : goal.returns-in-Upsert
returns-in-Upsert c = c.insert_fault-in-Upsert.ensures ∙ ap (missing_refusal c.args.table.now) (sym c.in-Upsert.is)
