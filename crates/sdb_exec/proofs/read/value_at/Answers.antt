use Rattle.std.proofs.Common.{ap, ◌∙◌}
use Rattle.std.specs.Prelude.{unwrap_or}
use Rattle.sdb_types.specs.declared.value.Value.TheVariants as value
use Rattle.sdb_exec.proofs.Beside.{value_of-of}
use Rattle.sdb_exec.proofs.read.value_at.Goals as goal

pub returns-in-Some : goal.returns-in-Some
returns-in-Some c = value_of-of c.args.table.now c.args.row.now c.args.name.now _ c.in-Some.ensures

pub returns-in-None : goal.returns-in-None
returns-in-None c = ap (λ v. unwrap_or v value.Null) c.get.ensures ∙ value_of-of c.args.table.now c.args.row.now c.args.name.now _ c.in-None.ensures
