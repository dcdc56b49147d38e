use Rattle.std.proofs.Common.{◌≡◌, Some, ap, sym, ◌∙◌}
use Rattle.std.specs.Prelude.{find}
use Rattle.sdb_model.specs.Rows.{same_name}
use Rattle.sdb_exec.specs.Types.{Column}
use Rattle.sdb_exec.proofs.Sought.{has_name}
use Rattle.sdb_exec.proofs.change.column_near.Goals as goal

pub returns-in_ok-at_kind-in-Some-clause-name : goal.returns-in_ok-at_kind-in-Some-clause-name
returns-in_ok-at_kind-in-Some-clause-name c =
    let found : find (λ (d : Column). same_name d.name c.args.name.now) c.args.table.now.columns ≡ Some c.in-Some.column.now = ap (find (λ (d : Column). same_name d.name c.args.name.now)) (sym c.as_slice.ensures) ∙ sym c.in-Some.ensures in
    c.in_ok-copy-in-Some.ensures ∙ has_name c.args.name.now c.args.table.now.columns c.in-Some.column.now found
