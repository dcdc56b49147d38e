use Rattle.std.proofs.Common.{ap, ◌∙◌}
use Rattle.std.specs.Prelude.{filter}
use Rattle.std.specs.List.{list_all}
use Rattle.sdb_model.specs.Exec.{is_row_of, passes_test}
use Rattle.sdb_exec.specs.Types.{Image}
use Rattle.sdb_exec.proofs.Sieved.{sieved-twice}
use Rattle.sdb_exec.proofs.read.passing.Goals as goal

pub returns : goal.returns
returns c =
    let p = λ (r : Image). list_all (passes_test c.args.table.now r) c.args.tests.now in
    c.passing_all.ensures ∙ ap (filter p) c.rows_of.ensures ∙ sieved-twice (is_row_of c.args.table.now) p c.args.rows
