use Rattle.std.proofs.Common.{◌∙◌}
use Rattle.sdb_exec.proofs.Sought.{found-named}
use Rattle.sdb_exec.proofs.column.has_column.Goals as goal

pub returns : goal.returns
returns c = c.is_some.ensures ∙ found-named c.args.name.now c.find_column.result _ c.args.table.now.columns c.as_slice.ensures c.find_column.ensures
