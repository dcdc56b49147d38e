use Rattle.std.proofs.Common.{ap, ◌∙◌}
use Rattle.serde_json.specs.View.{view}
use Rattle.sdb_schema.specs.Table.{are_short}
use Rattle.sdb_loader.proofs.Values.{are_short-columns_in}
use Rattle.sdb_loader.proofs.tables.made.Goals as goal

pub new-requires : goal.new-requires
new-requires c = ap are_short c.in_ok-columns.ensures ∙ are_short-columns_in (view c.args.table.now.value.now)
