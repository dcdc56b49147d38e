use Rattle.sdb_catalog.proofs.Altered.{came_of, may_alter}
use Rattle.sdb_catalog.proofs.Again.{rising_columns}
use Rattle.sdb_catalog.proofs.alter.alter.Goals as goal

pub put-requires-clause-columns : goal.put-requires-clause-columns
put-requires-clause-columns g c = rising_columns c.in-Ok.renewed.table (c.in-Ok.ensures.table c.requires.table)

pub returns-in-Ok-clause-came : goal.returns-in-Ok-clause-came
returns-in-Ok-clause-came g c =
    came_of c.args.column.now c.args.entry.now c.in-Ok.renewed c.put.result (g.R.Registry.state c.args.stores.now) (g.R.Registry.state c.put.new.stores) c.in-Ok.ensures.ok c.in-Ok.ensures.allowed c.put.ensures.put

pub returns-in-Ok-clause-left : goal.returns-in-Ok-clause-left
returns-in-Ok-clause-left g c =
    may_alter c.args.column.now c.args.entry.now c.in-Ok.renewed c.put.result (g.R.Registry.state c.args.stores.now) (g.R.Registry.state c.put.new.stores) c.in-Ok.ensures.ok c.in-Ok.ensures.allowed c.put.ensures.left
