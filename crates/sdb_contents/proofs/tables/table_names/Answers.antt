use Rattle.sdb_contents.proofs.RunTables.{names_more}
use Rattle.sdb_contents.proofs.tables.table_names.Goals as goal

pub loop-i-preserved : goal.loop-i-preserved
loop-i-preserved c = names_more c.args.catalog.now c.loop-i.i c.table_at.result.now c.loop-i.names c.push.new.self c.in_ok-name.name c.table_at.ensures c.loop-i.invariant c.in_ok-name.ensures c.in_ok-push.ensures.ok
