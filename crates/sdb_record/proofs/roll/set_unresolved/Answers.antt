use Rattle.std.proofs.Common.{rules}
use Rattle.sdb_record.proofs.MetaOrder.{unresolved}
use Rattle.sdb_record.proofs.roll.set_unresolved.Goals as goal

pub returns : goal.returns
returns c =
    unresolved c.args.write.now c.args.id c.args.now c.args.columns.now c.set.new.self c.set-2.new.self c.set-3.new.self c.set-4.new.self c.state_left-state.result c.version_left-version.result c.state_left-state.ensures c.version_left-version.ensures (search rules) (search rules) (search rules) (search rules)
