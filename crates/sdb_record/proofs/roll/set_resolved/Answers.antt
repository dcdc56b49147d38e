use Rattle.std.proofs.Common.{rules}
use Rattle.sdb_record.proofs.MetaOrder.{resolved}
use Rattle.sdb_record.proofs.roll.set_resolved.Goals as goal

pub returns : goal.returns
returns c =
    resolved c.args.write.now c.args.id c.args.now c.args.created_at c.args.columns.now c.set.new.self c.set-2.new.self c.set-3.new.self c.set-4.new.self c.mark_deleted.new.columns c.set-5.new.self c.version_left-version.result c.deletes.result c.version_left-version.ensures c.deletes.ensures (search rules) (search rules) (search rules) (search rules) (search rules) (search rules)
