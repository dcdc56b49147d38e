use Rattle.sdb_types.specs.declared.record.Condition.TheVariants.{Absent}
use Rattle.sdb_types.specs.declared.record.Request.TheVariants.{PutIf}
use Rattle.sdb_types.specs.Order.{same_key}
use Rattle.sdb_types.proofs.Public.{same_key_self}
use Rattle.sdb_shards.proofs.Copies.{changes_only, done_at, on_ok}
use Rattle.sdb_shards.proofs.Risen.{call_stopped}
use Rattle.sdb_shards.proofs.moves.put.Goals as goal

pub returns-clause-changes : goal.returns-clause-changes
returns-clause-changes c =
    changes_only c.args.at (PutIf c.args.rec.now Absent) c.put_if.result c.args.boxes.now c.put_if.new.self c.put_if.ensures c.requires (λ k. same_key k c.args.rec.now.key) (same_key_self c.args.rec.now.key)

pub returns-clause-put : goal.returns-clause-put
returns-clause-put c =
    on_ok c.applied.result (done_at c.args.at (PutIf c.args.rec.now Absent) c.put_if.result c.args.boxes.now c.put_if.new.self c.put_if.ensures c.requires) c.applied.ensures.ok

pub returns-clause-err : goal.returns-clause-err
returns-clause-err c = call_stopped c.args.at (PutIf c.args.rec.now Absent) c.put_if.result c.args.boxes.now c.put_if.new.self c.put_if.ensures c.requires c.applied.result c.applied.ensures.err
