use Rattle.sdb_types.specs.declared.record.Request.TheVariants.{DeleteIf}
use Rattle.sdb_types.specs.Order.{same_key}
use Rattle.sdb_types.proofs.Public.{same_key_self}
use Rattle.sdb_shards.proofs.Copies.{call_gone, call_shrinks, changes_only, on_ok}
use Rattle.sdb_shards.proofs.Risen.{call_stopped}
use Rattle.sdb_shards.proofs.moves.delete.Goals as goal

pub returns-in-Some-clause-changes : goal.returns-in-Some-clause-changes
returns-in-Some-clause-changes c =
    changes_only c.args.at (DeleteIf c.args.rec.now.key c.in-Some.version) c.delete_if.result c.args.boxes.now c.delete_if.new.self c.delete_if.ensures c.requires (λ k. same_key k c.args.rec.now.key) (same_key_self c.args.rec.now.key)

pub returns-in-Some-clause-shrinks : goal.returns-in-Some-clause-shrinks
returns-in-Some-clause-shrinks c = call_shrinks c.args.at c.args.rec.now.key c.in-Some.version c.delete_if.result c.args.boxes.now c.delete_if.new.self c.delete_if.ensures c.requires

pub returns-in-Some-clause-gone : goal.returns-in-Some-clause-gone
returns-in-Some-clause-gone c =
    on_ok c.applied.result (call_gone c.args.at c.args.rec.now c.in-Some.version c.delete_if.result c.args.boxes.now c.delete_if.new.self c.delete_if.ensures c.requires c.in-Some.ensures.some) c.applied.ensures.ok

pub returns-in-Some-clause-err : goal.returns-in-Some-clause-err
returns-in-Some-clause-err c = call_stopped c.args.at (DeleteIf c.args.rec.now.key c.in-Some.version) c.delete_if.result c.args.boxes.now c.delete_if.new.self c.delete_if.ensures c.requires c.applied.result c.applied.ensures.err
