use Rattle.std.proofs.Common.{length, refl, ap, ◌∙◌}
use Rattle.std.specs.BTreeMap.{get}
use Rattle.sdb_types.specs.Order.{key_cmp}
use Rattle.sdb_shards.specs.Homes.{home_at, partition_key}
use Rattle.sdb_shards.proofs.Carried.{already}
use Rattle.sdb_shards.proofs.shards.Shards.move_partition.Goals as goal

pub returns-then-from-to-clause-ok : goal.returns-then-from-to-clause-ok
returns-then-from-to-clause-ok c =
    already (partition_key c.args.table.now c.args.partition.now) refl c.in_ok-from.from c.args.to c.args.self.now
    (c.in_ok-from.ensures.at ∙ ap (home_at (get key_cmp c.args.self.now.moved) (length c.args.self.now.boxes)) c.in_ok-key.ensures) c.if-from-to.true
