use Rattle.std.proofs.Common.{length, refl}
use Rattle.std.specs.BTreeMap.{get}
use Rattle.sdb_types.specs.Order.{key_cmp}
use Rattle.sdb_shards.specs.Homes.{home_of}
use Rattle.sdb_shards.proofs.Gather.{together_empty}
use Rattle.sdb_shards.proofs.shards.Shards.new.Goals as goal

pub returns-clause-new : goal.returns-clause-new
returns-clause-new c = λ h. record {
  where_known = tt;
  empty = together_empty (home_of (get key_cmp c.new.result) (length c.args.boxes)) c.args.boxes h;
  sound = refl;
  unused = refl;
}
