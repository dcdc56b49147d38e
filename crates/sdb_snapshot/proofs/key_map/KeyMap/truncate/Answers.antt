use Rattle.std.specs.BTreeMap.{get}
use Rattle.sdb_types.specs.Order.{key_cmp}
use Rattle.sdb_snapshot.proofs.Kept.{truncated}
use Rattle.sdb_snapshot.proofs.key_map.KeyMap.truncate.Goals as goal

pub invariant_of-self : goal.invariant_of-self
invariant_of-self g c = truncated c.self.inside.entries c.cut.new.items c.args.len (get key_cmp c.self.inside.places) c.cut.ensures c.self.invariant
