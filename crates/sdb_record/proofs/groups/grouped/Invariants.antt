use Rattle.std.proofs.Common.{◌≡◌, drop}
use Rattle.std.specs.BTreeMap.{get}
use Rattle.sdb_types.specs.Order.{key_cmp}
use Rattle.sdb_record.specs.Groups.{HaveLatest, grouped, placed_all}
use Rattle.sdb_record.proofs.groups.grouped.Given as goal

abbrev pub invariant-loop-write : goal.invariant-loop-write
invariant-loop-write l = record {
  groups : placed_all l.groups.items (drop l.write-index l.write-items) ≡ grouped l.writes;
  latest : HaveLatest (get key_cmp l.latest) l.groups.items;
}
