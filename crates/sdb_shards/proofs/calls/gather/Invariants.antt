use Rattle.std.proofs.Common.{◌≡◌, ◌-◌, ◌≤◌}
use Rattle.std.specs.BTreeMap.{get}
use Rattle.sdb_types.specs.Order.{key_cmp}
use Rattle.sdb_shards.specs.Boxes.{HaveGrown, held_in}
use Rattle.sdb_shards.specs.Homes.{home_of}
use Rattle.sdb_shards.proofs.Listing.{HasGathered}
use Rattle.sdb_shards.proofs.calls.gather.Given as goal

abbrev pub invariant-loop-at : goal.invariant-loop-at
invariant-loop-at l = record {
  held : held_in l.boxes ≡ held_in l.fn.boxes;
  below : l.at ≤ l.count;
  grown : HaveGrown l.fn.boxes l.boxes;
  gathered : HasGathered l.span (home_of (get key_cmp l.moved) l.count) (held_in l.fn.boxes) l.at l.all;
}

abbrev pub decreases-loop-at : goal.decreases-loop-at
decreases-loop-at l = l.count - l.at
