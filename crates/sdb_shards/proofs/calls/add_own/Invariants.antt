use Rattle.std.proofs.Common.{◌≡◌, vec_len}
use Rattle.std.specs.Prelude.{◌==◌, filter}
use Rattle.std.specs.BTreeMap.{get}
use Rattle.sdb_types.specs.Order.{key_cmp}
use Rattle.sdb_hashed.specs.Put.{with_rows}
use Rattle.sdb_shards.specs.Homes.{home_of}
use Rattle.sdb_shards.proofs.calls.add_own.Given as goal

abbrev pub invariant-loop-rec : goal.invariant-loop-rec
invariant-loop-rec l =
    with_rows (filter (λ r. home_of (get key_cmp l.moved) l.boxes r.key == l.at) l.left.items) l.all
    ≡ with_rows (filter (λ r. home_of (get key_cmp l.moved) l.boxes r.key == l.at) l.fn.rows) l.fn.all

abbrev pub decreases-loop-rec : goal.decreases-loop-rec
decreases-loop-rec l = vec_len l.left
