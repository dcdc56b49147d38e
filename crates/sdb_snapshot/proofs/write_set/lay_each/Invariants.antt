use Rattle.std.proofs.Common.{◌≡◌}
use Rattle.std.specs.Vec.Iter.{into_iter_items}
use Rattle.sdb_snapshot.specs.Sets.{AreIndexed}
use Rattle.sdb_snapshot.specs.Opened.{with_laids}
use Rattle.sdb_snapshot.proofs.write_set.lay_each.Given as goal

abbrev pub invariant-loop-keyed : goal.invariant-loop-keyed
invariant-loop-keyed l =
    (goal.iterator-loop-keyed).can_next l.keyed-iterator ×
    (goal.iterator-loop-keyed).is_finite l.keyed-iterator ×
    (with_laids l.writes.items (into_iter_items l.keyed-iterator) ≡ with_laids l.fn.writes.items l.fn.changes) ×
    AreIndexed l.places l.writes.items
