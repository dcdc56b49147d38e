use Rattle.std.proofs.Common.{◌≡◌, ◌++◌, map}
use Rattle.std.specs.Vec.Iter.{into_iter_items}
use Rattle.sdb_snapshot.specs.Filled.{found_in}
use Rattle.sdb_snapshot.proofs.read_set.found_of.Given as goal

abbrev pub invariant-loop-rec : goal.invariant-loop-rec
invariant-loop-rec l =
    (goal.iterator-loop-rec).can_next l.rec-iterator ×
    (goal.iterator-loop-rec).is_finite l.rec-iterator ×
    (l.found ++ map found_in (into_iter_items l.rec-iterator) ≡ map found_in l.fn.records)
