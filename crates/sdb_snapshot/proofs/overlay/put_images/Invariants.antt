use Rattle.std.proofs.Common.{◌≡◌, ◌++◌}
use Rattle.std.specs.Vec.Iter.{into_iter_items}
use Rattle.sdb_snapshot.specs.Seen.{images_at, row_seen}
use Rattle.sdb_snapshot.proofs.overlay.put_images.Given as goal

abbrev pub invariant-loop-rec : goal.invariant-loop-rec
invariant-loop-rec l =
    (goal.iterator-loop-rec).can_next l.rec-iterator ×
    (goal.iterator-loop-rec).is_finite l.rec-iterator ×
    (l.images ++ images_at (row_seen l.read_set l.write_set) (into_iter_items l.rec-iterator) ≡ l.initial.images ++ images_at (row_seen l.read_set l.write_set) l.fn.keys)
