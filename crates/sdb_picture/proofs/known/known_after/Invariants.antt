use Rattle.std.proofs.Common.{◌≡◌, drop, true, None}
use Rattle.std.specs.Option.{option_copied}
use Rattle.std.specs.Prelude.{fold}
use Rattle.sdb_picture.specs.Known.{known, left_by}
use Rattle.sdb_picture.proofs.known.known_after.Given as goal

abbrev pub invariant-loop-event : goal.invariant-loop-event
invariant-loop-event l =
    fold (left_by l.store l.key) (known l.sure (option_copied l.found)) (drop l.event-index l.events)
    ≡ fold (left_by l.store l.key) (known true None) l.events
