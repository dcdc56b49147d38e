use Rattle.std.proofs.Common.{◌≡◌, [], drop}
use Rattle.std.specs.Prelude.{fold}
use Rattle.sdb_picture.specs.Lanes.{with_record_of}
use Rattle.sdb_picture.proofs.lanes.records_of.Given as goal

abbrev pub invariant-loop-event : goal.invariant-loop-event
invariant-loop-event l = fold with_record_of l.records (drop l.event-index l.events) ≡ fold with_record_of [] l.events
