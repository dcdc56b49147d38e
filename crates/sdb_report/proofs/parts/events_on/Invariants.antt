use Rattle.std.proofs.Common.{◌≡◌, [], length}
use Rattle.sdb_report.specs.Reading.{lines_at, event_at}
use Rattle.sdb_report.proofs.Loops.{Goes}
use Rattle.sdb_report.proofs.parts.events_on.Given as goal

abbrev pub invariant-loop-i : goal.invariant-loop-i
invariant-loop-i l = Goes event_at l.events l.count l.i l.rest (lines_at event_at [] l.count l.bytes) × (length l.events ≡ l.i)
