use Rattle.std.proofs.Common.{◌≡◌, drop}
use Rattle.std.specs.Prelude.{fold, pos}
use Rattle.sdb_model.specs.Calls.{clock_after}
use Rattle.check_tables.proofs.clock.last_moment.Given as goal

abbrev pub invariant-loop-event : goal.invariant-loop-event
invariant-loop-event l = fold clock_after l.now (drop l.event-index l.events) ≡ fold clock_after (pos 0) l.events
