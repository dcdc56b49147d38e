use Rattle.std.proofs.Common.{◌≡◌, ◌≤◌, take, count_by}
use Rattle.sdb_bench.specs.Counts.{is_call}
use Rattle.sdb_bench.proofs.counts.calls_in.Given as goal

abbrev pub invariant-loop-event : goal.invariant-loop-event
invariant-loop-event l = (l.calls ≡ count_by is_call (take l.event-index l.events)) × (l.calls ≤ l.event-index)
