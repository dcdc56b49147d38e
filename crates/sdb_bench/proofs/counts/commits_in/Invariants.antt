use Rattle.std.proofs.Common.{◌≡◌, ◌≤◌, take, count_by}
use Rattle.sdb_bench.specs.Counts.{is_commit}
use Rattle.sdb_bench.proofs.counts.commits_in.Given as goal

abbrev pub invariant-loop-event : goal.invariant-loop-event
invariant-loop-event l = (l.commits ≡ count_by is_commit (take l.event-index l.events)) × (l.commits ≤ l.event-index)
