use Rattle.std.proofs.Common.{◌≤◌, ◌+◌, length, drop}
use Rattle.std.specs.List.{enumerate_from}
use Rattle.sdb_contents.specs.Later.{IsLater}
use Rattle.sdb_contents.proofs.commits.commits_by.Given as goal

abbrev pub invariant-loop-i : goal.invariant-loop-i
invariant-loop-i l = record {
  within : l.i ≤ length l.events;
  later : IsLater l.client (enumerate_from (l.i + 1) (drop l.i l.events)) l.later;
}

abbrev pub decreases-loop-i : goal.decreases-loop-i
decreases-loop-i l = l.i
