use Rattle.std.proofs.Common.{◌≡◌, ◌≤◌, ◌+◌, ◌-◌, ◌++◌, length, drop}
use Rattle.std.specs.Prelude.{filter}
use Rattle.std.specs.List.{enumerate_from, filter_map}
use Rattle.sdb_model.specs.Calls.{calls_of, made_by}
use Rattle.sdb_contents.specs.Commits.{executed_of}
use Rattle.check_tables.specs.Values.{all_made, is_within}
use Rattle.check_tables.proofs.made.calls_of.Given as goal

abbrev pub invariant-loop-i : goal.invariant-loop-i
invariant-loop-i l = record {
  within : l.i ≤ length l.events;
  same : all_made l.calls ++ filter (is_within l.executed.accepted l.end) (filter_map (made_by l.client) (enumerate_from (l.i + 1) (drop l.i l.events))) ≡ calls_of l.events l.client (executed_of l.executed);
}

abbrev pub decreases-loop-i : goal.decreases-loop-i
decreases-loop-i l = length l.events - l.i
