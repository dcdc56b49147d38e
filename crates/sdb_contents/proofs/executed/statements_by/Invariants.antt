use Rattle.std.proofs.Common.{◌≡◌, ◌≤◌, ◌+◌, ◌-◌, length, drop}
use Rattle.std.specs.Prelude.{fold}
use Rattle.std.specs.List.{enumerate_from}
use Rattle.sdb_model.specs.Transactions.{statements_by, statements_after}
use Rattle.sdb_contents.specs.Commits.{all_executed}
use Rattle.sdb_contents.proofs.executed.statements_by.Given as goal

abbrev pub invariant-loop-i : goal.invariant-loop-i
invariant-loop-i l = record {
  within : l.i ≤ length l.events;
  same : fold (statements_after l.client) (all_executed l.found) (enumerate_from (l.i + 1) (drop l.i l.events)) ≡ statements_by l.client l.events;
}

abbrev pub decreases-loop-i : goal.decreases-loop-i
decreases-loop-i l = length l.events - l.i
