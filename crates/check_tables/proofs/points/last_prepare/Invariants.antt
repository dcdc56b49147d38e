use Rattle.std.proofs.Common.{◌≡◌, ◌≤◌, ◌+◌, ◌-◌, ℕ, length, drop, Option, Some}
use Rattle.std.specs.Prelude.{fold, if◌then◌else◌}
use Rattle.std.specs.List.{enumerate_from}
use Rattle.sdb_model.specs.declared.event.Event.{Event}
use Rattle.sdb_model.specs.Transactions.{is_prepared_by, last_prepare}
use Rattle.check_tables.proofs.points.last_prepare.Given as goal

abbrev pub invariant-loop-i : goal.invariant-loop-i
invariant-loop-i l = record {
  within : l.i ≤ length l.events;
  same : fold (λ (found : Option ℕ) (e : ℕ × Event). if is_prepared_by l.id e.1 then Some e.0 else found) l.found (enumerate_from (l.i + 1) (drop l.i l.events)) ≡ last_prepare l.events l.id;
}

abbrev pub decreases-loop-i : goal.decreases-loop-i
decreases-loop-i l = length l.events - l.i
