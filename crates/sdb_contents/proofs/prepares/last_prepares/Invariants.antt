use Rattle.std.proofs.Common.{◌≡◌, ◌≤◌, ◌<◌, ◌+◌, ◌-◌, ◌^◌, ℕ, length, drop, Option, Some}
use Rattle.std.specs.Prelude.{fold, if◌then◌else◌}
use Rattle.std.specs.List.{enumerate_from}
use Rattle.std.specs.Ordering.{nat_cmp}
use Rattle.std.specs.BTreeMap.{get}
use Rattle.sdb_contents.specs.Types.{Event, TxId}
use Rattle.sdb_model.specs.Transactions.{is_prepared_by, last_prepare}
use Rattle.sdb_contents.proofs.prepares.last_prepares.Given as goal

abbrev pub invariant-loop-i : goal.invariant-loop-i
invariant-loop-i l = record {
  within : l.i ≤ length l.events;
  same : (id : TxId) → id.0 < 2 ^ 128 → fold (λ (found : Option ℕ) (e : ℕ × Event). if is_prepared_by id e.1 then Some e.0 else found) (get nat_cmp l.found id.0) (enumerate_from (l.i + 1) (drop l.i l.events)) ≡ last_prepare l.events id;
}

abbrev pub decreases-loop-i : goal.decreases-loop-i
decreases-loop-i l = length l.events - l.i
