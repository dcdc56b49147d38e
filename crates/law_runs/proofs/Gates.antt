-- What a gate says of the other clients.
use Rattle.std.proofs.Common.{◌≡◌, ◌≢◌, ℕ, zero, suc, false, List, None, refl, ap}
use Rattle.std.specs.Prelude.{slice_get}
use Rattle.law_runs.specs.Types.{ClientSlot, Gate}
use Rattle.law_clients.specs.States.{IsGated}
use Rattle.law_runs.specs.World.{states_of}
use Rattle.sdb_client.specs.Execution.{IsGateAt}
use Rattle.law_runs.proofs.Slots.{each_client}

-- A gate by the places of clients is one by their numbers.
pub gated_at : (gate : Gate) (client_slots : List ClientSlot) (i : ℕ) → IsGateAt gate client_slots i → IsGated gate (states_of client_slots) (suc i)
gated_at gate client_slots i h = record { vacuums = vacuums; opens = opens }
  where
    vacuums : gate.vacuum_runs ≡ false → (d : ℕ) → d ≢ suc i → (states_of client_slots d).stopped ≡ false → (states_of client_slots d).client.vacuum ≡ None
    vacuums shut zero n goes = refl
    vacuums shut (suc j) n goes =
        each_client (λ x. x.stopped ≡ false → x.client.vacuum ≡ None) (slice_get client_slots j) (suc j) (λ e. refl) (h.vacuums shut j (λ e. n (ap suc e))) goes

    opens : gate.open_elsewhere ≡ false → (d : ℕ) → d ≢ suc i → (states_of client_slots d).stopped ≡ false → (states_of client_slots d).client.txn ≡ None
    opens shut zero n goes = refl
    opens shut (suc j) n goes =
        each_client (λ x. x.stopped ≡ false → x.client.txn ≡ None) (slice_get client_slots j) (suc j) (λ e. refl) (h.opens shut j (λ e. n (ap suc e))) goes
