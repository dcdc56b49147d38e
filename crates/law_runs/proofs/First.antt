-- What is so before the first statement.
use Rattle.std.proofs.Common.{◌≡◌, ℕ, List, [], length, sym, subst, ◌∙◌, refl}
use Rattle.std.specs.Prelude.{pos}
use Rattle.law_runs.specs.Types.{ClientSlot, Event, Script}
use Rattle.sdb_client.specs.Execution.{AreFresh, IsPlayable, initial_client}
use Rattle.law_runs.specs.World.{IsClientState, IsSettled}
use Rattle.law_runs.proofs.Flights.{late_first}

seat_first : (script : Script) (i : ℕ) → IsClientState script [] i (initial_client i)
seat_first script i = record {
  number = refl;
  fitted = λ goes. refl;
  about = record { txn = tt; vacuum = tt };
  accepted = refl;
  stopped = refl;
  busy = λ e. absurd (cc);
  idle = λ e. record { free = refl; still = tt };
}

-- before the first statement
pub settled_first : (script : Script) (count : ℕ) (client_slots : List ClientSlot) (events : List Event) → IsPlayable script → count ≡ length script.clients → AreFresh count client_slots → events ≡ [] → IsSettled (record { script = script; client_slots = client_slots; flights = []; events = events; clock = pos 0 })
settled_first script count client_slots events playable few h none = subst (λ (es : List Event). IsSettled (record { script = script; client_slots = client_slots; flights = []; events = es; clock = pos 0 })) (sym none) (record {
  playable = playable;
  clients = h.size ∙ few;
  each = λ i s here. subst (λ (t : ClientSlot). IsClientState script [] i t) (sym (h.each i s here)) (seat_first script i);
  late = late_first;
  moment = refl;
  about = tt;
})
