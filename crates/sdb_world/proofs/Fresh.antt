-- The clients of a script before their first statement.
use Rattle.std.proofs.Common.{◌≡◌, ℕ, List, [], length, Option, refl, subst, sym}
use Rattle.std.specs.Prelude.{pos}
use Rattle.sdb_world.specs.Types.{ClientSlot, Event, Request, Script}
use Rattle.sdb_client.specs.Execution.{AreFresh, IsInitial, IsPlayable}
use Rattle.law_runs.specs.World.{IsWorld, state_of}
use Rattle.law_runs.proofs.Public.{world_first}

pub initial_new : (script : Script) (count : ℕ) (client_slots : List ClientSlot) (flights : List (Option Request)) (events : List Event) → flights ≡ [] → count ≡ length script.clients → AreFresh count client_slots → IsInitial script (state_of (record { script = script; client_slots = client_slots; flights = flights; events = events; clock = pos 0 }))
initial_new script count client_slots flights events none few h = record { none_late = none; fresh = subst (λ (n : ℕ). AreFresh n client_slots) few h; clock = refl }

pub world_new : (script : Script) (count : ℕ) (client_slots : List ClientSlot) (flights : List (Option Request)) (events : List Event) → IsPlayable script → flights ≡ [] → count ≡ length script.clients → AreFresh count client_slots → events ≡ [] → IsWorld (record { script = script; client_slots = client_slots; flights = flights; events = events; clock = pos 0 })
world_new script count client_slots flights events playable none few h empty =
    subst (λ (es : List Event). IsWorld (record { script = script; client_slots = client_slots; flights = flights; events = es; clock = pos 0 })) (sym empty)
    (world_first script (record { client_slots = client_slots; flights = flights; clock = pos 0 }) playable (initial_new script count client_slots flights events none few h))
