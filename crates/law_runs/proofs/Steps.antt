-- What is so of the clients and the events of an execution is kept by each of its steps.
use Rattle.std.proofs.Common.{◌≡◌, ℕ, suc, ℤ, ◌<◌, ◌^◌, false, List, [], ◌∷◌, ◌++◌, length, Option, Some, None, IfSome, refl, sym, subst, arith, append_assoc}
use Rattle.std.specs.Prelude.{◌-◌, slice_get}
use Rattle.std.proofs.Common.{slice_set}
use Rattle.std.proofs.lemmas.List.{append-nil}
use Rattle.std.proofs.lemmas.Option.{slice_get_within}
use Rattle.law_runs.specs.Types.{Answer, ClientSlot, Doing, Event, How, Reply, Request, Script, Table}
use Rattle.sdb_model.specs.declared.event.Event.TheVariants as event
use Rattle.sdb_types.specs.declared.record.Reply.TheVariants as reply
use Rattle.sdb_model.specs.declared.event.How.TheVariants.{Seen, Lost, Discarded, Delayed, Broken}
use Rattle.sdb_model.specs.Catalogs.{catalog_after}
use Rattle.sdb_model.specs.Rows.{Name}
use Rattle.law_protocol.specs.Spread.{AreAbout, IsAbout}
use Rattle.sdb_client.specs.Client.{ClientAt, IsIdle, Taking, client_pending, next_id}
use Rattle.sdb_txn.specs.declared.txn.Doing.TheVariants as doing
use Rattle.sdb_txn.specs.Txn.{TxnAt}
use Rattle.sdb_vacuum.specs.Vacuum.{VacuumAt}
use Rattle.law_clients.specs.Invariant.{RunInvariant}
use Rattle.law_clients.specs.Fitting.{tables_are_well_typed}
use Rattle.law_clients.specs.States.{ClientState, IsFitted, IsFittedBy, IsReady, IsUsing, IsUsingTxn, IsWaiting, doing_of, system_of}
use Rattle.law_clients.proofs.Public.{asks_in, replies_fitted, replies_in, takes_fitted, takes_in}
use Rattle.law_answers.specs.Invariant.{AnswersHaveCauses}
use Rattle.sdb_client.specs.Execution.{IsExecution, IsInitial, IsPath, IsPlayable, IsReachedBy, IsStepFrom, LandStep, State, client_after, client_stopped, flights_after, with_client_at, with_flights}
use Rattle.law_runs.specs.World.{AreInFlight, IsClientState, IsSettled, IsWorld, WorldAt, states_of, state_of, with_client, with_event, with_late}
use Rattle.law_runs.specs.Linked.{HaveCauses, IsLinked, on_one}
use Rattle.law_runs.proofs.Flights.{IsTimely, delayed_about, late_goes, late_lands, late_stays}
use Rattle.law_runs.proofs.Ties.{alter_apart, call_apart, clock_apart, idle_apart, land_apart, stop_apart, take_apart}
use Rattle.law_runs.proofs.Alters.{adds_at_rest, adds_with_none, refits_alter}
use Rattle.law_runs.proofs.Kept.{refits_same, seat_calls, seat_stops, seat_takes, world_moves, world_stays, world_ticks}
use Rattle.law_runs.proofs.Linked.{linked_alters, linked_calls, linked_first, linked_lands, linked_rests, linked_stops, linked_takes, on_hand}
use Rattle.law_runs.proofs.Causing.{about_after, about_before, caused_alters, caused_calls, caused_idles, caused_lands, caused_new, caused_stops, caused_takes, caused_ticks, gated_by, outcome_caused}
use Rattle.law_runs.proofs.First.{settled_first}
use Rattle.law_runs.proofs.Gates.{gated_at}
use Rattle.law_runs.proofs.Slots.{suc_is}

-- the events so far and one more, which leads to a state
abbrev pub led : WorldAt → Event → State → WorldAt
led w e u = record { script = w.script; client_slots = u.client_slots; flights = u.flights; events = w.events ++ e ∷ []; clock = u.clock }

-- what is so where one client is elsewhere is so after its step
pub at_place : (P : WorldAt → Type 0) (w : WorldAt) (e : ℕ → Event) (c i : ℕ) (client_slot : ClientSlot) (fs : List (Option Request)) (u : State) → c ≡ suc i → u ≡ with_flights (with_client_at (state_of w) i client_slot) fs → P (with_late (with_event (with_client w i client_slot) (e (suc i))) fs) → P (led w (e c) u)
at_place P w e c i client_slot fs u number left h =
    subst (λ (x : State). P (led w (e c) x)) (sym left)
    (subst (λ (n : ℕ). P (led w (e n) (with_flights (with_client_at (state_of w) i client_slot) fs))) (sym number) h)

---- the requests in flight

take_timely : (c : ℕ) (text : List ℕ) (a : Option Answer) → IsTimely (event.Take c text a)
take_timely c text a = record { delays = refl; lands = λ k. refl }

call_late : (es : List Event) (fs : List (Option Request)) (c : ℕ) (store : Name) (q : Request) (how : How) (r : Reply) (a : Option Answer) → (how ≡ Delayed → r ≡ reply.Fault) → AreInFlight es fs → AreInFlight (es ++ event.Call c store q how r a ∷ []) (flights_after fs how q)
call_late es fs c store q Seen r a fault h = late_stays es (event.Call c store q Seen r a) fs (record { delays = refl; lands = λ k. refl }) h
call_late es fs c store q Lost r a fault h = late_stays es (event.Call c store q Lost r a) fs (record { delays = refl; lands = λ k. refl }) h
call_late es fs c store q Discarded r a fault h = late_stays es (event.Call c store q Discarded r a) fs (record { delays = refl; lands = λ k. refl }) h
call_late es fs c store q Delayed r a fault h = subst (λ (x : Reply). AreInFlight (es ++ event.Call c store q Delayed x a ∷ []) (fs ++ Some q ∷ [])) (sym (fault refl)) (late_goes es c store q a fs h)
call_late es fs c store q Broken r a fault h = late_stays es (event.Call c store q Broken r a) fs (record { delays = refl; lands = λ k. refl }) h

---- the client at work

free_plan : (catalog : List Table) (c : ClientAt) → IsIdle c → IsFitted catalog c → c.plan ≡ None
free_plan catalog c idle fitted = by c.txn idle.still (subst (λ (v : Option VacuumAt). IsFittedBy catalog v c) idle.free fitted)
  where
    by : (o : Option TxnAt) → IfSome o (λ t. t.doing ≡ doing.Idle) → IsUsingTxn catalog o c.plan → c.plan ≡ None
    by None i h = h
    by (Some t) i h = subst (λ (d : Doing). IsUsing catalog d c.plan) i h

small_place : (w : WorldAt) (i : ℕ) (s : ClientSlot) → IsSettled w → slice_get w.client_slots i ≡ Some s → suc i < 2 ^ 64
small_place w i s h here =
    let inside : i < length w.client_slots = slice_get_within w.client_slots i s here in
    let few : length w.script.clients < 2 ^ 32 - 1 = h.playable.few in
    let same : length w.client_slots ≡ length w.script.clients = h.clients in
    omega (arith, inside, few, same)

-- it waits for a statement
is_ready : (w : WorldAt) (i : ℕ) (s : ClientSlot) → IsSettled w → slice_get w.client_slots i ≡ Some s → s.stopped ≡ false → IsIdle s.client → IsReady (states_of w.client_slots) (suc i)
is_ready w i s h here goes idle = record {
  goes_on = on_hand (λ (x : ClientState). x.stopped ≡ false) w.client_slots i s here goes;
  number = on_hand (λ (x : ClientState). x.client.number ≡ suc i) w.client_slots i s here (h.each i s here).number;
  small = small_place w i s h here;
  idle = on_hand (λ (x : ClientState). IsIdle x.client) w.client_slots i s here idle;
  free = on_hand (λ (x : ClientState). x.client.plan ≡ None) w.client_slots i s here (free_plan (catalog_after w.script.catalog w.events) s.client idle ((h.each i s here).fitted goes));
}

-- it waits for a reply
is_waiting : (w : WorldAt) (i : ℕ) (s : ClientSlot) (q : Request) → IsSettled w → slice_get w.client_slots i ≡ Some s → s.stopped ≡ false → client_pending s.client ≡ Some q → IsWaiting (catalog_after w.script.catalog w.events) (states_of w.client_slots) (suc i) q
is_waiting w i s q h here goes pending = record {
  goes_on = on_hand (λ (x : ClientState). x.stopped ≡ false) w.client_slots i s here goes;
  pending = on_hand (λ (x : ClientState). client_pending x.client ≡ Some q) w.client_slots i s here pending;
  fitted = on_hand (λ (x : ClientState). IsFitted (catalog_after w.script.catalog w.events) x.client) w.client_slots i s here ((h.each i s here).fitted goes);
}

---- one step

land_late : (w : WorldAt) (number : ℕ) (store : Name) (q : Request) (how : How) (r : Reply) (u : State) (t : LandStep (state_of w) number q how r u) → IsSettled w → AreInFlight (w.events ++ event.Land number store q how r ∷ []) (slice_set w.flights t.place None)
land_late w number store q how r u t h =
    subst (λ (n : ℕ). AreInFlight (w.events ++ event.Land n store q how r ∷ []) (slice_set w.flights t.place None)) (sym t.number_is)
    (late_lands w.events w.flights t.place store q how r t.at h.late)

-- what lands is about the table that the delayed call was about
land_about : (w : WorldAt) (number : ℕ) (store : Name) (q : Request) (how : How) (r : Reply) (u : State) (t : LandStep (state_of w) number q how r u) → IsSettled w → IsAbout w.script.catalog (event.Land number store q how r)
land_about w number store q how r u t h = delayed_about w.script.catalog w.events t.place q (h.late.late t.place q t.at).0 h.about

-- Each client stays where the events leave it.
step_settled : (w : WorldAt) (e : Event) (u : State) → IsStepFrom w.script w.events (state_of w) e u → IsSettled w → IsSettled (led w e u)
step_settled w (event.Take c text a) u t h =
    let i : ℕ = t.place in
    let s : ClientSlot = t.client_slot in
    let client_slot : IsClientState w.script w.events i s = h.each i s t.at in
    let q : Taking = record { catalog = catalog_after w.script.catalog w.events; now = w.clock; gate = t.gate; fresh = next_id s.client } in
    let after = takes_fitted q text s.client t.idle (client_slot.fitted t.goes_on) a t.client t.takes in
    let about = about_before w.script.catalog w.events t.client (takes_in q text s.client t.client a t.idle (about_after w.script.catalog w.events s.client client_slot.about) t.takes) in
    at_place IsSettled w (λ n. event.Take n text a) c i (client_after s 1 t.client) w.flights u t.number t.left
    (world_moves w i s (client_after s 1 t.client) (event.Take (suc i) text a) w.flights (λ ts. refl) t.at (λ j n. take_apart (suc i) (suc j) text a (λ z. n (suc_is i j z))) (seat_takes w.script w.events i s client_slot a t.client after about text) tt (late_stays w.events (event.Take (suc i) text a) w.flights (take_timely (suc i) text a) h.late) h)
step_settled w (event.Call c store q how r a) u t h =
    let i : ℕ = t.place in
    let s : ClientSlot = t.client_slot in
    let client_slot : IsClientState w.script w.events i s = h.each i s t.at in
    let after = replies_fitted (catalog_after w.script.catalog w.events) s.client q r w.clock (client_slot.fitted t.goes_on) a t.client t.takes in
    let about = replies_in w.script.catalog s.client q r w.clock t.can client_slot.about t.takes in
    at_place IsSettled w (λ n. event.Call n store q how r a) c i (client_after s 0 t.client) (flights_after w.flights how q) u t.number t.left
    (world_moves w i s (client_after s 0 t.client) (event.Call (suc i) store q how r a) (flights_after w.flights how q) (λ ts. refl) t.at (λ j n. call_apart (suc i) (suc j) store q how r a (λ z. n (suc_is i j z))) (seat_calls w.script w.events i s client_slot a t.client after about store q how r) (asks_in w.script.catalog s.client q client_slot.about t.pending) (call_late w.events w.flights (suc i) store q how r a t.late h.late) h)
step_settled w (event.Stop c) u t h =
    let i : ℕ = t.place in
    let s : ClientSlot = t.client_slot in
    at_place IsSettled w (λ n. event.Stop n) c i (client_stopped s) w.flights u t.number t.left
    (world_moves w i s (client_stopped s) (event.Stop (suc i)) w.flights (λ ts. refl) t.at (λ j n. stop_apart (suc i) (suc j) (λ z. n (suc_is i j z))) (seat_stops w.script w.events i s (h.each i s t.at)) tt (late_stays w.events (event.Stop (suc i)) w.flights (record { delays = refl; lands = λ k. refl }) h.late) h)
step_settled w (event.Clock m) u t h = subst (λ (x : State). IsSettled (led w (event.Clock m) x)) (sym t.1) (world_ticks w m t.0 (λ j. clock_apart m (suc j)) (late_stays w.events (event.Clock m) w.flights (record { delays = refl; lands = λ k. refl }) h.late) h)
step_settled w (event.Idle c) u t h = subst (λ (x : State). IsSettled (led w (event.Idle c) x)) (sym t) (world_stays w (event.Idle c) w.flights (λ j. idle_apart c (suc j)) (λ j s at. refits_same w.script w.events (event.Idle c) s (λ ts. refl)) tt (late_stays w.events (event.Idle c) w.flights (record { delays = refl; lands = λ k. refl }) h.late) h)
step_settled w (event.Land number store q how r) u t h = subst (λ (x : State). IsSettled (led w (event.Land number store q how r) x)) (sym t.left) (world_stays w (event.Land number store q how r) (slice_set w.flights t.place None) (λ j. land_apart number store q how r (suc j)) (λ j s at. refits_same w.script w.events (event.Land number store q how r) s (λ ts. refl)) (land_about w number store q how r u t h) (land_late w number store q how r u t h) h)
step_settled w (event.Alter table column kind a) u t h =
    subst (λ (x : State). IsSettled (led w (event.Alter table column kind a) x)) (sym t.1)
    (world_stays w (event.Alter table column kind a) w.flights (λ j. alter_apart table column kind a (suc j)) (λ j s at. refits_alter w.script w.events w.client_slots j s table column kind a t.0 at) tt (late_stays w.events (event.Alter table column kind a) w.flights (record { delays = refl; lands = λ k. refl }) h.late) h)

-- The events stay tied to the clients by the rules of the protocol.
step_linked : (w : WorldAt) (e : Event) (u : State) → IsStepFrom w.script w.events (state_of w) e u → IsSettled w → IsLinked w → IsLinked (led w e u)
step_linked w (event.Take c text a) u t h g =
    let i : ℕ = t.place in
    let s : ClientSlot = t.client_slot in
    let q : Taking = record { catalog = catalog_after w.script.catalog w.events; now = w.clock; gate = t.gate; fresh = next_id s.client } in
    at_place IsLinked w (λ n. event.Take n text a) c i (client_after s 1 t.client) w.flights u t.number t.left
    (linked_takes w i s q text a t.client h.playable refl t.at t.goes_on (is_ready w i s h t.at t.goes_on t.idle) (gated_at t.gate w.client_slots i t.gated) t.takes refl t.small h.moment g)
step_linked w (event.Call c store q how r a) u t h g =
    let i : ℕ = t.place in
    let s : ClientSlot = t.client_slot in
    at_place IsLinked w (λ n. event.Call n store q how r a) c i (client_after s 0 t.client) (flights_after w.flights how q) u t.number t.left
    (linked_calls w i s store how q r a t.client h.playable t.at t.goes_on (is_waiting w i s q h t.at t.goes_on t.pending) t.can t.takes h.moment g)
step_linked w (event.Stop c) u t h g = at_place IsLinked w (λ n. event.Stop n) c t.place (client_stopped t.client_slot) w.flights u t.number t.left (linked_stops w t.place t.client_slot t.at g)
step_linked w (event.Clock m) u t h g = subst (λ (x : State). IsLinked (led w (event.Clock m) x)) (sym t.1) (linked_rests w (event.Clock m) tt g)
step_linked w (event.Idle c) u t h g = subst (λ (x : State). IsLinked (led w (event.Idle c) x)) (sym t) (linked_rests w (event.Idle c) tt g)
step_linked w (event.Land number store q how r) u t h g = subst (λ (x : State). IsLinked (led w (event.Land number store q how r) x)) (sym t.left) (linked_lands w number store q how r (h.late.late t.place q t.at).2 g)
step_linked w (event.Alter table column kind a) u t h g =
    subst (λ (x : State). IsLinked (led w (event.Alter table column kind a) x)) (sym t.1)
    (linked_alters w (event.Alter table column kind a) (adds_at_rest (catalog_after w.script.catalog w.events) w.client_slots table column kind a t.0) g)

-- The answers keep their causes.
step_caused : (w : WorldAt) (e : Event) (u : State) → IsStepFrom w.script w.events (state_of w) e u → IsSettled w → IsLinked w → HaveCauses w → HaveCauses (led w e u)
step_caused w (event.Take c text a) u t h g k =
    let i : ℕ = t.place in
    let s : ClientSlot = t.client_slot in
    at_place HaveCauses w (λ n. event.Take n text a) c i (client_after s 1 t.client) w.flights u t.number t.left
    (caused_takes w i s t.gate text a t.client h.playable t.at t.goes_on (is_ready w i s h t.at t.goes_on t.idle) (gated_by t.gate w.client_slots i t.gated) h.moment t.small t.takes g k)
step_caused w (event.Call c store q how r a) u t h g k =
    let i : ℕ = t.place in
    let s : ClientSlot = t.client_slot in
    at_place HaveCauses w (λ n. event.Call n store q how r a) c i (client_after s 0 t.client) (flights_after w.flights how q) u t.number t.left
    (caused_calls w i s store how q r a t.client h.playable t.at t.goes_on (is_waiting w i s q h t.at t.goes_on t.pending) (h.each i s t.at).about t.can t.stored t.takes h.moment g k)
step_caused w (event.Stop c) u t h g k = at_place HaveCauses w (λ n. event.Stop n) c t.place (client_stopped t.client_slot) w.flights u t.number t.left (caused_stops w t.place t.client_slot t.at k)
step_caused w (event.Clock m) u t h g k = subst (λ (x : State). HaveCauses (led w (event.Clock m) x)) (sym t.1) (caused_ticks w m k)
step_caused w (event.Idle c) u t h g k = subst (λ (x : State). HaveCauses (led w (event.Idle c) x)) (sym t) (caused_idles w c k)
step_caused w (event.Land number store q how r) u t h g k = subst (λ (x : State). HaveCauses (led w (event.Land number store q how r) x)) (sym t.left) (caused_lands w number store q how r k)
step_caused w (event.Alter table column kind a) u t h g k =
    subst (λ (x : State). HaveCauses (led w (event.Alter table column kind a) x)) (sym t.1)
    (caused_alters w (event.Alter table column kind a) (adds_with_none (catalog_after w.script.catalog w.events) w.client_slots table column kind a t.0) k)

---- a whole execution

-- What is so after the events so far of an execution.
pub record Holds (w : WorldAt) : Type 0 where
  pub world : IsSettled w
  pub linked : IsLinked w
  pub caused : HaveCauses w

pub step_holds : (w : WorldAt) (e : Event) (u : State) → IsStepFrom w.script w.events (state_of w) e u → Holds w → Holds (led w e u)
step_holds w e u t k = record { world = step_settled w e u t k.world; linked = step_linked w e u t k.world k.linked; caused = step_caused w e u t k.world k.linked k.caused }

pub first_holds : (script : Script) (s : State) → IsPlayable script → IsInitial script s → Holds (record { script = script; client_slots = s.client_slots; flights = s.flights; events = []; clock = s.clock })
first_holds script s playable h =
    subst (λ (fs : List (Option Request)). Holds (record { script = script; client_slots = s.client_slots; flights = fs; events = []; clock = s.clock })) (sym h.none_late)
    (subst (λ (z : ℤ). Holds (record { script = script; client_slots = s.client_slots; flights = []; events = []; clock = z })) (sym h.clock) (record {
      world = settled_first script (length script.clients) s.client_slots [] playable refl h.fresh refl;
      linked = linked_first script.catalog (length script.clients) s.client_slots h.fresh;
      caused = caused_new script (length script.clients) s.client_slots [] h.fresh refl;
    }))

---- worlds

pub world_of : (w : WorldAt) → Holds w → IsWorld w
world_of w h = record { playable = h.world.playable; clients = h.world.clients; each = h.world.each; late = h.world.late; moment = h.world.moment; about = h.world.about; linked = h.linked; caused = h.caused }

holds_of : (w : WorldAt) → IsWorld w → Holds w
holds_of w h = record { world = record { playable = h.playable; clients = h.clients; each = h.each; late = h.late; moment = h.moment; about = h.about }; linked = h.linked; caused = h.caused }

-- A step leads from a world to one.
pub step_world : (w : WorldAt) (e : Event) (u : State) → IsStepFrom w.script w.events (state_of w) e u → IsWorld w → IsWorld (led w e u)
step_world w e u t h = world_of (led w e u) (step_holds w e u t (holds_of w h))

-- before the first statement
pub world_first : (script : Script) (s : State) → IsPlayable script → IsInitial script s → IsWorld (record { script = script; client_slots = s.client_slots; flights = s.flights; events = []; clock = s.clock })
world_first script s playable h = world_of _ (first_holds script s playable h)

---- paths

path_holds : (es : List Event) (w : WorldAt) (t : State) → IsPath w.script w.events (state_of w) es t → Holds w → Holds (record { script = w.script; client_slots = t.client_slots; flights = t.flights; events = w.events ++ es; clock = t.clock })
path_holds [] w t h k =
    subst (λ (x : State). Holds (record { script = w.script; client_slots = x.client_slots; flights = x.flights; events = w.events ++ []; clock = x.clock })) (sym h)
    (subst (λ (xs : List Event). Holds (record { script = w.script; client_slots = w.client_slots; flights = w.flights; events = xs; clock = w.clock })) (sym (append-nil w.events)) k)
path_holds (e ∷ es) w t h k =
    subst (λ (xs : List Event). Holds (record { script = w.script; client_slots = t.client_slots; flights = t.flights; events = xs; clock = t.clock })) (append_assoc w.events (e ∷ []) es)
    (path_holds es (led w e h.0) t h.2 (step_holds w e h.0 h.1 k))

-- So it is of each state that events lead to.
pub reached_holds : (script : Script) (events : List Event) (s : State) → IsPlayable script → IsReachedBy script events s → Holds (record { script = script; client_slots = s.client_slots; flights = s.flights; events = events; clock = s.clock })
reached_holds script events s playable h = path_holds events (record { script = script; client_slots = h.first.client_slots; flights = h.first.flights; events = []; clock = h.first.clock }) s h.path (first_holds script h.first playable h.initial)

module _ (script : Script) (events : List Event) (playable : IsPlayable script) (h : IsExecution script events) where
  pub execution_holds : Holds (record { script = script; client_slots = h.last.client_slots; flights = h.last.flights; events = events; clock = h.last.clock })
  execution_holds = reached_holds script events h.last playable (record { first = h.first; initial = h.initial; path = h.path })

  -- Its answers have their causes.
  pub execution_caused : AnswersHaveCauses script.catalog events
  execution_caused = outcome_caused (record { script = script; client_slots = h.last.client_slots; flights = h.last.flights; events = events; clock = h.last.clock }) events refl execution_holds.caused

  -- Its events are tied to its clients by the rules of the protocol.
  pub execution_linked : RunInvariant script.catalog tables_are_well_typed (on_one events) (system_of (states_of h.last.client_slots)) (doing_of (states_of h.last.client_slots))
  execution_linked = execution_holds.linked

  -- No call of it is about another table than the script's and the coordinator's.
  pub execution_about : AreAbout script.catalog events
  execution_about = execution_holds.world.about
