-- What ties the events of a world to its clients is kept by each step.
use Rattle.std.proofs.Common.{◌≡◌, ℕ, zero, suc, ◌<◌, ◌^◌, Bool, true, false, List, [], ◌∷◌, ◌++◌, length, Option, Some, None, refl, sym, ap, subst, ◌∙◌}
use Rattle.std.specs.Prelude.{◌==◌, slice_get, slice_set}
use Rattle.std.proofs.lemmas.Bool.{eqb-false, eqb-true, ne_eqb}
use Rattle.law_runs.specs.Types.{Answer, ClientSlot, Event, How, Reply, Request, Script, Statement, Table}
use Rattle.sdb_types.specs.Contents.{CanAnswer}
use Rattle.sdb_record.specs.Meta.{is_moment}
use Rattle.sdb_model.specs.declared.event.Event.TheVariants as event
use Rattle.sdb_types.specs.declared.record.Reply.TheVariants as reply
use Rattle.sdb_model.specs.declared.event.How.TheVariants.{Delayed}
use Rattle.sdb_model.specs.Rows.{Name}
use Rattle.sdb_model.specs.Catalogs.{catalog_after}
use Rattle.sdb_model.proofs.Public.{after_is, same_tables}
use Rattle.sdb_model.specs.Exec.{Tables}
use Rattle.law_protocol.specs.History.{at}
use Rattle.law_protocol.specs.Spread.{relocated_event}
use Rattle.law_protocol.proofs.Public.{catalog_moved, moved_more}
use Rattle.sdb_client.specs.Client.{ClientAt as Client, Taking, nothing_done, next_id}
use Rattle.sdb_client.specs.Step.{Receives, Step, Takes}
use Rattle.law_clients.specs.System.{ClientAt, Stopped, SystemAt}
use Rattle.law_clients.specs.Invariant.{AddsAtRest, ClientInvariant, HasDelayed, IsOpenOf, RunInvariant, IsSilent}
use Rattle.law_runs.proofs.Lists.{among_map}
use Rattle.law_clients.proofs.Public.{invariant_alters, invariant_lands, invariant_rests, invariant_starts, invariant_stops, kept_at, mapped_at, replies_so, TakesNow, takes_so}
use Rattle.law_clients.specs.Fitting.{tables_are_well_typed}
use Rattle.law_clients.specs.Turns.{IsDataCatalog}
use Rattle.law_clients.specs.States.{ClientState, IsGated, IsReady, IsWaiting, doing_of, abstract_client, system_of, with_state}
use Rattle.sdb_client.specs.Execution.{AreFresh, IsPlayable, client_after, client_stopped}
use Rattle.law_runs.specs.World.{WorldAt, state_in, states_of, with_event, with_client}
use Rattle.law_runs.specs.Linked.{IsLinked, on_one, one_name}
use Rattle.law_runs.proofs.Slots.{hands_moved}
use Rattle.law_runs.proofs.Ties.{itself}

-- one event more, on the one store
pub on_one_more : (es : List Event) (e : Event) → on_one (es ++ e ∷ []) ≡ on_one es ++ relocated_event (λ ns. one_name) e ∷ []
on_one_more es e = moved_more (λ ns. one_name) es (e ∷ [])

-- what is so of clients that are in the same place
same_going : (catalog : List Table) (events : List Event) (f g : ℕ → ClientState) → ((c : ℕ) → f c ≡ g c) → RunInvariant catalog tables_are_well_typed events (system_of f) (doing_of f) → RunInvariant catalog tables_are_well_typed events (system_of g) (doing_of g)
same_going catalog events f g same h = subst (λ (x : ℕ → ClientState). RunInvariant catalog tables_are_well_typed events (system_of x) (doing_of x)) (λ i c. same c i) h

---- at first

pub fresh_hand : (count : ℕ) (client_slots : List ClientSlot) → AreFresh count client_slots → (c : ℕ) → states_of client_slots c ≡ record { client = nothing_done c; stopped = false }
fresh_hand count client_slots h zero = refl
fresh_hand count client_slots h (suc i) = by (slice_get client_slots i) refl
  where
    by : (o : Option ClientSlot) → slice_get client_slots i ≡ o → state_in o (suc i) ≡ record { client = nothing_done (suc i); stopped = false }
    by None e = refl
    by (Some s) e = ap (λ (t : ClientSlot). state_in (Some t) (suc i)) (h.each i s e)

pub linked_first : (catalog : List Table) (count : ℕ) (client_slots : List ClientSlot) → AreFresh count client_slots → RunInvariant catalog tables_are_well_typed [] (system_of (states_of client_slots)) (doing_of (states_of client_slots))
linked_first catalog count client_slots h = same_going catalog [] (λ c. record { client = nothing_done c; stopped = false }) (states_of client_slots) (λ c. sym (fresh_hand count client_slots h c)) (invariant_starts catalog tables_are_well_typed)

---- an event of no client's doing

pub linked_rests : (w : WorldAt) (e : Event) → IsSilent (relocated_event (λ ns. one_name) e) → IsLinked w → IsLinked (with_event w e)
linked_rests w e silent g =
    subst (λ (es : List Event). RunInvariant w.script.catalog tables_are_well_typed es (system_of (states_of w.client_slots)) (doing_of (states_of w.client_slots))) (sym (on_one_more w.events e))
    (invariant_rests w.script.catalog tables_are_well_typed (on_one w.events) (system_of (states_of w.client_slots)) (doing_of (states_of w.client_slots)) (relocated_event (λ ns. one_name) e) silent g)

-- where a call was delayed is no matter
delayed_on_one : (es : List Event) (q : Request) → HasDelayed es q → HasDelayed (on_one es) q
delayed_on_one es q h = record { client = h.client; store = one_name; answered = h.answered; call = among_map (relocated_event (λ ns. one_name)) es (event.Call h.client h.store q Delayed reply.Fault h.answered) h.call }

pub linked_lands : (w : WorldAt) (number : ℕ) (store : Name) (q : Request) (how : How) (r : Reply) → HasDelayed w.events q → IsLinked w → IsLinked (with_event w (event.Land number store q how r))
linked_lands w number store q how r was g =
    subst (λ (es : List Event). RunInvariant w.script.catalog tables_are_well_typed es (system_of (states_of w.client_slots)) (doing_of (states_of w.client_slots))) (sym (on_one_more w.events (event.Land number store q how r)))
    (invariant_lands w.script.catalog tables_are_well_typed (on_one w.events) (system_of (states_of w.client_slots)) (doing_of (states_of w.client_slots)) (relocated_event (λ ns. one_name) (event.Land number store q how r)) (delayed_on_one w.events q was) g)

-- a column is added where no client that goes on has a transaction open, or it isn't
pub linked_alters : (w : WorldAt) (e : Event) → AddsAtRest (system_of (states_of w.client_slots)) (relocated_event (λ ns. one_name) e) → IsLinked w → IsLinked (with_event w e)
linked_alters w e adds g =
    subst (λ (es : List Event). RunInvariant w.script.catalog tables_are_well_typed es (system_of (states_of w.client_slots)) (doing_of (states_of w.client_slots))) (sym (on_one_more w.events e))
    (invariant_alters w.script.catalog tables_are_well_typed (on_one w.events) (system_of (states_of w.client_slots)) (doing_of (states_of w.client_slots)) (relocated_event (λ ns. one_name) e) adds g)

---- a client's own

-- one client elsewhere
linked_by : (w : WorldAt) (i : ℕ) (s t : ClientSlot) (e : Event) → slice_get w.client_slots i ≡ Some s
    → RunInvariant w.script.catalog tables_are_well_typed (on_one w.events ++ relocated_event (λ ns. one_name) e ∷ []) (system_of (at (states_of w.client_slots) (suc i) (record { client = t.client; stopped = t.stopped }))) (doing_of (at (states_of w.client_slots) (suc i) (record { client = t.client; stopped = t.stopped })))
    → IsLinked (with_event (with_client w i t) e)
linked_by w i s t e here g =
    subst (λ (es : List Event). RunInvariant w.script.catalog tables_are_well_typed es (system_of (states_of (slice_set w.client_slots i t))) (doing_of (states_of (slice_set w.client_slots i t)))) (sym (on_one_more w.events e))
    (same_going w.script.catalog (on_one w.events ++ relocated_event (λ ns. one_name) e ∷ []) (at (states_of w.client_slots) (suc i) (record { client = t.client; stopped = t.stopped })) (states_of (slice_set w.client_slots i t)) (λ c. sym (hands_moved w.client_slots i s t c here)) g)

-- where a client goes on, it is as it was
pub on_hand : (P : ClientState → Type 0) (client_slots : List ClientSlot) (i : ℕ) (s : ClientSlot) → slice_get client_slots i ≡ Some s → P (record { client = s.client; stopped = s.stopped }) → P (states_of client_slots (suc i))
on_hand P client_slots i s here p = subst (λ (o : Option ClientSlot). P (state_in o (suc i))) (sym here) p

-- the catalog as it is after the events is that after these on the one store
on_one_catalog : (catalog : List Table) (events : List Event) → catalog_after catalog events ≡ catalog_after catalog (on_one events)
on_one_catalog catalog events = sym (catalog_moved (λ ns. one_name) catalog events)

-- it stays a catalog without a table of the coordinator
pub data_after : (script : Script) (events : List Event) → IsPlayable script → IsDataCatalog (catalog_after script.catalog events)
data_after script events playable = record { is = after_is script.catalog events playable.catalog; apart = λ k h. playable.apart k (sym (same_tables script.catalog events k.table) ∙ h) }

pub linked_takes : (w : WorldAt) (i : ℕ) (s : ClientSlot) (q : Taking) (text : List ℕ) (a : Option Answer) (d : Client) → IsPlayable w.script → q.catalog ≡ catalog_after w.script.catalog w.events → slice_get w.client_slots i ≡ Some s → s.stopped ≡ false → IsReady (states_of w.client_slots) (suc i) → IsGated q.gate (states_of w.client_slots) (suc i) → Step s.client (Takes q text) a d → q.fresh ≡ next_id s.client → d.begun < 2 ^ 64 → is_moment q.now ≡ true
    → IsLinked w → IsLinked (with_event (with_client w i (client_after s 1 d)) (event.Take (suc i) text a))
linked_takes w i s q text a d playable same here goes ready gated takes numbered begun moment g =
    linked_by w i s (client_after s 1 d) (event.Take (suc i) text a) here
    (subst (λ (b : Bool). RunInvariant w.script.catalog tables_are_well_typed (on_one w.events ++ event.Take (suc i) text a ∷ []) (system_of (at (states_of w.client_slots) (suc i) (record { client = d; stopped = b }))) (doing_of (at (states_of w.client_slots) (suc i) (record { client = d; stopped = b })))) (sym goes) so)
  where
    sound : IsDataCatalog q.catalog
    sound = subst IsDataCatalog (sym same) (data_after w.script w.events playable)

    so : RunInvariant w.script.catalog tables_are_well_typed (on_one w.events ++ event.Take (suc i) text a ∷ []) (system_of (with_state (states_of w.client_slots) (suc i) d)) (doing_of (with_state (states_of w.client_slots) (suc i) d))
    so =
        let now : TakesNow w.script.catalog (on_one w.events) (states_of w.client_slots) (suc i) q =
        record {
          current = same ∙ on_one_catalog w.script.catalog w.events;
          of_data = sound;
          moment = moment;
          ready = ready;
          gated = gated;
          numbered = on_hand (λ (h : ClientState). q.fresh ≡ next_id h.client) w.client_slots i s here numbered;
        } in
        takes_so g now text begun
        (on_hand (λ (h : ClientState). Step h.client (Takes q text) a d) w.client_slots i s here takes)

pub linked_calls : (w : WorldAt) (i : ℕ) (s : ClientSlot) (store : Name) (how : How) (q : Request) (r : Reply) (a : Option Answer) (d : Client) → IsPlayable w.script → slice_get w.client_slots i ≡ Some s → s.stopped ≡ false → IsWaiting (catalog_after w.script.catalog w.events) (states_of w.client_slots) (suc i) q → CanAnswer q r → Step s.client (Receives q r w.clock) a d → is_moment w.clock ≡ true
    → IsLinked w → IsLinked (with_event (with_client w i (client_after s 0 d)) (event.Call (suc i) store q how r a))
linked_calls w i s store how q r a d playable here goes waiting can answered moment g =
    let sound = data_after w.script w.events playable in
    linked_by w i s (client_after s 0 d) (event.Call (suc i) store q how r a) here
    (subst (λ (b : Bool). RunInvariant w.script.catalog tables_are_well_typed (on_one w.events ++ event.Call (suc i) one_name q how r a ∷ []) (system_of (at (states_of w.client_slots) (suc i) (record { client = d; stopped = b }))) (doing_of (at (states_of w.client_slots) (suc i) (record { client = d; stopped = b })))) (sym goes)
    (replies_so (on_one_catalog w.script.catalog w.events) g (record { client = suc i; store = one_name; request = q; how = how; reply = r; now = w.clock }) sound.is (record { waiting = waiting; can = can; moment = moment }) sound.apart (on_hand (λ (h : ClientState). Step h.client (Receives q r w.clock) a d) w.client_slots i s here answered)))

---- a client stops

-- what a client that has stopped ran is nobody's matter
free_doing : (catalog : List Table) (fit : List Table → Tables → Bool) (events : List Event) (sys : SystemAt) (doing other : ℕ → Option Statement) (c : ℕ) → sys.clients c ≡ Stopped → ((e : ℕ) → (e ≡ c → ⊥) → doing e ≡ other e) → RunInvariant catalog fit events sys doing → RunInvariant catalog fit events sys other
free_doing catalog fit events sys doing other c stopped same g = record {
  plan = g.plan;
  labelled = g.labelled;
  past = g.past;
  answered = g.answered;
  ran = g.ran;
  same = g.same;
  turned = g.turned;
  system = g.system;
  stories = g.stories;
  clients = λ e. by e (e == c) refl;
  as_read = g.as_read;
  agrees = g.agrees;
  at_rest = g.at_rest;
}
  where
    by : (e : ℕ) (b : Bool) → (e == c) ≡ b → ClientInvariant catalog fit g.plan g.past e (other e) (sys.clients e) (g.answered e) (g.ran e)
    by e true t =
        let here : sys.clients e ≡ Stopped = ap sys.clients (eqb-true e c t) ∙ stopped in
        record {
          ended = (g.clients e).ended;
          opened = (g.clients e).opened;
          next_state = subst (λ (x : ClientAt). IsOpenOf (other e) (g.answered e) (g.ran e (length (g.answered e).whole)) x) (sym here) tt;
        }
    by e false t = subst (λ (o : Option Statement). ClientInvariant catalog fit g.plan g.past e o (sys.clients e) (g.answered e) (g.ran e)) (same e (λ k. eqb-false e c t k)) (g.clients e)

abbrev stopped_hand : ClientSlot → ClientState
stopped_hand s = record { client = s.client; stopped = true }

pub linked_stops : (w : WorldAt) (i : ℕ) (s : ClientSlot) → slice_get w.client_slots i ≡ Some s → IsLinked w → IsLinked (with_event (with_client w i (client_stopped s)) (event.Stop (suc i)))
linked_stops w i s here g =
    linked_by w i s (client_stopped s) (event.Stop (suc i)) here
    (free_doing w.script.catalog tables_are_well_typed (on_one w.events ++ event.Stop (suc i) ∷ []) (system_of (at (states_of w.client_slots) (suc i) (stopped_hand s))) (at (doing_of (states_of w.client_slots)) (suc i) None) (doing_of (at (states_of w.client_slots) (suc i) (stopped_hand s))) (suc i)
    (rw (itself (suc i)) refl) other_same
    (subst (λ (y : SystemAt). RunInvariant w.script.catalog tables_are_well_typed (on_one w.events ++ event.Stop (suc i) ∷ []) y (at (doing_of (states_of w.client_slots)) (suc i) None)) (λ k. record { clients = λ e. clients_same e k; begun = λ e. begun_same e k })
    (invariant_stops w.script.catalog tables_are_well_typed (on_one w.events) (system_of (states_of w.client_slots)) (doing_of (states_of w.client_slots)) g (suc i))))
  where
    hand_is : states_of w.client_slots (suc i) ≡ record { client = s.client; stopped = s.stopped }
    hand_is = ap (λ (o : Option ClientSlot). state_in o (suc i)) here

    clients_same : (e : ℕ) → at (λ c. abstract_client (states_of w.client_slots c)) (suc i) Stopped e ≡ abstract_client (at (states_of w.client_slots) (suc i) (stopped_hand s) e)
    clients_same e = mapped_at abstract_client (states_of w.client_slots) (suc i) (stopped_hand s) e

    begun_same : (e : ℕ) → (states_of w.client_slots e).client.begun ≡ (at (states_of w.client_slots) (suc i) (stopped_hand s) e).client.begun
    begun_same e = kept_at (λ (h : ClientState). h.client.begun) (states_of w.client_slots) (suc i) (stopped_hand s) (ap (λ (h : ClientState). h.client.begun) (sym hand_is)) e

    other_same : (e : ℕ) → (e ≡ suc i → ⊥) → at (doing_of (states_of w.client_slots)) (suc i) None e ≡ doing_of (at (states_of w.client_slots) (suc i) (stopped_hand s)) e
    other_same e n = rw (ne_eqb e (suc i) n) refl
