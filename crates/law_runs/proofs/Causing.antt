-- The causes of answers are kept by each step of a world.
use Rattle.std.proofs.Common.{◌≡◌, ℕ, suc, ℤ, ◌<◌, ◌^◌, Bool, true, false, List, [], ◌∷◌, ◌++◌, Option, Some, refl, sym, ap, subst, ◌∙◌}
use Rattle.std.specs.Prelude.{is_some, pos, slice_get, slice_set}
use Rattle.law_runs.specs.Types.{Answer, ClientSlot, Event, Gate, How, Reply, Request, Script, Table}
use Rattle.sdb_types.specs.Contents.{CanAnswer}
use Rattle.sdb_record.specs.Meta.{is_moment}
use Rattle.sdb_model.specs.declared.event.Event.TheVariants as event
use Rattle.sdb_model.specs.Rows.{Name}
use Rattle.sdb_client.specs.Client.{ClientAt as Client, Taking, next_id}
use Rattle.sdb_client.proofs.Public.{reply_of_step, text_of_step}
use Rattle.sdb_client.specs.Step.{Receives, Step, Takes}
use Rattle.law_protocol.specs.History.{at}
use Rattle.sdb_model.specs.Catalogs.{catalog_after}
use Rattle.sdb_model.proofs.Public.{same_tables}
use Rattle.law_clients.proofs.Public.{of_tables}
use Rattle.law_clients.specs.About.{IsOfTables}
use Rattle.law_clients.specs.Fitting.{tables_are_well_typed}
use Rattle.law_clients.specs.States.{ClientState, IsReady, IsWaiting}
use Rattle.law_answers.specs.Invariant.{AddsWithNoneOpen, AnswersHaveCauses, CauseInvariant, IsGate, with_stopped}
use Rattle.law_answers.proofs.Public.{alters_all, clock_all, explained, idles_all, lands_all, replies_all, starts_all, stops_all, takes_all}
use Rattle.sdb_client.specs.Execution.{AreFresh, IsGateAt, IsPlayable, client_after, client_stopped}
use Rattle.law_runs.specs.World.{WorldAt, at_moment, state_in, states_of, with_event, with_client}
use Rattle.law_runs.specs.Linked.{HaveCauses, IsLinked, on_one}
use Rattle.law_runs.proofs.Linked.{data_after, fresh_hand, on_hand}
use Rattle.law_runs.proofs.Slots.{HasOpen, RunsVacuum, hands_moved, some_client, suc_is}
use Rattle.law_runs.proofs.Gates.{gated_at}
use Rattle.sdb_model.specs.Calls.{is_stored_reply}

-- what is so of clients that are in the same place
same_kept : (catalog : List Table) (events : List Event) (moment : ℤ) (f g : ℕ → ClientState) → ((c : ℕ) → f c ≡ g c) → CauseInvariant catalog events moment f → CauseInvariant catalog events moment g
same_kept catalog events moment f g same h = subst (λ (x : ℕ → ClientState). CauseInvariant catalog events moment x) (λ i c. same c i) h

pub caused_new : (script : Script) (count : ℕ) (client_slots : List ClientSlot) (events : List Event) → AreFresh count client_slots → events ≡ [] → HaveCauses (record { script = script; client_slots = client_slots; flights = []; events = events; clock = pos 0 })
caused_new script count client_slots events h none = subst (λ (es : List Event). CauseInvariant script.catalog es (pos 0) (states_of client_slots)) (sym none) (starts_all script.catalog (states_of client_slots) (fresh_hand count client_slots h))

pub caused_idles : (w : WorldAt) (c : ℕ) → HaveCauses w → HaveCauses (with_event w (event.Idle c))
caused_idles w c h = idles_all w.script.catalog w.events w.clock (states_of w.client_slots) c h

-- a request lands
pub caused_lands : (w : WorldAt) (number : ℕ) (store : Name) (q : Request) (how : How) (r : Reply) → HaveCauses w → HaveCauses (with_event w (event.Land number store q how r))
caused_lands w number store q how r h = lands_all number store q how r h

-- a column is added where no client that goes on has a transaction open, or it isn't
pub caused_alters : (w : WorldAt) (e : Event) → AddsWithNoneOpen (states_of w.client_slots) e → HaveCauses w → HaveCauses (with_event w e)
caused_alters w e adds h = alters_all w.script.catalog w.events w.clock (states_of w.client_slots) e adds h

pub caused_ticks : (w : WorldAt) (moment : ℤ) → HaveCauses w → HaveCauses (with_event (at_moment w moment) (event.Clock moment))
caused_ticks w moment h = clock_all w.script.catalog w.events w.clock moment (states_of w.client_slots) h

-- A client is about the tables of the script, which stay the tables.
pub about_after : (catalog : List Table) (events : List Event) (c : Client) → IsOfTables catalog c → IsOfTables (catalog_after catalog events) c
about_after catalog events c h = of_tables catalog (catalog_after catalog events) (λ n listed. same_tables catalog events n ∙ listed) c h

pub about_before : (catalog : List Table) (events : List Event) (c : Client) → IsOfTables (catalog_after catalog events) c → IsOfTables catalog c
about_before catalog events c h = of_tables (catalog_after catalog events) catalog (λ n listed. sym (same_tables catalog events n) ∙ listed) c h

-- one client elsewhere
caused_by : (w : WorldAt) (i : ℕ) (s t : ClientSlot) (e : Event) → slice_get w.client_slots i ≡ Some s → CauseInvariant w.script.catalog (w.events ++ e ∷ []) w.clock (at (states_of w.client_slots) (suc i) (record { client = t.client; stopped = t.stopped })) → HaveCauses (with_event (with_client w i t) e)
caused_by w i s t e here h = same_kept w.script.catalog (w.events ++ e ∷ []) w.clock (at (states_of w.client_slots) (suc i) (record { client = t.client; stopped = t.stopped })) (states_of (slice_set w.client_slots i t)) (λ c. sym (hands_moved w.client_slots i s t c here)) h

pub caused_takes : (w : WorldAt) (i : ℕ) (s : ClientSlot) (gate : Gate) (text : List ℕ) (a : Option Answer) (d : Client) → IsPlayable w.script → slice_get w.client_slots i ≡ Some s → s.stopped ≡ false → IsReady (states_of w.client_slots) (suc i) → IsGate (states_of w.client_slots) (suc i) gate → is_moment w.clock ≡ true → d.begun < 2 ^ 64
    → Step s.client (Takes (record { catalog = catalog_after w.script.catalog w.events; now = w.clock; gate = gate; fresh = next_id s.client }) text) a d → IsLinked w → HaveCauses w → HaveCauses (with_event (with_client w i (client_after s 1 d)) (event.Take (suc i) text a))
caused_takes w i s gate text a d playable here goes ready gated moment begun takes linked h =
    let taking : Taking = record { catalog = catalog_after w.script.catalog w.events; now = w.clock; gate = gate; fresh = next_id s.client } in
    caused_by w i s (client_after s 1 d) (event.Take (suc i) text a) here
    (subst (λ (b : Bool). CauseInvariant w.script.catalog (w.events ++ event.Take (suc i) text a ∷ []) w.clock (at (states_of w.client_slots) (suc i) (record { client = d; stopped = b }))) (sym goes)
    (takes_all w.script.catalog (record { q = taking; states = states_of w.client_slots; client = suc i; text = text; result = a; after = d; of_data = data_after w.script w.events playable; moment = moment; ready = ready; few = begun; numbered = on_hand (λ (x : ClientState). next_id s.client ≡ next_id x.client) w.client_slots i s here refl; takes = text_of_step taking text (states_of w.client_slots (suc i)).client a d (on_hand (λ (x : ClientState). Step x.client (Takes taking text) a d) w.client_slots i s here takes) }) w.events (record { gate = gated; current = refl; reached = record { events = on_one w.events; fit = tables_are_well_typed; running = linked } }) h))

pub caused_calls : (w : WorldAt) (i : ℕ) (s : ClientSlot) (store : Name) (how : How) (q : Request) (r : Reply) (a : Option Answer) (d : Client) → IsPlayable w.script → slice_get w.client_slots i ≡ Some s → s.stopped ≡ false → IsWaiting (catalog_after w.script.catalog w.events) (states_of w.client_slots) (suc i) q → IsOfTables w.script.catalog s.client → CanAnswer q r → is_stored_reply r ≡ true → Step s.client (Receives q r w.clock) a d → is_moment w.clock ≡ true
    → IsLinked w → HaveCauses w → HaveCauses (with_event (with_client w i (client_after s 0 d)) (event.Call (suc i) store q how r a))
caused_calls w i s store how q r a d playable here goes waiting about can stored answered moment linked h =
    caused_by w i s (client_after s 0 d) (event.Call (suc i) store q how r a) here
    (subst (λ (b : Bool). CauseInvariant w.script.catalog (w.events ++ event.Call (suc i) store q how r a ∷ []) w.clock (at (states_of w.client_slots) (suc i) (record { client = d; stopped = b }))) (sym goes)
    (replies_all w.script.catalog (record { catalog = catalog_after w.script.catalog w.events; states = states_of w.client_slots; call = record { client = suc i; store = store; request = q; how = how; reply = r; now = w.clock }; result = a; after = d; of_data = data_after w.script w.events playable; called = record { waiting = waiting; can = can; moment = moment }; answered = (reply_of_step (states_of w.client_slots (suc i)).client q r w.clock a d (on_hand (λ (x : ClientState). Step x.client (Receives q r w.clock) a d) w.client_slots i s here answered)).1 }) w.events (record { stored = stored; current = refl; about = on_hand (λ (x : ClientState). IsOfTables (catalog_after w.script.catalog w.events) x.client) w.client_slots i s here (about_after w.script.catalog w.events s.client about); reached = record { events = on_one w.events; fit = tables_are_well_typed; running = linked } }) h))

pub caused_stops : (w : WorldAt) (i : ℕ) (s : ClientSlot) → slice_get w.client_slots i ≡ Some s → HaveCauses w → HaveCauses (with_event (with_client w i (client_stopped s)) (event.Stop (suc i)))
caused_stops w i s here h =
    caused_by w i s (client_stopped s) (event.Stop (suc i)) here
    (same_kept w.script.catalog (w.events ++ event.Stop (suc i) ∷ []) w.clock (with_stopped (states_of w.client_slots) (suc i)) (at (states_of w.client_slots) (suc i) (record { client = s.client; stopped = true }))
    (λ c. ap (λ (x : Client). at (states_of w.client_slots) (suc i) (record { client = x; stopped = true }) c) (ap (λ (o : Option ClientSlot). (state_in o (suc i)).client) here))
    (stops_all w.script.catalog w.events w.clock (states_of w.client_slots) (suc i) h))

-- then the answers have their causes
pub outcome_caused : (w : WorldAt) (events : List Event) → events ≡ w.events → HaveCauses w → AnswersHaveCauses w.script.catalog events
outcome_caused w events same h = subst (λ (es : List Event). AnswersHaveCauses w.script.catalog es) (sym same) (explained w.script.catalog w.events w.clock (states_of w.client_slots) h)

---- the gate

-- What is so of the others by their places is so of them by their numbers.
pub gated_by : (gate : Gate) (client_slots : List ClientSlot) (i : ℕ) → IsGateAt gate client_slots i → IsGate (states_of client_slots) (suc i) gate
gated_by gate client_slots i h = record {
  vacuums = λ e. let x = h.vacuumed e in let k = some_client RunsVacuum (slice_get client_slots x.0) (suc x.0) x.2 in (suc x.0, (λ n. x.1 (suc_is x.0 i n)), k.0, k.1);
  rests = λ e d n goes. ap is_some ((gated_at gate client_slots i h).vacuums e d n goes);
  some = λ e. let x = h.opened e in let k = some_client HasOpen (slice_get client_slots x.0) (suc x.0) x.2 in (suc x.0, (λ n. x.1 (suc_is x.0 i n)), k.0, k.1);
  none = λ e d n goes. ap is_some ((gated_at gate client_slots i h).opens e d n goes);
}
