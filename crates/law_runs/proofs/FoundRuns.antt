-- Each transaction of an execution runs on what it has found.
use Rattle.std.proofs.Common.{◌≡◌, ◌⊎◌, inl, inr, ℕ, zero, suc, Bool, false, List, [], ◌∷◌, ◌++◌, Option, Some, None, IfSome, refl, sym, ap, subst, ◌∙◌, append_assoc}
use Rattle.std.specs.Prelude.{Contains, filter, is_some, length, slice_get, slice_set}
use Rattle.std.proofs.lemmas.List.{append-nil}
use Rattle.std.proofs.lemmas.List.Elements.{Contains-push}
use Rattle.law_runs.specs.Types.{Access, Answer, ClientSlot, Event, How, Kind, Reply, Request, Script, Table, TableName}
use Rattle.sdb_types.proofs.Public.{clash, none_some}
use Rattle.sdb_model.specs.declared.event.Altered.{Altered}
use Rattle.sdb_model.specs.declared.event.Altered.TheVariants as altered
use Rattle.sdb_model.specs.declared.event.Event.TheVariants as event
use Rattle.sdb_model.specs.Catalogs.{added, catalog_after}
use Rattle.sdb_model.specs.Causes.{before}
use Rattle.sdb_model.specs.Exec.{Tables}
use Rattle.sdb_model.specs.Rows.{Name}
use Rattle.sdb_model.specs.Transactions.{Executed, client_of, from_begin, ordinal_of, statements_by}
use Rattle.sdb_model.proofs.Public.{after_is, after_more, same_tables}
use Rattle.sdb_txn.specs.Read.{ReadAt}
use Rattle.sdb_snapshot.specs.Sets.{WereRead}
use Rattle.sdb_txn.specs.declared.txn.Doing.TheVariants as doing
use Rattle.sdb_txn.specs.Txn.{TxnAt}
use Rattle.sdb_client.specs.Client.{ClientAt, next_id}
use Rattle.law_clients.specs.Invariant.{RunInvariant}
use Rattle.law_clients.specs.Fitting.{tables_are_well_typed}
use Rattle.law_clients.specs.States.{ClientState, doing_of, system_of}
use Rattle.law_clients.specs.History.{waiting_of}
use Rattle.law_clients.proofs.Public.{others_silent, executed_more}
use Rattle.law_answers.specs.Invariant.{AddsWithNoneOpen, IsCurrent, IsWaiting, Knows}
use Rattle.sdb_client.specs.Execution.{AreFresh, CallStep, IsExecution, IsPath, IsPlayable, IsStepFrom, State, TakeStep, client_after, client_stopped, flights_after, with_client_at, with_flights}
use Rattle.law_runs.specs.Found.{RunsOnFound, RunsUnder, answered_inside, is_answered}
use Rattle.law_runs.specs.Linked.{on_one}
use Rattle.law_runs.specs.World.{WorldAt, state_in, states_of, state_of}
use Rattle.law_runs.proofs.OngoingReads.{NothingMore}
use Rattle.law_runs.proofs.Alters.{adds_with_none}
use Rattle.law_runs.proofs.FoundCalls.{calls_runs}
use Rattle.law_runs.proofs.FoundSteps.{ClientRuns, SeesRun, sees_then, still_runs, answered_of_is, answered_of}
use Rattle.law_runs.proofs.FoundTakes.{takes_runs}
use Rattle.law_runs.proofs.Kept.{by_nat}
use Rattle.law_runs.proofs.Linked.{fresh_hand, on_hand}
use Rattle.law_runs.proofs.PreparingCalls.{WaitPrepares, prepares_kept}
use Rattle.law_runs.proofs.Replies.{call_of, pends_waits}
use Rattle.law_runs.proofs.Running.{none_run, running_of, running_waits}
use Rattle.law_runs.proofs.Slots.{set_here, set_other}
use Rattle.law_runs.proofs.Statements.{AllSo, SoOver, none_in, runs_at, step_so, waits_of}
use Rattle.law_runs.proofs.Steps.{Holds, execution_holds, first_holds, led, step_holds}
use Rattle.law_runs.proofs.WroteCommits.{CommitsWrote}
use Rattle.law_answers.proofs.Public.{invariant_serial}

-- What a client's transactions ran on, the open one under a catalog: that of the moment, until the client stops.
pub record RunsNow (catalog : List Table) (events : List Event) (c : ℕ) (s : ClientState) : Type 0 where
  pub under : List Table
  pub current : s.stopped ≡ false → IsCurrent catalog events s.client.txn under
  pub runs : ClientRuns catalog under events c s.client

-- what is so of each client
abbrev pub AllRun : WorldAt → Type 0
AllRun w = (c : ℕ) → RunsNow w.script.catalog w.events c (states_of w.client_slots c)

-- a client that reads had read what it wrote
going_kept : (catalog : List Table) (fit : List Table → Tables → Bool) (es : List Event) (states : ℕ → ClientState) (g : RunInvariant catalog fit es (system_of states) (doing_of states)) (c : ℕ) → (states c).stopped ≡ false → (states c).client.vacuum ≡ None → (t : TxnAt) → (states c).client.txn ≡ Some t → (a : Access) (x : ReadAt) → t.doing ≡ doing.Read a x → WereRead t.seen.read_set t.seen.writes
going_kept catalog fit es states g c goes_on free t some a x reads = (invariant_serial states g c goes_on free some reads).1

---- the clients by their numbers

pub hand_at : (client_slots : List ClientSlot) (i c : ℕ) (s : ClientSlot) → c ≡ suc i → slice_get client_slots i ≡ Some s → states_of client_slots c ≡ record { client = s.client; stopped = s.stopped }
hand_at client_slots i c s number here = subst (λ (n : ℕ). states_of client_slots n ≡ record { client = s.client; stopped = s.stopped }) (sym number) (on_hand (λ (y : ClientState). y ≡ record { client = s.client; stopped = s.stopped }) client_slots i s here refl)

other_at : (client_slots : List ClientSlot) (i c : ℕ) (s : ClientSlot) (n : ℕ) → c ≡ suc i → (c ≡ n → ⊥) → states_of (slice_set client_slots i s) n ≡ states_of client_slots n
other_at client_slots i c s zero number apart = refl
other_at client_slots i c s (suc j) number apart = ap (λ (o : Option ClientSlot). state_in o (suc j)) (set_other client_slots i j s (λ e. apart (number ∙ ap suc (sym e))))

-- an event leaves the catalog
abbrev pub SameCatalog : WorldAt → Event → Type 0
SameCatalog w e = catalog_after w.script.catalog (w.events ++ e ∷ []) ≡ catalog_after w.script.catalog w.events

-- or no client that hasn't stopped has a transaction open
abbrev pub Quiet : WorldAt → Event → Type 0
Quiet w e = (n : ℕ) → SameCatalog w e ⊎ ((states_of w.client_slots n).stopped ≡ false → (states_of w.client_slots n).client.txn ≡ None)

-- an event that adds no column leaves it
pub same_catalog : (w : WorldAt) (e : Event) → ((ts : List Table) → added ts e ≡ ts) → SameCatalog w e
same_catalog w e quiet = after_more w.script.catalog w.events e ∙ quiet (catalog_after w.script.catalog w.events)

stays_current : (catalog : List Table) (events : List Event) (e : Event) (o : Option TxnAt) (under : List Table) → (catalog_after catalog (events ++ e ∷ []) ≡ catalog_after catalog events) ⊎ (o ≡ None) → IsCurrent catalog events o under → IsCurrent catalog (events ++ e ∷ []) o under
stays_current catalog events e None under quiet runs = tt
stays_current catalog events e (Some t) under (inl same) runs = runs ∙ sym same
stays_current catalog events e (Some t) under (inr none) runs = none_some t (sym none)

-- a client that does nothing
pub rests_one : (w : WorldAt) (e : Event) (n : ℕ) → Quiet w e → statements_by n (w.events ++ e ∷ []) ≡ statements_by n w.events → Holds w → RunsNow w.script.catalog w.events n (states_of w.client_slots n) → RunsNow w.script.catalog (w.events ++ e ∷ []) n (states_of w.client_slots n)
rests_one w e n quiet says h r = record {
  under = r.under;
  current = λ goes. stays_current w.script.catalog w.events e (states_of w.client_slots n).client.txn r.under (by (quiet n) goes) (r.current goes);
  runs = still_runs w.script.catalog r.under w.events n (states_of w.client_slots n).client k r.runs e (states_of w.client_slots n).client (ap (filter is_answered) says ∙ answered_of_is w.script.catalog w.events n (states_of w.client_slots n).client k)
      (sees_then w.script.catalog r.under w.events n (states_of w.client_slots n).client k r.runs e);
}
  where
    k : Knows w.script.catalog w.events n (states_of w.client_slots n).client
    k = h.caused.each n

    by : SameCatalog w e ⊎ ((states_of w.client_slots n).stopped ≡ false → (states_of w.client_slots n).client.txn ≡ None) → (states_of w.client_slots n).stopped ≡ false → SameCatalog w e ⊎ ((states_of w.client_slots n).client.txn ≡ None)
    by (inl same) goes = inl same
    by (inr none) goes = inr (none goes)

-- one client moves, and the others are as they were
moves_all : (w : WorldAt) (e : Event) (u : State) (i c : ℕ) (s y : ClientSlot) (fs : List (Option Request)) → c ≡ suc i → slice_get w.client_slots i ≡ Some s → u ≡ with_flights (with_client_at (state_of w) i y) fs → SameCatalog w e → Holds w → AllRun w → ((n : ℕ) → (c ≡ n → ⊥) → statements_by n (w.events ++ e ∷ []) ≡ statements_by n w.events)
    → RunsNow w.script.catalog (w.events ++ e ∷ []) c (record { client = y.client; stopped = y.stopped }) → AllRun (led w e u)
moves_all w e u i c s y fs number here left stays h all says own n = subst (λ (x : State). RunsNow w.script.catalog (w.events ++ e ∷ []) n (states_of x.client_slots n)) (sym left) (by_nat c n
    (λ same. subst (λ (m : ℕ). RunsNow w.script.catalog (w.events ++ e ∷ []) m (states_of (slice_set w.client_slots i y) m)) same
    (subst (RunsNow w.script.catalog (w.events ++ e ∷ []) c) (sym (hand_at (slice_set w.client_slots i y) i c y number (set_here w.client_slots i s y here))) own))
    (λ apart. subst (RunsNow w.script.catalog (w.events ++ e ∷ []) n) (sym (other_at w.client_slots i c y n number apart)) (rests_one w e n (λ m. inl stays) (says n apart) h (all n))))

-- no client moves
rests_all : (w : WorldAt) (e : Event) (u : State) → u.client_slots ≡ w.client_slots → Quiet w e → Holds w → AllRun w → ((n : ℕ) → statements_by n (w.events ++ e ∷ []) ≡ statements_by n w.events) → AllRun (led w e u)
rests_all w e u same quiet h all says n = subst (λ (slots : List ClientSlot). RunsNow w.script.catalog (w.events ++ e ∷ []) n (states_of slots n)) (sym same) (rests_one w e n quiet (says n) h (all n))

-- A client that goes on runs under the catalog of the moment.
pub under_now : (catalog : List Table) (events : List Event) (c : ℕ) (s : ClientState) → s.stopped ≡ false → RunsNow catalog events c s → ClientRuns catalog (catalog_after catalog events) events c s.client
under_now catalog events c s goes r = by s.client.txn refl (r.current goes)
  where
    by : (o : Option TxnAt) → s.client.txn ≡ o → IsCurrent catalog events o r.under → ClientRuns catalog (catalog_after catalog events) events c s.client
    by None none current = record { ran = r.runs.ran; sees = subst (λ (o : Option TxnAt). IfSome o (SeesRun catalog (catalog_after catalog events) events c (running_of events c s.client.begun (answered_of c events)))) (sym none) tt; commits = r.runs.commits }
    by (Some t) some current = subst (λ (ts : List Table). ClientRuns catalog ts events c s.client) current r.runs

still_now : (catalog : List Table) (events : List Event) (o : Option TxnAt) (under : List Table) → under ≡ catalog_after catalog events → IsCurrent catalog events o under
still_now catalog events None under is = tt
still_now catalog events (Some t) under is = is

-- what is known of a client that makes a call, by its number
pub known_at : (w : WorldAt) (i c : ℕ) (s : ClientSlot) → c ≡ suc i → slice_get w.client_slots i ≡ Some s → s.stopped ≡ false → Holds w → (k : Knows w.script.catalog w.events c s.client) × IsCurrent w.script.catalog w.events s.client.txn k.under
known_at w i c s number here goes h = subst (λ (n : ℕ). (k : Knows w.script.catalog w.events n s.client) × IsCurrent w.script.catalog w.events s.client.txn k.under) (sym number) (runs_at w i s here goes h.caused)

-- and what its transactions ran on
pub runs_here : (w : WorldAt) (i c : ℕ) (s : ClientSlot) → c ≡ suc i → slice_get w.client_slots i ≡ Some s → s.stopped ≡ false → AllRun w → ClientRuns w.script.catalog (catalog_after w.script.catalog w.events) w.events c s.client
runs_here w i c s number here goes all = under_now w.script.catalog w.events c (record { client = s.client; stopped = s.stopped }) goes (subst (RunsNow w.script.catalog w.events c) (hand_at w.client_slots i c s number here) (all c))

-- what is so of a statement that waits
pub wait_so : (w : WorldAt) (W : List Table → List Event → ℕ → Executed → ClientAt → Type 0) → AllSo NothingMore W w → (c : ℕ) (d : ClientAt) → (states_of w.client_slots c).client ≡ d → (k : Knows w.script.catalog w.events c d) (x : Executed) → k.waiting ≡ Some x → IsWaiting w.script.catalog w.events c (is_some d.vacuum) x → W w.script.catalog w.events c x d
wait_so w W so c d here k x waiting waits =
    let among : Contains (statements_by c w.events) x = subst (λ (ss : List Executed). Contains ss x) (sym (k.same ∙ ap (λ (o : Option Executed). k.entries ++ waiting_of o) waiting)) (Contains-push k.entries x) in
    subst (W w.script.catalog w.events c x) here
    (subst (λ (o : Option Answer). SoOver NothingMore W w.script.catalog w.events c x (states_of w.client_slots c).client o) waits.unanswered (so c x among))

---- one step

module _ (w : WorldAt) (h : Holds w) (all : AllRun w) where
  abbrev catalog : List Table
  catalog = w.script.catalog

  -- the catalog of the moment
  abbrev tables : List Table
  tables = catalog_after catalog w.events

  step_take : (c : ℕ) (text : List ℕ) (a : Option Answer) (u : State) (t : TakeStep w.script w.events (state_of w) c text a u) → AllRun (led w (event.Take c text a) u)
  step_take c text a u t =
      let e : Event = event.Take c text a in
      let stays : SameCatalog w e = same_catalog w e (λ ts. refl) in
      moves_all w e u t.place c t.client_slot (client_after t.client_slot 1 t.client) w.flights t.number t.at t.left stays h all (λ n apart. others_silent w.events n c e apart refl)
      (record { under = tables; current = λ goes. still_now catalog (w.events ++ e ∷ []) t.client.txn tables (sym stays); runs = runs })
    where
      runs : ClientRuns catalog tables (w.events ++ event.Take c text a ∷ []) c t.client
      runs =
          takes_runs catalog (record { catalog = tables; now = w.clock; gate = t.gate; fresh = next_id t.client_slot.client }) (after_is catalog w.events h.world.playable.catalog) (λ key listed. h.world.playable.apart key (sym (same_tables catalog w.events key.table) ∙ listed)) w.events refl c text t.client_slot.client
          (known_at w t.place c t.client_slot t.number t.at t.goes_on h).0 (runs_here w t.place c t.client_slot t.number t.at t.goes_on all) t.idle a t.client t.takes

  step_call : (prepared : AllSo NothingMore WaitPrepares w) (c : ℕ) (store : Name) (q : Request) (how : How) (r : Reply) (a : Option Answer) (u : State) (t : CallStep (state_of w) c q how r a u) → AllRun (led w (event.Call c store q how r a) u)
  step_call prepared c store q how r a u t =
      moves_all w (event.Call c store q how r a) u t.place c t.client_slot (client_after t.client_slot 0 t.client) (flights_after w.flights how q) t.number t.at t.left stays h all (λ n apart. others_silent w.events n c (event.Call c store q how r a) apart refl)
      (record { under = tables; current = λ goes. still_now catalog (w.events ++ event.Call c store q how r a ∷ []) t.client.txn tables (sym stays); runs = runs })
    where
      stays : SameCatalog w (event.Call c store q how r a)
      stays = same_catalog w (event.Call c store q how r a) (λ ts. refl)

      next_state : states_of w.client_slots c ≡ record { client = t.client_slot.client; stopped = t.client_slot.stopped }
      next_state = hand_at w.client_slots t.place c t.client_slot t.number t.at

      known : (k : Knows catalog w.events c t.client_slot.client) × IsCurrent catalog w.events t.client_slot.client.txn k.under
      known = known_at w t.place c t.client_slot t.number t.at t.goes_on h

      k : Knows catalog w.events c t.client_slot.client
      k = known.0

      x : (y : Executed) × (k.waiting ≡ Some y)
      x = pends_waits catalog w.events c t.client_slot.client q k t.pending

      waits : IsWaiting catalog w.events c (is_some t.client_slot.client.vacuum) x.0
      waits = waits_of catalog w.events c t.client_slot.client k x.0 x.1

      -- it was accepted under the catalog of the moment, in a transaction
      asked : IfSome t.client_slot.client.txn (λ y. catalog_after catalog (before x.0 w.events) ≡ tables)
      asked = by t.client_slot.client.txn known.1
        where
          by : (o : Option TxnAt) → IsCurrent catalog w.events o k.under → IfSome o (λ y. catalog_after catalog (before x.0 w.events) ≡ tables)
          by None current = tt
          by (Some y) current = subst (λ (o : Option Executed). IfSome o (λ z. catalog_after catalog (before z w.events) ≡ k.under)) x.1 k.asked ∙ current

      prepares : WaitPrepares catalog w.events c x.0 t.client_slot.client
      prepares = wait_so w WaitPrepares prepared c t.client_slot.client (ap (λ (y : ClientState). y.client) next_state) k x.0 x.1 waits

      kept : (y : TxnAt) → t.client_slot.client.vacuum ≡ None → t.client_slot.client.txn ≡ Some y → (b : Access) (z : ReadAt) → y.doing ≡ doing.Read b z → WereRead y.seen.read_set y.seen.writes
      kept y free some b z reads =
          going_kept catalog tables_are_well_typed (on_one w.events) (states_of w.client_slots) h.linked c (ap (λ (v : ClientState). v.stopped) next_state ∙ t.goes_on) (ap (λ (v : ClientState). v.client.vacuum) next_state ∙ free) y (ap (λ (v : ClientState). v.client.txn) next_state ∙ some) b z reads

      runs : ClientRuns catalog tables (w.events ++ event.Call c store q how r a ∷ []) c t.client
      runs =
          calls_runs catalog tables h.world.playable.catalog h.world.playable.apart w.events c t.client_slot.client k (runs_here w t.place c t.client_slot t.number t.at t.goes_on all) x.0 x.1 waits asked prepares store q how r w.clock h.world.moment h.caused.clock (h.world.each t.place t.client_slot t.at).about t.can kept t.client a
          (call_of catalog w.events c t.client_slot.client k known.1 x.0 x.1 q r w.clock a t.client t.pending ((h.world.each t.place t.client_slot t.at).fitted t.goes_on) t.takes)

  -- where a column is added, no client that goes on has a transaction open
  alter_quiet : (table : TableName) (column : Name) (kind : Kind) (a : Altered) → AddsWithNoneOpen (states_of w.client_slots) (event.Alter table column kind a) → Quiet w (event.Alter table column kind a)
  alter_quiet table column kind altered.Done none = λ n. inr (none n)
  alter_quiet table column kind altered.Open none = λ n. inl (same_catalog w (event.Alter table column kind altered.Open) (λ ts. refl))
  alter_quiet table column kind (altered.Refused x) none = λ n. inl (same_catalog w (event.Alter table column kind (altered.Refused x)) (λ ts. refl))

  pub step_runs : AllSo NothingMore WaitPrepares w → (e : Event) (u : State) → IsStepFrom w.script w.events (state_of w) e u → AllRun (led w e u)
  step_runs prepared (event.Take c text a) u t = step_take c text a u t
  step_runs prepared (event.Call c store q how r a) u t = step_call prepared c store q how r a u t
  step_runs prepared (event.Stop c) u t =
      let e : Event = event.Stop c in
      let stays : SameCatalog w e = same_catalog w e (λ ts. refl) in
      let held = subst (RunsNow catalog (w.events ++ e ∷ []) c) (hand_at w.client_slots t.place c t.client_slot t.number t.at) (rests_one w e c (λ m. inl stays) (executed_more c w.events e) h (all c)) in
      moves_all w e u t.place c t.client_slot (client_stopped t.client_slot) w.flights t.number t.at t.left stays h all (λ n apart. executed_more n w.events e) (record { under = held.under; current = λ goes. clash goes; runs = held.runs })
  step_runs prepared (event.Clock m) u t = rests_all w (event.Clock m) u (ap (λ (x : State). x.client_slots) t.1) (λ n. inl (same_catalog w (event.Clock m) (λ ts. refl))) h all (λ n. executed_more n w.events (event.Clock m))
  step_runs prepared (event.Land x store q how r) u t =
      rests_all w (event.Land x store q how r) u (ap (λ (y : State). y.client_slots) t.left) (λ n. inl (same_catalog w (event.Land x store q how r) (λ ts. refl))) h all (λ n. executed_more n w.events (event.Land x store q how r))
  step_runs prepared (event.Alter table column kind altered) u t =
      rests_all w (event.Alter table column kind altered) u (ap (λ (x : State). x.client_slots) t.1) (alter_quiet table column kind altered (adds_with_none tables w.client_slots table column kind altered t.0)) h all (λ n. executed_more n w.events (event.Alter table column kind altered))
  step_runs prepared (event.Idle d) u t = rests_all w (event.Idle d) u (ap (λ (x : State). x.client_slots) t) (λ n. inl (same_catalog w (event.Idle d) (λ ts. refl))) h all (λ n. executed_more n w.events (event.Idle d))

---- a whole execution

pub path_runs : (es : List Event) (w : WorldAt) (t : State) → IsPath w.script w.events (state_of w) es t → Holds w → AllSo NothingMore WaitPrepares w → AllRun w → AllRun (record { script = w.script; client_slots = t.client_slots; flights = t.flights; events = w.events ++ es; clock = t.clock })
path_runs [] w t h k prepared all =
    subst (λ (x : State). AllRun (record { script = w.script; client_slots = x.client_slots; flights = x.flights; events = w.events ++ []; clock = x.clock })) (sym h)
    (subst (λ (xs : List Event). AllRun (record { script = w.script; client_slots = w.client_slots; flights = w.flights; events = xs; clock = w.clock })) (sym (append-nil w.events)) all)
path_runs (e ∷ es) w t h k prepared all =
    subst (λ (xs : List Event). AllRun (record { script = w.script; client_slots = t.client_slots; flights = t.flights; events = xs; clock = t.clock })) (append_assoc w.events (e ∷ []) es)
    (path_runs es (led w e h.0) t h.2 (step_holds w e h.0 h.1 k) (step_so NothingMore WaitPrepares prepares_kept w e h.0 h.1 k prepared) (step_runs w k all prepared e h.0 h.1))

no_commits : (catalog : List Table) (c : ℕ) → CommitsWrote catalog [] c []
no_commits catalog c n body s x = absurd (by n x.since)
  where
    by : (n : ℕ) → from_begin n [] ≡ x.begin ∷ (body ++ s ∷ x.tail) → ⊥
    by zero e = cc
    by (suc k) e = cc

-- before any event
pub first_runs : (script : Script) (client_slots : List ClientSlot) (count : ℕ) → AreFresh count client_slots → (c : ℕ) → RunsNow script.catalog [] c (states_of client_slots c)
first_runs script client_slots count fresh c = subst (RunsNow script.catalog [] c) (sym (fresh_hand count client_slots fresh c)) (record { under = script.catalog; current = λ goes. tt; runs = record { ran = none; sees = tt; commits = no_commits script.catalog c } })
  where
    none : (n : ℕ) → RunsUnder script.catalog [] c (running_of [] c n [])
    none zero = (script.catalog, tt, none_run script.catalog [] c)
    none (suc n) = (script.catalog, tt, none_run script.catalog [] c)

module _ (script : Script) (events : List Event) (playable : IsPlayable script) (x : IsExecution script events) where
  abbrev pub w : WorldAt
  w = record { script = script; client_slots = x.last.client_slots; flights = x.last.flights; events = events; clock = x.last.clock }

  pub all_run : AllRun w
  all_run =
      path_runs events (record { script = script; client_slots = x.first.client_slots; flights = x.first.flights; events = []; clock = x.first.clock }) x.last x.path (first_holds script x.first playable x.initial) (λ c s has. none_in s has)
      (first_runs script x.first.client_slots (length script.clients) x.initial.fresh)

  -- Each of its transactions runs on what it has found.
  pub execution_runs : RunsOnFound script.catalog events
  execution_runs id = subst (RunsUnder script.catalog events (client_of id)) same ((all_run (client_of id)).runs.ran (ordinal_of id))
    where
      k : Knows script.catalog events (client_of id) (states_of x.last.client_slots (client_of id)).client
      k = (execution_holds script events playable x).caused.each (client_of id)

      by : (o : Option Executed) → IfSome o (IsWaiting script.catalog events (client_of id) (is_some (states_of x.last.client_slots (client_of id)).client.vacuum)) → running_of events (client_of id) (ordinal_of id) k.entries ≡ running_of events (client_of id) (ordinal_of id) (k.entries ++ waiting_of o)
      by None h = ap (running_of events (client_of id) (ordinal_of id)) (sym (append-nil k.entries))
      by (Some y) h = sym (running_waits events (client_of id) (ordinal_of id) k.entries y h.unanswered)

      same : running_of events (client_of id) (ordinal_of id) (answered_of (client_of id) events) ≡ answered_inside events id
      same = ap (running_of events (client_of id) (ordinal_of id)) (answered_of_is script.catalog events (client_of id) (states_of x.last.client_slots (client_of id)).client k) ∙ by k.waiting k.waits ∙ ap (running_of events (client_of id) (ordinal_of id)) (sym k.same)
