-- Each call of an execution is one of a statement of its client.
use Rattle.std.proofs.Common.{◌≡◌, ◌⊎◌, inl, inr, ◌+◌, ℕ, suc, List, [], ◌∷◌, ◌++◌, length, Option, Some, None, refl, sym, ap, subst, ◌∙◌, append_assoc}
use Rattle.std.specs.Prelude.{Contains, is_some}
use Rattle.std.proofs.lemmas.List.{append-nil}
use Rattle.std.proofs.lemmas.List.Elements.{Contains-append_left, Contains-push, Contains-push_cases}
use Rattle.law_runs.specs.Types.{Answer, Event, How, Reply, Request, Script, Table}
use Rattle.sdb_types.proofs.Public.{some_is}
use Rattle.sdb_model.specs.declared.event.Event.TheVariants as event
use Rattle.sdb_model.specs.Calls.{StoreCall, calls_by, calls_of, made_by}
use Rattle.sdb_model.specs.Rows.{Name}
use Rattle.sdb_model.specs.Transactions.{Executed, statements_by}
use Rattle.sdb_client.specs.Client.{ClientAt}
use Rattle.law_clients.specs.History.{executed_of_take, waiting_of}
use Rattle.law_clients.proofs.Public.{others_silent, executed_more, take_executed}
use Rattle.law_answers.specs.Invariant.{IsAnswered, IsWaiting, Knows}
use Rattle.law_answers.proofs.Public.{call_executed, calls_stay, calls_wait, made_at, none_made, one_made, own_made, silent_executed}
use Rattle.sdb_client.specs.Execution.{CallStep, IsExecution, IsPath, IsPlayable, IsStepFrom, State}
use Rattle.law_runs.specs.Laws.{CallsAreOfStatements, IsOfStatement}
use Rattle.law_runs.specs.World.{WorldAt, states_of, state_of}
use Rattle.law_runs.proofs.Kept.{by_nat}
use Rattle.law_runs.proofs.Replies.{pends_waits}
use Rattle.law_runs.proofs.Statements.{apart_made, at_hand, calls_more, known, none_in, replied_said, waits_of}
use Rattle.law_runs.proofs.Steps.{Holds, first_holds, led, step_holds}

-- A statement's calls stay with an event that is no call of its client, and so does what is so of them.
keeps : (catalog : List Table) (events : List Event) (e : Event) (c : ℕ) (h : ClientAt) (m : StoreCall) → Knows catalog events c h → made_by c (1 + length events, e) ≡ None → ((s : Executed) → Contains (statements_by c events) s → Contains (statements_by c (events ++ e ∷ [])) s) → (Contains (calls_by events c) m → IsOfStatement events c m) → Contains (calls_by (events ++ e ∷ []) c) m → IsOfStatement (events ++ e ∷ []) c m
keeps catalog events e c h m k none still so has = on (so (subst (λ (ms : List StoreCall). Contains ms m) (none_made c events e none) has))
  where
    on : IsOfStatement events c m → IsOfStatement (events ++ e ∷ []) c m
    on x = record { statement = x.statement; among = still x.statement x.among; call = subst (λ (ms : List StoreCall). Contains ms m) (sym (same (known catalog events c h k x.statement x.among))) x.call }
      where
        same : IsAnswered catalog events c x.statement ⊎ (k.waiting ≡ Some x.statement) → calls_of (events ++ e ∷ []) c x.statement ≡ calls_of events c x.statement
        same (inl y) = calls_stay c events e x.statement y.given y.is y.answered
        same (inr waiting) = calls_wait catalog c events e x.statement none (waits_of catalog events c h k x.statement waiting).unanswered

-- a call of its client
module _ (catalog : List Table) (events : List Event) (c : ℕ) (h : ClientAt) (store : Name) (q : Request) (how : How) (r : Reply) (a : Option Answer) (k : Knows catalog events c h) (x : Executed) (waiting : k.waiting ≡ Some x) where
  abbrev E : List Event
  E = events ++ event.Call c store q how r a ∷ []

  waits : IsWaiting catalog events c (is_some h.vacuum) x
  waits = waits_of catalog events c h k x waiting

  answered : statements_by c events ≡ k.entries ++ x ∷ []
  answered = k.same ∙ ap (λ (o : Option Executed). k.entries ++ waiting_of o) waiting

  -- with the call, what it has said
  says : (b : Option Answer) → statements_by c (events ++ event.Call c store q how r b ∷ []) ≡ k.entries ++ replied_said events x b ∷ []
  says None = silent_executed c events store q how r ∙ answered
  says (Some b) = call_executed c events (made_at events store q how r) b k.entries x answered

  of_waiting : (m : StoreCall) → Contains (calls_of events c x ++ made_at events store q how r ∷ []) m → IsOfStatement E c m
  of_waiting m has = record {
    statement = replied_said events x a;
    among = subst (λ (ss : List Executed). Contains ss (replied_said events x a)) (sym (says a)) (Contains-push k.entries (replied_said events x a));
    call = subst (λ (ms : List StoreCall). Contains ms m) (sym (calls_more events c store q how r x waits.unanswered waits.accepted a)) has;
  }

  old : (m : StoreCall) → IsOfStatement events c m → IsOfStatement E c m
  old m y = by (Contains-push_cases k.entries x y.statement (subst (λ (ss : List Executed). Contains ss y.statement) answered y.among)) (known catalog events c h k y.statement y.among)
    where
      the_one : x ≡ y.statement → IsOfStatement E c m
      the_one same = of_waiting m (Contains-append_left (calls_of events c x) (made_at events store q how r ∷ []) m (subst (λ (s : Executed). Contains (calls_of events c s) m) (sym same) y.call))

      by : Contains k.entries y.statement ⊎ (x ≡ y.statement) → IsAnswered catalog events c y.statement ⊎ (k.waiting ≡ Some y.statement) → IsOfStatement E c m
      by (inr same) z = the_one same
      by (inl t) (inr e) = the_one (some_is x y.statement (sym waiting ∙ e))
      by (inl t) (inl z) = record {
        statement = y.statement;
        among = subst (λ (ss : List Executed). Contains ss y.statement) (sym (says a)) (Contains-append_left k.entries (replied_said events x a ∷ []) y.statement t);
        call = subst (λ (ms : List StoreCall). Contains ms m) (sym (calls_stay c events (event.Call c store q how r a) y.statement z.given z.is z.answered)) y.call;
      }

  calls : (m : StoreCall) → (Contains (calls_by events c) m → IsOfStatement events c m) → Contains (calls_by E c) m → IsOfStatement E c m
  calls m so has = by (Contains-push_cases (calls_by events c) (made_at events store q how r) m (subst (λ (ms : List StoreCall). Contains ms m) (one_made c events (event.Call c store q how r a) (made_at events store q how r) (own_made c events store q how r a)) has))
    where
      by : Contains (calls_by events c) m ⊎ (made_at events store q how r ≡ m) → IsOfStatement E c m
      by (inl k) = old m (so k)
      by (inr same) = of_waiting m (subst (Contains (calls_of events c x ++ made_at events store q how r ∷ [])) same (Contains-push (calls_of events c x) (made_at events store q how r)))

---- each step

module _ (w : WorldAt) (h : Holds w) (so : CallsAreOfStatements w.events) where
  -- an event of another client, or of none
  others : (e : Event) (c : ℕ) (m : StoreCall) → made_by c (1 + length w.events, e) ≡ None → statements_by c (w.events ++ e ∷ []) ≡ statements_by c w.events → Contains (calls_by (w.events ++ e ∷ []) c) m → IsOfStatement (w.events ++ e ∷ []) c m
  others e c m none says has = keeps w.script.catalog w.events e c (states_of w.client_slots c).client m (h.caused.each c) none (λ s t. subst (λ (ss : List Executed). Contains ss s) (sym says) t) (so c m) has

  of_call : (c : ℕ) (store : Name) (q : Request) (how : How) (r : Reply) (a : Option Answer) (u : State) → CallStep (state_of w) c q how r a u → (m : StoreCall) → Contains (calls_by (w.events ++ event.Call c store q how r a ∷ []) c) m → IsOfStatement (w.events ++ event.Call c store q how r a ∷ []) c m
  of_call c store q how r a u t m =
      subst (λ (n : ℕ). Contains (calls_by (w.events ++ event.Call n store q how r a ∷ []) n) m → IsOfStatement (w.events ++ event.Call n store q how r a ∷ []) n m) (sym t.number)
      (let k : Knows w.script.catalog w.events (suc t.place) t.client_slot.client = at_hand (Knows w.script.catalog w.events (suc t.place)) w.client_slots t.place t.client_slot t.at (h.caused.each (suc t.place)) in
      let x = pends_waits w.script.catalog w.events (suc t.place) t.client_slot.client q k t.pending in
      calls w.script.catalog w.events (suc t.place) t.client_slot.client store q how r a k x.0 x.1 m (so (suc t.place) m))

  step_of : (e : Event) (u : State) → IsStepFrom w.script w.events (state_of w) e u → CallsAreOfStatements (w.events ++ e ∷ [])
  step_of (event.Take c text a) u t d m has = by_nat c d
      (λ same. keeps w.script.catalog w.events (event.Take c text a) d (states_of w.client_slots d).client m (h.caused.each d) refl
      (λ s k. subst (λ (n : ℕ). Contains (statements_by n (w.events ++ event.Take c text a ∷ [])) s) same (subst (λ (ss : List Executed). Contains ss s) (sym (take_executed c w.events text a)) (Contains-append_left (statements_by c w.events) (executed_of_take w.events text a ∷ []) s (subst (λ (n : ℕ). Contains (statements_by n w.events) s) (sym same) k)))) (so d m) has)
      (λ apart. others (event.Take c text a) d m refl (others_silent w.events d c (event.Take c text a) apart refl) has)
  step_of (event.Call c store q how r a) u t d m has = by_nat c d
      (λ same. subst (λ (n : ℕ). IsOfStatement (w.events ++ event.Call c store q how r a ∷ []) n m) same (of_call c store q how r a u t m (subst (λ (n : ℕ). Contains (calls_by (w.events ++ event.Call c store q how r a ∷ []) n) m) (sym same) has)))
      (λ apart. others (event.Call c store q how r a) d m (apart_made d c (1 + length w.events) store q how r a apart) (others_silent w.events d c (event.Call c store q how r a) apart refl) has)
  step_of (event.Stop c) u t d m has = others (event.Stop c) d m refl (executed_more d w.events (event.Stop c)) has
  step_of (event.Clock n) u t d m has = others (event.Clock n) d m refl (executed_more d w.events (event.Clock n)) has
  step_of (event.Idle c) u t d m has = others (event.Idle c) d m refl (executed_more d w.events (event.Idle c)) has
  step_of (event.Alter table column kind altered) u t d m has = others (event.Alter table column kind altered) d m refl (executed_more d w.events (event.Alter table column kind altered)) has
  step_of (event.Land n store q how r) u t d m has = others (event.Land n store q how r) d m refl (executed_more d w.events (event.Land n store q how r)) has

path_of : (es : List Event) (w : WorldAt) (t : State) → IsPath w.script w.events (state_of w) es t → Holds w → CallsAreOfStatements w.events → CallsAreOfStatements (w.events ++ es)
path_of [] w t h k so = subst CallsAreOfStatements (sym (append-nil w.events)) so
path_of (e ∷ es) w t h k so = subst CallsAreOfStatements (append_assoc w.events (e ∷ []) es) (path_of es (led w e h.0) t h.2 (step_holds w e h.0 h.1 k) (step_of w k so e h.0 h.1))

pub execution_belongs : (script : Script) (events : List Event) → IsPlayable script → IsExecution script events → CallsAreOfStatements events
execution_belongs script events playable x = path_of events (record { script = script; client_slots = x.first.client_slots; flights = x.first.flights; events = []; clock = x.first.clock }) x.last x.path (first_holds script x.first playable x.initial) (λ c m has. none_in m has)
