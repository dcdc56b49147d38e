-- What is so of each statement of a client, after each step of an execution.
use Rattle.std.proofs.Common.{◌≡◌, ◌⊎◌, inl, inr, ◌<◌, ◌≤◌, ℕ, ℤ, zero, suc, ◌+◌, false, List, [], ◌∷◌, ◌++◌, length, Option, Some, None, IfSome, refl, sym, ap, subst, ◌∙◌, arith, append_assoc}
use Rattle.std.specs.Prelude.{Contains, is_some, slice_get, slice_set}
use Rattle.std.proofs.lemmas.Bool.{ne_eqb}
use Rattle.std.proofs.lemmas.List.{append-nil}
use Rattle.std.proofs.lemmas.List.Elements.{Contains-append_cases, Contains-append_left, Contains-push, Contains-push_cases}
use Rattle.law_runs.specs.Types.{Answer, ClientSlot, Event, How, Reply, Request, Script, Table, TxId}
use Rattle.sdb_types.proofs.Public.{length_more, none_some, some_is}
use Rattle.sdb_model.specs.declared.event.Event.TheVariants as event
use Rattle.sdb_model.specs.Calls.{StoreCall, calls_of, clock_at, made_by}
use Rattle.sdb_model.specs.Causes.{IsCommitOf}
use Rattle.sdb_model.specs.Rows.{Name}
use Rattle.sdb_model.specs.Transactions.{Executed, statements_by}
use Rattle.sdb_client.specs.Client.{ClientAt}
use Rattle.law_clients.specs.States.{ClientState}
use Rattle.law_clients.specs.History.{executed_with_answer, executed_of_take, waiting_of}
use Rattle.law_clients.proofs.Public.{others_silent, executed_more, take_executed}
use Rattle.law_answers.specs.Invariant.{IsAnswered, IsCurrent, IsWaiting, Knows}
use Rattle.law_answers.proofs.Public.{call_executed, calls_open, calls_stay, calls_wait, clock_same, commit_stays, each_in, end_answered, end_waiting, Grows, later_calls, later_more, made_at, own_made, silent_executed}
use Rattle.sdb_client.specs.Execution.{CallStep, IsExecution, IsPath, IsPlayable, IsStepFrom, State, TakeStep, client_after, client_stopped, flights_after}
use Rattle.law_runs.specs.World.{WorldAt, state_in, states_of, state_of, with_event, with_client}
use Rattle.law_runs.specs.Linked.{HaveCauses}
use Rattle.law_runs.proofs.Kept.{by_nat}
use Rattle.law_runs.proofs.Linked.{on_hand}
use Rattle.law_runs.proofs.Replies.{idle_rests, pends_waits}
use Rattle.law_runs.proofs.Slots.{set_here, set_other}
use Rattle.law_runs.proofs.Steps.{Holds, at_place, first_holds, led, step_holds}

-- a statement without an answer, and with the answer that a reply gives it
abbrev pub replied_said : List Event → Executed → Option Answer → Executed
replied_said events x None = x
replied_said events x (Some b) = executed_with_answer events x b

-- A statement that was answered before an event.
pub record IsPast (events : List Event) (e : Event) (c : ℕ) (s : Executed) : Type 0 where
  pub given : Answer
  pub is : s.answer ≡ Some given
  pub accepted : s.accepted ≤ length events
  pub answered : s.reached ≤ length events
  pub calls : calls_of (events ++ e ∷ []) c s ≡ calls_of events c s
  pub clock : clock_at (events ++ e ∷ []) s.accepted ≡ clock_at events s.accepted
  pub commit : (id : TxId) → IsCommitOf events c s id → IsCommitOf (events ++ e ∷ []) c s id

-- A statement that waits for its answer, at an event of others.
pub record IsStill (events : List Event) (e : Event) (c : ℕ) (s : Executed) : Type 0 where
  pub unanswered : s.answer ≡ None
  pub accepted : s.accepted ≤ length events
  pub calls : calls_of (events ++ e ∷ []) c s ≡ calls_of events c s
  pub clock : clock_at (events ++ e ∷ []) s.accepted ≡ clock_at events s.accepted

-- one is so of a statement that was answered, another of one that waits while its client is so
abbrev pub SoBy : (List Event → ℕ → Executed → Type 0) → (List Event → ℕ → Executed → ClientAt → Type 0) → List Event → ℕ → Executed → ClientAt → Option Answer → Type 0
SoBy A W events c s h None = W events c s h
SoBy A W events c s h (Some b) = A events c s

-- over a catalog
abbrev pub SoOver : (List Table → List Event → ℕ → Executed → Type 0) → (List Table → List Event → ℕ → Executed → ClientAt → Type 0) → List Table → List Event → ℕ → Executed → ClientAt → Option Answer → Type 0
SoOver A W catalog events c s h a = SoBy (A catalog) (W catalog) events c s h a

abbrev pub AllSo : (List Table → List Event → ℕ → Executed → Type 0) → (List Table → List Event → ℕ → Executed → ClientAt → Type 0) → WorldAt → Type 0
AllSo A W w = (c : ℕ) (s : Executed) → Contains (statements_by c w.events) s → SoOver A W w.script.catalog w.events c s (states_of w.client_slots c).client s.answer

-- So it stays by each step.
pub record AreKept (A : List Table → List Event → ℕ → Executed → Type 0) (W : List Table → List Event → ℕ → Executed → ClientAt → Type 0) : Type 0 where
  pub answered : (catalog : List Table) (events : List Event) (e : Event) (c : ℕ) (s : Executed) → IsPast events e c s → A catalog events c s → A catalog (events ++ e ∷ []) c s
  pub waiting : (catalog : List Table) (events : List Event) (e : Event) (c : ℕ) (s : Executed) (h : ClientAt) → IsStill events e c s → W catalog events c s h → W catalog (events ++ e ∷ []) c s h
  pub takes : (w : WorldAt) (u : State) (c : ℕ) (text : List ℕ) (a : Option Answer) (t : TakeStep w.script w.events (state_of w) c text a u) → Holds w → SoOver A W w.script.catalog (w.events ++ event.Take c text a ∷ []) c (executed_of_take w.events text a) t.client a
  pub calls : (w : WorldAt) (u : State) (c : ℕ) (store : Name) (q : Request) (how : How) (r : Reply) (a : Option Answer) (t : CallStep (state_of w) c q how r a u) → Holds w → (k : Knows w.script.catalog w.events c t.client_slot.client) → IsCurrent w.script.catalog w.events t.client_slot.client.txn k.under → (x : Executed) → k.waiting ≡ Some x → IsWaiting w.script.catalog w.events c (is_some t.client_slot.client.vacuum) x → W w.script.catalog w.events c x t.client_slot.client
      → SoOver A W w.script.catalog (w.events ++ event.Call c store q how r a ∷ []) c (replied_said w.events x a) t.client a

---- what is known of a client's statements

pub none_in : {X G : Type 0} (x : X) → Contains [] x → G
none_in x h = absurd (let low : h.0 < 0 = h.1 in omega (arith, low))

in_waiting : (o : Option Executed) (s : Executed) → Contains (waiting_of o) s → o ≡ Some s
in_waiting None s h = none_in s h
in_waiting (Some w) s h = by (Contains-push_cases [] w s h)
  where
    by : Contains [] s ⊎ (w ≡ s) → Some w ≡ Some s
    by (inl k) = none_in s k
    by (inr e) = ap Some e

-- each was answered, or is the one that waits
pub known : (catalog : List Table) (events : List Event) (c : ℕ) (h : ClientAt) (k : Knows catalog events c h) (s : Executed) → Contains (statements_by c events) s → IsAnswered catalog events c s ⊎ (k.waiting ≡ Some s)
known catalog events c h k s has = by (Contains-append_cases k.entries (waiting_of k.waiting) s (subst (λ (ss : List Executed). Contains ss s) k.same has))
  where
    by : Contains k.entries s ⊎ Contains (waiting_of k.waiting) s → IsAnswered catalog events c s ⊎ (k.waiting ≡ Some s)
    by (inl t) = inl (each_in (IsAnswered catalog events c) k.entries s k.answered t)
    by (inr t) = inr (in_waiting k.waiting s t)

pub waits_of : (catalog : List Table) (events : List Event) (c : ℕ) (h : ClientAt) (k : Knows catalog events c h) (s : Executed) → k.waiting ≡ Some s → IsWaiting catalog events c (is_some h.vacuum) s
waits_of catalog events c h k s e = subst (λ (o : Option Executed). IfSome o (IsWaiting catalog events c (is_some h.vacuum))) e k.waits

past_of : (catalog : List Table) (events : List Event) (e : Event) (c : ℕ) (s : Executed) → Grows (statements_by c events) (statements_by c (events ++ e ∷ [])) → IsAnswered catalog events c s → IsPast events e c s
past_of catalog events e c s grows x = record {
  given = x.given;
  is = x.is;
  accepted = x.accepted;
  answered = x.answered;
  calls = calls_stay c events e s x.given x.is x.answered;
  clock = clock_same events e s.accepted x.accepted;
  commit = λ id h. commit_stays c events (events ++ e ∷ []) s x.given id grows x.is h;
}

---- the call of the statement that waits

module _ (events : List Event) (c : ℕ) (store : Name) (q : Request) (how : How) (r : Reply) (x : Executed) (unanswered : x.answer ≡ None) (accepted : x.accepted ≤ length events) where
  long : (a : Option Answer) → length (events ++ event.Call c store q how r a ∷ []) ≡ 1 + length events
  long a = length_more events (event.Call c store q how r a) ∙ one_plus (length events)
    where
      one_plus : (n : ℕ) → n + 1 ≡ 1 + n
      one_plus n = omega arith

  later : (a : Option Answer) → later_calls (events ++ event.Call c store q how r a ∷ []) c x.accepted ≡ calls_of events c x ++ made_at events store q how r ∷ []
  later a =
      later_more c events (event.Call c store q how r a) x.accepted (made_at events store q how r) accepted refl (own_made c events store q how r a)
      ∙ ap (λ (ms : List StoreCall). ms ++ made_at events store q how r ∷ []) (sym (calls_open c events x (end_waiting events x unanswered)))

  -- its calls are those before and this one
  pub calls_more : (a : Option Answer) → calls_of (events ++ event.Call c store q how r a ∷ []) c (replied_said events x a) ≡ calls_of events c x ++ made_at events store q how r ∷ []
  calls_more None = calls_open c (events ++ event.Call c store q how r None ∷ []) x (end_waiting (events ++ event.Call c store q how r None ∷ []) x unanswered) ∙ later None
  calls_more (Some b) =
      calls_open c (events ++ event.Call c store q how r (Some b) ∷ []) (executed_with_answer events x b) (end_answered (events ++ event.Call c store q how r (Some b) ∷ []) (executed_with_answer events x b) b refl ∙ sym (long (Some b)))
      ∙ later (Some b)

---- one step

module _ (A : List Table → List Event → ℕ → Executed → Type 0) (W : List Table → List Event → ℕ → Executed → ClientAt → Type 0) (kept : AreKept A W) where
  -- one that was answered, whatever its client then is
  old_one : (catalog : List Table) (events : List Event) (e : Event) (c : ℕ) (h d : ClientAt) (s : Executed) → Grows (statements_by c events) (statements_by c (events ++ e ∷ [])) → IsAnswered catalog events c s → SoOver A W catalog events c s h s.answer → SoOver A W catalog (events ++ e ∷ []) c s d s.answer
  old_one catalog events e c h d s grows x so =
      subst (λ (o : Option Answer). SoOver A W catalog (events ++ e ∷ []) c s d o) (sym x.is)
      (kept.answered catalog events e c s (past_of catalog events e c s grows x) (subst (λ (o : Option Answer). SoOver A W catalog events c s h o) x.is so))

  -- the event is of another client, or of none
  others : (catalog : List Table) (events : List Event) (e : Event) (c : ℕ) (h : ClientAt) → Knows catalog events c h → statements_by c (events ++ e ∷ []) ≡ statements_by c events → made_by c (1 + length events, e) ≡ None → ((s : Executed) → Contains (statements_by c events) s → SoOver A W catalog events c s h s.answer)
      → (s : Executed) → Contains (statements_by c (events ++ e ∷ [])) s → SoOver A W catalog (events ++ e ∷ []) c s h s.answer
  others catalog events e c h k says none so s has = by (known catalog events c h k s before)
    where
      before : Contains (statements_by c events) s
      before = subst (λ (ss : List Executed). Contains ss s) says has

      by : IsAnswered catalog events c s ⊎ (k.waiting ≡ Some s) → SoOver A W catalog (events ++ e ∷ []) c s h s.answer
      by (inl x) = old_one catalog events e c h h s (inl says) x (so s before)
      by (inr waiting) =
          let x : IsWaiting catalog events c (is_some h.vacuum) s = waits_of catalog events c h k s waiting in
          subst (λ (o : Option Answer). SoOver A W catalog (events ++ e ∷ []) c s h o) (sym x.unanswered)
          (kept.waiting catalog events e c s h (record { unanswered = x.unanswered; accepted = x.accepted; calls = calls_wait catalog c events e s none x.unanswered; clock = clock_same events e s.accepted x.accepted }) (subst (λ (o : Option Answer). SoOver A W catalog events c s h o) x.unanswered (so s before)))

  -- its client takes a statement
  own_take : (catalog : List Table) (events : List Event) (c : ℕ) (h d : ClientAt) (text : List ℕ) (a : Option Answer) (k : Knows catalog events c h) → k.waiting ≡ None → ((s : Executed) → Contains (statements_by c events) s → SoOver A W catalog events c s h s.answer) → SoOver A W catalog (events ++ event.Take c text a ∷ []) c (executed_of_take events text a) d a
      → (s : Executed) → Contains (statements_by c (events ++ event.Take c text a ∷ [])) s → SoOver A W catalog (events ++ event.Take c text a ∷ []) c s d s.answer
  own_take catalog events c h d text a k rests so now s has = by (Contains-push_cases (statements_by c events) (executed_of_take events text a) s (subst (λ (ss : List Executed). Contains ss s) (take_executed c events text a) has))
    where
      E : Event
      E = event.Take c text a

      old : Contains (statements_by c events) s → IsAnswered catalog events c s ⊎ (k.waiting ≡ Some s) → SoOver A W catalog (events ++ E ∷ []) c s d s.answer
      old before (inl x) = old_one catalog events E c h d s (inr (inl (executed_of_take events text a, take_executed c events text a))) x (so s before)
      old before (inr waiting) = none_some s (sym rests ∙ waiting)

      by : Contains (statements_by c events) s ⊎ (executed_of_take events text a ≡ s) → SoOver A W catalog (events ++ E ∷ []) c s d s.answer
      by (inl before) = old before (known catalog events c h k s before)
      by (inr same) = subst (λ (x : Executed). SoOver A W catalog (events ++ E ∷ []) c x d x.answer) same now

  -- its client makes a call
  own_call : (catalog : List Table) (events : List Event) (c : ℕ) (h d : ClientAt) (store : Name) (q : Request) (how : How) (r : Reply) (a : Option Answer) (k : Knows catalog events c h) (x : Executed) → k.waiting ≡ Some x → IsWaiting catalog events c (is_some h.vacuum) x → ((s : Executed) → Contains (statements_by c events) s → SoOver A W catalog events c s h s.answer)
      → SoOver A W catalog (events ++ event.Call c store q how r a ∷ []) c (replied_said events x a) d a → (s : Executed) → Contains (statements_by c (events ++ event.Call c store q how r a ∷ [])) s → SoOver A W catalog (events ++ event.Call c store q how r a ∷ []) c s d s.answer
  own_call catalog events c h d store q how r None k x waiting waits so now s has = by (known catalog events c h k s before)
    where
      says : statements_by c (events ++ event.Call c store q how r None ∷ []) ≡ statements_by c events
      says = silent_executed c events store q how r

      before : Contains (statements_by c events) s
      before = subst (λ (ss : List Executed). Contains ss s) says has

      by : IsAnswered catalog events c s ⊎ (k.waiting ≡ Some s) → SoOver A W catalog (events ++ event.Call c store q how r None ∷ []) c s d s.answer
      by (inl y) = old_one catalog events (event.Call c store q how r None) c h d s (inl says) y (so s before)
      by (inr e) =
          let same : x ≡ s = some_is x s (sym waiting ∙ e) in
          subst (λ (y : Executed). SoOver A W catalog (events ++ event.Call c store q how r None ∷ []) c y d y.answer) same
          (subst (λ (o : Option Answer). SoOver A W catalog (events ++ event.Call c store q how r None ∷ []) c x d o) (sym waits.unanswered) now)
  own_call catalog events c h d store q how r (Some b) k x waiting waits so now s has = by (Contains-push_cases k.entries (executed_with_answer events x b) s (subst (λ (ss : List Executed). Contains ss s) says has))
    where
      answered : statements_by c events ≡ k.entries ++ x ∷ []
      answered = k.same ∙ ap (λ (o : Option Executed). k.entries ++ waiting_of o) waiting

      says : statements_by c (events ++ event.Call c store q how r (Some b) ∷ []) ≡ k.entries ++ executed_with_answer events x b ∷ []
      says = call_executed c events (made_at events store q how r) b k.entries x answered

      by : Contains k.entries s ⊎ (executed_with_answer events x b ≡ s) → SoOver A W catalog (events ++ event.Call c store q how r (Some b) ∷ []) c s d s.answer
      by (inl t) =
          old_one catalog events (event.Call c store q how r (Some b)) c h d s (inr (inr (k.entries, x, executed_with_answer events x b, answered, waits.unanswered, says))) (each_in (IsAnswered catalog events c) k.entries s k.answered t)
          (so s (subst (λ (ss : List Executed). Contains ss s) (sym answered) (Contains-append_left k.entries (x ∷ []) s t)))
      by (inr same) = subst (λ (y : Executed). SoOver A W catalog (events ++ event.Call c store q how r (Some b) ∷ []) c y d y.answer) same now

---- the clients by their numbers

-- where one client is elsewhere another is as it was
other_hand : (client_slots : List ClientSlot) (i : ℕ) (t : ClientSlot) (c : ℕ) → (suc i ≡ c → ⊥) → states_of (slice_set client_slots i t) c ≡ states_of client_slots c
other_hand client_slots i t zero n = refl
other_hand client_slots i t (suc j) n = ap (λ (o : Option ClientSlot). state_in o (suc j)) (set_other client_slots i j t (λ e. n (ap suc (sym e))))

-- a client is answered of as it was read
pub at_hand : (P : ClientAt → Type 0) (client_slots : List ClientSlot) (i : ℕ) (s : ClientSlot) → slice_get client_slots i ≡ Some s → P (states_of client_slots (suc i)).client → P s.client
at_hand P client_slots i s here p = subst (λ (o : Option ClientSlot). P (state_in o (suc i)).client) here p

to_hand : (P : ClientAt → Type 0) (client_slots : List ClientSlot) (i : ℕ) (s : ClientSlot) → slice_get client_slots i ≡ Some s → P s.client → P (states_of client_slots (suc i)).client
to_hand P client_slots i s here p = subst (λ (o : Option ClientSlot). P (state_in o (suc i)).client) (sym here) p

-- what is known of a client that goes on, whose open transaction runs under the catalog of the moment
pub runs_at : (w : WorldAt) (i : ℕ) (s : ClientSlot) → slice_get w.client_slots i ≡ Some s → s.stopped ≡ false → HaveCauses w → (k : Knows w.script.catalog w.events (suc i) s.client) × IsCurrent w.script.catalog w.events s.client.txn k.under
runs_at w i s here goes h =
    at_hand (λ (d : ClientAt). (k : Knows w.script.catalog w.events (suc i) d) × IsCurrent w.script.catalog w.events d.txn k.under) w.client_slots i s here
    (h.each (suc i), h.current (suc i) (on_hand (λ (x : ClientState). x.stopped ≡ false) w.client_slots i s here goes))

---- each step

-- a call of another client is none of this one
pub apart_made : (c d n : ℕ) (store : Name) (q : Request) (how : How) (r : Reply) (a : Option Answer) → (d ≡ c → ⊥) → made_by c (n, event.Call d store q how r a) ≡ None
apart_made c d n store q how r a apart = rw (ne_eqb d c apart) refl

module _ (A : List Table → List Event → ℕ → Executed → Type 0) (W : List Table → List Event → ℕ → Executed → ClientAt → Type 0) (kept : AreKept A W) where
  -- one client moves by an event of its own, and the others are as they were
  moves_so : (w : WorldAt) (i : ℕ) (s t : ClientSlot) (e : Event) → slice_get w.client_slots i ≡ Some s → Holds w → AllSo A W w → ((c : ℕ) → (suc i ≡ c → ⊥) → statements_by c (w.events ++ e ∷ []) ≡ statements_by c w.events) → ((c : ℕ) → (suc i ≡ c → ⊥) → made_by c (1 + length w.events, e) ≡ None)
      → ((x : Executed) → Contains (statements_by (suc i) (w.events ++ e ∷ [])) x → SoOver A W w.script.catalog (w.events ++ e ∷ []) (suc i) x t.client x.answer) → AllSo A W (with_event (with_client w i t) e)
  moves_so w i s t e here h so says makes own c x has = by_nat (suc i) c
      (λ same. subst (λ (n : ℕ). Contains (statements_by n (w.events ++ e ∷ [])) x → SoOver A W w.script.catalog (w.events ++ e ∷ []) n x (states_of (slice_set w.client_slots i t) n).client x.answer) same
      (λ there. to_hand (λ (d : ClientAt). SoOver A W w.script.catalog (w.events ++ e ∷ []) (suc i) x d x.answer) (slice_set w.client_slots i t) i t (set_here w.client_slots i s t here) (own x there)) has)
      (λ apart. subst (λ (d : ClientAt). SoOver A W w.script.catalog (w.events ++ e ∷ []) c x d x.answer) (sym (ap (λ (y : ClientState). y.client) (other_hand w.client_slots i t c apart)))
      (others A W kept w.script.catalog w.events e c (states_of w.client_slots c).client (h.caused.each c) (says c apart) (makes c apart) (so c) x has))

  -- no client moves
  rests_so : (w : WorldAt) (client_slots : List ClientSlot) (fs : List (Option Request)) (now : ℤ) (e : Event) → client_slots ≡ w.client_slots → Holds w → AllSo A W w → ((c : ℕ) → statements_by c (w.events ++ e ∷ []) ≡ statements_by c w.events) → ((c : ℕ) → made_by c (1 + length w.events, e) ≡ None) → AllSo A W (record { script = w.script; client_slots = client_slots; flights = fs; events = w.events ++ e ∷ []; clock = now })
  rests_so w client_slots fs now e same h so says makes =
      subst (λ (ss : List ClientSlot). (c : ℕ) (x : Executed) → Contains (statements_by c (w.events ++ e ∷ [])) x → SoOver A W w.script.catalog (w.events ++ e ∷ []) c x (states_of ss c).client x.answer) (sym same)
      (λ c x has. others A W kept w.script.catalog w.events e c (states_of w.client_slots c).client (h.caused.each c) (says c) (makes c) (so c) x has)

  pub step_so : (w : WorldAt) (e : Event) (u : State) → IsStepFrom w.script w.events (state_of w) e u → Holds w → AllSo A W w → AllSo A W (led w e u)
  step_so w (event.Take c text a) u t h so =
      let i : ℕ = t.place in
      let k : Knows w.script.catalog w.events (suc i) t.client_slot.client = at_hand (Knows w.script.catalog w.events (suc i)) w.client_slots i t.client_slot t.at (h.caused.each (suc i)) in
      at_place (AllSo A W) w (λ n. event.Take n text a) c i (client_after t.client_slot 1 t.client) w.flights u t.number t.left
      (moves_so w i t.client_slot (client_after t.client_slot 1 t.client) (event.Take (suc i) text a) t.at h so
      (λ n apart. others_silent w.events n (suc i) (event.Take (suc i) text a) apart refl) (λ n apart. refl)
      (own_take A W kept w.script.catalog w.events (suc i) t.client_slot.client t.client text a k (idle_rests w.script.catalog w.events (suc i) t.client_slot.client k t.idle)
      (λ x has. at_hand (λ (d : ClientAt). SoOver A W w.script.catalog w.events (suc i) x d x.answer) w.client_slots i t.client_slot t.at (so (suc i) x has))
      (subst (λ (n : ℕ). SoOver A W w.script.catalog (w.events ++ event.Take n text a ∷ []) n (executed_of_take w.events text a) t.client a) t.number (kept.takes w u c text a t h))))
  step_so w (event.Call c store q how r a) u t h so =
      let i : ℕ = t.place in
      let held = runs_at w i t.client_slot t.at t.goes_on h.caused in
      let k : Knows w.script.catalog w.events (suc i) t.client_slot.client = held.0 in
      let x = pends_waits w.script.catalog w.events (suc i) t.client_slot.client q k t.pending in
      let waits = waits_of w.script.catalog w.events (suc i) t.client_slot.client k x.0 x.1 in
      let here : (y : Executed) → Contains (statements_by (suc i) w.events) y → SoOver A W w.script.catalog w.events (suc i) y t.client_slot.client y.answer = λ y has. at_hand (λ (d : ClientAt). SoOver A W w.script.catalog w.events (suc i) y d y.answer) w.client_slots i t.client_slot t.at (so (suc i) y has) in
      at_place (AllSo A W) w (λ n. event.Call n store q how r a) c i (client_after t.client_slot 0 t.client) (flights_after w.flights how q) u t.number t.left
      (moves_so w i t.client_slot (client_after t.client_slot 0 t.client) (event.Call (suc i) store q how r a) t.at h so
      (λ n apart. others_silent w.events n (suc i) (event.Call (suc i) store q how r a) apart refl) (λ n apart. apart_made n (suc i) (1 + length w.events) store q how r a apart)
      (own_call A W kept w.script.catalog w.events (suc i) t.client_slot.client t.client store q how r a k x.0 x.1 waits here (at_number w u c store q how r a t h i t.number k held.1 x.0 x.1 waits (waiting_so i k x.0 x.1 waits here))))
    where
      waiting_so : (i : ℕ) (k : Knows w.script.catalog w.events (suc i) t.client_slot.client) (x : Executed) → k.waiting ≡ Some x → IsWaiting w.script.catalog w.events (suc i) (is_some t.client_slot.client.vacuum) x → ((y : Executed) → Contains (statements_by (suc i) w.events) y → SoOver A W w.script.catalog w.events (suc i) y t.client_slot.client y.answer) → W w.script.catalog w.events (suc i) x t.client_slot.client
      waiting_so i k x waiting waits here =
          subst (λ (o : Option Answer). SoOver A W w.script.catalog w.events (suc i) x t.client_slot.client o) waits.unanswered
          (here x (subst (λ (ss : List Executed). Contains ss x) (sym (k.same ∙ ap (λ (o : Option Executed). k.entries ++ waiting_of o) waiting)) (Contains-push k.entries x)))

      at_number : (w : WorldAt) (u : State) (c : ℕ) (store : Name) (q : Request) (how : How) (r : Reply) (a : Option Answer) (t : CallStep (state_of w) c q how r a u) → Holds w → (i : ℕ) → c ≡ suc i → (k : Knows w.script.catalog w.events (suc i) t.client_slot.client) → IsCurrent w.script.catalog w.events t.client_slot.client.txn k.under → (x : Executed) → k.waiting ≡ Some x → IsWaiting w.script.catalog w.events (suc i) (is_some t.client_slot.client.vacuum) x → W w.script.catalog w.events (suc i) x t.client_slot.client
          → SoOver A W w.script.catalog (w.events ++ event.Call (suc i) store q how r a ∷ []) (suc i) (replied_said w.events x a) t.client a
      at_number w u c store q how r a t h i number =
          subst (λ (n : ℕ). (k : Knows w.script.catalog w.events n t.client_slot.client) → IsCurrent w.script.catalog w.events t.client_slot.client.txn k.under → (x : Executed) → k.waiting ≡ Some x → IsWaiting w.script.catalog w.events n (is_some t.client_slot.client.vacuum) x → W w.script.catalog w.events n x t.client_slot.client → SoOver A W w.script.catalog (w.events ++ event.Call n store q how r a ∷ []) n (replied_said w.events x a) t.client a) number
          (λ k runs x waiting waits so. kept.calls w u c store q how r a t h k runs x waiting waits so)
  step_so w (event.Stop c) u t h so =
      at_place (AllSo A W) w (λ n. event.Stop n) c t.place (client_stopped t.client_slot) w.flights u t.number t.left
      (moves_so w t.place t.client_slot (client_stopped t.client_slot) (event.Stop (suc t.place)) t.at h so (λ n apart. executed_more n w.events (event.Stop (suc t.place))) (λ n apart. refl)
      (others A W kept w.script.catalog w.events (event.Stop (suc t.place)) (suc t.place) t.client_slot.client (at_hand (Knows w.script.catalog w.events (suc t.place)) w.client_slots t.place t.client_slot t.at (h.caused.each (suc t.place))) (executed_more (suc t.place) w.events (event.Stop (suc t.place))) refl
      (λ x has. at_hand (λ (d : ClientAt). SoOver A W w.script.catalog w.events (suc t.place) x d x.answer) w.client_slots t.place t.client_slot t.at (so (suc t.place) x has))))
  step_so w (event.Clock m) u t h so = rests_so w u.client_slots u.flights u.clock (event.Clock m) (ap (λ (x : State). x.client_slots) t.1) h so (λ c. executed_more c w.events (event.Clock m)) (λ c. refl)
  step_so w (event.Idle d) u t h so = rests_so w u.client_slots u.flights u.clock (event.Idle d) (ap (λ (x : State). x.client_slots) t) h so (λ c. executed_more c w.events (event.Idle d)) (λ c. refl)
  step_so w (event.Alter table column kind altered) u t h so = rests_so w u.client_slots u.flights u.clock (event.Alter table column kind altered) (ap (λ (x : State). x.client_slots) t.1) h so (λ c. executed_more c w.events (event.Alter table column kind altered)) (λ c. refl)
  step_so w (event.Land n store q how r) u t h so = rests_so w u.client_slots u.flights u.clock (event.Land n store q how r) (ap (λ (x : State). x.client_slots) t.left) h so (λ c. executed_more c w.events (event.Land n store q how r)) (λ c. refl)

  path_so : (es : List Event) (w : WorldAt) (t : State) → IsPath w.script w.events (state_of w) es t → Holds w → AllSo A W w → AllSo A W (record { script = w.script; client_slots = t.client_slots; flights = t.flights; events = w.events ++ es; clock = t.clock })
  path_so [] w t h k so =
      subst (λ (x : State). AllSo A W (record { script = w.script; client_slots = x.client_slots; flights = x.flights; events = w.events ++ []; clock = x.clock })) (sym h)
      (subst (λ (xs : List Event). AllSo A W (record { script = w.script; client_slots = w.client_slots; flights = w.flights; events = xs; clock = w.clock })) (sym (append-nil w.events)) so)
  path_so (e ∷ es) w t h k so =
      subst (λ (xs : List Event). AllSo A W (record { script = w.script; client_slots = t.client_slots; flights = t.flights; events = xs; clock = t.clock })) (append_assoc w.events (e ∷ []) es)
      (path_so es (led w e h.0) t h.2 (step_holds w e h.0 h.1 k) (step_so w e h.0 h.1 k so))

  -- Before any event a client has no statement, so it is so of each statement of an execution.
  pub statements_so : (script : Script) (events : List Event) → IsPlayable script → (x : IsExecution script events) → AllSo A W (record { script = script; client_slots = x.last.client_slots; flights = x.last.flights; events = events; clock = x.last.clock })
  statements_so script events playable x =
      path_so events (record { script = script; client_slots = x.first.client_slots; flights = x.first.flights; events = []; clock = x.first.clock }) x.last x.path (first_holds script x.first playable x.initial)
      (λ c s has. none_in s has)
