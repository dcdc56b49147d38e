-- The reads of each transaction of an execution are new.
use Rattle.std.proofs.Common.{◌≡◌, ℕ, zero, suc, Bool, true, false, List, [], ◌∷◌, ◌++◌, Option, Some, None, IfSome, refl, sym, ap, subst, ◌∙◌, append_assoc}
use Rattle.std.specs.Prelude.{Contains, if◌then◌else◌, filter, is_some, length, take_while}
use Rattle.std.specs.List.{AllByRecursion}
use Rattle.std.proofs.lemmas.List.{append-nil}
use Rattle.std.proofs.lemmas.List.Elements.{Contains-push, filter-append}
use Rattle.sdb_types.proofs.Public.{clash}
use Rattle.law_runs.specs.Types.{Answer, Doing, Event, Script, Table}
use Rattle.sdb_model.specs.declared.event.Event.TheVariants as event
use Rattle.sdb_model.specs.Calls.{calls_of}
use Rattle.sdb_model.specs.Catalogs.{catalog_after}
use Rattle.sdb_model.specs.Transactions.{Executed, client_of, ends, from_begin, ordinal_of, rest_of, statements_by, through_end}
use Rattle.sdb_exec.specs.Plans.{Planned}
use Rattle.sdb_txn.specs.declared.txn.Doing.TheVariants as doing
use Rattle.sdb_txn.specs.Txn.{TxnAt}
use Rattle.sdb_vacuum.specs.Vacuum.{VacuumAt}
use Rattle.sdb_client.specs.Client.{ClientAt}
use Rattle.law_clients.specs.States.{ClientState}
use Rattle.law_clients.specs.History.{executed_with_answer, executed_of_take, waiting_of}
use Rattle.law_clients.proofs.Public.{others_silent, executed_more, take_executed}
use Rattle.law_answers.specs.Invariant.{IsAnswered, IsCurrent, IsDoing, IsWaiting, Knows, DoingByHistory, ClientByHistory, begun_in, open_after}
use Rattle.law_answers.proofs.Public.{call_executed, made_at, silent_executed, take_open}
use Rattle.sdb_client.specs.Execution.{IsExecution, IsPath, IsPlayable, IsStepFrom, State}
use Rattle.law_runs.specs.Found.{IsNewRead, ReadsAreNew, is_answered, takes_part}
use Rattle.law_runs.specs.World.{WorldAt, states_of, state_of}
use Rattle.law_runs.proofs.OngoingReads.{NothingMore}
use Rattle.law_runs.proofs.FoundRuns.{AllRun, all_run, first_runs, hand_at, known_at, runs_here, step_runs}
use Rattle.law_runs.proofs.FoundSteps.{SeesIn, SeesRun, all_answered, answered_of, answered_of_is}
use Rattle.law_runs.proofs.Kept.{by_nat}
use Rattle.law_runs.proofs.PreparingCalls.{WaitPrepares, prepares_kept}
use Rattle.law_runs.proofs.NewReads.{AllNew, DoingNew, StatementNew, TxnNew, WaitNew, access_new, all_more, all_stay, answered_new, new_kept, taken_new}
use Rattle.law_runs.proofs.Replies.{CallOf, call_of, pends_waits}
use Rattle.law_runs.proofs.Running.{goes_on, running, running_of}
use Rattle.law_runs.proofs.Statements.{AllSo, SoOver, none_in, statements_so, step_so, waits_of}
use Rattle.law_runs.proofs.Steps.{Holds, execution_holds, first_holds, led, step_holds}

-- what is so of each client
abbrev AllReadNew : WorldAt → Type 0
AllReadNew w = (c : ℕ) → AllNew w.events c (answered_of c w.events)

-- each was answered
answered_each : (catalog : List Table) (events : List Event) (c : ℕ) (h : ClientAt) (k : Knows catalog events c h) → AllByRecursion (IsAnswered catalog events c) (answered_of c events)
answered_each catalog events c h k = subst (AllByRecursion (IsAnswered catalog events c)) (sym (answered_of_is catalog events c h k)) k.answered

-- where its client says nothing
rests_new : (catalog : List Table) (events : List Event) (e : Event) (c : ℕ) (h : ClientAt) → Knows catalog events c h → statements_by c (events ++ e ∷ []) ≡ statements_by c events → AllNew events c (answered_of c events) → AllNew (events ++ e ∷ []) c (answered_of c (events ++ e ∷ []))
rests_new catalog events e c h k says new = subst (AllNew (events ++ e ∷ []) c) (sym (ap (filter is_answered) says)) (all_stay catalog events e c (answered_of c events) (answered_each catalog events c h k) new)

-- where a statement is answered
ends_new : (catalog : List Table) (events : List Event) (e : Event) (c : ℕ) (h : ClientAt) (k : Knows catalog events c h) (z : Executed) → answered_of c (events ++ e ∷ []) ≡ k.entries ++ z ∷ [] → AllNew events c (answered_of c events) → (open_after k.entries ≡ true → StatementNew (events ++ e ∷ []) c (running_of (events ++ e ∷ []) c (begun_in k.entries) k.entries) z)
    → AllNew (events ++ e ∷ []) c (answered_of c (events ++ e ∷ []))
ends_new catalog events e c h k z same new last = subst (AllNew (events ++ e ∷ []) c) (sym same) (all_more (events ++ e ∷ []) c k.entries z k.counted.paired (all_stay catalog events e c k.entries k.answered (subst (AllNew events c) (answered_of_is catalog events c h k) new)) last)

-- what a statement that waits reads
wait_new : (w : WorldAt) → AllSo NothingMore WaitNew w → (c : ℕ) (d : ClientAt) → (states_of w.client_slots c).client ≡ d → (k : Knows w.script.catalog w.events c d) (x : Executed) → k.waiting ≡ Some x → IsWaiting w.script.catalog w.events c (is_some d.vacuum) x → WaitNew w.script.catalog w.events c x d
wait_new w so c d here k x waiting waits =
    let among : Contains (statements_by c w.events) x = subst (λ (ss : List Executed). Contains ss x) (sym (k.same ∙ ap (λ (o : Option Executed). k.entries ++ waiting_of o) waiting)) (Contains-push k.entries x) in
    subst (WaitNew w.script.catalog w.events c x) here
    (subst (λ (o : Option Answer). SoOver NothingMore WaitNew w.script.catalog w.events c x (states_of w.client_slots c).client o) waits.unanswered (so c x among))

---- one step

module _ (w : WorldAt) (h : Holds w) (all : AllRun w) (so : AllSo NothingMore WaitNew w) (new : AllReadNew w) where
  abbrev catalog : List Table
  catalog = w.script.catalog

  others_new : (e : Event) (n : ℕ) → statements_by n (w.events ++ e ∷ []) ≡ statements_by n w.events → AllNew (w.events ++ e ∷ []) n (answered_of n (w.events ++ e ∷ []))
  others_new e n says = rests_new catalog w.events e n (states_of w.client_slots n).client (h.caused.each n) says (new n)

  take_step : (c : ℕ) (text : List ℕ) (a : Option Answer) → AllNew (w.events ++ event.Take c text a ∷ []) c (answered_of c (w.events ++ event.Take c text a ∷ []))
  take_step c text a = by a refl
    where
      k : Knows catalog w.events c (states_of w.client_slots c).client
      k = h.caused.each c

      now : (b : Option Answer) → answered_of c (w.events ++ event.Take c text b ∷ []) ≡ answered_of c w.events ++ filter is_answered (executed_of_take w.events text b ∷ [])
      now b = ap (filter is_answered) (take_executed c w.events text b) ∙ filter-append is_answered (statements_by c w.events) (executed_of_take w.events text b ∷ [])

      by : (b : Option Answer) → a ≡ b → AllNew (w.events ++ event.Take c text b ∷ []) c (answered_of c (w.events ++ event.Take c text b ∷ []))
      by None e = subst (AllNew (w.events ++ event.Take c text None ∷ []) c) (sym (now None ∙ append-nil (answered_of c w.events))) (all_stay catalog w.events (event.Take c text None) c (answered_of c w.events) (answered_each catalog w.events c (states_of w.client_slots c).client k) (new c))
      by (Some b) e =
          ends_new catalog w.events (event.Take c text (Some b)) c (states_of w.client_slots c).client k (executed_of_take w.events text (Some b)) (now (Some b) ∙ ap (λ ss. ss ++ executed_of_take w.events text (Some b) ∷ []) (answered_of_is catalog w.events c (states_of w.client_slots c).client k)) (new c)
          (λ opened. taken_new w.events c text (Some b) (running_of (w.events ++ event.Take c text (Some b) ∷ []) c (begun_in k.entries) k.entries))

  step_new : (e : Event) (u : State) → IsStepFrom w.script w.events (state_of w) e u → AllReadNew (led w e u)
  step_new (event.Take c text a) u t n = by_nat c n (λ same. subst (λ (x : ℕ). AllNew (w.events ++ event.Take c text a ∷ []) x (answered_of x (w.events ++ event.Take c text a ∷ []))) same (take_step c text a)) (λ apart. others_new (event.Take c text a) n (others_silent w.events n c (event.Take c text a) apart refl))
  step_new (event.Stop c) u t n = others_new (event.Stop c) n (executed_more n w.events (event.Stop c))
  step_new (event.Clock m) u t n = others_new (event.Clock m) n (executed_more n w.events (event.Clock m))
  step_new (event.Idle d) u t n = others_new (event.Idle d) n (executed_more n w.events (event.Idle d))
  step_new (event.Land x store q how r) u t n = others_new (event.Land x store q how r) n (executed_more n w.events (event.Land x store q how r))
  step_new (event.Alter table column kind altered) u t n = others_new (event.Alter table column kind altered) n (executed_more n w.events (event.Alter table column kind altered))
  step_new (event.Call c store q how r a) u t n = by_nat c n (λ same. subst (λ (x : ℕ). AllNew (w.events ++ event.Call c store q how r a ∷ []) x (answered_of x (w.events ++ event.Call c store q how r a ∷ []))) same (by a refl)) (λ apart. others_new (event.Call c store q how r a) n (others_silent w.events n c (event.Call c store q how r a) apart refl))
    where
      next_state : states_of w.client_slots c ≡ record { client = t.client_slot.client; stopped = t.client_slot.stopped }
      next_state = hand_at w.client_slots t.place c t.client_slot t.number t.at

      known : (k : Knows catalog w.events c t.client_slot.client) × IsCurrent catalog w.events t.client_slot.client.txn k.under
      known = known_at w t.place c t.client_slot t.number t.at t.goes_on h

      k : Knows catalog w.events c t.client_slot.client
      k = known.0

      x : (y : Executed) × (k.waiting ≡ Some y)
      x = pends_waits catalog w.events c t.client_slot.client q k t.pending

      waits : IsWaiting catalog w.events c (is_some t.client_slot.client.vacuum) x.0
      waits = waits_of catalog w.events c t.client_slot.client k x.0 x.1

      by : (b : Option Answer) → a ≡ b → AllNew (w.events ++ event.Call c store q how r b ∷ []) c (answered_of c (w.events ++ event.Call c store q how r b ∷ []))
      by None e = rests_new catalog w.events (event.Call c store q how r None) c t.client_slot.client k (silent_executed c w.events store q how r) (new c)
      by (Some b) e =
          ends_new catalog w.events (event.Call c store q how r (Some b)) c t.client_slot.client k (executed_with_answer w.events x.0 b)
          (ap (filter is_answered) (call_executed c w.events (made_at w.events store q how r) b k.entries x.0 (k.same ∙ ap (λ (o : Option Executed). k.entries ++ waiting_of o) x.1)) ∙ filter-append is_answered k.entries (executed_with_answer w.events x.0 b ∷ []) ∙ ap (λ ss. ss ++ executed_with_answer w.events x.0 b ∷ []) (all_answered catalog w.events c k.entries k.answered)) (new c)
          (answered_new catalog (catalog_after catalog w.events) w.events c t.client_slot.client t.client k (runs_here w t.place c t.client_slot t.number t.at t.goes_on all) store q how r w.clock x.0 b waits (wait_new w so c t.client_slot.client (ap (λ (y : ClientState). y.client) next_state) k x.0 x.1 waits)
          (subst (λ (o : Option Answer). CallOf catalog w.events c k.entries x.0 t.client_slot.client q r w.clock o t.client) e (call_of catalog w.events c t.client_slot.client k known.1 x.0 x.1 q r w.clock a t.client t.pending ((h.world.each t.place t.client_slot t.at).fitted t.goes_on) t.takes)))

---- a whole execution

path_new : (es : List Event) (w : WorldAt) (t : State) → IsPath w.script w.events (state_of w) es t → Holds w → AllSo NothingMore WaitPrepares w → AllRun w → AllSo NothingMore WaitNew w → AllReadNew w → AllReadNew (record { script = w.script; client_slots = t.client_slots; flights = t.flights; events = w.events ++ es; clock = t.clock })
path_new [] w t h k prepared all so new = subst (λ (xs : List Event). (c : ℕ) → AllNew xs c (answered_of c xs)) (sym (append-nil w.events)) new
path_new (e ∷ es) w t h k prepared all so new =
    subst (λ (xs : List Event). (c : ℕ) → AllNew xs c (answered_of c xs)) (append_assoc w.events (e ∷ []) es)
    (path_new es (led w e h.0) t h.2 (step_holds w e h.0 h.1 k) (step_so NothingMore WaitPrepares prepares_kept w e h.0 h.1 k prepared) (step_runs w k all prepared e h.0 h.1) (step_so NothingMore WaitNew new_kept w e h.0 h.1 k so) (step_new w k all so new e h.0 h.1))

-- before any event
first_new : (c : ℕ) → AllNew [] c []
first_new c n begin body s tail since goes = absurd (by n since)
  where
    by : (n : ℕ) → from_begin n [] ≡ begin ∷ (body ++ s ∷ tail) → ⊥
    by zero e = cc
    by (suc k) e = cc

-- one among the statements up to the end has none before it that ends the transaction
record IsSplit (ss before : List Executed) (s : Executed) : Type 0 where
  tail : List Executed
  whole : ss ≡ before ++ s ∷ tail
  opens : AllByRecursion (λ x. ends x ≡ false) before

none_left : (ys : List Executed) (s : Executed) (after : List Executed) → ◌≡◌ {A = List Executed} [] (ys ++ s ∷ after) → ⊥
none_left [] s after h = absurd (cc)
none_left (w ∷ ys) s after h = absurd (cc)

split_end : (ss before : List Executed) (s : Executed) (after : List Executed) → through_end ss ≡ before ++ s ∷ after → IsSplit ss before s
split_end [] before s after e = absurd (none_left before s after e)
split_end (x ∷ xs) before s after e = by (ends x) refl (λ ys k. split_end xs ys s after k) e
  where
    last : (ys : List Executed) → x ∷ [] ≡ ys ++ s ∷ after → IsSplit (x ∷ xs) ys s
    last [] k = let same : x ≡ s = cc in record { tail = xs; whole = ap (λ (y : Executed). y ∷ xs) same; opens = tt }
    last (y ∷ ys) k = absurd (none_left ys s after (let rest : [] ≡ ys ++ s ∷ after = cc in rest))

    more : ends x ≡ false → ((ys : List Executed) → through_end xs ≡ ys ++ s ∷ after → IsSplit xs ys s) → (ys : List Executed) → x ∷ through_end xs ≡ ys ++ s ∷ after → IsSplit (x ∷ xs) ys s
    more f ih [] k = let same : x ≡ s = cc in record { tail = xs; whole = ap (λ (y : Executed). y ∷ xs) same; opens = tt }
    more f ih (y ∷ ys) k =
        let same : x ≡ y = cc in
        let rest : through_end xs ≡ ys ++ s ∷ after = cc in
        let r = ih ys rest in
        record { tail = r.tail; whole = ap (λ (z : Executed). z ∷ xs) same ∙ ap (λ zs. y ∷ zs) r.whole; opens = (ap ends (sym same) ∙ f, r.opens) }

    by : (b : Bool) → ends x ≡ b → ((ys : List Executed) → through_end xs ≡ ys ++ s ∷ after → IsSplit xs ys s) → (if b then x ∷ [] else x ∷ through_end xs) ≡ before ++ s ∷ after → IsSplit (x ∷ xs) before s
    by true f ih k = last before k
    by false f ih k = more f ih before k

-- where none of them ends it, those that take part are those that were answered and changed something, or whose reads have finished
running_open : (events : List Event) (c : ℕ) (before : List Executed) → AllByRecursion (λ x. ends x ≡ false) before → running events c before ≡ filter is_answered (filter (takes_part events c) before)
running_open events c before opens = ap (λ xs. filter is_answered (filter (takes_part events c) xs)) (ap (take_while goes_on) (sym (append-nil before)) ∙ take_open before [] opens ∙ append-nil before)

module _ (script : Script) (events : List Event) (playable : IsPlayable script) (x : IsExecution script events) where
  all_new : AllReadNew (record { script = script; client_slots = x.last.client_slots; flights = x.last.flights; events = events; clock = x.last.clock })
  all_new =
      path_new events (record { script = script; client_slots = x.first.client_slots; flights = x.first.flights; events = []; clock = x.first.clock }) x.last x.path (first_holds script x.first playable x.initial) (λ c s has. none_in s has)
      (first_runs script x.first.client_slots (length script.clients) x.initial.fresh) (λ c s has. none_in s has) first_new

  module _ (c : ℕ) where
    abbrev h : ClientAt
    h = (states_of x.last.client_slots c).client

    abbrev k : Knows script.catalog events c h
    k = (execution_holds script events playable x).caused.each c

    -- the statement that waits reads new
    waiting_new : (w : Executed) → k.waiting ≡ Some w → IsWaiting script.catalog events c (is_some h.vacuum) w → open_after k.entries ≡ true → StatementNew events c (running_of events c (begun_in k.entries) k.entries) w
    waiting_new w waiting waits opened = by_vacuum h.vacuum (subst (λ (o : Option Executed). ClientByHistory events c h.begun k.entries o h.plan h.txn h.vacuum) waiting k.agrees)
      where
        so : TxnNew h.txn (calls_of events c w)
        so = wait_new (record { script = script; client_slots = x.last.client_slots; flights = x.last.flights; events = events; clock = x.last.clock }) (statements_so NothingMore WaitNew new_kept script events playable x) c h refl k w waiting waits

        under : List Table
        under = (all_run script events playable x c).under

        sees : IfSome h.txn (SeesRun script.catalog under events c (running_of events c h.begun k.entries))
        sees = subst (λ ss. IfSome h.txn (SeesRun script.catalog under events c (running_of events c h.begun ss))) (answered_of_is script.catalog events c h k) (all_run script events playable x c).runs.sees

        by_doing : (t : TxnAt) (p : Option Planned) (d : Doing) → IsDoing events c t p (Some w) d → DoingNew t.seen d (calls_of events c w) → SeesIn under events c (running_of events c h.begun k.entries) t.seen d → StatementNew events c (running_of events c (begun_in k.entries) k.entries) w
        by_doing t p doing.Idle i n s = absurd (none_is (sym i))
          where
            none_is : ◌≡◌ {A = Option Executed} None (Some w) → ⊥
            none_is e = cc
        by_doing t None (doing.Read a y) i n s = absurd i
        by_doing t (Some p) (doing.Read a y) i n s = subst (λ m. StatementNew events c (running_of events c m k.entries) w) k.begun (access_new under events c (running_of events c h.begun k.entries) t.seen a w s n.0 n.1)
        by_doing t p (doing.Commit y) i n s = λ no_commit. clash (sym i.text ∙ no_commit)
        by_doing t p doing.Over i n s = absurd i

        by_txn : (o : Option TxnAt) → DoingByHistory events c h.begun k.entries (Some w) h.plan o → TxnNew o (calls_of events c w) → IfSome o (SeesRun script.catalog under events c (running_of events c h.begun k.entries)) → StatementNew events c (running_of events c (begun_in k.entries) k.entries) w
        by_txn None s n v = clash (sym opened ∙ s.1)
        by_txn (Some t) s n v = by_doing t h.plan t.doing s.2 n v.1

        by_vacuum : (v : Option VacuumAt) → ClientByHistory events c h.begun k.entries (Some w) h.plan h.txn v → StatementNew events c (running_of events c (begun_in k.entries) k.entries) w
        by_vacuum None s = by_txn h.txn s so sees
        by_vacuum (Some v) s = clash (sym opened ∙ s.1)

    -- and so do all
    each_new : AllNew events c (statements_by c events)
    each_new = subst (AllNew events c) (sym k.same) (by k.waiting refl k.waits)
      where
        before : AllNew events c k.entries
        before = subst (AllNew events c) (answered_of_is script.catalog events c h k) (all_new c)

        by : (o : Option Executed) → k.waiting ≡ o → IfSome o (IsWaiting script.catalog events c (is_some h.vacuum)) → AllNew events c (k.entries ++ waiting_of o)
        by None e w = subst (AllNew events c) (sym (append-nil k.entries)) before
        by (Some y) e w = all_more events c k.entries y k.counted.paired before (waiting_new y e w)

  -- The reads of each transaction are new.
  pub execution_new : ReadsAreNew events
  execution_new id before s m r = by (from_begin (ordinal_of id) (statements_by (client_of id) events)) refl
    where
      by : (ss : List Executed) → from_begin (ordinal_of id) (statements_by (client_of id) events) ≡ ss → IsNewRead events (client_of id) (filter is_answered (filter (takes_part events (client_of id)) before)) m.request
      by [] e = absurd (none_left before s r.after (sym (ap (λ xs. through_end (rest_of xs)) e) ∙ r.statements))
      by (b ∷ ss) e =
          let p = split_end ss before s r.after (sym (ap (λ xs. through_end (rest_of xs)) e) ∙ r.statements) in
          subst (λ xs. IsNewRead events (client_of id) xs m.request) (running_open events (client_of id) before p.opens)
          (each_new (client_of id) (ordinal_of id) b before s p.tail (e ∙ ap (λ xs. b ∷ xs) p.whole) p.opens r.no_commit m r.call r.reads)
