-- Reads of a transaction are new: of keys at which it has found nothing, and of spans that it has not scanned.
use Rattle.std.proofs.Common.{◌≡◌, ◌⊎◌, inl, inr, ℕ, ℤ, Bool, true, false, cond, List, [], ◌∷◌, ◌++◌, Option, Some, None, IfSome, refl, sym, ap, subst, ◌∙◌}
use Rattle.std.specs.Prelude.{◌||◌, Contains, filter, is_some, take_while}
use Rattle.std.specs.List.{AllByRecursion, list_any}
use Rattle.law_runs.specs.Types.{Access, Answer, Doing, Event, How, Key, Next, Record, Reply, Request, Statement, Table}
use Rattle.sdb_types.specs.declared.record.Request.TheVariants as ask
use Rattle.sdb_types.specs.Order.{same_key}
use Rattle.sdb_types.proofs.Public.{all_last, by_test, clash, none_some, or_false, some_is}
use Rattle.sdb_snapshot.specs.Entries.{value_at}
use Rattle.sdb_record.specs.declared.access.Access.TheVariants as access
use Rattle.sdb_model.specs.Catalogs.{catalog_after}
use Rattle.sdb_model.specs.declared.event.Event.TheVariants as event
use Rattle.sdb_model.specs.Calls.{StoreCall, calls_of}
use Rattle.sdb_model.specs.ReadSet.{reads_rows}
use Rattle.sdb_model.specs.Rows.{Name}
use Rattle.sdb_model.specs.Sql.{reads_commit}
use Rattle.sdb_model.specs.Transactions.{Executed, ends, from_begin, rest_of}
use Rattle.sdb_txn.specs.Read.{Asking, Ended, ReadStage, Resolving, read_pending_at, request_of}
use Rattle.sdb_snapshot.specs.Seen.{Seen}
use Rattle.sdb_txn.specs.declared.progress.Progress.TheVariants as progress
use Rattle.sdb_txn.specs.declared.txn.Doing.TheVariants as doing
use Rattle.sdb_txn.specs.Txn.{IsCommitting, TxnAt}
use Rattle.sdb_txn.specs.Phases.{CommitAt}
use Rattle.sdb_client.specs.declared.next.Next.TheVariants as next
use Rattle.sdb_client.specs.Client.{ClientAt, IsIdle, Taking, after, is_covered, next_id, next_of}
use Rattle.sdb_client.specs.Step.{Step, Takes}
use Rattle.law_clients.specs.History.{executed_with_answer, executed_of_take}
use Rattle.law_answers.specs.Counts.{ArePaired}
use Rattle.law_answers.specs.Invariant.{IsAnswered, IsWaiting, Knows, begun_in, open_after}
use Rattle.law_answers.proofs.Public.{calls_stay, each_in, each_kept, each_left, each_middle, last_or, made_at, none_yet, open_only, recovery_unread, since_all, since_more, since_none}
use Rattle.law_runs.specs.Found.{AllRunAs, IsNewRead, View, finds, found_by, has_found, is_answered, meets_misfit, nothing_found, run_on_found, run_one, takes_part, was_found, was_scanned, with_found}
use Rattle.law_runs.proofs.OngoingReads.{NothingMore, reads_again}
use Rattle.law_runs.proofs.FoundSteps.{ClientRuns, SeesIn, closed, sees_open}
use Rattle.law_runs.proofs.OwnPrepares.{calls_again, goes_further}
use Rattle.law_runs.proofs.Replies.{CallOf, ReadCall, call_of}
use Rattle.law_runs.proofs.Running.{RunsTo, each_taken, finds_stay, goes_on, run_by, running, running_of, running_stays, scanned_stays}
use Rattle.law_runs.proofs.Statements.{AreKept, SoBy, calls_more, none_in, replied_said}
use Rattle.law_runs.proofs.Takes.{TakenAs, taken_as}
use Rattle.law_runs.proofs.Views.{all_found}

---- what was found is what a view has

any_at : (fs : List (Key × Option Record)) (q : Key) → is_some (value_at fs q) ≡ list_any (λ e. same_key q e.0) fs
any_at [] q = refl
any_at (e ∷ fs) q = by (same_key q e.0) (any_at fs q)
  where
    by : (b : Bool) → is_some (value_at fs q) ≡ list_any (λ x. same_key q x.0) fs → is_some (cond b (Some e.1) (value_at fs q)) ≡ (b || list_any (λ x. same_key q x.0) fs)
    by true ih = refl
    by false ih = ih

view_finds : (catalog : List Table) (events : List Event) (c : ℕ) (ss : List Executed) (os : List (Option Statement)) (v : View) (q : Key) → AllRunAs ss os → has_found (run_on_found catalog (finds events c ss) os v).1 q ≡ (has_found v q || was_found events c ss q)
view_finds catalog events c [] [] v q run = sym (or_false (has_found v q))
view_finds catalog events c [] (y ∷ ys) v q run = absurd run
view_finds catalog events c (s ∷ ss) [] v q run = absurd run
view_finds catalog events c (s ∷ ss) (y ∷ ys) v q run =
    view_finds catalog events c ss ys (run_one catalog y (with_found catalog v (found_by (calls_of events c s)))).1 q run.1
    ∙ ap (λ b. b || was_found events c ss q) (as_found y (with_found catalog v (found_by (calls_of events c s))) ∙ (all_found catalog v (found_by (calls_of events c s)) q).keys ∙ ap (λ b. has_found v q || b) (any_at (found_by (calls_of events c s)) q))
    ∙ both (has_found v q) (list_any (λ e. same_key q e.0) (found_by (calls_of events c s))) (was_found events c ss q)
  where
    -- a statement finds nothing more as it runs
    as_found : (o : Option Statement) (w : View) → has_found (run_one catalog o w).1 q ≡ has_found w q
    as_found None w = refl
    as_found (Some st) w = by (meets_misfit catalog st w)
      where
        by : (b : Bool) → has_found (run_by catalog st w b).1 q ≡ has_found w q
        by true = refl
        by false = refl

    both : (x y z : Bool) → ((x || y) || z) ≡ (x || (y || z))
    both true y z = refl
    both false y z = refl

-- A read that what was read doesn't cover is new.
pub new_of : (catalog : List Table) (events : List Event) (c : ℕ) (ss : List Executed) (s : Seen) (a : Access) → RunsTo catalog events c ss s → is_covered s a ≡ false → IsNewRead events c ss (request_of a)
new_of catalog events c ss s (access.Get key) r e = sym (view_finds catalog events c ss r.run.statements nothing_found key r.run.run) ∙ r.sees.keys key ∙ e
new_of catalog events c ss s (access.Scan span) r e = by_test (was_scanned events c ss span) (λ t. clash (sym (r.scans span t) ∙ e)) (λ f. f)

---- as events come

new_stays : (catalog : List Table) (events : List Event) (e : Event) (c : ℕ) (ss : List Executed) (q : Request) → AllByRecursion (IsAnswered catalog events c) ss → IsNewRead events c ss q → IsNewRead (events ++ e ∷ []) c ss q
new_stays catalog events e c ss (ask.Get key) all h = ap (list_any (λ (fs : List (Key × Option Record)). list_any (λ x. same_key key x.0) fs)) (finds_stay catalog events e c ss all) ∙ h
new_stays catalog events e c ss (ask.Scan span) all h = scanned_stays catalog events e c ss span all ∙ h
new_stays catalog events e c ss (ask.PutIf rec condition) all h = tt
new_stays catalog events e c ss (ask.DeleteIf key condition) all h = tt
new_stays catalog events e c ss (ask.PutAll batch) all h = tt

-- Each read of a statement is new after those before it.
abbrev pub StatementNew : List Event → ℕ → List Executed → Executed → Type 0
StatementNew events c ss s = reads_commit s.text ≡ false → (m : StoreCall) → Contains (calls_of events c s) m → reads_rows m ≡ true → IsNewRead events c ss m.request

-- So it is of each statement of each transaction.
abbrev pub AllNew : List Event → ℕ → List Executed → Type 0
AllNew events c past = (n : ℕ) (begin : Executed) (body : List Executed) (s : Executed) (tail : List Executed) → from_begin n past ≡ begin ∷ (body ++ s ∷ tail) → AllByRecursion (λ x. ends x ≡ false) body → StatementNew events c (running events c body) s

pub all_stay : (catalog : List Table) (events : List Event) (e : Event) (c : ℕ) (past : List Executed) → AllByRecursion (IsAnswered catalog events c) past → AllNew events c past → AllNew (events ++ e ∷ []) c past
all_stay catalog events e c past all k n begin body s tail since goes no_commit m among reads =
    let whole : AllByRecursion (IsAnswered catalog events c) (body ++ s ∷ tail) = since_all (IsAnswered catalog events c) n past begin (body ++ s ∷ tail) all since in
    let here : IsAnswered catalog events c s = each_middle (IsAnswered catalog events c) body tail s whole in
    let before : AllByRecursion (IsAnswered catalog events c) body = each_left (IsAnswered catalog events c) body (s ∷ tail) whole in
    subst (λ (ss : List Executed). IsNewRead (events ++ e ∷ []) c ss m.request) (sym (running_stays catalog events e c body before))
    (new_stays catalog events e c (running events c body) m.request
    (each_kept (IsAnswered catalog events c) is_answered (filter (takes_part events c) (take_while goes_on body)) (each_kept (IsAnswered catalog events c) (takes_part events c) (take_while goes_on body) (each_taken (IsAnswered catalog events c) goes_on body before)))
    (k n begin body s tail since goes no_commit m (subst (λ (ms : List StoreCall). Contains ms m) (calls_stay c events e s here.given here.is here.answered) among) reads))

-- with one statement more, which is of the open transaction or of none
pub all_more : (events : List Event) (c : ℕ) (past : List Executed) (z : Executed) → ArePaired false past → AllNew events c past → (open_after past ≡ true → StatementNew events c (running_of events c (begun_in past) past) z) → AllNew events c (past ++ z ∷ [])
all_more events c past z pairs k last n begin body s tail since goes = by (from_begin n past) refl
  where
    none : (ys : List Executed) → ys ++ s ∷ tail ≡ [] → ⊥
    none [] h = absurd (cc)
    none (w ∷ ys) h = absurd (cc)

    here : (b : Executed) (r : List Executed) → from_begin n past ≡ b ∷ r → b ≡ begin → ((r ≡ body) × (z ≡ s)) ⊎ ((front : List Executed) × (r ≡ body ++ s ∷ front)) → StatementNew events c (running events c body) s
    here b r e f (inr h) = k n b body s h.0 (e ∙ ap (λ x. b ∷ x) h.1) goes
    here b r e f (inl h) =
        let from : from_begin n past ≡ b ∷ body = e ∙ ap (λ x. b ∷ x) h.0 in
        let only = open_only n past false b body pairs from goes in
        let rest : running_of events c (begun_in past) past ≡ running events c body = ap (λ i. running_of events c i past) (sym only.0) ∙ ap (λ x. running events c (rest_of x)) from in
        subst (StatementNew events c (running events c body)) h.1 (subst (λ (ss : List Executed). StatementNew events c ss z) rest (last only.1))

    by : (r : List Executed) → from_begin n past ≡ r → StatementNew events c (running events c body) s
    by [] e = absurd (none body (sym (ap rest_of since) ∙ since_none n past z e))
    by (b ∷ r) e =
        let whole : b ∷ (r ++ z ∷ []) ≡ begin ∷ (body ++ s ∷ tail) = sym (since_more n past z b r e) ∙ since in
        let first : b ≡ begin = cc in
        let rest : r ++ z ∷ [] ≡ body ++ s ∷ tail = cc in
        here b r e first (last_or r z body s tail rest)

---- a statement that waits

-- it reads rows by its one access, which what was read doesn't cover
abbrev pub ReadsAccess : Access → List StoreCall → Type 0
ReadsAccess a calls = AllByRecursion (λ m. reads_rows m ≡ true → m.request ≡ request_of a) calls

abbrev pub DoingNew : Seen → Doing → List StoreCall → Type 0
DoingNew s (doing.Read a x) calls = (is_covered s a ≡ false) × ReadsAccess a calls
DoingNew s d calls = Unit {0}

abbrev pub TxnNew : Option TxnAt → List StoreCall → Type 0
TxnNew None calls = Unit {0}
TxnNew (Some t) calls = DoingNew t.seen t.doing calls

abbrev pub WaitNew : List Table → List Event → ℕ → Executed → ClientAt → Type 0
WaitNew catalog events c s h = TxnNew h.txn (calls_of events c s)

idle_new : (o : Option TxnAt) (calls : List StoreCall) → IfSome o (λ t. t.doing ≡ doing.Idle) → TxnNew o calls
idle_new None calls h = tt
idle_new (Some t) calls h = subst (λ (d : Doing). DoingNew t.seen d calls) (sym h) tt

take_new : (q : Taking) (text : List ℕ) (h d : ClientAt) (a : Option Answer) (events : List Event) (c : ℕ) → IsIdle h → Step h (Takes q text) a d → SoBy (NothingMore q.catalog) (WaitNew q.catalog) (events ++ event.Take c text a ∷ []) c (executed_of_take events text a) d a
take_new q text h d (Some b) events c idle t = tt
take_new q text h d None events c idle t = by (taken_as q text h d t)
  where
    by : TakenAs q h d → TxnNew d.txn (calls_of (events ++ event.Take c text None ∷ []) c (executed_of_take events text None))
    by (inl z) = subst (λ (y : ClientAt). TxnNew y.txn (calls_of (events ++ event.Take c text None ∷ []) c (executed_of_take events text None))) (sym z.left) tt
    by (inr (inl z)) = subst (λ (y : ClientAt). TxnNew y.txn (calls_of (events ++ event.Take c text None ∷ []) c (executed_of_take events text None))) (sym z.left) (idle_new h.txn (calls_of (events ++ event.Take c text None ∷ []) c (executed_of_take events text None)) idle.still)
    by (inr (inr z)) = subst (λ (y : ClientAt). TxnNew y.txn (calls_of (events ++ event.Take c text None ∷ []) c (executed_of_take events text None))) (sym z.left) (z.unread, subst (ReadsAccess z.access) (sym (none_yet c events text None)) tt)

commits_new : (s : Seen) (d : Doing) (P : CommitAt → Type 0) (calls : List StoreCall) → IsCommitting d P → DoingNew s d calls
commits_new s (doing.Commit k) P calls h = tt
commits_new s doing.Idle P calls h = tt
commits_new s (doing.Read a x) P calls h = absurd h
commits_new s doing.Over P calls h = tt

module _ (catalog : List Table) (events : List Event) (c : ℕ) (h d : ClientAt) (store : Name) (q : Request) (how : How) (r : Reply) (now : ℤ) (past : List Executed) (x : Executed) (so : WaitNew catalog events c x h) where
  abbrev made : StoreCall
  made = made_at events store q how r

  -- after a call of a read
  pub access_more : (a : Option Answer) (z : ReadCall catalog events c x h q r now a d) → (is_covered z.t.seen z.access ≡ false) × ReadsAccess z.access (calls_of events c x ++ made ∷ [])
  access_more a z = (was.0, all_last (λ (m : StoreCall). reads_rows m ≡ true → m.request ≡ request_of z.access) (calls_of events c x) made was.1 (λ reads. by z.x.stage z.pends reads))
    where
      was : (is_covered z.t.seen z.access ≡ false) × ReadsAccess z.access (calls_of events c x)
      was = subst (λ (y : Doing). DoingNew z.t.seen y (calls_of events c x)) z.reads (subst (λ (o : Option TxnAt). TxnNew o (calls_of events c x)) z.opened so)

      by : (s : ReadStage) → read_pending_at z.x.request s ≡ Some made.request → reads_rows made ≡ true → made.request ≡ request_of z.access
      by Asking e reads = sym (some_is z.x.request made.request e) ∙ z.asked.request
      by (Resolving images rec meta p left) e reads = clash (sym reads ∙ recovery_unread rec meta p made e)
      by (Ended s) e reads = none_some made.request e

  module _ (waits : IsWaiting catalog events c (is_some h.vacuum) x) where
    abbrev E : Option Answer → List Event
    E a = events ++ event.Call c store q how r a ∷ []

    call_new : (a : Option Answer) → CallOf catalog events c past x h q r now a d → SoBy (NothingMore catalog) (WaitNew catalog) (E a) c (replied_said events x a) d a
    call_new (Some b) z = tt
    call_new None (inl z) = subst (λ (o : Option TxnAt). TxnNew o (calls_of (E None) c x)) (sym (ap (λ (y : ClientAt). y.txn) z.left ∙ z.rests)) tt
    call_new None (inr (inl z)) =
        let again : z.next ≡ next.Call = calls_again z.next z.answer in
        let left : d.txn ≡ Some z.u = ap (λ (y : ClientAt). y.txn) (z.left ∙ ap (λ (n : Next). after h n z.u) again) in
        subst (λ (o : Option TxnAt). TxnNew o (calls_of (E None) c x)) (sym (left ∙ ap Some (reads_again z.t z.p z.access z.x r now z.next z.u z.answered again)))
        (subst (λ (ms : List StoreCall). (is_covered z.t.seen z.access ≡ false) × ReadsAccess z.access ms) (sym (calls_more events c store q how r x waits.unanswered waits.accepted None)) (access_more None z))
    call_new None (inr (inr z)) =
        let further : z.progress ≡ progress.More = goes_further z.progress z.answer in
        let left : d.txn ≡ Some z.u = ap (λ (y : ClientAt). y.txn) (z.left ∙ ap (λ p. after h (next_of p) z.u) further) in
        subst (λ (o : Option TxnAt). TxnNew o (calls_of (E None) c x)) (sym left) (commits_new z.u.seen z.u.doing _ (calls_of (E None) c x) (z.answered.next further))

-- So it stays by each step.
pub new_kept : AreKept NothingMore WaitNew
new_kept = record {
  answered = λ catalog events e c s past so. tt;
  waiting = λ catalog events e c s h still so. subst (TxnNew h.txn) (sym still.calls) so;
  takes = λ w u c text a t h. take_new (record { catalog = catalog_after w.script.catalog w.events; now = w.clock; gate = t.gate; fresh = next_id t.client_slot.client }) text t.client_slot.client t.client a w.events c t.idle t.takes;
  calls = λ w u c store q how r a t h k runs x waiting waits so. call_new w.script.catalog w.events c t.client_slot.client t.client store q how r w.clock k.entries x so waits a
      (call_of w.script.catalog w.events c t.client_slot.client k runs x waiting q r w.clock a t.client t.pending ((h.world.each t.place t.client_slot t.at).fitted t.goes_on) t.takes);
}

-- A statement whose calls read rows by an access that what was read doesn't cover reads new.
pub access_new : (catalog : List Table) (events : List Event) (c : ℕ) (ss : List Executed) (s : Seen) (a : Access) (z : Executed) → RunsTo catalog events c ss s → is_covered s a ≡ false → ReadsAccess a (calls_of events c z) → StatementNew events c ss z
access_new catalog events c ss s a z runs uncovered all no_commit m among reads = subst (IsNewRead events c ss) (sym (each_in (λ (y : StoreCall). reads_rows y ≡ true → y.request ≡ request_of a) (calls_of events c z) m all among reads)) (new_of catalog events c ss s a runs uncovered)

-- a statement that is answered by a call
pub answered_new : (catalog under : List Table) (events : List Event) (c : ℕ) (h d : ClientAt) (k : Knows catalog events c h) (runs : ClientRuns catalog under events c h) (store : Name) (q : Request) (how : How) (r : Reply) (now : ℤ) (x : Executed) (b : Answer) → IsWaiting catalog events c (is_some h.vacuum) x → WaitNew catalog events c x h → CallOf catalog events c k.entries x h q r now (Some b) d
    → open_after k.entries ≡ true → StatementNew (events ++ event.Call c store q how r (Some b) ∷ []) c (running_of (events ++ event.Call c store q how r (Some b) ∷ []) c (begun_in k.entries) k.entries) (executed_with_answer events x b)
answered_new catalog under events c h d k runs store q how r now x b waits so (inl z) opened = clash (sym opened ∙ closed catalog under events c h k runs (event.Call c store q how r (Some b)) z.rests)
answered_new catalog under events c h d k runs store q how r now x b waits so (inr (inr z)) opened = λ no_commit. clash (sym z.is.text ∙ no_commit)
answered_new catalog under events c h d k runs store q how r now x b waits so (inr (inl z)) opened =
    let e : Event = event.Call c store q how r (Some b) in
    let more = access_more catalog events c h d store q how r now k.entries x so (Some b) z in
    subst (λ n. StatementNew (events ++ e ∷ []) c (running_of (events ++ e ∷ []) c n k.entries) (executed_with_answer events x b)) k.begun
    (access_new under (events ++ e ∷ []) c (running_of (events ++ e ∷ []) c h.begun k.entries) z.t.seen z.access (executed_with_answer events x b)
    (subst (SeesIn under (events ++ e ∷ []) c (running_of (events ++ e ∷ []) c h.begun k.entries) z.t.seen) z.reads (sees_open catalog under events c h k runs e z.t z.opened z.free).1) more.0
    (subst (ReadsAccess z.access) (sym (calls_more events c store q how r x waits.unanswered waits.accepted (Some b))) more.1))

-- one that is answered as it is accepted
pub taken_new : (events : List Event) (c : ℕ) (text : List ℕ) (a : Option Answer) (ss : List Executed) → StatementNew (events ++ event.Take c text a ∷ []) c ss (executed_of_take events text a)
taken_new events c text a ss no_commit m among reads = none_in m (subst (λ (ms : List StoreCall). Contains ms m) (none_yet c events text a) among)
