-- Each COMMIT of an execution makes the calls of a COMMIT of its transaction over their replies.
use Rattle.std.proofs.Common.{◌≡◌, ◌⊎◌, inl, inr, ◌+◌, ℕ, ℤ, true, List, [], ◌∷◌, ◌++◌, length, map, Option, Some, None, IfSome, refl, sym, ap, subst, ◌∙◌, arith}
use Rattle.std.specs.Prelude.{Contains, is_some}
use Rattle.law_runs.specs.Types.{Answer, Doing, Event, How, Outcome, Reply, Request, Script, Table}
use Rattle.sdb_types.specs.Contents.{CanAnswer}
use Rattle.sdb_types.proofs.Public.{clash, length_more, map_last, none_some, some_is}
use Rattle.sdb_model.specs.Catalogs.{catalog_after}
use Rattle.sdb_model.specs.declared.answer.Answer.TheVariants as answer
use Rattle.sdb_model.specs.declared.event.Event.TheVariants as event
use Rattle.sdb_model.specs.declared.statement.Statement.TheVariants as statement
use Rattle.sdb_model.specs.Calls.{StoreCall, calls_of, clock_at}
use Rattle.sdb_model.specs.Causes.{IsCommitOf, refused}
use Rattle.sdb_model.specs.Rows.{Name}
use Rattle.sdb_model.specs.Sql.{reads_commit, reads_vacuum}
use Rattle.sdb_model.specs.Transactions.{Executed, statements_by}
use Rattle.sdb_sqltext.proofs.Public.{commit_read, one_statement, vacuum_read}
use Rattle.sdb_exec.specs.Plans.{Planned}
use Rattle.sdb_phases.specs.declared.step.Outcome.TheVariants as outcome
use Rattle.sdb_phases.specs.Commit.{preparing, step}
use Rattle.sdb_phases.specs.Work.{Work}
use Rattle.sdb_txn.specs.Phases.{CommitAt, IsNext, ended_at}
use Rattle.sdb_txn.specs.declared.progress.Progress.TheVariants as progress
use Rattle.sdb_txn.specs.declared.txn.Doing.TheVariants as doing
use Rattle.sdb_txn.specs.Txn.{IsCommitting, TxnAt, progress_of, work_of}
use Rattle.sdb_vacuum.specs.Vacuum.{VacuumAt}
use Rattle.sdb_client.specs.declared.next.Next.TheVariants as next
use Rattle.sdb_client.specs.Client.{ClientAt, IsIdle, Taking, after, answer_in, next_id, next_of}
use Rattle.sdb_client.specs.Step.{Step, Takes}
use Rattle.sdb_client.specs.Execution.{IsExecution, IsPlayable}
use Rattle.law_clients.specs.History.{executed_of_take, executed_with_answer, waiting_of}
use Rattle.law_answers.specs.Invariant.{ClientByHistory, DoingByHistory, IsAnswered, IsDoing, IsWaiting, Knows}
use Rattle.law_answers.specs.Paths.{Call, EndsIn}
use Rattle.law_answers.proofs.Public.{call_executed, clock_more, clock_same, commit_is, made_at, none_yet}
use Rattle.law_runs.specs.CommitPaths.{CommitsArePaths, IsAtOnce, IsCommitPath, IsOpenCommitPath, OpenCommitsArePaths, RollsAs, as_call, path_calls}
use Rattle.law_runs.specs.World.{states_of}
use Rattle.law_runs.proofs.CommitSteps.{MakesAs, makes_end, makes_first, makes_on, rolls_as}
use Rattle.law_runs.proofs.OngoingReads.{reads_again}
use Rattle.law_runs.proofs.OwnPrepares.{calls_again, commit_waits, ends_commit, goes_further, work_doing, work_in, work_txn}
use Rattle.law_runs.proofs.Replies.{CallOf, CommitCall, ReadCall, SweepCall, call_of}
use Rattle.law_runs.proofs.Statements.{AreKept, IsPast, IsStill, SoBy, calls_more, known, replied_said, statements_so, waits_of}
use Rattle.law_runs.proofs.Steps.{execution_holds}
use Rattle.law_runs.proofs.Takes.{TakenAs, commit_taken, taken_as}

---- what is so of the calls of a COMMIT

-- of one that is answered
abbrev pub AnsweredPath : List Table → List Event → ℕ → Executed → Type 0
AnsweredPath catalog events c s = (a : Answer) → reads_commit s.text ≡ true → s.answer ≡ Some a → IsAtOnce events c s a ⊎ IsCommitPath events c s a

-- of one that waits, by what the client does
abbrev pub DoingMakes : Doing → List Event → ℕ → Executed → Type 0
DoingMakes (doing.Commit k) events c s = (k.work.now ≡ clock_at events s.accepted) × MakesAs k.work (path_calls events c s) k.stage
DoingMakes d events c s = Unit {0}

abbrev pub TxnMakes : Option TxnAt → List Event → ℕ → Executed → Type 0
TxnMakes None events c s = Unit {0}
TxnMakes (Some t) events c s = DoingMakes t.doing events c s

abbrev pub WaitMakes : List Table → List Event → ℕ → Executed → ClientAt → Type 0
WaitMakes catalog events c s h = TxnMakes h.txn events c s

---- at an event of others

past_path : (catalog : List Table) (events : List Event) (e : Event) (c : ℕ) (s : Executed) → IsPast events e c s → AnsweredPath catalog events c s → AnsweredPath catalog (events ++ e ∷ []) c s
past_path catalog events e c s past so a reads is = by (so a reads is)
  where
    by : IsAtOnce events c s a ⊎ IsCommitPath events c s a → IsAtOnce (events ++ e ∷ []) c s a ⊎ IsCommitPath (events ++ e ∷ []) c s a
    by (inl z) = inl (record { none = past.calls ∙ z.none; once = z.once; answers = z.answers })
    by (inr z) = inr (record {
      work = z.work;
      takes = record { commit = past.commit z.work.id z.takes.commit; moment = z.takes.moment ∙ sym past.clock };
      outcome = z.outcome;
      ends = subst (λ (ms : List StoreCall). EndsIn z.work (map as_call ms) z.outcome) (sym past.calls) z.ends;
      answers = z.answers;
      rolls = subst (λ (ms : List StoreCall). RollsAs z.work (map as_call ms) a) (sym past.calls) z.rolls;
    })

still_makes : (o : Option TxnAt) (events : List Event) (e : Event) (c : ℕ) (s : Executed) → IsStill events e c s → TxnMakes o events c s → TxnMakes o (events ++ e ∷ []) c s
still_makes None events e c s still so = tt
still_makes (Some t) events e c s still so = by t.doing so
  where
    by : (d : Doing) → DoingMakes d events c s → DoingMakes d (events ++ e ∷ []) c s
    by (doing.Commit k) h = (h.0 ∙ sym still.clock, subst (λ (ms : List StoreCall). MakesAs k.work (map as_call ms) k.stage) (sym still.calls) h.1)
    by doing.Idle h = tt
    by (doing.Read a x) h = tt
    by doing.Over h = tt

---- a statement is accepted

-- where a transaction does nothing
idle_makes : (o : Option TxnAt) (events : List Event) (c : ℕ) (s : Executed) → IfSome o (λ t. t.doing ≡ doing.Idle) → TxnMakes o events c s
idle_makes None events c s h = tt
idle_makes (Some t) events c s h = subst (λ (d : Doing). DoingMakes d events c s) (sym h) tt

module _ (q : Taking) (text : List ℕ) (h d : ClientAt) (events : List Event) (c : ℕ) (idle : IsIdle h) (clock : clock_at events (length events) ≡ q.now) where
  abbrev T : Option Answer → List Event
  T a = events ++ event.Take c text a ∷ []

  abbrev accepted : Option Answer → Executed
  accepted a = executed_of_take events text a

  shows : q.now ≡ clock_at (T None) (1 + length events)
  shows = sym (ap (clock_at (T None)) (sym (length_more events (event.Take c text None) ∙ one_plus (length events))) ∙ clock_more events (event.Take c text None) ∙ clock)
    where
      one_plus : (n : ℕ) → n + 1 ≡ 1 + n
      one_plus n = omega arith

  take_path : (a : Option Answer) → Step h (Takes q text) a d → SoBy (AnsweredPath q.catalog) (WaitMakes q.catalog) (T a) c (accepted a) d a
  take_path (Some b) t = λ a reads is. inl (record { none = none_yet c events text (Some b); once = refl; answers = subst (λ (x : Answer). (x ≡ answer.NoMemory) ⊎ (x ≡ refused 5)) (some_is b a is) (by (commit_taken q text h (Some b) d t reads)) })
    where
      by : (Some b ≡ None) ⊎ (Some b ≡ Some answer.NoMemory) ⊎ (Some b ≡ Some (refused 5)) → (b ≡ answer.NoMemory) ⊎ (b ≡ refused 5)
      by (inl e) = none_some b (sym e)
      by (inr (inl e)) = inl (some_is b answer.NoMemory e)
      by (inr (inr e)) = inr (some_is b (refused 5) e)
  take_path None t = by (taken_as q text h d t)
    where
      by : TakenAs q h d → TxnMakes d.txn (T None) c (accepted None)
      by (inl z) =
          subst (λ (y : ClientAt). TxnMakes y.txn (T None) c (accepted None)) (sym z.left)
          (shows, subst (λ (ms : List StoreCall). MakesAs (work_of z.t q.now) (map as_call ms) (preparing (work_of z.t q.now) 0)) (sym (none_yet c events text None)) (makes_first (work_of z.t q.now)))
      by (inr (inl z)) = subst (λ (y : ClientAt). TxnMakes y.txn (T None) c (accepted None)) (sym z.left) (idle_makes h.txn (T None) c (accepted None) idle.still)
      by (inr (inr z)) = subst (λ (y : ClientAt). TxnMakes y.txn (T None) c (accepted None)) (sym z.left) tt

---- a call is made

goes_on_so : (x : Doing) (events : List Event) (c : ℕ) (s : Executed) (P : CommitAt → Type 0) → ((k : CommitAt) → P k → DoingMakes (doing.Commit k) events c s) → IsCommitting x P → DoingMakes x events c s
goes_on_so (doing.Commit k) events c s P f h = f k h
goes_on_so doing.Idle events c s P f h = absurd h
goes_on_so (doing.Read a y) events c s P f h = absurd h
goes_on_so doing.Over events c s P f h = absurd h

none_ended : (o : Option Outcome) → progress_of o ≡ progress.More → o ≡ None
none_ended None e = refl
none_ended (Some outcome.Committed) e = absurd (cc)
none_ended (Some (outcome.Conflict key found)) e = absurd (cc)
none_ended (Some (outcome.Expired id)) e = absurd (cc)
none_ended (Some outcome.Faulted) e = absurd (cc)
none_ended (Some (outcome.Unknown id)) e = absurd (cc)
none_ended (Some (outcome.BadRecord key)) e = absurd (cc)
none_ended (Some outcome.NoMemory) e = absurd (cc)

-- no text reads as COMMIT and as VACUUM
not_both_read : {G : Type 0} (text : List ℕ) → reads_vacuum text ≡ true → reads_commit text ≡ true → G
not_both_read text vacuums commits = absurd (let e = one_statement text statement.Vacuum statement.Commit ((vacuum_read text).0 vacuums) ((commit_read text).0 commits) in cc)

module _ (catalog : List Table) (events : List Event) (c : ℕ) (h d : ClientAt) (store : Name) (q : Request) (how : How) (r : Reply) (now : ℤ) (can : CanAnswer q r) (k : Knows catalog events c h) (x : Executed) (waiting : k.waiting ≡ Some x) (waits : IsWaiting catalog events c (is_some h.vacuum) x) (so : WaitMakes catalog events c x h) where
  abbrev E : Option Answer → List Event
  E a = events ++ event.Call c store q how r a ∷ []

  abbrev So : Option Answer → Type 0
  So a = SoBy (AnsweredPath catalog) (WaitMakes catalog) (E a) c (replied_said events x a) d a

  sweep_path : (a : Option Answer) → SweepCall events c x h q r now a d → So a
  sweep_path None z = subst (λ (o : Option TxnAt). TxnMakes o (E None) c x) (sym (ap (λ (y : ClientAt). y.txn) z.left ∙ z.rests)) tt
  sweep_path (Some b) z = λ a reads is. not_both_read x.text (waits.vacuum ∙ ap is_some z.runs) reads

  read_path : (a : Option Answer) → ReadCall catalog events c x h q r now a d → So a
  read_path None z =
      let again : z.next ≡ next.Call = calls_again z.next z.answer in
      let left : d.txn ≡ Some z.u = ap (λ (y : ClientAt). y.txn) (z.left ∙ ap (λ n. after h n z.u) again) in
      subst (λ (o : Option TxnAt). TxnMakes o (E None) c x) (sym (left ∙ ap Some (reads_again z.t z.p z.access z.x r now z.next z.u z.answered again))) tt
  read_path (Some b) z = λ a reads is. clash (sym reads ∙ z.is.inner.commit)

  module _ (a : Option Answer) (z : CommitCall events c k.entries x h q r a d) where
    abbrev p : Work
    p = z.k.work

    made_here : DoingMakes (doing.Commit z.k) events c x
    made_here = subst (λ (y : Doing). DoingMakes y events c x) z.commits (subst (λ (o : Option TxnAt). TxnMakes o events c x) z.opened so)

    -- its calls, with this one
    abbrev with_this : List Call
    with_this = path_calls events c x ++ record { request = q; reply = r } ∷ []

    calls_with : (o : Option Answer) → path_calls (E o) c (replied_said events x o) ≡ with_this
    calls_with o = ap (map as_call) (calls_more events c store q how r x waits.unanswered waits.accepted o) ∙ map_last as_call (calls_of events c x) (made_at events store q how r)

    same_clock : (o : Option Answer) → p.now ≡ clock_at (E o) x.accepted
    same_clock o = made_here.0 ∙ sym (clock_same events (event.Call c store q how r o) x.accepted waits.accepted)

    commit_goes : a ≡ None → TxnMakes d.txn (E None) c x
    commit_goes e =
        let further : z.progress ≡ progress.More = goes_further z.progress (sym e ∙ z.answer) in
        let left : d.txn ≡ Some z.u = ap (λ (y : ClientAt). y.txn) (z.left ∙ ap (λ n. after h (next_of n) z.u) further) in
        let none : ended_at (step p z.k.stage r) ≡ None = none_ended (ended_at (step p z.k.stage r)) (sym z.answered.answer ∙ further) in
        subst (λ (o : Option TxnAt). TxnMakes o (E None) c x) (sym left) (goes_on_so z.u.doing (E None) c x _ (goes none) (z.answered.next further))
      where
        goes : ended_at (step p z.k.stage r) ≡ None → (y : CommitAt) → (y.work ≡ p) × IsNext p z.k.stage r y.stage → DoingMakes (doing.Commit y) (E None) c x
        goes none y n =
            subst (λ w. (w.now ≡ clock_at (E None) x.accepted) × MakesAs w (path_calls (E None) c x) y.stage) (sym n.0)
            (same_clock None, subst (λ cs. MakesAs p cs y.stage) (sym (calls_with None)) (makes_on p (path_calls events c x) z.k.stage q r z.pends can made_here.1 y.stage n.1 none))

    commit_ends : (b : Answer) → a ≡ Some b → IsCommitPath (E (Some b)) c (executed_with_answer events x b) b
    commit_ends b e =
        let end = makes_end p (path_calls events c x) z.k.stage q r z.pends can made_here.1 b (sym e ∙ z.answer ∙ ap (λ n. answer_in (next_of n)) z.answered.answer) in
        let answered : statements_by c events ≡ k.entries ++ x ∷ [] = k.same ∙ ap (λ (o : Option Executed). k.entries ++ waiting_of o) waiting in
        record {
          work = p;
          takes = record {
            commit = subst (IsCommitOf (E (Some b)) c (executed_with_answer events x b)) (sym z.is.same)
                (commit_is (E (Some b)) (executed_with_answer events x b) k.small (call_executed c events (made_at events store q how r) b k.entries x answered) z.is.text (ends_commit (executed_with_answer events x b) z.is.text) z.since);
            moment = same_clock (Some b);
          };
          outcome = end.0;
          ends = subst (λ cs. EndsIn p cs end.0) (sym (calls_with (Some b))) end.1;
          answers = end.2;
          rolls = subst (λ cs. RollsAs p cs b) (sym (calls_with (Some b))) (rolls_as p with_this end.0 b end.1 end.2);
        }

  commit_path : (a : Option Answer) → CommitCall events c k.entries x h q r a d → So a
  commit_path None z = commit_goes None z refl
  commit_path (Some b) z = λ a reads is. inr (subst (IsCommitPath (E (Some b)) c (executed_with_answer events x b)) (some_is b a is) (commit_ends (Some b) z b refl))

  call_path : (a : Option Answer) → CallOf catalog events c k.entries x h q r now a d → So a
  call_path a (inl z) = sweep_path a z
  call_path a (inr (inl z)) = read_path a z
  call_path a (inr (inr z)) = commit_path a z

---- every statement

pub paths_kept : AreKept AnsweredPath WaitMakes
paths_kept = record {
  answered = past_path;
  waiting = λ catalog events e c s h still so. still_makes h.txn events e c s still so;
  takes = λ w u c text a t h. take_path (record { catalog = catalog_after w.script.catalog w.events; now = w.clock; gate = t.gate; fresh = next_id t.client_slot.client }) text t.client_slot.client t.client w.events c t.idle h.caused.clock a t.takes;
  calls = λ w u c store q how r a t h k runs x waiting waits so. call_path w.script.catalog w.events c t.client_slot.client t.client store q how r w.clock t.can k x waiting waits so a
      (call_of w.script.catalog w.events c t.client_slot.client k runs x waiting q r w.clock a t.client t.pending ((h.world.each t.place t.client_slot t.at).fitted t.goes_on) t.takes);
}

-- Each COMMIT of an execution that is answered makes the calls of a COMMIT.
pub execution_paths : (script : Script) (events : List Event) → IsPlayable script → IsExecution script events → CommitsArePaths events
execution_paths script events playable x client s a among reads is =
    subst (λ (o : Option Answer). SoBy (AnsweredPath script.catalog) (WaitMakes script.catalog) events client s (states_of x.last.client_slots client).client o) is
    (statements_so AnsweredPath WaitMakes paths_kept script events playable x client s among) a reads is

---- one that waits

module _ (script : Script) (events : List Event) (playable : IsPlayable script) (x : IsExecution script events) (c : ℕ) (s : Executed) (among : Contains (statements_by c events) s) (reads : reads_commit s.text ≡ true) (none : s.answer ≡ None) where
  abbrev h : ClientAt
  h = (states_of x.last.client_slots c).client

  abbrev k : Knows script.catalog events c h
  k = (execution_holds script events playable x).caused.each c

  makes_so : WaitMakes script.catalog events c s h
  makes_so = subst (λ (o : Option Answer). SoBy (AnsweredPath script.catalog) (WaitMakes script.catalog) events c s h o) none (statements_so AnsweredPath WaitMakes paths_kept script events playable x c s among)

  waiting : k.waiting ≡ Some s
  waiting = unanswered (known script.catalog events c h k s among)
    where
      unanswered : IsAnswered script.catalog events c s ⊎ (k.waiting ≡ Some s) → k.waiting ≡ Some s
      unanswered (inl y) = none_some y.given (sym none ∙ y.is)
      unanswered (inr e) = e

  by_doing : (t : TxnAt) (p : Option Planned) (d : Doing) → (work_doing d ≡ work_in h.vacuum h.txn) → IsDoing events c t p (Some s) d → DoingMakes d events c s → IsOpenCommitPath events c s
  by_doing t p doing.Idle e i m = none_some s (sym i)
  by_doing t None (doing.Read a z) e i m = absurd i
  by_doing t (Some p) (doing.Read a z) e i m = clash (sym reads ∙ i.inner.commit)
  by_doing t p (doing.Commit z) e i m = record {
    work = z.work;
    takes = record { commit = commit_waits script.catalog events c h k s waiting z.work (sym e); moment = m.0 };
    stage = m.1.stage;
    makes = m.1.makes;
    goes_on = m.1.goes_on;
  }
  by_doing t p doing.Over e i m = absurd i

  by_txn : (o : Option TxnAt) → work_txn o ≡ work_in h.vacuum h.txn → DoingByHistory events c h.begun k.entries (Some s) h.plan o → TxnMakes o events c s → IsOpenCommitPath events c s
  by_txn None e z m = none_some s (sym z.0)
  by_txn (Some t) e z m = by_doing t h.plan t.doing e z.2 m

  -- The COMMIT that waits has made the first calls of one.
  open_path : IsOpenCommitPath events c s
  open_path = by h.vacuum refl (subst (λ (o : Option Executed). ClientByHistory events c h.begun k.entries o h.plan h.txn h.vacuum) waiting k.agrees)
    where
      by : (v : Option VacuumAt) → h.vacuum ≡ v → ClientByHistory events c h.begun k.entries (Some s) h.plan h.txn v → IsOpenCommitPath events c s
      by None e z = by_txn h.txn (ap (λ (v : Option VacuumAt). work_in v h.txn) (sym e)) z makes_so
      by (Some v) e z = not_both_read s.text ((waits_of script.catalog events c h k s waiting).vacuum ∙ ap is_some e) reads

pub execution_open_paths : (script : Script) (events : List Event) → IsPlayable script → IsExecution script events → OpenCommitsArePaths events
execution_open_paths script events playable x client s among reads none = open_path script events playable x client s among reads none
