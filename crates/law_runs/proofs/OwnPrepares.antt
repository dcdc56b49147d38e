-- Each call that prepares is one of its transaction's own COMMIT, and puts the moment at which that was accepted.
use Rattle.std.proofs.Common.{◌≡◌, ◌⊎◌, inl, inr, ◌<◌, ◌^◌, ◌+◌, ℕ, ℤ, Bool, true, false, List, [], ◌∷◌, ◌++◌, length, Option, Some, None, refl, sym, ap, subst, ◌∙◌, arith}
use Rattle.std.specs.Prelude.{◌&&◌, ◌||◌, Contains, is_some}
use Rattle.std.proofs.lemmas.List.Elements.{Contains-push_cases}
use Rattle.law_runs.specs.Types.{Access, Answer, Doing, Event, How, Next, Progress, ReadStep, Record, Reply, Request, Script, Table, TxId}
use Rattle.sdb_types.proofs.Public.{clash, id_fits, length_more, none_some, some_is}
use Rattle.sdb_record.specs.Meta.{moment_in}
use Rattle.sdb_record.specs.Names.{tx_prepared_at}
use Rattle.sdb_model.specs.Catalogs.{catalog_after}
use Rattle.sdb_model.specs.declared.answer.Answer.TheVariants as answer
use Rattle.sdb_model.specs.declared.event.Event.TheVariants as event
use Rattle.sdb_model.specs.Calls.{StoreCall, calls_of, clock_at}
use Rattle.sdb_model.specs.Requests.{records_put}
use Rattle.sdb_model.specs.Causes.{IsCommitOf}
use Rattle.sdb_model.specs.Rows.{Name}
use Rattle.sdb_model.specs.Sql.{reads_commit, reads_rollback}
use Rattle.sdb_model.specs.Transactions.{Executed, ends, id_of, is_conflict, is_done, prepares, statements_by}
use Rattle.sdb_phases.specs.Work.{Work}
use Rattle.sdb_txn.specs.declared.read.ReadStep.TheVariants as step
use Rattle.sdb_txn.specs.Read.{ReadAt, read_pending_at, read_result, read_step}
use Rattle.sdb_txn.specs.declared.progress.Progress.TheVariants as progress
use Rattle.sdb_txn.specs.declared.txn.Doing.TheVariants as doing
use Rattle.sdb_txn.specs.Txn.{IsCommitting as GoesOn, TxnAt, committing, reading, work_of}
use Rattle.sdb_vacuum.specs.Vacuum.{VacuumAt}
use Rattle.sdb_client.specs.declared.next.Next.TheVariants as next
use Rattle.sdb_client.specs.Client.{CallPost, ClientAt, IsIdle, StagePost, Taking, after, answer_in, next_id, next_of}
use Rattle.sdb_client.specs.Step.{Step, Takes}
use Rattle.sdb_exec.specs.Plans.{Planned}
use Rattle.law_clients.specs.History.{executed_with_answer, executed_of_take, waiting_of}
use Rattle.sdb_txn.specs.Phases.{CommitAt}
use Rattle.law_answers.specs.Invariant.{IsAnswered, IsDoing, IsOpenAs, IsWaiting, Knows, DoingByHistory, ClientByHistory}
use Rattle.law_answers.proofs.Public.{call_executed, clock_more, clock_same, commit_is, made_at, none_yet}
use Rattle.sdb_client.specs.Execution.{IsExecution, IsPlayable, State, TakeStep}
use Rattle.law_runs.specs.Laws.{IsOwnPrepare, PreparesAreOwn}
use Rattle.law_runs.specs.World.{WorldAt, states_of, state_of}
use Rattle.law_runs.proofs.Takes.{TakenAs, taken_as}
use Rattle.law_runs.proofs.Replies.{CallOf, CommitCall, ReadCall, SweepCall, call_of}
use Rattle.law_runs.proofs.Statements.{AreKept, IsPast, IsStill, SoBy, calls_more, none_in, replied_said, known, statements_so}
use Rattle.law_runs.proofs.Steps.{Holds, execution_holds}
use Rattle.law_runs.proofs.Unprepared.{commit_own, read_no, sweep_no}

---- what is so of the calls of a statement

-- a call prepares for a transaction, and this is a record that it puts
abbrev PutsFor : StoreCall → TxId → Record → Type 0
PutsFor m id r = (id.0 < 2 ^ 128) × (prepares id m.request ≡ true) × Contains (records_put m.request) r

abbrev NonePrepares : List StoreCall → Type 0
NonePrepares calls = (m : StoreCall) (id : TxId) (r : Record) → Contains calls m → PutsFor m id r → ⊥

abbrev PreparesFor : Work → List StoreCall → Type 0
PreparesFor p calls = (m : StoreCall) (id : TxId) (r : Record) → Contains calls m → PutsFor m id r → (id ≡ p.id) × (moment_in r.columns tx_prepared_at ≡ Some p.now)

abbrev PreparesBy : Option Work → List Event → ℕ → Executed → Type 0
PreparesBy None events c s = NonePrepares (calls_of events c s)
PreparesBy (Some p) events c s = (p.now ≡ clock_at events s.accepted) × PreparesFor p (calls_of events c s)

-- what a client commits
abbrev pub work_doing : Doing → Option Work
work_doing (doing.Commit k) = Some k.work
work_doing d = None

abbrev pub work_txn : Option TxnAt → Option Work
work_txn None = None
work_txn (Some t) = work_doing t.doing

abbrev pub work_in : Option VacuumAt → Option TxnAt → Option Work
work_in None o = work_txn o
work_in (Some v) o = None

abbrev AreOwn : List Event → ℕ → Executed → Type 0
AreOwn events c s = (m : StoreCall) (id : TxId) (r : Record) → Contains (calls_of events c s) m → PutsFor m id r → IsOwnPrepare events c s id r

abbrev WaitsOwn : List Event → ℕ → Executed → ClientAt → Type 0
WaitsOwn events c s h = PreparesBy (work_in h.vacuum h.txn) events c s

---- one call more

none_more : (calls : List StoreCall) (m : StoreCall) → NonePrepares calls → ((id : TxId) → prepares id m.request ≡ false) → NonePrepares (calls ++ m ∷ [])
none_more calls m h clean x id r has puts = by (Contains-push_cases calls m x has)
  where
    by : Contains calls x ⊎ (m ≡ x) → ⊥
    by (inl old) = h x id r old puts
    by (inr same) = clash (sym puts.1 ∙ ap (λ (y : StoreCall). prepares id y.request) (sym same) ∙ clean id)

for_more : (p : Work) (calls : List StoreCall) (m : StoreCall) → PreparesFor p calls → ((id : TxId) (r : Record) → PutsFor m id r → (id ≡ p.id) × (moment_in r.columns tx_prepared_at ≡ Some p.now)) → PreparesFor p (calls ++ m ∷ [])
for_more p calls m h now x id r has puts = by (Contains-push_cases calls m x has)
  where
    by : Contains calls x ⊎ (m ≡ x) → (id ≡ p.id) × (moment_in r.columns tx_prepared_at ≡ Some p.now)
    by (inl old) = h x id r old puts
    by (inr same) = now id r (subst (λ (y : StoreCall). PutsFor y id r) (sym same) puts)

---- a statement is accepted

work_rests : (v : Option VacuumAt) → work_in v None ≡ None
work_rests None = refl
work_rests (Some v) = refl

work_reads : (v : Option VacuumAt) (t : TxnAt) (a : Access) → work_in v (Some (reading t a)) ≡ None
work_reads None t a = refl
work_reads (Some v) t a = refl

-- a COMMIT that is accepted goes by the moment at which it is
taken_now : (q : Taking) (h d : ClientAt) → IsIdle h → (p : Work) → work_in d.vacuum d.txn ≡ Some p → (text : List ℕ) → Step h (Takes q text) None d → p.now ≡ q.now
taken_now q h d idle p here text takes = by (taken_as q text h d takes)
  where
    none_here : work_in d.vacuum d.txn ≡ None → p.now ≡ q.now
    none_here e = none_some p (sym e ∙ here)

    by : TakenAs q h d → p.now ≡ q.now
    by (inl z) =
        let there : work_in d.vacuum d.txn ≡ Some (work_of z.t q.now) = ap (λ (y : ClientAt). work_in y.vacuum y.txn) z.left ∙ ap (λ (v : Option VacuumAt). work_in v (Some (committing z.t q.now))) idle.free in
        ap (λ (w : Work). w.now) (some_is p (work_of z.t q.now) (sym here ∙ there))
    by (inr (inl z)) = none_here (ap (λ (y : ClientAt). work_in y.vacuum y.txn) z.left)
    by (inr (inr z)) = none_here (ap (λ (y : ClientAt). work_in y.vacuum y.txn) z.left ∙ work_reads h.vacuum z.t z.access)

takes_own : (w : WorldAt) (u : State) (c : ℕ) (text : List ℕ) (a : Option Answer) (t : TakeStep w.script w.events (state_of w) c text a u) → Holds w → SoBy AreOwn WaitsOwn (w.events ++ event.Take c text a ∷ []) c (executed_of_take w.events text a) t.client a
takes_own w u c text (Some b) t h = λ m id r has puts. none_in m (subst (λ (ms : List StoreCall). Contains ms m) (none_yet c w.events text (Some b)) has)
takes_own w u c text None t h = by (work_in t.client.vacuum t.client.txn) refl
  where
    E : List Event
    E = w.events ++ event.Take c text None ∷ []

    none_of : (m : StoreCall) → Contains (calls_of E c (executed_of_take w.events text None)) m → Contains [] m
    none_of m has = subst (λ (ms : List StoreCall). Contains ms m) (none_yet c w.events text None) has

    shows : clock_at E (1 + length w.events) ≡ w.clock
    shows = ap (clock_at E) (sym (length_more w.events (event.Take c text None) ∙ one_plus (length w.events))) ∙ clock_more w.events (event.Take c text None) ∙ h.caused.clock
      where
        one_plus : (n : ℕ) → n + 1 ≡ 1 + n
        one_plus n = omega arith

    by : (o : Option Work) → work_in t.client.vacuum t.client.txn ≡ o → PreparesBy o E c (executed_of_take w.events text None)
    by None e = λ m id r has puts. none_in m (none_of m has)
    by (Some p) e = (
      taken_now (record { catalog = catalog_after w.script.catalog w.events; now = w.clock; gate = t.gate; fresh = next_id t.client_slot.client }) t.client_slot.client t.client t.idle p e text t.takes ∙ sym shows,
      λ m id r has puts. none_in m (none_of m has),
    )

---- a call is made

-- a read that goes on commits nothing
read_left : (t : TxnAt) (p : Planned) (a : Access) (x : ReadAt) (r : Reply) (now : ℤ) (n : Next) (u : TxnAt) → CallPost t p a x r now n u → n ≡ next.Call → work_doing u.doing ≡ None
read_left t p a x r now n u answered e = by (read_result (read_step x.stage now r)) (subst (λ (m : Next). StagePost t p a x (read_step x.stage now r) (read_result (read_step x.stage now r)) m u) e (answered.answered (λ k. other (sym e ∙ k))))
  where
    other : next.Call ≡ next.Answer answer.NoMemory → ⊥
    other k = cc

    by : (s : ReadStep) → StagePost t p a x (read_step x.stage now r) s next.Call u → work_doing u.doing ≡ None
    by step.More k = ap (λ (y : TxnAt). work_doing y.doing) k.1
    by (step.Images images) k = absurd k
    by (step.Busy key id at) k = absurd (let z = k.0 in cc)
    by step.Faulted k = absurd (let z = k.0 in cc)
    by (step.BadRecord key) k = absurd (let z = k.0 in cc)
    by step.NoMemory k = absurd k

-- where no answer comes a call is pending
pub calls_again : (n : Next) → None ≡ answer_in n → n ≡ next.Call
calls_again next.Call e = refl
calls_again (next.Answer a) e = none_some a e
calls_again (next.End a) e = none_some a e

pub goes_further : (p : Progress) → None ≡ answer_in (next_of p) → p ≡ progress.More
goes_further progress.More e = refl
goes_further (progress.Rows rows) e = absurd (cc)
goes_further (progress.Busy key id at) e = absurd (cc)
goes_further progress.Faulted e = absurd (cc)
goes_further (progress.BadRecord key) e = absurd (cc)
goes_further progress.NoMemory e = absurd (cc)
goes_further (progress.Conflict key found) e = absurd (cc)
goes_further progress.Committed e = absurd (cc)
goes_further (progress.Expired id) e = absurd (cc)
goes_further (progress.Unknown id) e = absurd (cc)

work_goes : (x : Doing) (p : Work) (P : CommitAt → Type 0) → ((k : CommitAt) → P k → k.work ≡ p) → GoesOn x P → work_doing x ≡ Some p
work_goes (doing.Commit k) p P f g = ap Some (f k g)
work_goes doing.Idle p P f g = absurd g
work_goes (doing.Read a x) p P f g = absurd g
work_goes doing.Over p P f g = absurd g

pub ends_commit : (s : Executed) → reads_commit s.text ≡ true → ends s ≡ true
ends_commit s e = ap (λ (b : Bool). b || is_conflict s.answer || (reads_rollback s.text && is_done s.answer)) e

module _ (catalog : List Table) (events : List Event) (c : ℕ) (h d : ClientAt) (store : Name) (q : Request) (how : How) (r : Reply) (now : ℤ) (k : Knows catalog events c h) (x : Executed) (waiting : k.waiting ≡ Some x) (waits : IsWaiting catalog events c (is_some h.vacuum) x) (so : PreparesBy (work_in h.vacuum h.txn) events c x) where
  abbrev E : Option Answer → List Event
  E a = events ++ event.Call c store q how r a ∷ []

  abbrev made : StoreCall
  made = made_at events store q how r

  more : (a : Option Answer) → calls_of (E a) c (replied_said events x a) ≡ calls_of events c x ++ made ∷ []
  more a = calls_more events c store q how r x waits.unanswered waits.accepted a

  -- none of its calls prepares
  rests : (a : Option Answer) → NonePrepares (calls_of events c x ++ made ∷ []) → (a ≡ None → work_in d.vacuum d.txn ≡ None) → SoBy AreOwn WaitsOwn (E a) c (replied_said events x a) d a
  rests None none idle = subst (λ (o : Option Work). PreparesBy o (E None) c x) (sym (idle refl)) (subst NonePrepares (sym (more None)) none)
  rests (Some b) none idle = λ m id z has puts. absurd (none m id z (subst (λ (ms : List StoreCall). Contains ms m) (more (Some b)) has) puts)

  before : (o : Option Work) → work_in h.vacuum h.txn ≡ o → PreparesBy o events c x
  before o e = subst (λ (y : Option Work). PreparesBy y events c x) e so

  vacuums : (a : Option Answer) → SweepCall events c x h q r now a d → SoBy AreOwn WaitsOwn (E a) c (replied_said events x a) d a
  vacuums a z = rests a
      (none_more (calls_of events c x) made (before None (ap (λ (v : Option VacuumAt). work_in v h.txn) z.runs)) (λ id. sweep_no id (calls_of events c x) z.v.stage q z.is.1 z.pends))
      (λ e. ap (λ (o : Option TxnAt). work_in d.vacuum o) (ap (λ (y : ClientAt). y.txn) z.left ∙ z.rests) ∙ work_rests d.vacuum)

  reads : (a : Option Answer) → ReadCall catalog events c x h q r now a d → SoBy AreOwn WaitsOwn (E a) c (replied_said events x a) d a
  reads a z = rests a
      (none_more (calls_of events c x) made (before None (ap (λ (v : Option VacuumAt). work_in v h.txn) z.free ∙ ap work_txn z.opened ∙ ap work_doing z.reads))
      (λ id. read_no id (calls_of events c x) z.access z.x.stage q z.is.stage (subst (λ (y : Request). read_pending_at y z.x.stage ≡ Some q) z.asked.request z.pends)))
      (λ e.
      let again : z.next ≡ next.Call = calls_again z.next (sym e ∙ z.answer) in
      let left : d ≡ record h { txn = Some z.u } = z.left ∙ ap (λ (n : Next). after h n z.u) again in
      ap (λ (y : ClientAt). work_in y.vacuum y.txn) left ∙ ap (λ (v : Option VacuumAt). work_in v (Some z.u)) z.free ∙ read_left z.t z.p z.access z.x r now z.next z.u z.answered again)

  commits : (a : Option Answer) → CommitCall events c k.entries x h q r a d → SoBy AreOwn WaitsOwn (E a) c (replied_said events x a) d a
  commits a z = by a refl
    where
      p : Work
      p = z.k.work

      was : PreparesBy (Some p) events c x
      was = before (Some p) (ap (λ (v : Option VacuumAt). work_in v h.txn) z.free ∙ ap work_txn z.opened ∙ ap work_doing z.commits)

      own : p.id ≡ id_of c h.begun
      own = z.is.same ∙ z.since.id

      fits : p.id.0 < 2 ^ 128
      fits = subst (λ (i : TxId). i.0 < 2 ^ 128) (sym own) (id_fits c h.begun z.since.client k.small)

      all : PreparesFor p (calls_of events c x ++ made ∷ [])
      all = for_more p (calls_of events c x) made was.1 (λ id y puts. commit_own id p z.k.stage q y z.pends z.writes puts.0 fits z.is.moment puts.1 puts.2)

      by : (b : Option Answer) → a ≡ b → SoBy AreOwn WaitsOwn (E b) c (replied_said events x b) d b
      by None e =
          let further : z.progress ≡ progress.More = goes_further z.progress (sym e ∙ z.answer) in
          let left : d ≡ record h { txn = Some z.u } = z.left ∙ ap (λ (n : Progress). after h (next_of n) z.u) further in
          let here : work_in d.vacuum d.txn ≡ Some p = ap (λ (y : ClientAt). work_in y.vacuum y.txn) left ∙ ap (λ (v : Option VacuumAt). work_in v (Some z.u)) z.free ∙ work_goes z.u.doing p _ (λ y g. g.0) (z.answered.next further) in
          subst (λ (o : Option Work). PreparesBy o (E None) c x) (sym here)
          (was.0 ∙ sym (clock_same events (event.Call c store q how r None) x.accepted waits.accepted), subst (PreparesFor p) (sym (more None)) all)
      by (Some b) e = λ m id y has puts.
          let found = all m id y (subst (λ (ms : List StoreCall). Contains ms m) (more (Some b)) has) puts in
          let answered : statements_by c events ≡ k.entries ++ x ∷ [] = k.same ∙ ap (λ (o : Option Executed). k.entries ++ waiting_of o) waiting in
          record {
            commit = subst (IsCommitOf (E (Some b)) c (executed_with_answer events x b)) (sym (found.0 ∙ z.is.same))
                (commit_is (E (Some b)) (executed_with_answer events x b) k.small (call_executed c events (made_at events store q how r) b k.entries x answered) z.is.text (ends_commit (executed_with_answer events x b) z.is.text) z.since);
            moment = found.1 ∙ ap Some (was.0 ∙ sym (clock_same events (event.Call c store q how r (Some b)) x.accepted waits.accepted));
          }

  call_own : (a : Option Answer) → CallOf catalog events c k.entries x h q r now a d → SoBy AreOwn WaitsOwn (E a) c (replied_said events x a) d a
  call_own a (inl z) = vacuums a z
  call_own a (inr (inl z)) = reads a z
  call_own a (inr (inr z)) = commits a z

---- every statement

still_by : (events : List Event) (e : Event) (c : ℕ) (s : Executed) (o : Option Work) → IsStill events e c s → PreparesBy o events c s → PreparesBy o (events ++ e ∷ []) c s
still_by events e c s None still so = subst NonePrepares (sym still.calls) so
still_by events e c s (Some p) still so = (so.0 ∙ sym still.clock, subst (PreparesFor p) (sym still.calls) so.1)

past_own : (events : List Event) (e : Event) (c : ℕ) (s : Executed) → IsPast events e c s → AreOwn events c s → AreOwn (events ++ e ∷ []) c s
past_own events e c s past so m id r has puts =
    let own = so m id r (subst (λ (ms : List StoreCall). Contains ms m) past.calls has) puts in
    record { commit = past.commit id own.commit; moment = own.moment ∙ ap Some (sym past.clock) }

pub own_kept : AreKept (λ catalog. AreOwn) (λ catalog. WaitsOwn)
own_kept = record {
  answered = λ catalog. past_own;
  waiting = λ catalog events e c s h still so. still_by events e c s (work_in h.vacuum h.txn) still so;
  takes = takes_own;
  calls = λ w u c store q how r a t h k runs x waiting waits so. call_own w.script.catalog w.events c t.client_slot.client t.client store q how r w.clock k x waiting waits so a
      (call_of w.script.catalog w.events c t.client_slot.client k runs x waiting q r w.clock a t.client t.pending ((h.world.each t.place t.client_slot t.at).fitted t.goes_on) t.takes);
}

-- the COMMIT that waits is one of its transaction
pub commit_waits : (catalog : List Table) (events : List Event) (c : ℕ) (h : ClientAt) (k : Knows catalog events c h) (s : Executed) → k.waiting ≡ Some s → (p : Work) → work_in h.vacuum h.txn ≡ Some p → IsCommitOf events c s p.id
commit_waits catalog events c h k s waiting p here = by_vacuum h.vacuum (subst (λ (o : Option Executed). ClientByHistory events c h.begun k.entries o h.plan h.txn h.vacuum) waiting k.agrees) here
  where
    answered : statements_by c events ≡ k.entries ++ s ∷ []
    answered = k.same ∙ ap (λ (o : Option Executed). k.entries ++ waiting_of o) waiting

    by_doing : (t : TxnAt) (x : Doing) → IsOpenAs c h.begun k.entries t → IsDoing events c t h.plan (Some s) x → work_doing x ≡ Some p → IsCommitOf events c s p.id
    by_doing t (doing.Commit y) since is e =
        let same : t.id ≡ p.id = sym is.same ∙ ap (λ (w : Work). w.id) (some_is y.work p e) in
        subst (IsCommitOf events c s) same (commit_is events s k.small answered is.text (ends_commit s is.text) since)
    by_doing t doing.Idle since is e = none_some p e
    by_doing t (doing.Read a x) since is e = none_some p e
    by_doing t doing.Over since is e = none_some p e

    by_txn : (o : Option TxnAt) → DoingByHistory events c h.begun k.entries (Some s) h.plan o → work_txn o ≡ Some p → IsCommitOf events c s p.id
    by_txn None z e = none_some p e
    by_txn (Some t) z e = by_doing t t.doing z.1 z.2 e

    by_vacuum : (v : Option VacuumAt) → ClientByHistory events c h.begun k.entries (Some s) h.plan h.txn v → work_in v h.txn ≡ Some p → IsCommitOf events c s p.id
    by_vacuum None z e = by_txn h.txn z e
    by_vacuum (Some v) z e = none_some p e

-- Each call of an execution that prepares is one of its transaction's own COMMIT.
pub execution_own : (script : Script) (events : List Event) → IsPlayable script → IsExecution script events → PreparesAreOwn events
execution_own script events playable x client s m id r call = by s.answer refl (statements_so (λ catalog. AreOwn) (λ catalog. WaitsOwn) own_kept script events playable x client s call.among)
  where
    h : ClientAt
    h = (states_of x.last.client_slots client).client

    k : Knows script.catalog events client h
    k = (execution_holds script events playable x).caused.each client

    waits : (o : Option Work) → work_in h.vacuum h.txn ≡ o → s.answer ≡ None → PreparesBy o events client s → IsOwnPrepare events client s id r
    waits None e none so = absurd (so m id r call.call (call.fits, call.is, call.puts))
    waits (Some p) e none so =
        let found = so.1 m id r call.call (call.fits, call.is, call.puts) in
        record { commit = subst (IsCommitOf events client s) (sym found.0) (commit_waits script.catalog events client h k s (waiting none) p e); moment = found.1 ∙ ap Some so.0 }
      where
        waiting : s.answer ≡ None → k.waiting ≡ Some s
        waiting none = unanswered none (known script.catalog events client h k s call.among)
          where
            unanswered : s.answer ≡ None → IsAnswered script.catalog events client s ⊎ (k.waiting ≡ Some s) → k.waiting ≡ Some s
            unanswered none (inl y) = none_some y.given (sym none ∙ y.is)
            unanswered none (inr e) = e

    by : (o : Option Answer) → s.answer ≡ o → SoBy AreOwn WaitsOwn events client s h o → IsOwnPrepare events client s id r
    by None e so = waits (work_in h.vacuum h.txn) refl e so
    by (Some b) e so = so m id r call.call (call.fits, call.is, call.puts)
