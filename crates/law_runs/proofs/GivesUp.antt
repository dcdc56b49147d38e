-- Who writes another transaction's row puts it ABORTED, and had found a record of it that has expired, and no row.
use Rattle.std.proofs.Common.{◌≡◌, ◌⊎◌, inl, inr, ◌<◌, ◌^◌, ◌+◌, ℕ, ℤ, Bool, true, false, List, [], ◌∷◌, ◌++◌, length, Option, Some, None, IfSome, refl, sym, ap, subst, ◌∙◌, arith}
use Rattle.std.specs.Prelude.{Contains, is_some, if◌then◌else◌, nat_lt}
use Rattle.std.specs.List.{AllByRecursion}
use Rattle.std.proofs.lemmas.List.Elements.{Contains-append_left, Contains-append_right, Contains-push, Contains-push_cases}
use Rattle.law_runs.specs.Types.{Access, Answer, Decision, Doing, Event, How, Key, Meta, Next, Progress, ReadStep, Record, RecoverPhase, RecoverStep, Reply, Request, Script, Span, Table, TxId, VacuumStep}
use Rattle.sdb_types.specs.declared.record.Reply.TheVariants as reply
use Rattle.sdb_record.specs.declared.coordinator.Decision.TheVariants as decision
use Rattle.sdb_record.specs.Coordinator.{is_expired}
use Rattle.sdb_record.specs.Rolls.{is_tombstone}
use Rattle.sdb_model.specs.Catalogs.{catalog_after}
use Rattle.sdb_model.specs.Calls.{StoreCall, calls_after, calls_of, clock_at, is_read}
use Rattle.sdb_model.specs.Requests.{keys_asked}
use Rattle.law_clients.specs.About.{IsDoingIn, IsIn, IsOfTables, IsStageIn, IsVacuumStageIn, IsVacuumIn, IsWorkIn}
use Rattle.law_runs.proofs.Unprepared.{base_of}
use Rattle.sdb_phases.specs.declared.step.RecoverPhase.TheVariants as phase
use Rattle.sdb_phases.specs.declared.step.RecoverStep.TheVariants as steps
use Rattle.sdb_phases.specs.Recover.{recover_next, recover_request_at, row_followed}
use Rattle.sdb_phases.proofs.Public.{by_expiry, by_row, by_rows_recover_rows as by_rows}
use Rattle.sdb_txn.specs.Read.{Asking, Bad, Ended, Firm, Kind, Open, ReadStage, Resolving, answered, kind_of, read_step, resolved, settle, settle_one, read_pending_at, read_result, request_of}
use Rattle.sdb_vacuum.specs.declared.work.VacuumStep.TheVariants as vacuuming
use Rattle.sdb_vacuum.specs.Vacuum as vacuum
use Rattle.sdb_vacuum.specs.Vacuum.{First, Gives, VacuumAt, VacuumStage, vacuum_step}
use Rattle.law_runs.specs.Laws.{DecisionsAreDue, GivesUp, HasExpired, IsOwnDecision, WritesRow, row_put}
use Rattle.law_runs.proofs.Statements.{AreKept, IsPast, SoBy, calls_more, known, none_in, replied_said, statements_so}
use Rattle.law_runs.proofs.Replies.{CallOf, CommitCall, ReadCall, SweepCall, call_of}
use Rattle.sdb_client.specs.Client.{ClientAt, StagePost, after, answer_of, next_id, next_of, vacuum_left}
use Rattle.sdb_txn.specs.Phases.{CommitAt}
use Rattle.sdb_txn.specs.Txn.{IsCommitting as GoesOn, TxnAt, committing, reading}
use Rattle.law_runs.proofs.Steps.{Holds, execution_holds}
use Rattle.law_answers.specs.Invariant.{IsAnswered, IsWaiting, Knows}
use Rattle.sdb_model.specs.Causes.{IsCommitOf}
use Rattle.sdb_client.specs.Execution.{IsExecution, IsPlayable, State, TakeStep}
use Rattle.sdb_model.specs.Rows.{Name}
use Rattle.law_answers.specs.Reads.{ReadsBy, ResolvesBy}
use Rattle.sdb_model.specs.Transactions.{Executed, statements_by}
use Rattle.law_answers.specs.Vacuums.{VacuumStageBy}
use Rattle.law_runs.proofs.Takes.{TakenAs, taken_as}
use Rattle.sdb_phases.specs.Work.{Work, look_of}
use Rattle.law_runs.specs.World.{WorldAt, states_of, state_of}
use Rattle.law_answers.proofs.Public.{after_last, after_more, call_executed, clock_more, clock_same, commit_is, kept_in, made_at, none_yet, of_within, open_is, prepared_moment}
use Rattle.law_clients.specs.History.{executed_with_answer, executed_of_take, waiting_of}
use Rattle.law_runs.proofs.OwnPrepares.{calls_again, commit_waits, ends_commit, goes_further, work_doing, work_in, work_txn}
use Rattle.law_runs.proofs.RowWrites.{commit_writes, data_not, read_not, recover_writes, writer_fits}
use Rattle.sdb_types.proofs.Public.{id_fits, length_more, none_some, some_is}
use Rattle.sdb_record.specs.Meta.{id_in}
use Rattle.law_clients.proofs.Public.{meta_of}
use Rattle.std.specs.Option.{option_map}
use Rattle.sdb_record.specs.declared.access.Access.TheVariants as access
use Rattle.sdb_model.specs.declared.answer.Answer.TheVariants as answer
use Rattle.sdb_types.specs.declared.record.Request.TheVariants as ask
use Rattle.sdb_types.specs.declared.record.Condition.TheVariants as condition
use Rattle.sdb_txn.specs.declared.txn.Doing.TheVariants as doing
use Rattle.sdb_model.specs.declared.event.Event.TheVariants as event
use Rattle.sdb_client.specs.declared.next.Next.TheVariants as next
use Rattle.sdb_txn.specs.declared.progress.Progress.TheVariants as progress
use Rattle.sdb_types.specs.declared.record.State.TheVariants as state
use Rattle.sdb_txn.specs.declared.read.ReadStep.TheVariants as step
use Rattle.sdb_model.specs.Tables.{is_data}

---- where a recovery gives a transaction up

-- a call looked for the row, and found none of a transaction that has expired
abbrev pub Evidence : List Event → List StoreCall → TxId → ℤ → Type 0
Evidence events calls id now = (look : StoreCall) × Contains calls look × HasExpired events calls id look × (clock_at events look.at ≡ now)

abbrev pub PhaseGives : List Event → List StoreCall → TxId → RecoverPhase → Type 0
PhaseGives events calls id (phase.Abort now) = Evidence events calls id now
PhaseGives events calls id p = Unit {0}

abbrev pub StageGives : List Event → List StoreCall → ReadStage → Type 0
StageGives events calls (Resolving images rec meta p left) = PhaseGives events calls meta.id p
StageGives events calls Asking = Unit {0}
StageGives events calls (Ended s) = Unit {0}

abbrev pub SweepGives : List Event → List StoreCall → VacuumStage → Type 0
SweepGives events calls (vacuum.Resolving rec meta p left) = PhaseGives events calls meta.id p
SweepGives events calls (vacuum.Scanning span) = Unit {0}
SweepGives events calls (vacuum.Removing b left) = Unit {0}
SweepGives events calls vacuum.Over = Unit {0}

module _ (events : List Event) (calls : List StoreCall) where
  row_gives : (id : TxId) (meta : Meta) (row : Record) → PhaseGives events calls id (row_followed meta row).0
  row_gives id meta row = by_row meta row (λ n. PhaseGives events calls id n.0) (λ d says is. tt) (λ d says is. tt) (λ column says. tt)

  -- where a reply leads a recovery: it gives up only where its look found no row, of an expired record
  next_gives : (rec : Record) (meta : Meta) (p : RecoverPhase) (now : ℤ) (r : Reply) → (p ≡ phase.Look → r ≡ reply.Found None → is_expired meta.prepared_at now ≡ true → Evidence events calls meta.id now) → PhaseGives events calls meta.id (recover_next rec meta p now r).0
  next_gives rec meta p now r =
      by_rows rec meta now (λ p r n. (p ≡ phase.Look → r ≡ reply.Found None → is_expired meta.prepared_at now ≡ true → Evidence events calls meta.id now) → PhaseGives events calls meta.id n.0)
      (record {
        look_row = λ row h. row_gives meta.id meta row;
        look_none = λ h. by_expiry meta now (λ n. PhaseGives events calls meta.id n.0) (λ is. h refl refl is) (λ is. tt);
        abort_applied = λ m h. tt;
        abort_row = λ m row h. row_gives meta.id meta row;
        abort_fault = λ m h. tt;
        again_row = λ row h. row_gives meta.id meta row;
        again_none = λ h. tt;
        forward = λ at r is h. tt;
        back = λ r is h. tt;
        fault = λ p h. tt;
        no_memory = λ p r h. tt;
      }) p r

  ---- a read

  settle_gives : (images left : List Record) → StageGives events calls (settle images left)
  settle_gives images [] = tt
  settle_gives images (r ∷ left) = by (kind_of r) (settle_gives (images ++ r ∷ []) left)
    where
      by : (k : Kind) → StageGives events calls (settle (images ++ r ∷ []) left) → StageGives events calls (settle_one k images r left (settle (images ++ r ∷ []) left))
      by Firm h = h
      by (Open meta) h = tt
      by Bad h = tt

  answered_gives : (r : Reply) → StageGives events calls (answered r)
  answered_gives (reply.Found None) = settle_gives [] []
  answered_gives (reply.Found (Some r)) = settle_gives [] (r ∷ [])
  answered_gives (reply.Rows rows) = settle_gives [] rows
  answered_gives reply.Applied = tt
  answered_gives (reply.NotMet found) = tt
  answered_gives (reply.NotAll place there) = tt
  answered_gives reply.Fault = tt
  answered_gives reply.NoMemory = tt

  resolved_gives : (images : List Record) (rec : Record) (meta : Meta) (left : List Record) (n : RecoverPhase × RecoverStep) → PhaseGives events calls meta.id n.0 → StageGives events calls (resolved images rec meta left n)
  resolved_gives images rec meta left (p, steps.More) h = h
  resolved_gives images rec meta left (p, steps.Image None) h = settle_gives images left
  resolved_gives images rec meta left (p, steps.Image (Some b)) h = settle_gives (images ++ b ∷ []) left
  resolved_gives images rec meta left (p, steps.Busy id at) h = tt
  resolved_gives images rec meta left (p, steps.Faulted) h = tt
  resolved_gives images rec meta left (p, steps.BadRecord key) h = tt
  resolved_gives images rec meta left (p, steps.NoMemory) h = tt

  -- a look that found no row of an expired record
  abbrev LooksLate : Record → Meta → RecoverPhase → ℤ → Reply → Type 0
  LooksLate rec meta p now r = p ≡ phase.Look → r ≡ reply.Found None → is_expired meta.prepared_at now ≡ true → Evidence events calls meta.id now

  abbrev StageLooks : ReadStage → ℤ → Reply → Type 0
  StageLooks (Resolving images rec meta p left) now r = LooksLate rec meta p now r
  StageLooks Asking now r = Unit {0}
  StageLooks (Ended s) now r = Unit {0}

  step_gives : (s : ReadStage) (now : ℤ) (r : Reply) → StageLooks s now r → StageGives events calls (read_step s now r)
  step_gives Asking now r h = answered_gives r
  step_gives (Resolving images rec meta p left) now r h = resolved_gives images rec meta left (recover_next rec meta p now r) (next_gives rec meta p now r h)
  step_gives (Ended s) now r h = tt

  ---- a VACUUM

  next_table_gives : (ss : List Span) (n : ℕ) → SweepGives events calls (vacuum.next_table ss n).0.stage
  next_table_gives [] n = tt
  next_table_gives (s ∷ ss) n = tt

  going_gives : (ss : List Span) (n : ℕ) (f : First) → SweepGives events calls (vacuum.next_of_row ss n f).0.stage
  going_gives ss n vacuum.Nothing = next_table_gives ss n
  going_gives ss n (vacuum.Tombstone b left) = tt
  going_gives ss n (vacuum.Unresolved r meta left) = tt
  going_gives ss n (vacuum.Malformed key) = tt

  scanned_gives : (ss : List Span) (n : ℕ) (r : Reply) → SweepGives events calls (vacuum.answered ss n r).0.stage
  scanned_gives ss n (reply.Rows rows) = going_gives ss n (vacuum.first_of rows)
  scanned_gives ss n (reply.Found found) = tt
  scanned_gives ss n reply.Applied = tt
  scanned_gives ss n (reply.NotMet found) = tt
  scanned_gives ss n (reply.NotAll place there) = tt
  scanned_gives ss n reply.Fault = tt
  scanned_gives ss n reply.NoMemory = tt

  tombstone_gives : (ss : List Span) (n : ℕ) (left : List Record) (b : Record) → SweepGives events calls (vacuum.tombstone_or ss n left b).0.stage
  tombstone_gives ss n left b = by (is_tombstone b)
    where
      by : (t : Bool) → SweepGives events calls (if t then vacuum.with_call ss n (vacuum.Removing b left) else vacuum.next_of_row ss n (vacuum.first_of left)).0.stage
      by true = tt
      by false = going_gives ss n (vacuum.first_of left)

  swept_gives : (ss : List Span) (n : ℕ) (rec : Record) (meta : Meta) (left : List Record) (x : RecoverPhase × RecoverStep) → PhaseGives events calls meta.id x.0 → SweepGives events calls (vacuum.resolved ss n rec meta left x).0.stage
  swept_gives ss n rec meta left (p, steps.More) h = h
  swept_gives ss n rec meta left (p, steps.Image None) h = going_gives ss n (vacuum.first_of left)
  swept_gives ss n rec meta left (p, steps.Image (Some b)) h = tombstone_gives ss n left b
  swept_gives ss n rec meta left (p, steps.Busy id at) h = going_gives ss n (vacuum.first_of left)
  swept_gives ss n rec meta left (p, steps.Faulted) h = tt
  swept_gives ss n rec meta left (p, steps.BadRecord key) h = tt
  swept_gives ss n rec meta left (p, steps.NoMemory) h = tt

  removed_gives : (ss : List Span) (n : ℕ) (left : List Record) (r : Reply) → SweepGives events calls (vacuum.removal_answered ss n left r).0.stage
  removed_gives ss n left reply.Applied = going_gives ss (n + 1) (vacuum.first_of left)
  removed_gives ss n left (reply.NotMet found) = going_gives ss n (vacuum.first_of left)
  removed_gives ss n left reply.Fault = tt
  removed_gives ss n left (reply.Found found) = tt
  removed_gives ss n left (reply.Rows rows) = tt
  removed_gives ss n left (reply.NotAll place there) = tt
  removed_gives ss n left reply.NoMemory = tt

  abbrev SweepLooks : VacuumStage → ℤ → Reply → Type 0
  SweepLooks (vacuum.Resolving rec meta p left) now r = LooksLate rec meta p now r
  SweepLooks (vacuum.Scanning span) now r = Unit {0}
  SweepLooks (vacuum.Removing b left) now r = Unit {0}
  SweepLooks vacuum.Over now r = Unit {0}

  sweep_gives : (ss : List Span) (n : ℕ) (s : VacuumStage) (now : ℤ) (r : Reply) → SweepLooks s now r → SweepGives events calls (vacuum.step_at ss n s now r).0.stage
  sweep_gives ss n (vacuum.Scanning span) now r h = scanned_gives ss n r
  sweep_gives ss n (vacuum.Resolving rec meta p left) now r h = swept_gives ss n rec meta left (recover_next rec meta p now r) (next_gives rec meta p now r h)
  sweep_gives ss n (vacuum.Removing b left) now r h = removed_gives ss n left r
  sweep_gives ss n vacuum.Over now r h = tt

  -- where it goes on
  left_gives : (want : VacuumAt × VacuumStep) (v : VacuumAt) (s : VacuumStep) → Gives want v s → SweepGives events calls want.0.stage → SweepGives events calls v.stage
  left_gives want v vacuuming.NoMemory g h = subst (SweepGives events calls) (sym g) tt
  left_gives want v vacuuming.More g h = subst (λ (y : VacuumAt). SweepGives events calls y.stage) (sym g.0) h
  left_gives want v (vacuuming.Count n) g h = subst (λ (y : VacuumAt). SweepGives events calls y.stage) (sym g.0) h
  left_gives want v vacuuming.Faulted g h = subst (λ (y : VacuumAt). SweepGives events calls y.stage) (sym g.0) h
  left_gives want v (vacuuming.BadRecord key) g h = subst (λ (y : VacuumAt). SweepGives events calls y.stage) (sym g.0) h

---- what is so of the calls of a statement

abbrev AllGive : List Event → List StoreCall → Type 0
AllGive events calls = (m : StoreCall) (id : TxId) → Contains calls m → id.0 < 2 ^ 128 → WritesRow id m → GivesUp events calls m id

-- each write of a row is the COMMIT's own
abbrev pub OwnWrites : Work → List StoreCall → Type 0
OwnWrites p calls = (m : StoreCall) (id : TxId) → Contains calls m → id.0 < 2 ^ 128 → WritesRow id m → (id ≡ p.id) × (d : Decision) × (m.request ≡ row_put p.id d p.now)

abbrev pub DoingGives : List Event → List StoreCall → ℤ → Doing → Type 0
DoingGives events calls accepted (doing.Read a x) = AllGive events calls × StageGives events calls x.stage
DoingGives events calls accepted (doing.Commit k) = (k.work.now ≡ accepted) × OwnWrites k.work calls
DoingGives events calls accepted doing.Idle = AllGive events calls
DoingGives events calls accepted doing.Over = AllGive events calls

abbrev pub TxnGives : List Event → List StoreCall → ℤ → Option TxnAt → Type 0
TxnGives events calls accepted None = AllGive events calls
TxnGives events calls accepted (Some t) = DoingGives events calls accepted t.doing

abbrev pub HandGives : List Event → List StoreCall → ℤ → Option VacuumAt → Option TxnAt → Type 0
HandGives events calls accepted None o = TxnGives events calls accepted o
HandGives events calls accepted (Some v) o = AllGive events calls × SweepGives events calls v.stage

abbrev pub AreDue : List Event → ℕ → Executed → Type 0
AreDue events c s = (m : StoreCall) (id : TxId) → Contains (calls_of events c s) m → id.0 < 2 ^ 128 → WritesRow id m → IsOwnDecision events c s id m ⊎ GivesUp events (calls_of events c s) m id

abbrev pub WaitDue : List Event → ℕ → Executed → ClientAt → Type 0
WaitDue events c s h = HandGives events (calls_of events c s) (clock_at events s.accepted) h.vacuum h.txn

---- it stays

-- calls are among later ones, and the clock showed the same at each
record Carries (events later : List Event) (calls more : List StoreCall) : Type 0 where
  has : (x : StoreCall) → Contains calls x → Contains more x
  after : (n : ℕ) (x : StoreCall) → Contains (calls_after n calls) x → Contains (calls_after n more) x
  clock : (x : StoreCall) → Contains calls x → clock_at later x.at ≡ clock_at events x.at

module _ (events later : List Event) (calls more : List StoreCall) (on : Carries events later calls more) where
  expired_on : (id : TxId) (look : StoreCall) → HasExpired events calls id look → HasExpired later more id look
  expired_on id look h = record {
    read = h.read;
    found = h.found;
    at = h.at;
    reads = (on.has h.read h.reads.0, h.reads.1, h.reads.2);
    unresolved = h.unresolved;
    looks = (on.after h.read.at look h.looks.0, h.looks.1, h.looks.2);
    late = ap (is_expired h.at) (on.clock look (kept_in (λ (y : StoreCall). nat_lt h.read.at y.at) calls look h.looks.0)) ∙ h.late;
  }

  looked_at : (id : TxId) (look : StoreCall) → HasExpired events calls id look → clock_at later look.at ≡ clock_at events look.at
  looked_at id look h = on.clock look (kept_in (λ (y : StoreCall). nat_lt h.read.at y.at) calls look h.looks.0)

  gives_on : (m : StoreCall) (id : TxId) → GivesUp events calls m id → GivesUp later more m id
  gives_on m id h = record { look = h.look; expired = expired_on id h.look h.expired; before = h.before; asks = h.asks ∙ ap (row_put id decision.Aborted) (sym (looked_at id h.look h.expired)) }

  phase_on : (id : TxId) (p : RecoverPhase) → PhaseGives events calls id p → PhaseGives later more id p
  phase_on id (phase.Abort now) h = (h.0, on.has h.0 h.1, expired_on id h.0 h.2, looked_at id h.0 h.2 ∙ h.3)
  phase_on id phase.Look h = tt
  phase_on id phase.Again h = tt
  phase_on id (phase.Forward at) h = tt
  phase_on id phase.Back h = tt
  phase_on id phase.Ended h = tt

-- an event of others
carries_same : (c : ℕ) (events : List Event) (e : Event) (s : Executed) → calls_of (events ++ e ∷ []) c s ≡ calls_of events c s → Carries events (events ++ e ∷ []) (calls_of events c s) (calls_of (events ++ e ∷ []) c s)
carries_same c events e s same = record {
  has = λ x h. subst (λ (ms : List StoreCall). Contains ms x) (sym same) h;
  after = λ n x h. subst (λ (ms : List StoreCall). Contains (calls_after n ms) x) (sym same) h;
  clock = λ x h. clock_same events e x.at (of_within c events s x h);
}

all_same : (c : ℕ) (events : List Event) (e : Event) (s : Executed) → calls_of (events ++ e ∷ []) c s ≡ calls_of events c s → AllGive events (calls_of events c s) → AllGive (events ++ e ∷ []) (calls_of (events ++ e ∷ []) c s)
all_same c events e s same all m id has fits puts = gives_on events (events ++ e ∷ []) (calls_of events c s) (calls_of (events ++ e ∷ []) c s) (carries_same c events e s same) m id (all m id (subst (λ (ms : List StoreCall). Contains ms m) same has) fits puts)

still_gives : (c : ℕ) (events : List Event) (e : Event) (s : Executed) → calls_of (events ++ e ∷ []) c s ≡ calls_of events c s → clock_at (events ++ e ∷ []) s.accepted ≡ clock_at events s.accepted → (v : Option VacuumAt) (o : Option TxnAt) → HandGives events (calls_of events c s) (clock_at events s.accepted) v o → HandGives (events ++ e ∷ []) (calls_of (events ++ e ∷ []) c s) (clock_at (events ++ e ∷ []) s.accepted) v o
still_gives c events e s same shows = by_vacuum
  where
    all : AllGive events (calls_of events c s) → AllGive (events ++ e ∷ []) (calls_of (events ++ e ∷ []) c s)
    all = all_same c events e s same

    on : Carries events (events ++ e ∷ []) (calls_of events c s) (calls_of (events ++ e ∷ []) c s)
    on = carries_same c events e s same

    by_stage : (x : ReadStage) → StageGives events (calls_of events c s) x → StageGives (events ++ e ∷ []) (calls_of (events ++ e ∷ []) c s) x
    by_stage Asking h = tt
    by_stage (Resolving images rec meta p left) h = phase_on events (events ++ e ∷ []) (calls_of events c s) (calls_of (events ++ e ∷ []) c s) on meta.id p h
    by_stage (Ended x) h = tt

    by_sweep : (x : VacuumStage) → SweepGives events (calls_of events c s) x → SweepGives (events ++ e ∷ []) (calls_of (events ++ e ∷ []) c s) x
    by_sweep (vacuum.Scanning span) h = tt
    by_sweep (vacuum.Resolving rec meta p left) h = phase_on events (events ++ e ∷ []) (calls_of events c s) (calls_of (events ++ e ∷ []) c s) on meta.id p h
    by_sweep (vacuum.Removing b left) h = tt
    by_sweep vacuum.Over h = tt

    by_doing : (x : Doing) → DoingGives events (calls_of events c s) (clock_at events s.accepted) x → DoingGives (events ++ e ∷ []) (calls_of (events ++ e ∷ []) c s) (clock_at (events ++ e ∷ []) s.accepted) x
    by_doing (doing.Read a x) h = (all h.0, by_stage x.stage h.1)
    by_doing (doing.Commit k) h = (h.0 ∙ sym shows, subst (OwnWrites k.work) (sym same) h.1)
    by_doing doing.Idle h = all h
    by_doing doing.Over h = all h

    by_txn : (o : Option TxnAt) → TxnGives events (calls_of events c s) (clock_at events s.accepted) o → TxnGives (events ++ e ∷ []) (calls_of (events ++ e ∷ []) c s) (clock_at (events ++ e ∷ []) s.accepted) o
    by_txn None h = all h
    by_txn (Some t) h = by_doing t.doing h

    by_vacuum : (v : Option VacuumAt) (o : Option TxnAt) → HandGives events (calls_of events c s) (clock_at events s.accepted) v o → HandGives (events ++ e ∷ []) (calls_of (events ++ e ∷ []) c s) (clock_at (events ++ e ∷ []) s.accepted) v o
    by_vacuum None o h = by_txn o h
    by_vacuum (Some v) o h = (all h.0, by_sweep v.stage h.1)

past_due : (events : List Event) (e : Event) (c : ℕ) (s : Executed) → IsPast events e c s → AreDue events c s → AreDue (events ++ e ∷ []) c s
past_due events e c s past due m id has fits puts = by (due m id (subst (λ (ms : List StoreCall). Contains ms m) past.calls has) fits puts)
  where
    by : IsOwnDecision events c s id m ⊎ GivesUp events (calls_of events c s) m id → IsOwnDecision (events ++ e ∷ []) c s id m ⊎ GivesUp (events ++ e ∷ []) (calls_of (events ++ e ∷ []) c s) m id
    by (inl own) = inl (record { commit = past.commit id own.commit; decision = own.decision; asks = own.asks ∙ ap (row_put id own.decision) (sym past.clock) })
    by (inr gives) = inr (gives_on events (events ++ e ∷ []) (calls_of events c s) (calls_of (events ++ e ∷ []) c s) (carries_same c events e s past.calls) m id gives)

---- a statement is accepted

no_calls : (events : List Event) (calls : List StoreCall) → calls ≡ [] → AllGive events calls
no_calls events calls none m id has fits puts = none_in m (subst (λ (ms : List StoreCall). Contains ms m) none has)

takes_due : (w : WorldAt) (u : State) (c : ℕ) (text : List ℕ) (a : Option Answer) (t : TakeStep w.script w.events (state_of w) c text a u) → Holds w → SoBy AreDue WaitDue (w.events ++ event.Take c text a ∷ []) c (executed_of_take w.events text a) t.client a
takes_due w u c text (Some b) t h = λ m id has fits puts. none_in m (subst (λ (ms : List StoreCall). Contains ms m) (none_yet c w.events text (Some b)) has)
takes_due w u c text None t h = by (taken_as (record { catalog = catalog_after w.script.catalog w.events; now = w.clock; gate = t.gate; fresh = next_id t.client_slot.client }) text t.client_slot.client t.client t.takes)
  where
    E : List Event
    E = w.events ++ event.Take c text None ∷ []

    calls : List StoreCall
    calls = calls_of E c (executed_of_take w.events text None)

    none : AllGive E calls
    none = no_calls E calls (none_yet c w.events text None)

    shows : clock_at E (1 + length w.events) ≡ w.clock
    shows = ap (clock_at E) (sym (length_more w.events (event.Take c text None) ∙ one_plus (length w.events))) ∙ clock_more w.events (event.Take c text None) ∙ h.caused.clock
      where
        one_plus : (n : ℕ) → n + 1 ≡ 1 + n
        one_plus n = omega arith

    accepted : ℤ
    accepted = clock_at E (1 + length w.events)

    commits : (v : Option VacuumAt) (x : TxnAt) → v ≡ None → HandGives E calls accepted v (Some (committing x w.clock))
    commits None x e = (sym shows, λ m id has fits puts. none_in m (subst (λ (ms : List StoreCall). Contains ms m) (none_yet c w.events text None) has))
    commits (Some v) x e = none_some v (sym e)

    reads : (v : Option VacuumAt) (x : TxnAt) (a : Access) → v ≡ None → HandGives E calls accepted v (Some (reading x a))
    reads None x a e = (none, tt)
    reads (Some v) x a e = none_some v (sym e)

    by : TakenAs (record { catalog = catalog_after w.script.catalog w.events; now = w.clock; gate = t.gate; fresh = next_id t.client_slot.client }) t.client_slot.client t.client → HandGives E calls accepted t.client.vacuum t.client.txn
    by (inl z) = subst (λ (y : ClientAt). HandGives E calls accepted y.vacuum y.txn) (sym z.left) (commits t.client_slot.client.vacuum z.t t.idle.free)
    by (inr (inl z)) = subst (λ (y : ClientAt). HandGives E calls accepted y.vacuum y.txn) (sym z.left) (none, tt)
    by (inr (inr z)) = subst (λ (y : ClientAt). HandGives E calls accepted y.vacuum y.txn) (sym z.left) (reads t.client_slot.client.vacuum z.t z.access t.idle.free)

---- a call is made

-- what is so of each call is so of all
pub each_of : {P : StoreCall → Type 0} (calls : List StoreCall) → ((y : StoreCall) → Contains calls y → P y) → AllByRecursion P calls
each_of [] h = tt
each_of {P = P} (y ∷ ys) h = (h y (Contains-append_left (y ∷ []) ys y (Contains-push [] y)), each_of {P = P} ys (λ z has. h z (Contains-append_right (y ∷ []) ys z has)))

module _ (catalog : List Table) (events : List Event) (c : ℕ) (h d : ClientAt) (store : Name) (q : Request) (how : How) (r : Reply) (now : ℤ) (k : Knows catalog events c h) (x : Executed) (waiting : k.waiting ≡ Some x) (waits : IsWaiting catalog events c (is_some h.vacuum) x) (clock : clock_at events (length events) ≡ now) (about : IsOfTables catalog h) (apart : (y : Key) → IsIn catalog y → is_data y ≡ true) (so : WaitDue events c x h) where
  abbrev E : Option Answer → List Event
  E a = events ++ event.Call c store q how r a ∷ []

  abbrev made : StoreCall
  made = made_at events store q how r

  abbrev ms : List StoreCall
  ms = calls_of events c x

  more : (a : Option Answer) → calls_of (E a) c (replied_said events x a) ≡ ms ++ made ∷ []
  more a = calls_more events c store q how r x waits.unanswered waits.accepted a

  older : AllByRecursion (λ y. y.at < made.at) ms
  older = each_of ms (λ y has. let low = of_within c events x y has in omega (arith, low))

  on : (a : Option Answer) → Carries events (E a) ms (ms ++ made ∷ [])
  on a = record {
    has = λ y has. Contains-append_left ms (made ∷ []) y has;
    after = λ n y has. after_more (record { 0 = 0 }) ms made older n y has;
    clock = λ y has. clock_same events (event.Call c store q how r a) y.at (of_within c events x y has);
  }

  clock_now : (a : Option Answer) → clock_at (E a) made.at ≡ now
  clock_now a = ap (clock_at (E a)) (sym (length_more events (event.Call c store q how r a) ∙ one_plus (length events))) ∙ clock_more events (event.Call c store q how r a) ∙ clock
    where
      one_plus : (n : ℕ) → n + 1 ≡ 1 + n
      one_plus n = omega arith

  -- all do, and this one does
  all_more : (a : Option Answer) → AllGive events ms → ((id : TxId) → id.0 < 2 ^ 128 → WritesRow id made → GivesUp (E a) (ms ++ made ∷ []) made id) → AllGive (E a) (ms ++ made ∷ [])
  all_more a all one m id has fits puts = by (Contains-push_cases ms made m has)
    where
      by : Contains ms m ⊎ (made ≡ m) → GivesUp (E a) (ms ++ made ∷ []) m id
      by (inl old) = gives_on events (E a) ms (ms ++ made ∷ []) (on a) m id (all m id old fits puts)
      by (inr same) = subst (λ (y : StoreCall). GivesUp (E a) (ms ++ made ∷ []) y id) same (one id fits (subst (λ (y : StoreCall). WritesRow id y) (sym same) puts))

  -- a recovery that gives up had looked before
  gives_now : (a : Option Answer) (rec : Record) (meta : Meta) (p : RecoverPhase) (left : List Record) → IsIn catalog rec.key → ResolvesBy ms rec meta p left → recover_request_at rec meta p ≡ Some q → PhaseGives events ms meta.id p → (id : TxId) → id.0 < 2 ^ 128 → WritesRow id made → GivesUp (E a) (ms ++ made ∷ []) made id
  gives_now a rec meta p left inside by_calls asks gives id fits puts =
      let opened = open_is rec meta by_calls.is_open in
      let x = recover_writes catalog apart id rec meta p q inside (base_of id rec opened.0) asks fits (writer_fits rec meta.id (meta_of rec meta opened.0 opened.1).writer) puts in
      subst (GivesUp (E a) (ms ++ made ∷ []) made) (sym x.2) (looked x.0 x.3 (subst (PhaseGives events ms meta.id) x.1 gives))
    where
      looked : (moment : ℤ) → q ≡ row_put meta.id decision.Aborted moment → Evidence events ms meta.id moment → GivesUp (E a) (ms ++ made ∷ []) made meta.id
      looked moment asked e = record {
        look = e.0;
        expired = expired_on events (E a) ms (ms ++ made ∷ []) (on a) meta.id e.0 e.2;
        before = let low = of_within c events x e.0 e.1 in omega (arith, low);
        asks = asked ∙ ap (row_put meta.id decision.Aborted) (sym (looked_at events (E a) ms (ms ++ made ∷ []) (on a) meta.id e.0 e.2 ∙ e.3));
      }

  -- a look that finds no row of an expired record is what it rests on
  late_now : (a : Option Answer) (rec : Record) (meta : Meta) (p : RecoverPhase) (left : List Record) → ResolvesBy ms rec meta p left → recover_request_at rec meta p ≡ Some q → LooksLate (E a) (ms ++ made ∷ []) rec meta p now r
  late_now a rec meta p left by_calls asks is_look none late =
      let opened = open_is rec meta by_calls.is_open in (
        made,
        Contains-push ms made,
        record {
          read = by_calls.found.read;
          found = rec;
          at = meta.prepared_at;
          reads = (Contains-append_left ms (made ∷ []) by_calls.found.read by_calls.found.among, by_calls.found.reads, by_calls.found.found.0);
          unresolved = (opened.0, (meta_of rec meta opened.0 opened.1).writer, prepared_moment rec meta opened.1);
          looks = (after_last meta.id ms made older by_calls.found.read by_calls.found.among, sym (some_is (look_of meta.id) q (sym (ap (recover_request_at rec meta) is_look) ∙ asks)), none);
          late = ap (is_expired meta.prepared_at) (clock_now a) ∙ late;
        },
        clock_now a,
      )

  -- what was so of its calls, with this one
  comes : (a : Option Answer) → AllGive (E a) (ms ++ made ∷ []) → (a ≡ None → HandGives (E None) (ms ++ made ∷ []) (clock_at (E None) x.accepted) d.vacuum d.txn) → SoBy AreDue WaitDue (E a) c (replied_said events x a) d a
  comes None all left = subst (λ (cs : List StoreCall). HandGives (E None) cs (clock_at (E None) x.accepted) d.vacuum d.txn) (sym (more None)) (left refl)
  comes (Some b) all left = λ m id has fits puts. inr (subst (λ (cs : List StoreCall). GivesUp (E (Some b)) cs m id) (sym (more (Some b))) (all m id (subst (λ (cs : List StoreCall). Contains cs m) (more (Some b)) has) fits puts))

  vacuums : (a : Option Answer) → SweepCall events c x h q r now a d → SoBy AreDue WaitDue (E a) c (replied_said events x a) d a
  vacuums a z = comes a (all_more a was.0 (λ id fits puts. by_stage a z.v.stage inside z.is.1 z.pends was.1 id fits puts)) (λ e. goes e)
    where
      was : AllGive events ms × SweepGives events ms z.v.stage
      was = subst (λ (v : Option VacuumAt). HandGives events ms (clock_at events x.accepted) v h.txn) z.runs so

      inside : IsVacuumStageIn catalog z.v.stage
      inside = (subst (λ (o : Option VacuumAt). IfSome o (IsVacuumIn catalog)) z.runs about.vacuum).0

      by_stage : (a : Option Answer) (s : VacuumStage) → IsVacuumStageIn catalog s → VacuumStageBy ms s → vacuum.pending_at s ≡ Some q → SweepGives events ms s → (id : TxId) → id.0 < 2 ^ 128 → WritesRow id made → GivesUp (E a) (ms ++ made ∷ []) made id
      by_stage a (vacuum.Scanning span) i by_calls asks gives id fits puts = absurd (read_not catalog apart id q (ap is_read (sym (some_is (ask.Scan span) q asks))) puts)
      by_stage a (vacuum.Resolving rec meta p left) i by_calls asks gives id fits puts = gives_now a rec meta p left i.0 by_calls asks gives id fits puts
      by_stage a (vacuum.Removing b left) i by_calls asks gives id fits puts = absurd (removes (id_in b.columns) asks)
        where
          removes : (o : Option TxId) → option_map (λ (n : TxId). ask.DeleteIf b.key (condition.Version n state.Committed)) o ≡ Some q → ⊥
          removes None e = none_some q e
          removes (Some n) e = data_not catalog apart id q (b.key ∷ []) (ap keys_asked (sym (some_is (ask.DeleteIf b.key (condition.Version n state.Committed)) q e))) (i.0, tt) puts
      by_stage a vacuum.Over i by_calls asks gives id fits puts = none_some q asks

      looks : (s : VacuumStage) → VacuumStageBy ms s → vacuum.pending_at s ≡ Some q → SweepLooks (E None) (ms ++ made ∷ []) s now r
      looks (vacuum.Scanning span) by_calls asks = tt
      looks (vacuum.Resolving rec meta p left) by_calls asks = late_now None rec meta p left by_calls asks
      looks (vacuum.Removing b left) by_calls asks = tt
      looks vacuum.Over by_calls asks = tt

      more_step : (s : VacuumStep) → None ≡ answer_of s → s ≡ vacuuming.More
      more_step vacuuming.More e = refl
      more_step (vacuuming.Count n) e = absurd (cc)
      more_step vacuuming.Faulted e = absurd (cc)
      more_step (vacuuming.BadRecord key) e = absurd (cc)
      more_step vacuuming.NoMemory e = absurd (cc)

      goes : a ≡ None → HandGives (E None) (ms ++ made ∷ []) (clock_at (E None) x.accepted) d.vacuum d.txn
      goes e =
          let further : z.answered.step ≡ vacuuming.More = more_step z.answered.step (sym e ∙ z.answered.answer) in
          let left : d.vacuum ≡ Some z.answered.left = z.answered.goes ∙ ap (λ (s : VacuumStep). vacuum_left s z.answered.left) further in
          let all : AllGive (E None) (ms ++ made ∷ []) = all_more None was.0 (λ id fits puts. by_stage None z.v.stage inside z.is.1 z.pends was.1 id fits puts) in
          subst (λ (v : Option VacuumAt). HandGives (E None) (ms ++ made ∷ []) (clock_at (E None) x.accepted) v d.txn) (sym left)
          (all, left_gives (E None) (ms ++ made ∷ []) (vacuum_step z.v now r) z.answered.left z.answered.step z.answered.answered (sweep_gives (E None) (ms ++ made ∷ []) z.v.spans z.v.removed z.v.stage now r (looks z.v.stage z.is.1 z.pends)))

  reads : (a : Option Answer) → ReadCall catalog events c x h q r now a d → SoBy AreDue WaitDue (E a) c (replied_said events x a) d a
  reads a z = comes a (all_more a was.0 (λ id fits puts. by_stage a z.x.stage inside z.is.stage asks was.1 id fits puts)) (λ e. goes e)
    where
      was : AllGive events ms × StageGives events ms z.x.stage
      was = subst (DoingGives events ms (clock_at events x.accepted)) z.reads (subst (TxnGives events ms (clock_at events x.accepted)) z.opened (subst (λ (v : Option VacuumAt). HandGives events ms (clock_at events x.accepted) v h.txn) z.free so))

      asks : read_pending_at (request_of z.access) z.x.stage ≡ Some q
      asks = subst (λ (y : Request). read_pending_at y z.x.stage ≡ Some q) z.asked.request z.pends

      reads_only : (y : Access) → is_read (request_of y) ≡ true
      reads_only (access.Get key) = refl
      reads_only (access.Scan span) = refl

      inside : IsStageIn catalog z.x.stage
      inside =
          let of_txn : IsDoingIn catalog z.t.seen z.t.doing h.plan = subst (λ (o : Option TxnAt). IfSome o (λ y. IsDoingIn catalog y.seen y.doing h.plan)) z.opened about.txn in
          let of_read : IsDoingIn catalog z.t.seen (doing.Read z.access z.x) (Some z.p) = subst (IsDoingIn catalog z.t.seen (doing.Read z.access z.x)) z.plan (subst (λ (y : Doing). IsDoingIn catalog z.t.seen y h.plan) z.reads of_txn) in
          of_read.1.stage

      by_stage : (a : Option Answer) (s : ReadStage) → IsStageIn catalog s → ReadsBy ms s → read_pending_at (request_of z.access) s ≡ Some q → StageGives events ms s → (id : TxId) → id.0 < 2 ^ 128 → WritesRow id made → GivesUp (E a) (ms ++ made ∷ []) made id
      by_stage a Asking i by_calls e gives id fits puts = absurd (read_not catalog apart id q (ap is_read (sym (some_is (request_of z.access) q e)) ∙ reads_only z.access) puts)
      by_stage a (Resolving images rec meta p left) i by_calls e gives id fits puts = gives_now a rec meta p left i.1 by_calls e gives id fits puts
      by_stage a (Ended s) i by_calls e gives id fits puts = none_some q e

      looks : (s : ReadStage) → ReadsBy ms s → read_pending_at (request_of z.access) s ≡ Some q → StageLooks (E None) (ms ++ made ∷ []) s now r
      looks Asking by_calls e = tt
      looks (Resolving images rec meta p left) by_calls e = late_now None rec meta p left by_calls e
      looks (Ended s) by_calls e = tt

      all : AllGive (E None) (ms ++ made ∷ [])
      all = all_more None was.0 (λ id fits puts. by_stage None z.x.stage inside z.is.stage asks was.1 id fits puts)

      goes : a ≡ None → HandGives (E None) (ms ++ made ∷ []) (clock_at (E None) x.accepted) d.vacuum d.txn
      goes e =
          let again : z.next ≡ next.Call = calls_again z.next (sym e ∙ z.answer) in
          let left : d ≡ record h { txn = Some z.u } = z.left ∙ ap (λ (n : Next). after h n z.u) again in
          subst (λ (y : ClientAt). HandGives (E None) (ms ++ made ∷ []) (clock_at (E None) x.accepted) y.vacuum y.txn) (sym left)
          (subst (λ (v : Option VacuumAt). HandGives (E None) (ms ++ made ∷ []) (clock_at (E None) x.accepted) v (Some z.u)) (sym z.free) (by (read_result (read_step z.x.stage now r)) (subst (λ (m : Next). StagePost z.t z.p z.access z.x (read_step z.x.stage now r) (read_result (read_step z.x.stage now r)) m z.u) again (z.answered.answered (λ n. other (sym again ∙ n))))))
        where
          other : next.Call ≡ next.Answer answer.NoMemory → ⊥
          other n = cc

          by : (s : ReadStep) → StagePost z.t z.p z.access z.x (read_step z.x.stage now r) s next.Call z.u → DoingGives (E None) (ms ++ made ∷ []) (clock_at (E None) x.accepted) z.u.doing
          by step.More n = subst (λ (y : TxnAt). DoingGives (E None) (ms ++ made ∷ []) (clock_at (E None) x.accepted) y.doing) (sym n.1) (all, step_gives (E None) (ms ++ made ∷ []) z.x.stage now r (looks z.x.stage z.is.stage asks))
          by (step.Images images) n = absurd n
          by (step.Busy key id at) n = absurd (let y = n.0 in cc)
          by step.Faulted n = absurd (let y = n.0 in cc)
          by (step.BadRecord key) n = absurd (let y = n.0 in cc)
          by step.NoMemory n = absurd n

  commits : (a : Option Answer) → CommitCall events c k.entries x h q r a d → SoBy AreDue WaitDue (E a) c (replied_said events x a) d a
  commits a z = by a refl
    where
      was : (z.k.work.now ≡ clock_at events x.accepted) × OwnWrites z.k.work ms
      was = subst (DoingGives events ms (clock_at events x.accepted)) z.commits (subst (TxnGives events ms (clock_at events x.accepted)) z.opened (subst (λ (v : Option VacuumAt). HandGives events ms (clock_at events x.accepted) v h.txn) z.free so))

      shows : (b : Option Answer) → z.k.work.now ≡ clock_at (E b) x.accepted
      shows b = was.0 ∙ sym (clock_same events (event.Call c store q how r b) x.accepted waits.accepted)

      fits_own : z.k.work.id.0 < 2 ^ 128
      fits_own = subst (λ (i : TxId). i.0 < 2 ^ 128) (sym (z.is.same ∙ z.since.id)) (id_fits c h.begun z.since.client k.small)

      inside : IsWorkIn catalog z.k.work
      inside = subst (λ (y : Doing). IsDoingIn catalog z.t.seen y h.plan) z.commits (subst (λ (o : Option TxnAt). IfSome o (λ y. IsDoingIn catalog y.seen y.doing h.plan)) z.opened about.txn)

      all : OwnWrites z.k.work (ms ++ made ∷ [])
      all m id has fits puts = one (Contains-push_cases ms made m has)
        where
          one : Contains ms m ⊎ (made ≡ m) → (id ≡ z.k.work.id) × (n : Decision) × (m.request ≡ row_put z.k.work.id n z.k.work.now)
          one (inl old) = was.1 m id old fits puts
          one (inr same) =
              subst (λ (y : StoreCall). (id ≡ z.k.work.id) × (n : Decision) × (y.request ≡ row_put z.k.work.id n z.k.work.now)) same
              (commit_writes catalog apart id z.k.work z.k.stage q z.pends inside.writes z.writes fits fits_own (subst (λ (y : StoreCall). WritesRow id y) (sym same) puts))

      doing_own : (y : Doing) (P : CommitAt → Type 0) → ((i : CommitAt) → P i → i.work ≡ z.k.work) → GoesOn y P → DoingGives (E None) (ms ++ made ∷ []) (clock_at (E None) x.accepted) y
      doing_own (doing.Commit i) P f g = subst (λ (w : Work). (w.now ≡ clock_at (E None) x.accepted) × OwnWrites w (ms ++ made ∷ [])) (sym (f i g)) (shows None, all)
      doing_own doing.Idle P f g = absurd g
      doing_own (doing.Read b y) P f g = absurd g
      doing_own doing.Over P f g = absurd g

      by : (b : Option Answer) → a ≡ b → SoBy AreDue WaitDue (E b) c (replied_said events x b) d b
      by None e =
          let further : z.progress ≡ progress.More = goes_further z.progress (sym e ∙ z.answer) in
          let left : d ≡ record h { txn = Some z.u } = z.left ∙ ap (λ (n : Progress). after h (next_of n) z.u) further in
          subst (λ (cs : List StoreCall). HandGives (E None) cs (clock_at (E None) x.accepted) d.vacuum d.txn) (sym (more None))
          (subst (λ (y : ClientAt). HandGives (E None) (ms ++ made ∷ []) (clock_at (E None) x.accepted) y.vacuum y.txn) (sym left)
          (subst (λ (v : Option VacuumAt). HandGives (E None) (ms ++ made ∷ []) (clock_at (E None) x.accepted) v (Some z.u)) (sym z.free) (doing_own z.u.doing _ (λ i g. g.0) (z.answered.next further))))
      by (Some b) e = λ m id has fits puts.
          let own = all m id (subst (λ (cs : List StoreCall). Contains cs m) (more (Some b)) has) fits puts in
          let acked : statements_by c events ≡ k.entries ++ x ∷ [] = k.same ∙ ap (λ (o : Option Executed). k.entries ++ waiting_of o) waiting in
          inl (record {
            commit = subst (IsCommitOf (E (Some b)) c (executed_with_answer events x b)) (sym (own.0 ∙ z.is.same))
                (commit_is (E (Some b)) (executed_with_answer events x b) k.small (call_executed c events (made_at events store q how r) b k.entries x acked) z.is.text (ends_commit (executed_with_answer events x b) z.is.text) z.since);
            decision = own.1;
            asks = own.2 ∙ ap (λ (i : TxId). row_put i own.1 z.k.work.now) (sym own.0) ∙ ap (row_put id own.1) (shows (Some b));
          })

  call_due : (a : Option Answer) → CallOf catalog events c k.entries x h q r now a d → SoBy AreDue WaitDue (E a) c (replied_said events x a) d a
  call_due a (inl z) = vacuums a z
  call_due a (inr (inl z)) = reads a z
  call_due a (inr (inr z)) = commits a z

---- every statement

pub due_kept : AreKept (λ catalog. AreDue) (λ catalog. WaitDue)
due_kept = record {
  answered = λ catalog. past_due;
  waiting = λ catalog events e c s h still so. still_gives c events e s still.calls still.clock h.vacuum h.txn so;
  takes = takes_due;
  calls = λ w u c store q how r a t h k runs x waiting waits so. call_due w.script.catalog w.events c t.client_slot.client t.client store q how r w.clock k x waiting waits h.caused.clock (h.world.each t.place t.client_slot t.at).about h.world.playable.apart so a
      (call_of w.script.catalog w.events c t.client_slot.client k runs x waiting q r w.clock a t.client t.pending ((h.world.each t.place t.client_slot t.at).fitted t.goes_on) t.takes);
}

-- Each write of a row of an execution is due.
pub execution_due : (script : Script) (events : List Event) → IsPlayable script → IsExecution script events → DecisionsAreDue events
execution_due script events playable x client s m id has call fits puts = by s.answer refl (statements_so (λ catalog. AreDue) (λ catalog. WaitDue) due_kept script events playable x client s has)
  where
    h : ClientAt
    h = (states_of x.last.client_slots client).client

    k : Knows script.catalog events client h
    k = (execution_holds script events playable x).caused.each client

    waiting : s.answer ≡ None → k.waiting ≡ Some s
    waiting none = unanswered (known script.catalog events client h k s has)
      where
        unanswered : IsAnswered script.catalog events client s ⊎ (k.waiting ≡ Some s) → k.waiting ≡ Some s
        unanswered (inl y) = none_some y.given (sym none ∙ y.is)
        unanswered (inr e) = e

    by_doing : (o : Option VacuumAt) (y : Option TxnAt) → h.vacuum ≡ o → h.txn ≡ y → s.answer ≡ None → HandGives events (calls_of events client s) (clock_at events s.accepted) o y → IsOwnDecision events client s id m ⊎ GivesUp events (calls_of events client s) m id
    by_doing (Some v) y e f none so = inr (so.0 m id call fits puts)
    by_doing None None e f none so = inr (so m id call fits puts)
    by_doing None (Some t) e f none so = doing_so t.doing refl so
      where
        doing_so : (z : Doing) → t.doing ≡ z → DoingGives events (calls_of events client s) (clock_at events s.accepted) z → IsOwnDecision events client s id m ⊎ GivesUp events (calls_of events client s) m id
        doing_so (doing.Read a z) g so = inr (so.0 m id call fits puts)
        doing_so doing.Idle g so = inr (so m id call fits puts)
        doing_so doing.Over g so = inr (so m id call fits puts)
        doing_so (doing.Commit z) g so =
            let own = so.1 m id call fits puts in
            inl (record {
              commit = subst (IsCommitOf events client s) (sym own.0) (commit_waits script.catalog events client h k s (waiting none) z.work (ap (λ (v : Option VacuumAt). work_in v h.txn) e ∙ ap work_txn f ∙ ap work_doing g));
              decision = own.1;
              asks = own.2 ∙ ap (λ (i : TxId). row_put i own.1 z.work.now) (sym own.0) ∙ ap (row_put id own.1) so.0;
            })

    by : (o : Option Answer) → s.answer ≡ o → SoBy AreDue WaitDue events client s h o → IsOwnDecision events client s id m ⊎ GivesUp events (calls_of events client s) m id
    by None e so = by_doing h.vacuum h.txn refl refl e so
    by (Some b) e so = so m id call fits puts
