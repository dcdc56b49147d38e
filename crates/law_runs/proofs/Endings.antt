-- How a COMMIT comes to BadRecord, and a statement that reads to Conflict.
use Rattle.std.proofs.Common.{◌≡◌, ◌≢◌, ◌⊎◌, inl, inr, ◌+◌, ◌<◌, ℕ, ℤ, true, false, List, [], ◌∷◌, ◌++◌, length, Option, Some, None, IfSome, refl, sym, ap, subst, ◌∙◌, arith}
use Rattle.std.specs.Prelude.{Contains, cond, is_some, nat_lt, slice_get}
use Rattle.std.specs.List.{AllByRecursion}
use Rattle.law_runs.specs.Types.{Answer, DecidePhase, DecideStep, Event, How, Key, Next, Outcome, PrepareStep, Progress, Record, Reply, Request, Script, Table, VacuumStep, ValidateStep}
use Rattle.sdb_types.specs.declared.record.Reply.TheVariants as reply
use Rattle.sdb_types.specs.Contents.{CanAnswer}
use Rattle.sdb_types.proofs.Public.{by_test, clash, length_more, none_some, some_is}
use Rattle.sdb_record.specs.Coordinator.{coordinator_key_of, is_coordinator_table}
use Rattle.sdb_record.specs.Meta.{is_moment}
use Rattle.sdb_model.specs.Catalogs.{catalog_after}
use Rattle.sdb_model.specs.declared.answer.Answer.TheVariants as answer
use Rattle.sdb_model.specs.declared.event.Event.TheVariants as event
use Rattle.sdb_model.specs.declared.statement.Statement.TheVariants as statement
use Rattle.sdb_model.specs.Calls.{StoreCall, calls_of, clock_at}
use Rattle.sdb_model.specs.Rows.{Name}
use Rattle.sdb_model.specs.Sql.{reads_commit, reads_vacuum}
use Rattle.sdb_model.specs.Exec.{find_table}
use Rattle.sdb_model.specs.Tables.{is_data}
use Rattle.sdb_model.specs.Transactions.{Executed, statements_by}
use Rattle.sdb_phases.specs.declared.step.DecidePhase.TheVariants as phase
use Rattle.sdb_phases.specs.declared.step.DecideStep.TheVariants as decide
use Rattle.sdb_phases.specs.declared.step.Outcome.TheVariants as outcome
use Rattle.sdb_phases.specs.declared.step.PrepareStep.TheVariants as prepare
use Rattle.sdb_phases.specs.declared.step.ValidateStep.TheVariants as validate
use Rattle.sdb_phases.specs.Checks.{checks}
use Rattle.sdb_phases.specs.Commit.{Stage, Back, Checking, Deciding, Forward, Over, Preparing, Stopping, after_abort, after_check, after_decide, after_prepare, back, checking, forward, step as commit_step}
use Rattle.sdb_phases.specs.Steps.{decide_next, prepare_step, touched_after, validate_step}
use Rattle.sdb_phases.proofs.Public.{by_steps}
use Rattle.sdb_phases.specs.Work.{Work, groups_of, prepares, writes_before}
use Rattle.sdb_txn.specs.Phases.{ended_at}
use Rattle.sdb_txn.specs.Txn.{progress_of}
use Rattle.sdb_txn.specs.declared.read.ReadStep.TheVariants as step
use Rattle.sdb_txn.specs.Read.{Asking, Ended, ReadStage, Resolving, read_pending_at, read_result, read_step, request_of}
use Rattle.sdb_vacuum.specs.declared.work.VacuumStep.TheVariants as vacuuming
use Rattle.sdb_vacuum.specs.Vacuum.{VacuumAt}
use Rattle.sdb_client.specs.declared.next.Next.TheVariants as next
use Rattle.sdb_client.specs.Client.{ClientAt, StagePost, Taking, answer_in, answer_of, next_id, next_of}
use Rattle.sdb_client.specs.Step.{Step, Takes}
use Rattle.sdb_sqltext.proofs.Public.{commit_read, one_statement, vacuum_read}
use Rattle.law_clients.specs.History.{executed_of_take}
use Rattle.law_clients.proofs.Public.{coordinators}
use Rattle.law_clients.specs.About.{IsOfTables}
use Rattle.law_answers.specs.Commits.{EndsBy, ObservesBad, StageByCalls}
use Rattle.law_answers.specs.Invariant.{IsWaiting, Knows}
use Rattle.law_answers.specs.Reads.{LedBy}
use Rattle.law_answers.specs.Rolled.{DoingRolls, ReadRolls, RolledBut, WaitRolls}
use Rattle.law_answers.proofs.Public.{but_still, clock_more, made_at, none_found, none_yet, of_within, read_rolls, reads_so_far}
use Rattle.sdb_client.specs.Execution.{IsExecution, IsPlayable}
use Rattle.law_runs.specs.World.{states_of}
use Rattle.law_runs.proofs.GivesUp.{each_of}
use Rattle.law_runs.proofs.ReadLeads.{read_leads}
use Rattle.law_runs.proofs.Takes.{CommitAtOnce, commit_taken}
use Rattle.law_runs.proofs.Replies.{CallOf, ReadCall, call_of}
use Rattle.law_runs.proofs.Statements.{AreKept, IsPast, SoBy, calls_more, replied_said, statements_so}
use Rattle.law_runs.proofs.Busy.{AnyWaits}

-- A COMMIT that is answered BadRecord met a row of the coordinator. A statement that reads and is answered Conflict had each unresolved
-- record rolled first; so had one that is answered BadRecord, unless its calls showed a record of no form there.
pub record EndsAs (events : List Event) (c : ℕ) (s : Executed) : Type 0 where
  pub bad : (key : Key) → s.answer ≡ Some (answer.BadRecord key) → reads_commit s.text ≡ true → is_coordinator_table key.table ≡ true
  pub moved : (key : Key) (found : Option Record) → s.answer ≡ Some (answer.Conflict key found) → reads_commit s.text ≡ false → RolledBut events (reads_vacuum s.text) (calls_of events c s) []
  pub unfit : (key : Key) → s.answer ≡ Some (answer.BadRecord key) → reads_commit s.text ≡ false → reads_vacuum s.text ≡ false → ObservesBad (calls_of events c s) key ⊎ RolledBut events (reads_vacuum s.text) (calls_of events c s) []

---- the row that a COMMIT can't read

module _ (p : Work) (key : Key) where
  -- where it ends so, that is the key of its row
  abbrev IsRowOf : Stage → Type 0
  IsRowOf s = ended_at s ≡ Some (outcome.BadRecord key) → key ≡ coordinator_key_of p.id

  bad_is : (k : Key) → Some (outcome.BadRecord k) ≡ Some (outcome.BadRecord key) → k ≡ key
  bad_is k e = let same : outcome.BadRecord k ≡ outcome.BadRecord key = some_is (outcome.BadRecord k) (outcome.BadRecord key) e in cc

  checking_row : (i : ℕ) → IsRowOf (checking p i)
  checking_row i = elim (nat_lt i (length (checks p))) as (λ b. IsRowOf (cond b (Checking i) (Deciding phase.Put))) [ true ↦ λ e. none_some (outcome.BadRecord key) e | false ↦ λ e. none_some (outcome.BadRecord key) e ]

  forward_row : (i : ℕ) → IsRowOf (forward p i)
  forward_row i = elim (nat_lt i (groups_of p)) as (λ b. IsRowOf (cond b (Forward i) (Over outcome.Committed))) [ true ↦ λ e. none_some (outcome.BadRecord key) e | false ↦ λ e. absurd (cc) ]

  back_row : (a : Outcome) (n i : ℕ) → IsRowOf (Over a) → IsRowOf (back a n i)
  back_row a n i h = elim (nat_lt i n) as (λ b. IsRowOf (cond b (Back a n i) (Over a))) [ true ↦ λ e. none_some (outcome.BadRecord key) e | false ↦ h ]

  prepared_row : (i n : ℕ) (s : PrepareStep) → IsRowOf (after_prepare p i n s)
  prepared_row i n prepare.More e = none_some (outcome.BadRecord key) e
  prepared_row i n prepare.Done e = checking_row 0 e
  prepared_row i n (prepare.Conflict k found) e = none_some (outcome.BadRecord key) e
  prepared_row i n prepare.Faulted e = none_some (outcome.BadRecord key) e
  prepared_row i n prepare.NoMemory e = none_some (outcome.BadRecord key) e

  checked_row : (i : ℕ) (s : ValidateStep) → IsRowOf (after_check p i s)
  checked_row i validate.More e = none_some (outcome.BadRecord key) e
  checked_row i validate.Valid e = none_some (outcome.BadRecord key) e
  checked_row i (validate.Conflict k found) e = none_some (outcome.BadRecord key) e
  checked_row i validate.Faulted e = none_some (outcome.BadRecord key) e
  checked_row i validate.NoMemory e = none_some (outcome.BadRecord key) e

  -- what a step of the decision says of a row
  abbrev OfRow : DecideStep → Type 0
  OfRow (decide.BadRecord k) = k ≡ coordinator_key_of p.id
  OfRow s = Unit {0}

  decides_row : (d : DecidePhase) (r : Reply) → OfRow (decide_next p.id d r).1
  decides_row =
      by_steps p.id (λ n. OfRow n.1)
      (record {
        look = tt;
        abort = tt;
        again = tt;
        committed = tt;
        expired = tt;
        faulted = tt;
        unknown = tt;
        bad = refl;
        no_memory = tt;
      })

  decided_row : (d : DecidePhase) (s : DecideStep) → OfRow s → IsRowOf (after_decide p d s)
  decided_row d decide.More h e = none_some (outcome.BadRecord key) e
  decided_row d decide.Committed h e = forward_row 0 e
  decided_row d (decide.Expired id) h e = back_row (outcome.Expired id) (length p.writes) 0 (λ f. absurd (cc)) e
  decided_row d decide.Faulted h e = back_row outcome.Faulted (length p.writes) 0 (λ f. absurd (cc)) e
  decided_row d (decide.Unknown id) h e = absurd (cc)
  decided_row d (decide.BadRecord k) h e = sym (bad_is k e) ∙ h
  decided_row d decide.NoMemory h e = none_some (outcome.BadRecord key) e

  -- a COMMIT that rolls back ends so only for its row
  over_row : (calls : List StoreCall) (a : Outcome) → EndsBy p.id calls a → IsRowOf (Over a)
  over_row calls (outcome.BadRecord k) h e = sym (bad_is k e) ∙ h.0
  over_row calls outcome.Committed h e = absurd (cc)
  over_row calls (outcome.Conflict k found) h e = absurd (cc)
  over_row calls (outcome.Expired id) h e = absurd (cc)
  over_row calls outcome.Faulted h e = absurd (cc)
  over_row calls (outcome.Unknown id) h e = absurd (cc)
  over_row calls outcome.NoMemory h e = absurd (cc)

  aborted_row : (a : Outcome) (n : ℕ) (r : Reply) → IsRowOf (Over a) → IsRowOf (after_abort a n r)
  aborted_row a n reply.Applied h = back_row a n 0 h
  aborted_row a n (reply.NotMet found) h = back_row a n 0 h
  aborted_row a n (reply.Found found) h = h
  aborted_row a n (reply.Rows rows) h = h
  aborted_row a n (reply.NotAll place there) h = h
  aborted_row a n reply.Fault h = h
  aborted_row a n reply.NoMemory h = h

  step_row : (calls : List StoreCall) (s : Stage) (r : Reply) → StageByCalls p calls s → IsRowOf (commit_step p s r)
  step_row calls (Preparing i) r h = prepared_row i (touched_after (slice_get (prepares p) i) (writes_before p i) r) (prepare_step (nat_lt (i + 1) (groups_of p)) (slice_get (prepares p) i) r)
  step_row calls (Checking i) r h = checked_row i (validate_step (nat_lt (i + 1) (length (checks p))) (slice_get (checks p) i) r)
  step_row calls (Deciding d) r h = decided_row (decide_next p.id d r).0 (decide_next p.id d r).1 (decides_row d r)
  step_row calls (Forward i) r h = forward_row (i + 1)
  step_row calls (Stopping a n) r h = aborted_row a n r (over_row calls a h)
  step_row calls (Back a n i) r h = back_row a n (i + 1) (over_row calls a h)
  step_row calls (Over a) r h = over_row calls a h

-- the answer of a COMMIT's call
ended_bad : (key : Key) (o : Option Outcome) → Some (answer.BadRecord key) ≡ answer_in (next_of (progress_of o)) → o ≡ Some (outcome.BadRecord key)
ended_bad key None e = absurd (cc)
ended_bad key (Some outcome.Committed) e = absurd (cc)
ended_bad key (Some (outcome.Conflict k found)) e = absurd (cc)
ended_bad key (Some (outcome.Expired u)) e = absurd (cc)
ended_bad key (Some outcome.Faulted) e = absurd (cc)
ended_bad key (Some (outcome.Unknown u)) e = absurd (cc)
ended_bad key (Some (outcome.BadRecord k)) e = let same : k ≡ key = cc in ap (λ (x : Key). Some (outcome.BadRecord x)) same
ended_bad key (Some outcome.NoMemory) e = absurd (cc)

---- as a statement is accepted

-- a COMMIT isn't answered so as it is accepted
taken_bad : (key : Key) (q : Taking) (text : List ℕ) (h d : ClientAt) → Step h (Takes q text) (Some (answer.BadRecord key)) d → reads_commit text ≡ false
taken_bad key q text h d t = by_test (reads_commit text) (λ e. absurd (never (commit_taken q text h (Some (answer.BadRecord key)) d t e))) (λ e. e)
  where
    never : CommitAtOnce (Some (answer.BadRecord key)) → ⊥
    never (inl e) = cc
    never (inr (inl e)) = cc
    never (inr (inr e)) = cc

-- one that is answered at once has made no call
taken_ends : (q : Taking) (events : List Event) (c : ℕ) (text : List ℕ) (h d : ClientAt) (a : Option Answer) → Step h (Takes q text) a d → SoBy EndsAs AnyWaits (events ++ event.Take c text a ∷ []) c (executed_of_take events text a) d a
taken_ends q events c text h d None t = tt
taken_ends q events c text h d (Some b) t = record {
  bad = λ key e commit. clash (sym commit ∙ taken_bad key q text h d (subst (λ (o : Option Answer). Step h (Takes q text) o d) e t));
  moved = λ key found e reads. subst (λ ms. RolledBut (events ++ event.Take c text (Some b) ∷ []) (reads_vacuum text) ms []) (sym (none_yet c events text (Some b))) (none_found (events ++ event.Take c text (Some b) ∷ []) (reads_vacuum text));
  unfit = λ key e reads vacuums. inr (subst (λ ms. RolledBut (events ++ event.Take c text (Some b) ∷ []) (reads_vacuum text) ms []) (sym (none_yet c events text (Some b))) (none_found (events ++ event.Take c text (Some b) ∷ []) (reads_vacuum text)));
}

---- as a reply comes

-- a read that ends with a difference has found all
module _ (key : Key) (found : Option Record) where
  no_more : (n : Next) → Some (answer.Conflict key found) ≡ answer_in n → n ≢ next.Call
  no_more n e f = let g : Some (answer.Conflict key found) ≡ answer_in next.Call = e ∙ ap answer_in f in cc

  in_memory : (n : Next) → Some (answer.Conflict key found) ≡ answer_in n → n ≢ next.Answer answer.NoMemory
  in_memory n e f = let g : Some (answer.Conflict key found) ≡ answer_in (next.Answer answer.NoMemory) = e ∙ ap answer_in f in cc

-- so has one that ends for a row that doesn't fit
module _ (key : Key) where
  bad_more : (n : Next) → Some (answer.BadRecord key) ≡ answer_in n → n ≢ next.Call
  bad_more n e f = let g : Some (answer.BadRecord key) ≡ answer_in next.Call = e ∙ ap answer_in f in cc

  bad_memory : (n : Next) → Some (answer.BadRecord key) ≡ answer_in n → n ≢ next.Answer answer.NoMemory
  bad_memory n e f = let g : Some (answer.BadRecord key) ≡ answer_in (next.Answer answer.NoMemory) = e ∙ ap answer_in f in cc

module _ (catalog : List Table) (events : List Event) (c : ℕ) (h d : ClientAt) (store : Name) (q : Request) (how : How) (r : Reply) (now : ℤ) (k : Knows catalog events c h) (x : Executed) (waiting : k.waiting ≡ Some x) (waits : IsWaiting catalog events c (is_some h.vacuum) x) where
  abbrev E : Option Answer → List Event
  E a = events ++ event.Call c store q how r a ∷ []

  abbrev made : StoreCall
  made = made_at events store q how r

  abbrev ms : List StoreCall
  ms = calls_of events c x

  more : (a : Option Answer) → calls_of (E a) c (replied_said events x a) ≡ ms ++ made ∷ []
  more a = calls_more events c store q how r x waits.unanswered waits.accepted a

  module _ (clock : clock_at events (length events) ≡ now) (moment : is_moment now ≡ true) (apart : (y : Key) → is_some (find_table catalog y.table) ≡ true → is_data y ≡ true) (about : IsOfTables catalog h) (can : CanAnswer q r) where
    older : AllByRecursion (λ y. y.at < made.at) ms
    older = each_of ms (λ y has. let low = of_within c events x y has in omega (arith, low))

    clock_now : (a : Option Answer) → clock_at (E a) made.at ≡ now
    clock_now a = ap (clock_at (E a)) (sym (length_more events (event.Call c store q how r a) ∙ one_plus (length events))) ∙ clock_more events (event.Call c store q how r a) ∙ clock
      where
        one_plus : (n : ℕ) → n + 1 ≡ 1 + n
        one_plus n = omega arith

    rolls_now : WaitRolls events (reads_vacuum x.text) ms h.vacuum h.txn
    rolls_now = subst (λ (o : Option Executed). IfSome o (λ w. WaitRolls events (reads_vacuum w.text) (calls_of events c w) h.vacuum h.txn)) waiting k.rolled.waits

    -- where a read leads, what it found is dealt with
    rolled : (a : Option Answer) (z : ReadCall catalog events c x h q r now a d) → ReadRolls (E a) (reads_vacuum x.text) (ms ++ made ∷ []) (read_step z.x.stage now r)
    rolled a z = read_rolls (record { events = E a; calls = ms; call = made; now = now; later = older; clock = clock_now a }) (reads_vacuum x.text) moment (request_of z.access) z.x.stage (reads_so_far c events (event.Call c store q how r a) x z.x.stage so) asks
      where
        so : ReadRolls events (reads_vacuum x.text) ms z.x.stage
        so =
            subst (DoingRolls events (reads_vacuum x.text) ms) z.reads
            (subst (WaitRolls events (reads_vacuum x.text) ms None) z.opened (subst (λ (v : Option VacuumAt). WaitRolls events (reads_vacuum x.text) ms v h.txn) z.free rolls_now))

        asks : read_pending_at (request_of z.access) z.x.stage ≡ Some q
        asks = subst (λ (y : Request). read_pending_at y z.x.stage ≡ Some q) z.asked.request z.pends

    -- and all of it is where that is Conflict
    reads_moved : (key : Key) (found : Option Record) (z : ReadCall catalog events c x h q r now (Some (answer.Conflict key found)) d) → RolledBut (E (Some (answer.Conflict key found))) (reads_vacuum x.text) (ms ++ made ∷ []) []
    reads_moved key found z = by (read_step z.x.stage now r) (rolled (Some (answer.Conflict key found)) z) (z.answered.answered (in_memory key found z.next z.answer))
      where
        by : (s : ReadStage) → ReadRolls (E (Some (answer.Conflict key found))) (reads_vacuum x.text) (ms ++ made ∷ []) s → StagePost z.t z.p z.access z.x s (read_result s) z.next z.u → RolledBut (E (Some (answer.Conflict key found))) (reads_vacuum x.text) (ms ++ made ∷ []) []
        by Asking g y = absurd (no_more key found z.next z.answer y.0)
        by (Resolving images rec meta p left) g y = absurd (no_more key found z.next z.answer y.0)
        by (Ended (step.Images images)) g y = g
        by (Ended step.More) g y = absurd (no_more key found z.next z.answer y.0)
        by (Ended (step.Busy other id at)) g y = absurd (let e : Some (answer.Conflict key found) ≡ Some (answer.Busy other id at) = z.answer ∙ ap answer_in y.0 in cc)
        by (Ended step.Faulted) g y = absurd (let e : Some (answer.Conflict key found) ≡ Some answer.Faulted = z.answer ∙ ap answer_in y.0 in cc)
        by (Ended (step.BadRecord other)) g y = absurd (let e : Some (answer.Conflict key found) ≡ Some (answer.BadRecord other) = z.answer ∙ ap answer_in y.0 in cc)
        by (Ended step.NoMemory) g y = absurd y

    -- and all of it is where that is BadRecord, or a record of no form was shown
    reads_unfit : (key : Key) (z : ReadCall catalog events c x h q r now (Some (answer.BadRecord key)) d) → ObservesBad (ms ++ made ∷ []) key ⊎ RolledBut (E (Some (answer.BadRecord key))) (reads_vacuum x.text) (ms ++ made ∷ []) []
    reads_unfit key z = by (read_step z.x.stage now r) (read_leads catalog apart events c h d x waits store q how r now clock about can (Some (answer.BadRecord key)) z) (rolled (Some (answer.BadRecord key)) z) (z.answered.answered (bad_memory key z.next z.answer))
      where
        by : (s : ReadStage) → LedBy (E None) (ms ++ made ∷ []) s → ReadRolls (E (Some (answer.BadRecord key))) (reads_vacuum x.text) (ms ++ made ∷ []) s → StagePost z.t z.p z.access z.x s (read_result s) z.next z.u
            → ObservesBad (ms ++ made ∷ []) key ⊎ RolledBut (E (Some (answer.BadRecord key))) (reads_vacuum x.text) (ms ++ made ∷ []) []
        by Asking l g y = absurd (bad_more key z.next z.answer y.0)
        by (Resolving images rec meta p left) l g y = absurd (bad_more key z.next z.answer y.0)
        by (Ended (step.Images images)) l g y = inr g
        by (Ended step.More) l g y = absurd (bad_more key z.next z.answer y.0)
        by (Ended (step.Busy other id at)) l g y = absurd (let e : Some (answer.BadRecord key) ≡ Some (answer.Busy other id at) = z.answer ∙ ap answer_in y.0 in cc)
        by (Ended step.Faulted) l g y = absurd (let e : Some (answer.BadRecord key) ≡ Some answer.Faulted = z.answer ∙ ap answer_in y.0 in cc)
        by (Ended (step.BadRecord other)) l g y =
            let e : Some (answer.BadRecord key) ≡ Some (answer.BadRecord other) = z.answer ∙ ap answer_in y.0 in
            let same : other ≡ key = cc in
            inl (subst (ObservesBad (ms ++ made ∷ [])) same l)
        by (Ended step.NoMemory) l g y = absurd y

    call_unfit : (key : Key) → reads_commit x.text ≡ false → reads_vacuum x.text ≡ false → CallOf catalog events c k.entries x h q r now (Some (answer.BadRecord key)) d
        → ObservesBad (ms ++ made ∷ []) key ⊎ RolledBut (E (Some (answer.BadRecord key))) (reads_vacuum x.text) (ms ++ made ∷ []) []
    call_unfit key reads vacuums (inl z) = clash (sym (waits.vacuum ∙ ap is_some z.runs) ∙ vacuums)
    call_unfit key reads vacuums (inr (inl z)) = reads_unfit key z
    call_unfit key reads vacuums (inr (inr z)) = clash (sym z.is.text ∙ reads)

    -- a VACUUM is never answered Conflict
    swept_moved : (key : Key) (found : Option Record) (s : VacuumStep) → Some (answer.Conflict key found) ≡ answer_of s → ⊥
    swept_moved key found vacuuming.More e = cc
    swept_moved key found (vacuuming.Count n) e = cc
    swept_moved key found vacuuming.Faulted e = cc
    swept_moved key found (vacuuming.BadRecord other) e = cc
    swept_moved key found vacuuming.NoMemory e = cc

    call_moved : (key : Key) (found : Option Record) → reads_commit x.text ≡ false → CallOf catalog events c k.entries x h q r now (Some (answer.Conflict key found)) d → RolledBut (E (Some (answer.Conflict key found))) (reads_vacuum x.text) (ms ++ made ∷ []) []
    call_moved key found reads (inl z) = absurd (swept_moved key found z.answered.step z.answered.answer)
    call_moved key found reads (inr (inl z)) = reads_moved key found z
    call_moved key found reads (inr (inr z)) = clash (sym z.is.text ∙ reads)

    call_bad : (key : Key) → reads_commit x.text ≡ true → CallOf catalog events c k.entries x h q r now (Some (answer.BadRecord key)) d → is_coordinator_table key.table ≡ true
    call_bad key commit (inl z) = absurd (let e = one_statement x.text statement.Commit statement.Vacuum ((commit_read x.text).0 commit) ((vacuum_read x.text).0 (waits.vacuum ∙ ap is_some z.runs)) in cc)
    call_bad key commit (inr (inl z)) = clash (sym commit ∙ z.is.inner.commit)
    call_bad key commit (inr (inr z)) =
        let row : key ≡ coordinator_key_of z.k.work.id = step_row z.k.work key ms z.k.stage r z.is.stage (ended_bad key (ended_at (commit_step z.k.work z.k.stage r)) (z.answer ∙ ap (λ (y : Progress). answer_in (next_of y)) z.answered.answer)) in
        ap (λ (y : Key). is_coordinator_table y.table) row ∙ coordinators z.k.work.id

    call_ends : (a : Option Answer) → CallOf catalog events c k.entries x h q r now a d → SoBy EndsAs AnyWaits (E a) c (replied_said events x a) d a
    call_ends None z = tt
    call_ends (Some b) z = record {
      bad = λ key e commit. call_bad key commit (subst (λ (o : Option Answer). CallOf catalog events c k.entries x h q r now o d) e z);
      moved = λ key found e reads. subst (λ cs. RolledBut (E (Some b)) (reads_vacuum x.text) cs []) (sym (more (Some b)))
          (subst (λ (o : Option Answer). RolledBut (E o) (reads_vacuum x.text) (ms ++ made ∷ []) []) (sym e) (call_moved key found reads (subst (λ (o : Option Answer). CallOf catalog events c k.entries x h q r now o d) e z)));
      unfit = λ key e reads vacuums. subst (λ cs. ObservesBad cs key ⊎ RolledBut (E (Some b)) (reads_vacuum x.text) cs []) (sym (more (Some b)))
          (subst (λ (o : Option Answer). ObservesBad (ms ++ made ∷ []) key ⊎ RolledBut (E o) (reads_vacuum x.text) (ms ++ made ∷ []) []) (sym e) (call_unfit key reads vacuums (subst (λ (o : Option Answer). CallOf catalog events c k.entries x h q r now o d) e z)));
    }

---- every statement

past_ends : (catalog : List Table) (events : List Event) (e : Event) (c : ℕ) (s : Executed) → IsPast events e c s → EndsAs events c s → EndsAs (events ++ e ∷ []) c s
past_ends catalog events e c s past so = record {
  bad = so.bad;
  moved = λ key found is reads. subst (λ cs. RolledBut (events ++ e ∷ []) (reads_vacuum s.text) cs []) (sym past.calls) (but_still events e (reads_vacuum s.text) (calls_of events c s) (of_within c events s) [] (so.moved key found is reads));
  unfit = λ key is reads vacuums. subst (λ cs. ObservesBad cs key ⊎ RolledBut (events ++ e ∷ []) (reads_vacuum s.text) cs []) (sym past.calls) (still key (so.unfit key is reads vacuums));
}
  where
    still : (key : Key) → ObservesBad (calls_of events c s) key ⊎ RolledBut events (reads_vacuum s.text) (calls_of events c s) [] → ObservesBad (calls_of events c s) key ⊎ RolledBut (events ++ e ∷ []) (reads_vacuum s.text) (calls_of events c s) []
    still key (inl b) = inl b
    still key (inr g) = inr (but_still events e (reads_vacuum s.text) (calls_of events c s) (of_within c events s) [] g)

ends_kept : AreKept (λ catalog. EndsAs) (λ catalog. AnyWaits)
ends_kept = record {
  answered = past_ends;
  waiting = λ catalog events e c s h still t. tt;
  takes = λ w u c text a t h. taken_ends (record { catalog = catalog_after w.script.catalog w.events; now = w.clock; gate = t.gate; fresh = next_id t.client_slot.client }) w.events c text t.client_slot.client t.client a t.takes;
  calls = λ w u c store q how r a t h k runs x waiting waits so. call_ends w.script.catalog w.events c t.client_slot.client t.client store q how r w.clock k x waiting waits h.caused.clock h.world.moment h.world.playable.apart (h.world.each t.place t.client_slot t.at).about t.can a
      (call_of w.script.catalog w.events c t.client_slot.client k runs x waiting q r w.clock a t.client t.pending ((h.world.each t.place t.client_slot t.at).fitted t.goes_on) t.takes);
}

-- It holds of each statement of an execution that is answered.
pub execution_ends : (script : Script) (events : List Event) → IsPlayable script → IsExecution script events → (client : ℕ) (s : Executed) (a : Answer) → Contains (statements_by client events) s → s.answer ≡ Some a → EndsAs events client s
execution_ends script events playable x client s a has is =
    subst (λ (o : Option Answer). SoBy EndsAs AnyWaits events client s (states_of x.last.client_slots client).client o) is (statements_so (λ catalog. EndsAs) (λ catalog. AnyWaits) ends_kept script events playable x client s has)
