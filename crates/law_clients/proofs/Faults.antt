-- A client is answered as after a fault only where a reply to one of its calls was a fault.
use Rattle.std.proofs.Common.{◌≡◌, ◌⊎◌, inl, inr, ℕ, ℤ, ◌+◌, Bool, true, false, not, ◌&&◌, ◌||◌, List, [], ◌∷◌, ◌++◌, Option, Some, None, Result, Ok, Err, refl, sym, ap, subst, ◌∙◌, length}
use Rattle.std.specs.Prelude.{is_some, nat_lt, slice_get, if◌then◌else◌}
use Rattle.std.specs.Option.{option_map_or}
use Rattle.sdb_types.specs.declared.record.Put.{Put}
use Rattle.sdb_types.specs.Contents.{put_at}
use Rattle.law_clients.specs.Types.{Access, Answer, Check, DecidePhase, Decided, Decision, Doing, Image, Key, Keyed, Meta, Next, Outcome, PrepareStep, Progress, Record, RecoverPhase, RecoverStep, Refusal, Reply, Request, Span, Statement, Table, VacuumStep, ValidateStep}
use Rattle.sdb_types.specs.declared.record.Reply.TheVariants as reply
use Rattle.sdb_types.specs.declared.record.Request.TheVariants as ask
use Rattle.sdb_types.proofs.Public.{by_test, clash}
use Rattle.sdb_record.specs.declared.coordinator.Decision.TheVariants as decision
use Rattle.sdb_record.specs.Coordinator.{decision_in}
use Rattle.sdb_record.specs.Rolls.{is_tombstone}
use Rattle.sdb_model.specs.declared.answer.Answer.TheVariants as answer
use Rattle.sdb_model.specs.declared.statement.Statement.TheVariants as statement
use Rattle.sdb_model.specs.Causes.{refused}
use Rattle.sdb_model.specs.Exec.{key_of, named_table, table_of}
use Rattle.sdb_model.specs.Refused.{refusal_by, refusal_of}
use Rattle.sdb_model.specs.Transactions.{changes_nothing}
use Rattle.sdb_exec.specs.Plans.{Planned, answer_on, changes_on, columns_at, finished, first_unfit, step_at, step_of}
use Rattle.sdb_exec.specs.declared.plan.PlanStep.TheVariants.{Finished}
use Rattle.sdb_model.specs.Reads.{access_of}
use Rattle.sdb_phases.specs.declared.step.Outcome.TheVariants as outcome
use Rattle.sdb_phases.specs.declared.step.DecidePhase.TheVariants as decides
use Rattle.sdb_phases.specs.declared.step.DecideStep.TheVariants as decide
use Rattle.sdb_phases.specs.declared.step.PrepareStep.TheVariants as prepare
use Rattle.sdb_phases.specs.declared.step.ValidateStep.TheVariants as validate
use Rattle.sdb_phases.specs.declared.step.RecoverPhase.TheVariants as phase
use Rattle.sdb_phases.specs.declared.step.RecoverStep.TheVariants as steps
use Rattle.sdb_phases.specs.Work.{Work, groups_of, prepares, writes_before}
use Rattle.sdb_phases.specs.Checks.{checks, difference_in}
use Rattle.sdb_phases.specs.Steps.{judged, prepare_step, refused as prepare_refused, step_of_row, touched_after, validate_step}
use Rattle.sdb_phases.specs.Commit.{Back, Checking, Deciding, Forward, Over, Preparing, Stage, Stopping, after_abort, after_check, after_decide, after_prepare, back, checking, forward, preparing, step as commit_step}
use Rattle.sdb_phases.specs.Recover.{recover_next, row_followed, undecided}
use Rattle.sdb_phases.proofs.Public.{by_expiry, by_row}
use Rattle.sdb_validate.specs.Inside.{Judges}
use Rattle.sdb_txn.specs.Phases.{CommitAt, IsNext, ended_at}
use Rattle.sdb_txn.specs.declared.read.ReadStep.TheVariants as step
use Rattle.sdb_txn.specs.Read.{Asking, Bad, Ended, Firm, Kind, Open, ReadAt, ReadStage, Resolving, answered, kind_of, read_result, read_step, resolved, settle, settle_one}
use Rattle.sdb_txn.specs.declared.progress.Progress.TheVariants as progress
use Rattle.sdb_txn.specs.declared.txn.Doing.TheVariants as doing
use Rattle.sdb_txn.specs.Txn.{CommitPost, IsCommitting, TxnAt, committing, progress_of, reading, work_of as txn_work}
use Rattle.sdb_vacuum.specs.declared.work.VacuumStep.TheVariants as vacuuming
use Rattle.sdb_vacuum.specs.Vacuum.{First, Gives, Malformed, Nothing, Tombstone, Unresolved, VacuumAt, VacuumStage, Scanning, Removing, Over as SweptOver, Resolving as SweepResolving, answered as sweep_answered, first_of, next_of_row, removal_answered, resolved as sweep_resolved, tombstone_or, vacuum_step}
use Rattle.sdb_client.specs.declared.next.Next.TheVariants as next
use Rattle.sdb_client.specs.Client.{AskPost, BeginPost, CallPost, ClientAt, CommitNext, CommitStartPost, GatePost, RowsReadPost, IsIdle, IsAnsweredAtOnce, NextPost, OpenTxnPost, ReplyPost, RollbackPost, RowsPost, ParsedPost, StagePost, StatementPost, VacuumPost, Taking, VacuumStartPost, after, answer_in, answer_of, given_answer, gives, is_covered, next_of, with_rows_read, plan_of, too_many, vacuum_left}
use Rattle.law_clients.proofs.Fitted.{by_next}
use Rattle.law_clients.proofs.Whole.{by_memory}
use Rattle.law_clients.specs.Session.{is_of_fault}
use Rattle.law_clients.specs.Working.{Commits, IsAtWork, Reads, RepliedBy, InVacuum, ExecutedBy}
use Rattle.law_clients.specs.Faults.{IsOfFault, CommitsAfterFault, DoesAfterFault, IsAfterFault, IsOutcomeOfFault, ReadsAfterFault, RecoversAfterFault, VacuumsAfterFault, WorksAfterFault}

---- recoveries

-- it ends as faulted, or goes on after a fault
abbrev RecoveryOfFault : RecoverPhase × RecoverStep → Type 0
RecoveryOfFault (p, steps.More) = RecoversAfterFault p
RecoveryOfFault (p, steps.Faulted) = Unit {0}
RecoveryOfFault (p, s) = ⊥

rolls : (meta : Meta) (row : Record) → RecoveryOfFault (row_followed meta row) → ⊥
rolls meta row = by_row meta row (λ n. RecoveryOfFault n → ⊥) (λ d says is h. h) (λ d says is h. h) (λ column says h. h)

undecides : (meta : Meta) (now : ℤ) → RecoveryOfFault (undecided meta now) → ⊥
undecides meta now = by_expiry meta now (λ n. RecoveryOfFault n → ⊥) (λ is h. h) (λ is h. h)

recovers : (rec : Record) (meta : Meta) (p : RecoverPhase) (now : ℤ) (r : Reply) → RecoveryOfFault (recover_next rec meta p now r) → RecoversAfterFault p ⊎ (r ≡ reply.Fault)
recovers rec meta phase.Look now (reply.Found (Some row)) h = absurd (rolls meta row h)
recovers rec meta phase.Look now (reply.Found None) h = absurd (undecides meta now h)
recovers rec meta phase.Look now reply.Fault h = inr refl
recovers rec meta phase.Look now r h = absurd h
recovers rec meta (phase.Abort moment) now (reply.NotMet (Some row)) h = absurd (rolls meta row h)
recovers rec meta (phase.Abort moment) now reply.Fault h = inr refl
recovers rec meta (phase.Abort moment) now r h = absurd h
recovers rec meta phase.Again now r h = inl tt
recovers rec meta (phase.Forward at) now reply.Fault h = inr refl
recovers rec meta (phase.Forward at) now r h = absurd h
recovers rec meta phase.Back now reply.Fault h = inr refl
recovers rec meta phase.Back now r h = absurd h
recovers rec meta phase.Ended now r h = absurd h

---- reads

settles : (images left : List Record) → ReadsAfterFault (settle images left) → ⊥
settles images [] h = h
settles images (r ∷ left) h = by (kind_of r) (settles (images ++ r ∷ []) left) h
  where
    by : (k : Kind) → (ReadsAfterFault (settle (images ++ r ∷ []) left) → ⊥) → ReadsAfterFault (settle_one k images r left (settle (images ++ r ∷ []) left)) → ⊥
    by Firm rest h = rest h
    by (Open meta) rest h = h
    by Bad rest h = h

answers : (r : Reply) → ReadsAfterFault (answered r) → r ≡ reply.Fault
answers (reply.Found None) h = absurd (settles [] [] h)
answers (reply.Found (Some r)) h = absurd (settles [] (r ∷ []) h)
answers (reply.Rows rows) h = absurd (settles [] rows h)
answers reply.Fault h = refl
answers r h = absurd h

resolves : (images : List Record) (rec : Record) (meta : Meta) (left : List Record) (x : RecoverPhase × RecoverStep) → ReadsAfterFault (resolved images rec meta left x) → RecoveryOfFault x
resolves images rec meta left (p, steps.More) h = h
resolves images rec meta left (p, steps.Image None) h = absurd (settles images left h)
resolves images rec meta left (p, steps.Image (Some b)) h = absurd (settles (images ++ b ∷ []) left h)
resolves images rec meta left (p, steps.Busy id at) h = h
resolves images rec meta left (p, steps.Faulted) h = tt
resolves images rec meta left (p, steps.BadRecord key) h = h
resolves images rec meta left (p, steps.NoMemory) h = h

read_of_fault : (s : ReadStage) (now : ℤ) (r : Reply) → ReadsAfterFault (read_step s now r) → ReadsAfterFault s ⊎ (r ≡ reply.Fault)
read_of_fault Asking now r h = inr (answers r h)
read_of_fault (Resolving images rec meta p left) now r h = recovers rec meta p now r (resolves images rec meta left (recover_next rec meta p now r) h)
read_of_fault (Ended s) now r h = inl h

---- COMMITs

commit_forward : (p : Work) (i : ℕ) → CommitsAfterFault (forward p i) → ⊥
commit_forward p i h = by (nat_lt i (groups_of p)) h
  where
    by : (b : Bool) → CommitsAfterFault (if b then Forward i else Over outcome.Committed) → ⊥
    by true h = h
    by false h = h

commit_checking : (p : Work) (i : ℕ) → CommitsAfterFault (checking p i) → ⊥
commit_checking p i h = by (nat_lt i (length (checks p))) h
  where
    by : (b : Bool) → CommitsAfterFault (if b then Checking i else Deciding decides.Put) → ⊥
    by true h = h
    by false h = h

commit_preparing : (p : Work) (i : ℕ) → CommitsAfterFault (preparing p i) → ⊥
commit_preparing p i h = by (nat_lt i (groups_of p)) h
  where
    by : (b : Bool) → CommitsAfterFault (if b then Preparing i else checking p 0) → ⊥
    by true h = h
    by false h = commit_checking p 0 h

commit_back : (a : Outcome) (n i : ℕ) → CommitsAfterFault (back a n i) → IsOutcomeOfFault a
commit_back a n i h = by (nat_lt i n) h
  where
    by : (b : Bool) → CommitsAfterFault (if b then Back a n i else Over a) → IsOutcomeOfFault a
    by true h = h
    by false h = h

commit_prepared : (p : Work) (i n : ℕ) (x : PrepareStep) → CommitsAfterFault (after_prepare p i n x) → x ≡ prepare.Faulted
commit_prepared p i n prepare.More h = absurd h
commit_prepared p i n prepare.Done h = absurd (commit_checking p 0 h)
commit_prepared p i n (prepare.Conflict key found) h = absurd h
commit_prepared p i n prepare.Faulted h = refl
commit_prepared p i n prepare.NoMemory h = absurd h

refused_fault : {A : Type 0} (q : Option Request) (k : ℕ) (found : Option Record) → prepare_refused q k found ≡ prepare.Faulted → A
refused_fault None k found e = absurd (cc)
refused_fault (Some (ask.Get key)) k found e = absurd (cc)
refused_fault (Some (ask.Scan span)) k found e = absurd (cc)
refused_fault (Some (ask.PutIf rec condition)) k found e = absurd (cc)
refused_fault (Some (ask.DeleteIf key condition)) k found e = absurd (cc)
refused_fault {A = A} (Some (ask.PutAll batch)) k found e = by (put_at batch k) e
  where
    by : (o : Option Put) → option_map_or (λ (p : Put). prepare.Conflict p.rec.key found) o prepare.NoMemory ≡ prepare.Faulted → A
    by None e = absurd (cc)
    by (Some p) e = absurd (cc)

prepares_fault : (more : Bool) (q : Option Request) (r : Reply) → prepare_step more q r ≡ prepare.Faulted → r ≡ reply.Fault
prepares_fault more q reply.Fault e = refl
prepares_fault true q reply.Applied e = cc
prepares_fault false q reply.Applied e = cc
prepares_fault more q (reply.NotMet found) e = refused_fault q 1 found e
prepares_fault more q (reply.NotAll place found) e = refused_fault q place found e
prepares_fault more q (reply.Found found) e = cc
prepares_fault more q (reply.Rows rows) e = cc
prepares_fault more q reply.NoMemory e = cc

commit_checked : (p : Work) (i : ℕ) (x : ValidateStep) → CommitsAfterFault (after_check p i x) → x ≡ validate.Faulted
commit_checked p i validate.More h = absurd h
commit_checked p i validate.Valid h = absurd h
commit_checked p i (validate.Conflict key found) h = absurd h
commit_checked p i validate.Faulted h = refl
commit_checked p i validate.NoMemory h = absurd h

judges_fault : (more : Bool) (o : Option (Key × Option Record)) → judged more o ≡ validate.Faulted → ⊥
judges_fault true None e = cc
judges_fault false None e = cc
judges_fault more (Some d) e = cc

validates_fault : (more : Bool) (c : Option Check) (r : Reply) → validate_step more c r ≡ validate.Faulted → r ≡ reply.Fault
validates_fault more c reply.Fault e = refl
validates_fault more c reply.NoMemory e = cc
validates_fault more None reply.Applied e = cc
validates_fault more None (reply.NotMet found) e = cc
validates_fault more None (reply.Found found) e = cc
validates_fault more None (reply.Rows rows) e = cc
validates_fault more None (reply.NotAll place there) e = cc
validates_fault more (Some c) reply.Applied e = absurd (judges_fault more (difference_in c reply.Applied) e)
validates_fault more (Some c) (reply.NotMet found) e = absurd (judges_fault more (difference_in c (reply.NotMet found)) e)
validates_fault more (Some c) (reply.Found found) e = absurd (judges_fault more (difference_in c (reply.Found found)) e)
validates_fault more (Some c) (reply.Rows rows) e = absurd (judges_fault more (difference_in c (reply.Rows rows)) e)
validates_fault more (Some c) (reply.NotAll place there) e = absurd (judges_fault more (difference_in c (reply.NotAll place there)) e)

-- a row that a put has met
commit_followed : (p : Work) (d : DecidePhase) (x : Result Decided (List ℕ)) → CommitsAfterFault (after_decide p d (step_of_row p.id (decide.Expired p.id) x)) → ⊥
commit_followed p d (Err column) h = h
commit_followed p d (Ok x) h = by x.decision h
  where
    by : (y : Decision) → CommitsAfterFault (after_decide p d (elim y [ decision.Committed ↦ decide.Committed | decision.Aborted ↦ decide.Expired p.id ])) → ⊥
    by decision.Committed h = commit_forward p 0 h
    by decision.Aborted h = commit_back (outcome.Expired p.id) (length p.writes) 0 h

commit_put : (p : Work) (r : Reply) → CommitsAfterFault (commit_step p (Deciding decides.Put) r) → r ≡ reply.Fault
commit_put p reply.Fault h = refl
commit_put p reply.Applied h = absurd (commit_forward p 0 h)
commit_put p (reply.NotMet (Some row)) h = absurd (commit_followed p decides.Ended (decision_in row) h)
commit_put p r h = absurd h

commit_aborted : (a : Outcome) (n : ℕ) (r : Reply) → CommitsAfterFault (after_abort a n r) → IsOutcomeOfFault a
commit_aborted a n reply.Applied h = commit_back a n 0 h
commit_aborted a n (reply.NotMet found) h = commit_back a n 0 h
commit_aborted a n r h = h

commit_of_fault : (p : Work) (s : Stage) (r : Reply) → CommitsAfterFault (commit_step p s r) → CommitsAfterFault s ⊎ (r ≡ reply.Fault)
commit_of_fault p (Preparing i) r h = inr (prepares_fault (nat_lt (i + 1) (groups_of p)) (slice_get (prepares p) i) r (commit_prepared p i (touched_after (slice_get (prepares p) i) (writes_before p i) r) _ h))
commit_of_fault p (Checking i) r h = inr (validates_fault (nat_lt (i + 1) (length (checks p))) (slice_get (checks p) i) r (commit_checked p i _ h))
commit_of_fault p (Deciding decides.Put) r h = inr (commit_put p r h)
commit_of_fault p (Deciding decides.Look) r h = inl tt
commit_of_fault p (Deciding decides.Abort) r h = inl tt
commit_of_fault p (Deciding decides.Again) r h = inl tt
commit_of_fault p (Deciding decides.Ended) r h = inl tt
commit_of_fault p (Forward i) r h = absurd (commit_forward p (i + 1) h)
commit_of_fault p (Stopping a n) r h = inl (commit_aborted a n r h)
commit_of_fault p (Back a n i) r h = inl (commit_back a n (i + 1) h)
commit_of_fault p (Over a) r h = inl h

judged_fault : (want v : ValidateStep) → Judges want v → v ≡ validate.Faulted → want ≡ validate.Faulted
judged_fault want validate.Faulted h e = sym h
judged_fault want validate.More h e = cc
judged_fault want validate.Valid h e = cc
judged_fault want (validate.Conflict key found) h e = cc
judged_fault want validate.NoMemory h e = cc

next_of_fault : (p : Work) (s : Stage) (r : Reply) (s_then : Stage) → IsNext p s r s_then → CommitsAfterFault s_then → CommitsAfterFault s ⊎ (r ≡ reply.Fault)
next_of_fault p (Checking i) r s_then (v, judges, is) h = inr (validates_fault (nat_lt (i + 1) (length (checks p))) (slice_get (checks p) i) r (judged_fault _ v judges (commit_checked p i v (subst CommitsAfterFault is h))))
next_of_fault p (Preparing i) r s_then is h = commit_of_fault p (Preparing i) r (subst CommitsAfterFault is h)
next_of_fault p (Deciding d) r s_then is h = commit_of_fault p (Deciding d) r (subst CommitsAfterFault is h)
next_of_fault p (Forward i) r s_then is h = commit_of_fault p (Forward i) r (subst CommitsAfterFault is h)
next_of_fault p (Stopping a n) r s_then is h = commit_of_fault p (Stopping a n) r (subst CommitsAfterFault is h)
next_of_fault p (Back a n i) r s_then is h = commit_of_fault p (Back a n i) r (subst CommitsAfterFault is h)
next_of_fault p (Over a) r s_then is h = commit_of_fault p (Over a) r (subst CommitsAfterFault is h)

abbrev IsProgressOfFault : Progress → Type 0
IsProgressOfFault progress.Faulted = Unit {0}
IsProgressOfFault (progress.Unknown id) = Unit {0}
IsProgressOfFault p = ⊥

over_of_fault : (s : Stage) → IsProgressOfFault (progress_of (ended_at s)) → CommitsAfterFault s
over_of_fault (Over outcome.Faulted) h = tt
over_of_fault (Over (outcome.Unknown id)) h = tt
over_of_fault (Over outcome.Committed) h = h
over_of_fault (Over (outcome.Conflict key found)) h = h
over_of_fault (Over (outcome.Expired id)) h = h
over_of_fault (Over (outcome.BadRecord key)) h = h
over_of_fault (Over outcome.NoMemory) h = h
over_of_fault (Preparing i) h = absurd h
over_of_fault (Checking i) h = absurd h
over_of_fault (Deciding d) h = absurd h
over_of_fault (Forward i) h = absurd h
over_of_fault (Stopping a n) h = absurd h
over_of_fault (Back a n i) h = absurd h

---- VACUUMs

-- it ends as faulted, or goes on after a fault
abbrev SweepOfFault : VacuumAt × VacuumStep → Type 0
SweepOfFault (v, vacuuming.More) = VacuumsAfterFault v.stage
SweepOfFault (v, vacuuming.Faulted) = Unit {0}
SweepOfFault (v, s) = ⊥

goes : (ss : List Span) (n : ℕ) (f : First) → SweepOfFault (next_of_row ss n f) → ⊥
goes [] n Nothing h = h
goes (s ∷ ss) n Nothing h = h
goes ss n (Tombstone b left) h = h
goes ss n (Unresolved r meta left) h = h
goes ss n (Malformed key) h = h

sweep_answers : (ss : List Span) (n : ℕ) (r : Reply) → SweepOfFault (sweep_answered ss n r) → r ≡ reply.Fault
sweep_answers ss n (reply.Rows rows) h = absurd (goes ss n (first_of rows) h)
sweep_answers ss n reply.Fault h = refl
sweep_answers ss n r h = absurd h

removes : (ss : List Span) (n : ℕ) (left : List Record) (r : Reply) → SweepOfFault (removal_answered ss n left r) → r ≡ reply.Fault
removes ss n left reply.Applied h = absurd (goes ss (n + 1) (first_of left) h)
removes ss n left (reply.NotMet found) h = absurd (goes ss n (first_of left) h)
removes ss n left reply.Fault h = refl
removes ss n left r h = absurd h

sweep_image : (ss : List Span) (n : ℕ) (left : List Record) (b : Record) → SweepOfFault (tombstone_or ss n left b) → ⊥
sweep_image ss n left b h = by (is_tombstone b) h
  where
    by : (x : Bool) → SweepOfFault (if◌then◌else◌ {A = VacuumAt × VacuumStep} x (record { stage = Removing b left; spans = ss; removed = n }, vacuuming.More) (next_of_row ss n (first_of left))) → ⊥
    by true h = h
    by false h = goes ss n (first_of left) h

sweep_resolves : (ss : List Span) (n : ℕ) (rec : Record) (meta : Meta) (left : List Record) (x : RecoverPhase × RecoverStep) → SweepOfFault (sweep_resolved ss n rec meta left x) → RecoveryOfFault x
sweep_resolves ss n rec meta left (p, steps.More) h = h
sweep_resolves ss n rec meta left (p, steps.Image None) h = absurd (goes ss n (first_of left) h)
sweep_resolves ss n rec meta left (p, steps.Image (Some b)) h = absurd (sweep_image ss n left b h)
sweep_resolves ss n rec meta left (p, steps.Busy id at) h = absurd (goes ss n (first_of left) h)
sweep_resolves ss n rec meta left (p, steps.Faulted) h = tt
sweep_resolves ss n rec meta left (p, steps.BadRecord key) h = h
sweep_resolves ss n rec meta left (p, steps.NoMemory) h = h

sweep_of_fault : (v : VacuumAt) (now : ℤ) (r : Reply) → SweepOfFault (vacuum_step v now r) → VacuumsAfterFault v.stage ⊎ (r ≡ reply.Fault)
sweep_of_fault v now r h = by v.stage h
  where
    by : (s : VacuumStage) → SweepOfFault (vacuum_step (record v { stage = s }) now r) → VacuumsAfterFault s ⊎ (r ≡ reply.Fault)
    by (Scanning span) h = inr (sweep_answers v.spans v.removed r h)
    by (SweepResolving rec meta p left) h = recovers rec meta p now r (sweep_resolves v.spans v.removed rec meta left (recover_next rec meta p now r) h)
    by (Removing b left) h = inr (removes v.spans v.removed left r h)
    by SweptOver h = absurd h

---- answers from rows

on_clean : (t : Table) (st : Statement) (rows : List Image) → is_some (table_of st) ≡ true → is_of_fault (answer_on t st rows) ≡ false
on_clean t (statement.Insert i) rows on = by (is_some (columns_at (key_of t i) rows))
  where
    by : (b : Bool) → is_of_fault (if b then answer.Duplicate (key_of t i) else answer.Count 1) ≡ false
    by true = refl
    by false = refl
on_clean t (statement.Upsert i) rows on = refl
on_clean t (statement.Update u) rows on = refl
on_clean t (statement.Delete d) rows on = refl
on_clean t (statement.Select x) rows on = refl
on_clean t statement.Begin rows on = cc
on_clean t statement.Commit rows on = cc
on_clean t statement.Rollback rows on = cc
on_clean t statement.Vacuum rows on = cc

given_one : (t : TxnAt) (b : Answer) (ks : List Keyed) → is_of_fault b ≡ false → is_of_fault (given_answer t (Finished b ks)) ≡ false
given_one t b ks h = by (not (changes_nothing b) && too_many t ks)
  where
    by : (z : Bool) → is_of_fault (if z then refused 15 else b) ≡ false
    by true = refl
    by false = h

given_clean : (p : Planned) (rows : List Image) (t : TxnAt) → is_some (table_of p.statement) ≡ true → is_of_fault (given_answer t (step_of p rows)) ≡ false
given_clean p rows t on = by_asked p.asked
  where
    by_unfit : (o : Option Key) → is_of_fault (given_answer t (finished p.table p.statement rows o)) ≡ false
    by_unfit None = given_one t (answer_on p.table p.statement rows) (changes_on p.table p.statement rows) (on_clean p.table p.statement rows on)
    by_unfit (Some key) = given_one t (answer.BadRecord key) [] refl

    by_asked : (b : Bool) → is_of_fault (given_answer t (step_at b p.table p.statement rows)) ≡ false
    by_asked false = refl
    by_asked true = by_unfit (first_unfit p.table rows)

---- a reply

-- an answer that is none of a fault
clean : {X : Type 0} (z : Answer) → is_of_fault z ≡ false → is_of_fault z ≡ true → X
clean z f t = clash (sym t ∙ f)

module _ (c : ClientAt) (free : c.vacuum ≡ None) where
  -- where a reply leads a transaction
  abbrev Left : Next → TxnAt → Type 0
  Left n u = IsOfFault (answer_in n) (after c n u)

  waits : (u : TxnAt) → Left next.Call u → DoesAfterFault u.doing
  waits u h = subst (λ (o : Option VacuumAt). WorksAfterFault o (Some u)) free h

  -- a read
  module _ (st : Statement) (on : is_some (table_of st) ≡ true) (t : TxnAt) (p : Planned) (a : Access) (x : ReadAt) (of : p.statement ≡ st) where
    as_next : (n m : Next) (u v : TxnAt) → n ≡ m → u ≡ v → Left n u → Left m v
    as_next n m u v e k h = subst (λ (y : TxnAt). Left m y) k (subst (λ (y : Next). Left y u) e h)

    images_left : (images : List Record) (n : Next) (u : TxnAt) → RowsReadPost t p a images n u → Left n u → ⊥
    images_left images (next.Answer z) u step_of_row h = clean z (ap is_of_fault step_of_row.1 ∙ given_clean p _ (with_rows_read t a images) (ap (λ y. is_some (table_of y)) of ∙ on)) h
    images_left images (next.End (answer.Conflict key found)) u step_of_row h = cc
    images_left images next.Call u step_of_row h = step_of_row
    images_left images (next.End z) u step_of_row h = step_of_row

    going_left : (s : ReadStage) (n : Next) (u : TxnAt) → (n ≡ next.Call) × (u ≡ record t { doing = doing.Read a (record x { stage = s }) }) → Left n u → ReadsAfterFault s
    going_left s n u step_of_row h = waits (record t { doing = doing.Read a (record x { stage = s }) }) (as_next n next.Call u _ step_of_row.0 step_of_row.1 h)

    stage_left : (s : ReadStage) (n : Next) (u : TxnAt) → StagePost t p a x s (read_result s) n u → Left n u → ReadsAfterFault s
    stage_left Asking n u step_of_row h = going_left Asking n u step_of_row h
    stage_left (Resolving images rec meta q left) n u step_of_row h = going_left (Resolving images rec meta q left) n u step_of_row h
    stage_left (Ended step.More) n u step_of_row h = going_left (Ended step.More) n u step_of_row h
    stage_left (Ended (step.Images images)) n u step_of_row h = images_left images n u step_of_row h
    stage_left (Ended (step.Busy key id at)) n u step_of_row h = clean (answer.Busy key id at) refl (as_next n _ u _ step_of_row.0 step_of_row.1 h)
    stage_left (Ended step.Faulted) n u step_of_row h = tt
    stage_left (Ended (step.BadRecord key)) n u step_of_row h = clean (answer.BadRecord key) refl (as_next n _ u _ step_of_row.0 step_of_row.1 h)
    stage_left (Ended step.NoMemory) n u step_of_row h = step_of_row

    call_left : (r : Reply) (now : ℤ) (n : Next) (u : TxnAt) → CallPost t p a x r now n u → Left n u → ReadsAfterFault x.stage ⊎ (r ≡ reply.Fault)
    call_left r now n u step_of_row h =
        by_next n
        (λ e. clean answer.NoMemory refl (as_next n (next.Answer answer.NoMemory) u u e refl h))
        (λ e. read_of_fault x.stage now r (stage_left (read_step x.stage now r) n u (step_of_row.answered e) h))

  -- a COMMIT
  module _ (t : TxnAt) (k : CommitAt) (r : Reply) where
    committing_left : (d : Doing) → IsCommitting d (λ m. (m.work ≡ k.work) × IsNext k.work k.stage r m.stage) → DoesAfterFault d → CommitsAfterFault k.stage ⊎ (r ≡ reply.Fault)
    committing_left (doing.Commit m) step_of_row h = next_of_fault k.work k.stage r m.stage step_of_row.1 h
    committing_left doing.Idle step_of_row h = absurd step_of_row
    committing_left (doing.Read a x) step_of_row h = absurd step_of_row
    committing_left doing.Over step_of_row h = absurd step_of_row

    ended_left : (g : Progress) → g ≡ progress_of (ended_at (commit_step k.work k.stage r)) → IsProgressOfFault g → CommitsAfterFault k.stage ⊎ (r ≡ reply.Fault)
    ended_left g e h = commit_of_fault k.work k.stage r (over_of_fault (commit_step k.work k.stage r) (subst IsProgressOfFault e h))

    progress_left : (g : Progress) (u : TxnAt) → CommitPost t k r g u → Left (next_of g) u → CommitsAfterFault k.stage ⊎ (r ≡ reply.Fault)
    progress_left progress.More u step_of_row h = committing_left u.doing (step_of_row.next refl) (waits u h)
    progress_left progress.Faulted u step_of_row h = ended_left progress.Faulted step_of_row.answer tt
    progress_left (progress.Unknown id) u step_of_row h = ended_left (progress.Unknown id) step_of_row.answer tt
    progress_left (progress.Rows rows) u step_of_row h = cc
    progress_left (progress.Busy key id at) u step_of_row h = cc
    progress_left (progress.BadRecord key) u step_of_row h = cc
    progress_left progress.NoMemory u step_of_row h = cc
    progress_left (progress.Conflict key found) u step_of_row h = cc
    progress_left progress.Committed u step_of_row h = cc
    progress_left (progress.Expired id) u step_of_row h = cc

    commit_left : (n : Next) (u : TxnAt) → CommitNext t k r n u → Left n u → CommitsAfterFault k.stage ⊎ (r ≡ reply.Fault)
    commit_left n u step_of_row h = progress_left step_of_row.progress u step_of_row.answered (subst (λ (y : Next). Left y u) step_of_row.next h)

-- a VACUUM
swept_left : (c : ClientAt) (v w : VacuumAt) (s : VacuumStep) (now : ℤ) (r : Reply) → Gives (vacuum_step v now r) w s → IsOfFault (answer_of s) (record c { vacuum = vacuum_left s w }) → VacuumsAfterFault v.stage ⊎ (r ≡ reply.Fault)
swept_left c v w vacuuming.More now r step_of_row h = sweep_of_fault v now r (as_more (vacuum_step v now r) step_of_row)
  where
    as_more : (x : VacuumAt × VacuumStep) → (w ≡ x.0) × (vacuuming.More ≡ x.1) → SweepOfFault x
    as_more (y, z) k = subst (λ (s : VacuumStep). SweepOfFault (y, s)) k.1 (subst (λ (v : VacuumAt). VacuumsAfterFault v.stage) k.0 h)
swept_left c v w vacuuming.Faulted now r step_of_row h = sweep_of_fault v now r (as_faulted (vacuum_step v now r) step_of_row)
  where
    as_faulted : (x : VacuumAt × VacuumStep) → (w ≡ x.0) × (vacuuming.Faulted ≡ x.1) → SweepOfFault x
    as_faulted (y, z) k = subst (λ (s : VacuumStep). SweepOfFault (y, s)) k.1 tt
swept_left c v w (vacuuming.Count n) now r step_of_row h = cc
swept_left c v w (vacuuming.BadRecord key) now r step_of_row h = cc
swept_left c v w vacuuming.NoMemory now r step_of_row h = cc

come_as : (result r : Option Answer) (d u : ClientAt) → result ≡ r → d ≡ u → IsOfFault result d → IsOfFault r u
come_as result r d u e k h = subst (λ (x : Option Answer). IsOfFault x u) e (subst (λ (x : ClientAt). IsOfFault result x) k h)

replied : (st : Statement) (opened : Bool) (c : ClientAt) → IsAtWork st opened c → (r : Reply) (now : ℤ) (result : Option Answer) (d : ClientAt) → ReplyPost c c.vacuum r now result d → IsOfFault result d → IsAfterFault c ⊎ (r ≡ reply.Fault)
replied st opened c (Reads t p a x free txn plan does of table inside) r now result d h come =
    let open_case : OpenTxnPost c (Some t) r now result d = subst (λ (o : Option TxnAt). OpenTxnPost c o r now result d) txn (subst (λ (o : Option VacuumAt). ReplyPost c o r now result d) free h) in
    let step_of_row : CallPost t p a x r now open_case.next open_case.left = subst (λ (o : Option Planned). NextPost t (doing.Read a x) o r now open_case.next open_case.left) plan (subst (λ (o : Doing). NextPost t o c.plan r now open_case.next open_case.left) does open_case.answered) in
    back (call_left c free st table t p a x of r now open_case.next open_case.left step_of_row (come_as result (answer_in open_case.next) d (after c open_case.next open_case.left) open_case.answer open_case.client come))
  where
    back : ReadsAfterFault x.stage ⊎ (r ≡ reply.Fault) → IsAfterFault c ⊎ (r ≡ reply.Fault)
    back (inr f) = inr f
    back (inl k) = inl (subst (λ (o : Option VacuumAt). WorksAfterFault o c.txn) (sym free) (subst (λ (o : Option TxnAt). WorksAfterFault None o) (sym txn) (subst DoesAfterFault (sym does) k)))
replied st opened c (Commits t k free txn plan does commit inside) r now result d h come =
    let open_case : OpenTxnPost c (Some t) r now result d = subst (λ (o : Option TxnAt). OpenTxnPost c o r now result d) txn (subst (λ (o : Option VacuumAt). ReplyPost c o r now result d) free h) in
    let step_of_row : CommitNext t k r open_case.next open_case.left = subst (λ (o : Option Planned). NextPost t (doing.Commit k) o r now open_case.next open_case.left) plan (subst (λ (o : Doing). NextPost t o c.plan r now open_case.next open_case.left) does open_case.answered) in
    back (commit_left c free t k r open_case.next open_case.left step_of_row (come_as result (answer_in open_case.next) d (after c open_case.next open_case.left) open_case.answer open_case.client come))
  where
    back : CommitsAfterFault k.stage ⊎ (r ≡ reply.Fault) → IsAfterFault c ⊎ (r ≡ reply.Fault)
    back (inr f) = inr f
    back (inl m) = inl (subst (λ (o : Option VacuumAt). WorksAfterFault o c.txn) (sym free) (subst (λ (o : Option TxnAt). WorksAfterFault None o) (sym txn) (subst DoesAfterFault (sym does) m)))
replied st opened c (InVacuum v runs txn vacuum outside) r now result d h come =
    let sweep_case : VacuumPost v r now result d.vacuum × (d ≡ record c { vacuum = d.vacuum }) = subst (λ (o : Option VacuumAt). ReplyPost c o r now result d) runs h in
    back (swept_left c v sweep_case.0.left sweep_case.0.step now r sweep_case.0.answered (come_as result (answer_of sweep_case.0.step) d (record c { vacuum = vacuum_left sweep_case.0.step sweep_case.0.left }) sweep_case.0.answer (sweep_case.1 ∙ ap (λ (o : Option VacuumAt). record c { vacuum = o }) sweep_case.0.goes) come))
  where
    back : VacuumsAfterFault v.stage ⊎ (r ≡ reply.Fault) → IsAfterFault c ⊎ (r ≡ reply.Fault)
    back (inr f) = inr f
    back (inl k) = inl (subst (λ (o : Option VacuumAt). WorksAfterFault o c.txn) (sym runs) k)

pub faults_replied : (r : RepliedBy) → IsOfFault r.result r.after → IsAfterFault r.before ⊎ (r.reply ≡ reply.Fault)
faults_replied r come = replied r.statement r.opened r.before r.works r.reply r.now r.result r.after r.took come

---- a taking

module _ (q : Taking) (c : ClientAt) (idle : IsIdle c) (result : Option Answer) (d : ClientAt) (come : IsOfFault result d) where
  at_once : (z : Answer) → is_of_fault z ≡ false → result ≡ Some z → ⊥
  at_once z f e = clean z f (come_as result (Some z) d d e refl come)

  turned : (z : Answer) → is_of_fault z ≡ false → IsAnsweredAtOnce c z result d → ⊥
  turned z f h = at_once z f h.answer

  begin_taken : (x : Option TxnAt) → BeginPost q.gate q.fresh c x result d → ⊥
  begin_taken (Some t) h = turned (refused 4) refl h
  begin_taken None h = by q.gate.vacuum_runs h
    where
      by : (b : Bool) → GatePost b q.fresh c result d → ⊥
      by true h = turned answer.Vacuuming refl h
      by false h = at_once answer.Done refl h.0

  commit_taken : (x : Option TxnAt) → CommitStartPost q.now c x result d → ⊥
  commit_taken None h = turned (refused 5) refl h
  commit_taken (Some t) h = commit_preparing (txn_work t q.now) 0 (waits c idle.free (committing t q.now) (come_as result None d _ h.0 h.1 come))

  rollback_taken : (x : Option TxnAt) → RollbackPost c x result d → ⊥
  rollback_taken None h = turned (refused 5) refl h
  rollback_taken (Some t) h = at_once answer.Done refl h.0

  vacuum_taken : (b : Bool) (ts : List Table) → VacuumStartPost b ts c result d → ⊥
  vacuum_taken true ts h = turned answer.OpenTransactions refl h
  vacuum_taken false [] h = turned (answer.Count 0) refl h
  vacuum_taken false (t ∷ ts) h = come_as result None d _ h.0 h.1 come

  asked : (st : Statement) → is_some (table_of st) ≡ true → (x : Option TxnAt) → AskPost q.catalog st c x result d → ⊥
  asked st on None h = turned (refused 5) refl h
  asked st on (Some t) h = by_refusal (refusal_of q.catalog st) refl
    where
      rows_taken : (table : Table) → RowsPost (plan_of table st) (access_of table st) c t result d → ⊥
      rows_taken table r = by_test (is_covered t.seen (access_of table st))
          (λ k. at_once (given_answer t (gives (plan_of table st) (access_of table st) t)) (given_clean (plan_of table st) _ t on) (r.known k).0)
          (λ k. waits c idle.free (reading t (access_of table st)) (come_as result None d _ (r.unknown k).0 (r.unknown k).1 come))

      by_table : (w : Option Table) → refusal_of q.catalog st ≡ None → named_table q.catalog st ≡ w → ⊥
      by_table (Some table) accepted named = rows_taken table (h.reads table accepted named)
      by_table None accepted named = let k : ◌≡◌ {A = Option Refusal} (Some (record { kind = 6; place = 0 })) None = sym (ap (λ (w : Option Table). refusal_by w st) named) ∙ accepted in cc

      by_refusal : (w : Option Refusal) → refusal_of q.catalog st ≡ w → ⊥
      by_refusal (Some r) k = turned (answer.Refused r) refl (h.refused r k)
      by_refusal None k = by_table (named_table q.catalog st) k refl

  statement_taken : (st : Statement) → StatementPost q st c result d → ⊥
  statement_taken statement.Begin h = begin_taken c.txn h
  statement_taken statement.Commit h = commit_taken c.txn h
  statement_taken statement.Rollback h = rollback_taken c.txn h
  statement_taken statement.Vacuum h = vacuum_taken (is_some c.txn || q.gate.open_elsewhere) q.catalog h
  statement_taken (statement.Insert s) h = asked (statement.Insert s) refl c.txn h
  statement_taken (statement.Upsert s) h = asked (statement.Upsert s) refl c.txn h
  statement_taken (statement.Update s) h = asked (statement.Update s) refl c.txn h
  statement_taken (statement.Delete s) h = asked (statement.Delete s) refl c.txn h
  statement_taken (statement.Select s) h = asked (statement.Select s) refl c.txn h

  text_taken : (says : Result Statement Refusal) → ParsedPost q says c result d → ⊥
  text_taken (Ok st) h = statement_taken st h
  text_taken (Err r) h = turned (answer.Refused r) refl h

pub faults_at_takes : (t : ExecutedBy) → IsOfFault t.result t.after → ⊥
faults_at_takes t come =
    by_memory t.result
    (λ e. at_once t.taking t.before t.idle t.result t.after come answer.NoMemory refl e)
    (λ n. text_taken t.taking t.before t.idle t.result t.after come t.says (t.took n))
