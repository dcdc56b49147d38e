-- A client whose texts have no LF asks for nothing with one and answers with none, whatever it takes and is replied that has none.
use Rattle.std.proofs.Common.{◌≡◌, ℕ, ℤ, Bool, true, false, cond, List, [], ◌∷◌, Option, Some, None, IfSome, refl, sym, ap, subst, ◌∙◌}
use Rattle.std.specs.Prelude.{is_some, not, ◌&&◌}
use Rattle.sdb_types.specs.Contents.{CanAnswer, record_among}
use Rattle.sdb_types.specs.Order.{same_key}
use Rattle.law_runs.specs.Types.{Access, Answer, Doing, Key, Outcome, PlanStep, ReadStep, Record, Reply, Request, VacuumStep}
use Rattle.sdb_types.proofs.Public.{by_test, clash, same_key_exact, some_is}
use Rattle.sdb_snapshot.specs.Entries.{value_at}
use Rattle.sdb_record.specs.declared.access.Access.TheVariants as access
use Rattle.sdb_model.specs.declared.answer.Answer.TheVariants as answer
use Rattle.sdb_model.specs.Causes.{refused}
use Rattle.sdb_model.specs.Plain.{is_one_line}
use Rattle.sdb_model.specs.Transactions.{changes_nothing}
use Rattle.sdb_exec.specs.declared.plan.PlanStep.TheVariants.{Finished, Read as Wants}
use Rattle.sdb_exec.specs.Plans.{Planned}
use Rattle.sdb_model.specs.Reads.{access_of}
use Rattle.sdb_phases.specs.declared.step.Outcome.TheVariants as outcome
use Rattle.sdb_phases.specs.Commit.{Stage, pending as commit_pending, step as commit_step}
use Rattle.sdb_txn.specs.Phases.{CommitAt, ended_at}
use Rattle.sdb_txn.specs.declared.read.ReadStep.TheVariants as step
use Rattle.sdb_txn.specs.Read.{Asking, Ended, ReadAt, ReadStage, Resolving, read_result, read_step}
use Rattle.sdb_snapshot.specs.Reads.{ReadRecord, has_changed, record_read_at}
use Rattle.sdb_snapshot.specs.Seen.{Seen, overlay}
use Rattle.sdb_txn.specs.declared.txn.Doing.TheVariants as doing
use Rattle.sdb_txn.specs.Txn.{TxnAt, idle, pending_in, work_of}
use Rattle.sdb_vacuum.specs.declared.work.VacuumStep.TheVariants as vacuuming
use Rattle.sdb_vacuum.specs.Vacuum.{Gives, VacuumAt, vacuum_step}
use Rattle.sdb_client.specs.Client.{ClientAt, IsIdle, IsChangedAt, Taking, answer_of, client_pending, given_answer, given_left, gives, holding, with_rows_read, pending_by, pending_of, plan_of, resting, too_many, written}
use Rattle.sdb_client.specs.Step.{AnsweredAtOnce, AtOnce, Begins, ByCatalog, CommitEnds, CommitGoesOn, CommitStarts, Fails, HasFaulted, IsBusy, IsCommitAt, IsMalformed, IsReadAt, IsVacuumAt, LosesCommit, NoMemory, NoStatement, NoTable, NoneOpen, OpenAlready, OthersOpen, OutOfMemory, ReadConflicts, ReadEnds, ReadFails, ReadGoesOn, ReadKnown, ReadStarts, Receives, RollsBack, Step, Takes, VacuumEnds, VacuumGoesOn, VacuumRuns, VacuumStarts, answer_of_outcome}
use Rattle.law_clients.proofs.Public.{ended, ended_is}
use Rattle.law_runs.proofs.Clear.{KeyClear, RecordsClear, ReplyClear, RequestClear}
use Rattle.law_runs.proofs.PlainStatements.{AccessClear, AnswerClear, FoundAt, GivesClear, StatementClear, access_clear, gives_clear}
use Rattle.law_runs.proofs.Snapshots.{NotesClear, SeenClear, get_clear, nothing_clear, overlay_clear, scan_clear, written_clear}
use Rattle.law_runs.proofs.Recoveries.{StageClear, SweptClear, VacuumClear, AreSwept, asked_clear, begun_clear, read_asks, stage_clear, sweep_asks, swept_clear}
use Rattle.law_runs.proofs.Commits.{CanGet, CommitClear, OutcomeClear, WorkClear, among_at, commit_asks, commit_step_clear, next_clear, preparing_clear}
use Rattle.law_runs.proofs.Tokens.{read_clear}

-- what a transaction has read and written, and what it does
abbrev pub DoingClear : Seen → Doing → Type 0
DoingClear s doing.Idle = SeenClear s
DoingClear s (doing.Read a x) = SeenClear s × AccessClear a × RequestClear x.request × StageClear x.stage
DoingClear s (doing.Commit k) = WorkClear k.work × CommitClear k.stage
DoingClear s doing.Over = Unit {0}

abbrev pub TxnClear : TxnAt → Type 0
TxnClear t = DoingClear t.seen t.doing

abbrev pub PlanClear : Planned → Type 0
PlanClear p = StatementClear p.statement

pub record ClientClear (c : ClientAt) : Type 0 where
  pub txn : IfSome c.txn TxnClear
  pub plan : IfSome c.plan PlanClear
  pub vacuum : IfSome c.vacuum VacuumClear

-- what it answers and what it is after that
pub record StepClear (result : Option Answer) (d : ClientAt) : Type 0 where
  pub client : ClientClear d
  pub answer : IfSome result AnswerClear

open_clear : (c : ClientAt) (t : TxnAt) → c.txn ≡ Some t → ClientClear c → TxnClear t
open_clear c t e h = subst (λ (o : Option TxnAt). IfSome o TxnClear) e h.txn

idle_seen : (c : ClientAt) (t : TxnAt) → c.txn ≡ Some t → IsIdle c → ClientClear c → SeenClear t.seen
idle_seen c t e i h =
    let still : t.doing ≡ doing.Idle = subst (λ (o : Option TxnAt). IfSome o (λ u. u.doing ≡ doing.Idle)) e i.still in
    subst (λ (x : Doing). DoingClear t.seen x) still (open_clear c t e h)

rests_clear : (c : ClientAt) → ClientClear c → ClientClear (resting c)
rests_clear c h = record { txn = tt; plan = tt; vacuum = h.vacuum }

holds_clear : (c : ClientAt) (u : TxnAt) → ClientClear c → TxnClear u → ClientClear (holding c u)
holds_clear c u h k = record { txn = k; plan = tt; vacuum = h.vacuum }

---- what a plan gives

given_clear : (t : TxnAt) (s : PlanStep) → GivesClear s → AnswerClear (given_answer t s)
given_clear t (Finished a ks) h = elim (not (changes_nothing a) && too_many t ks) as (λ b. AnswerClear (cond b (refused 15) a)) [ true ↦ tt | false ↦ h.0 ]
given_clear t (Wants a) h = tt

-- a transaction that does nothing, with what it has read and written
abbrev RestsWith : TxnAt → Type 0
RestsWith t = (t.doing ≡ doing.Idle) × SeenClear t.seen

at_rest : (t : TxnAt) → RestsWith t → TxnClear t
at_rest t h = subst (λ (x : Doing). DoingClear t.seen x) (sym h.0) h.1

left_clear : (t : TxnAt) (s : PlanStep) → RestsWith t → GivesClear s → RestsWith (given_left t s)
left_clear t (Finished a ks) h g = by (changes_nothing (given_answer t (Finished a ks)))
  where
    by : (b : Bool) → RestsWith (cond b t (written t ks))
    by true = h
    by false = (h.0, written_clear t.seen ks g.1 h.1)
left_clear t (Wants a) h g = h

plan_gives : (p : Planned) (a : Access) (t : TxnAt) → StatementClear p.statement → SeenClear t.seen → GivesClear (gives p a t)
plan_gives p a t h k = gives_clear p (overlay a t.seen) h (overlay_clear a t.seen k)

---- a text that is accepted

once_clear : (c : ClientAt) (q : Taking) (text : List ℕ) (a : Answer) → AtOnce c q text a → AnswerClear a
once_clear c q text a (NoStatement r refuses) = tt
once_clear c q text a (OpenAlready t reads e) = tt
once_clear c q text a (NoneOpen st reads needs e) = tt
once_clear c q text a (VacuumRuns reads e shut) = tt
once_clear c q text a (OthersOpen reads e) = tt
once_clear c q text a (NoTable reads e none) = tt
once_clear c q text a (ByCatalog st t r reads names e refuses) = tt
once_clear c q text a (NoMemory other) = tt

module _ (q : Taking) (text : List ℕ) (c : ClientAt) (one : is_one_line text ≡ true) (waits : IsIdle c) (h : ClientClear c) where
  still : (t : TxnAt) → c.txn ≡ Some t → t.doing ≡ doing.Idle
  still t e = subst (λ (o : Option TxnAt). IfSome o (λ u. u.doing ≡ doing.Idle)) e waits.still

  pub takes_clear : (result : Option Answer) (d : ClientAt) → Step c (Takes q text) result d → StepClear result d
  takes_clear result d (AnsweredAtOnce {a = a} at) = record { client = h; answer = once_clear c q text a at }
  takes_clear result d (Begins reads e shut) = record { client = record { txn = nothing_clear; plan = tt; vacuum = tt }; answer = tt }
  takes_clear result d (RollsBack t reads e) = record { client = rests_clear c h; answer = tt }
  takes_clear result d (LosesCommit reads) = record { client = rests_clear c h; answer = tt }
  takes_clear result d (CommitStarts t reads e) =
      let seen = idle_seen c t e waits h in
      record { client = record { txn = (record { writes = seen.writes; reads = seen.reads; scans = seen.scans }, preparing_clear (work_of t q.now) 0); plan = tt; vacuum = h.vacuum }; answer = tt }
  takes_clear result d (VacuumStarts t ts reads e is) = record { client = record { txn = h.txn; plan = h.plan; vacuum = begun_clear (t ∷ ts) }; answer = tt }
  takes_clear result d (ReadKnown t table st on known) =
      let seen = idle_seen c t on.opened waits h in
      let step : PlanStep = gives (plan_of table st) (access_of table st) t in
      let given : GivesClear step = plan_gives (plan_of table st) (access_of table st) t (read_clear text st one on.reads) seen in
      record { client = holds_clear c (given_left t step) h (at_rest (given_left t step) (left_clear t step (still t on.opened, seen) given)); answer = given_clear t step given }
  takes_clear result d (ReadStarts t table st on unread) =
      let clear : StatementClear st = read_clear text st one on.reads in
      let here : AccessClear (access_of table st) = access_clear table st clear in
      record { client = record { txn = (idle_seen c t on.opened waits h, here, asked_clear (access_of table st) here, tt); plan = clear; vacuum = h.vacuum }; answer = tt }

---- a reply that is accepted

-- a key that was read
noted_key : (read_set : List ReadRecord) (key : Key) → NotesClear read_set → is_some (record_read_at read_set key) ≡ true → KeyClear key
noted_key [] key h = λ e. clash (sym e)
noted_key (n ∷ ns) key h =
    by_test (same_key key n.0)
    (λ t. λ e. subst KeyClear (sym (same_key_exact key n.0 t)) h.0.0)
    (λ t. λ e. noted_key ns key h.1 (sym (ap (λ (b : Bool). is_some (cond b (Some n.1) (value_at ns key))) t) ∙ e))

moved_noted : (o : Option (Option Record)) (found : Option Record) → has_changed o found ≡ true → is_some o ≡ true
moved_noted None found e = clash (sym e)
moved_noted (Some n) found e = refl

noting_clear : (t : TxnAt) (a : Access) (images : List Record) → AccessClear a → RecordsClear images → SeenClear t.seen → RestsWith (with_rows_read t a images)
noting_clear t (access.Get key) images k h g = (refl, get_clear t.seen key images k h g)
noting_clear t (access.Scan span) images k h g = (refl, scan_clear t.seen span images k h g)

changed_clear : (t : TxnAt) (b : Access) (images : List Record) (key : Key) (found : Option Record) → SeenClear t.seen → RecordsClear images → IsChangedAt t b images key found → AnswerClear (answer.Conflict key found)
changed_clear t (access.Get k) images key found seen i h = absurd h
changed_clear t (access.Scan span) images key found seen i h = (
  noted_key t.seen.read_set key seen.read_set (moved_noted (record_read_at t.seen.read_set key) (record_among images key) h.moved),
  subst (λ (o : Option Record). IfSome o (FoundAt key)) (sym h.agrees) (among_at images key i),
)

-- what a read has come to
images_clear : (s : ReadStage) (images : List Record) → read_result s ≡ step.Images images → StageClear s → RecordsClear images
images_clear Asking images e i = absurd (cc)
images_clear (Resolving found rec meta phase left) images e i = absurd (cc)
images_clear (Ended o) images e i = subst (λ (y : ReadStep). StageClear (Ended y)) e i

failed_clear : (s : ReadStage) (o : ReadStep) (b : Answer) → read_result s ≡ o → Fails o b → StageClear s → AnswerClear b
failed_clear s o b e (IsBusy key id at) i = subst (λ (y : ReadStage). StageClear y) (ended s o e (λ n. cc)) i
failed_clear s o b e HasFaulted i = tt
failed_clear s o b e (IsMalformed key) i = subst (λ (y : ReadStage). StageClear y) (ended s o e (λ n. cc)) i
failed_clear s o b e (OutOfMemory y) i = tt

-- what a COMMIT has come to
outcome_clear : (a : Outcome) → OutcomeClear a → AnswerClear (answer_of_outcome a)
outcome_clear outcome.Committed h = tt
outcome_clear (outcome.Conflict key found) h = h
outcome_clear (outcome.Expired id) h = tt
outcome_clear outcome.Faulted h = tt
outcome_clear (outcome.Unknown id) h = tt
outcome_clear (outcome.BadRecord key) h = h
outcome_clear outcome.NoMemory h = tt

over_clear : (s : Stage) (a : Outcome) → ended_at s ≡ Some a → CommitClear s → AnswerClear (answer_of_outcome a)
over_clear s a e h = outcome_clear a (subst CommitClear (ended_is s a e) h)

-- what a VACUUM has come to
swept_answer : (o : VacuumAt × VacuumStep) (w : VacuumAt) (s : VacuumStep) (b : Answer) → Gives o w s → AreSwept o → answer_of s ≡ Some b → AnswerClear b
swept_answer o w vacuuming.More b g h e = absurd (cc)
swept_answer o w (vacuuming.Count n) b g h e = subst AnswerClear (some_is (answer.Count n) b e) tt
swept_answer o w vacuuming.Faulted b g h e = subst AnswerClear (some_is answer.Faulted b e) tt
swept_answer o w (vacuuming.BadRecord key) b g h e = subst AnswerClear (some_is (answer.BadRecord key) b e) (subst SweptClear (sym g.1) h.1)
swept_answer o w vacuuming.NoMemory b g h e = subst AnswerClear (some_is answer.NoMemory b e) tt

can_get : (o : Option Request) (q : Request) (r : Reply) → o ≡ Some q → CanAnswer q r → IfSome o (λ x. CanAnswer x r)
can_get o q r e can = subst (λ (x : Option Request). IfSome x (λ y. CanAnswer y r)) (sym e) can

module _ (c : ClientAt) (q : Request) (r : Reply) (now : ℤ) (can : CanAnswer q r) (reply : ReplyClear r) (h : ClientClear c) where
  reads_at : (t : TxnAt) (p : Planned) (a : Access) (x : ReadAt) → IsReadAt c q t p a x → DoingClear t.seen (doing.Read a x)
  reads_at t p a x at = subst (λ (y : Doing). DoingClear t.seen y) at.doing (open_clear c t at.opened h)

  stage_at : (t : TxnAt) (p : Planned) (a : Access) (x : ReadAt) → IsReadAt c q t p a x → StageClear (read_step x.stage now r)
  stage_at t p a x at = stage_clear x.stage now r (reads_at t p a x at).3 reply

  commits_at : (t : TxnAt) (k : CommitAt) → IsCommitAt c q t k → WorkClear k.work × CommitClear k.stage
  commits_at t k at = subst (λ (y : Doing). DoingClear t.seen y) at.doing (open_clear c t at.opened h)

  commit_can : (t : TxnAt) (k : CommitAt) → IsCommitAt c q t k → CanGet k.work k.stage r
  commit_can t k at =
      let pends : pending_of c.txn ≡ Some q = subst (λ (v : Option VacuumAt). pending_by v c.txn ≡ Some q) at.free at.pending in
      let asks : pending_in t.doing ≡ Some q = subst (λ (o : Option TxnAt). pending_of o ≡ Some q) at.opened pends in
      can_get (commit_pending k.work k.stage) q r (subst (λ (y : Doing). pending_in y ≡ Some q) at.doing asks) can

  swept_at : (v : VacuumAt) → IsVacuumAt c q v → AreSwept (vacuum_step v now r)
  swept_at v at = let is : VacuumClear v = subst (λ (o : Option VacuumAt). IfSome o VacuumClear) at.runs h.vacuum in swept_clear v.spans v.removed v.stage now r is.0 is.1 reply

  pub replies_clear : (result : Option Answer) (d : ClientAt) → Step c (Receives q r now) result d → StepClear result d
  replies_clear result d (ReadGoesOn t p a x at more) =
      let k = reads_at t p a x at in
      record { client = record { txn = (k.0, k.1, k.2, stage_at t p a x at); plan = h.plan; vacuum = h.vacuum }; answer = tt }
  replies_clear result d (ReadEnds t p a x images at ends is_asked as_read) =
      let k = reads_at t p a x at in
      let v : TxnAt = with_rows_read t a images in
      let recorded_read : RestsWith v = noting_clear t a images k.1 (images_clear (read_step x.stage now r) images ends (stage_at t p a x at)) k.0 in
      let given : GivesClear (gives p a v) = plan_gives p a v (subst (λ (o : Option Planned). IfSome o PlanClear) at.plan h.plan) recorded_read.1 in
      record { client = holds_clear c (given_left v (gives p a v)) h (at_rest (given_left v (gives p a v)) (left_clear v (gives p a v) recorded_read given)); answer = given_clear v (gives p a v) given }
  replies_clear result d (ReadConflicts t p a x images key found at ends changed) =
      record { client = rests_clear c h; answer = changed_clear t a images key found (reads_at t p a x at).0 (images_clear (read_step x.stage now r) images ends (stage_at t p a x at)) changed }
  replies_clear result d (ReadFails {b = b} t p a x at f) =
      record { client = holds_clear c (idle t) h (reads_at t p a x at).0; answer = failed_clear (read_step x.stage now r) (read_result (read_step x.stage now r)) b refl f (stage_at t p a x at) }
  replies_clear result d (CommitGoesOn {u = u} t k next at to) =
      let w = commits_at t k at in
      record { client = record { txn = subst (λ (y : Doing). DoingClear u.seen y) (sym to.doing) (w.0, next_clear k.work k.stage r next w.0 w.1 (commit_can t k at) reply to.next); plan = h.plan; vacuum = h.vacuum }; answer = tt }
  replies_clear result d (CommitEnds t k a at over) =
      let w = commits_at t k at in
      record { client = rests_clear c h; answer = over_clear (commit_step k.work k.stage r) a over (commit_step_clear k.work k.stage r w.0 w.1 (commit_can t k at) reply) }
  replies_clear result d (VacuumGoesOn v at gave) = record { client = record { txn = h.txn; plan = h.plan; vacuum = subst VacuumClear (sym gave.0) (swept_at v at).0 }; answer = tt }
  replies_clear result d (VacuumEnds {b = b} v w s at gave answers) = record { client = record { txn = h.txn; plan = h.plan; vacuum = tt }; answer = swept_answer (vacuum_step v now r) w s b gave (swept_at v at) answers }

---- the call that is pending

doing_asks : (s : Seen) (o : Doing) → DoingClear s o → IfSome (pending_in o) RequestClear
doing_asks s doing.Idle h = tt
doing_asks s (doing.Read a x) h = read_asks x.request x.stage h.2 h.3
doing_asks s (doing.Commit k) h = commit_asks k.work k.stage h.0
doing_asks s doing.Over h = tt

pub asks_clear : (c : ClientAt) (q : Request) → ClientClear c → client_pending c ≡ Some q → RequestClear q
asks_clear c q h asked = subst (λ (o : Option Request). IfSome o RequestClear) asked (by_vacuum c.vacuum h.vacuum c.txn h.txn)
  where
    by_vacuum : (v : Option VacuumAt) → IfSome v VacuumClear → (o : Option TxnAt) → IfSome o TxnClear → IfSome (pending_by v o) RequestClear
    by_vacuum (Some v) k o g = sweep_asks v.stage k.0
    by_vacuum None k None g = tt
    by_vacuum None k (Some t) g = doing_asks t.seen t.doing g
