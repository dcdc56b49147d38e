-- A statement that reads reads rows once, and BEGIN and ROLLBACK make no call.
use Rattle.std.proofs.Common.{◌≡◌, ◌≤◌, ◌+◌, ◌⊎◌, inl, inr, ℕ, ℤ, Bool, true, false, cond, List, [], ◌∷◌, ◌++◌, Option, Some, None, refl, sym, ap, subst, ◌∙◌, arith}
use Rattle.std.specs.Prelude.{is_some}
use Rattle.std.specs.List.{count_by}
use Rattle.std.proofs.lemmas.List.Sums.{fold-append}
use Rattle.law_runs.specs.Types.{Access, Answer, Doing, Event, How, Meta, Next, ReadStep, Record, RecoverPhase, RecoverStep, Reply, Request, Script, Table}
use Rattle.sdb_types.specs.declared.record.Reply.TheVariants as reply
use Rattle.sdb_types.proofs.Public.{clash, none_some}
use Rattle.sdb_model.specs.declared.answer.Answer.TheVariants as answer
use Rattle.sdb_model.specs.declared.event.Event.TheVariants as event
use Rattle.sdb_model.specs.declared.statement.Statement.TheVariants as statement
use Rattle.sdb_model.specs.Calls.{StoreCall, calls_of}
use Rattle.sdb_model.specs.ReadSet.{reads_rows}
use Rattle.sdb_model.specs.Rows.{Name}
use Rattle.sdb_model.specs.Sql.{reads_begin, reads_commit, reads_rollback, reads_vacuum}
use Rattle.sdb_model.specs.Transactions.{Executed}
use Rattle.sdb_exec.specs.Plans.{Planned}
use Rattle.sdb_phases.specs.declared.step.RecoverStep.TheVariants as steps
use Rattle.sdb_phases.specs.Recover.{recover_next}
use Rattle.sdb_txn.specs.declared.read.ReadStep.TheVariants as step
use Rattle.sdb_txn.specs.Read.{Asking, Bad, Ended, Firm, IsAsking, Kind, Open, ReadAt, ReadStage, Resolving, answered, kind_of, read_pending_at, read_result, read_step, resolved, settle, settle_one}
use Rattle.sdb_sqltext.proofs.Public.{commit_read, one_statement, rollback_read, vacuum_read}
use Rattle.sdb_txn.specs.declared.txn.Doing.TheVariants as doing
use Rattle.sdb_txn.specs.Txn.{TxnAt}
use Rattle.sdb_client.specs.declared.next.Next.TheVariants as next
use Rattle.sdb_client.specs.Client.{CallPost, ClientAt, StagePost, after}
use Rattle.law_clients.specs.History.{executed_of_take}
use Rattle.law_answers.specs.Invariant.{IsWaiting}
use Rattle.law_answers.proofs.Public.{made_at, none_yet, recovery_unread}
use Rattle.sdb_client.specs.Execution.{IsExecution, IsPlayable}
use Rattle.law_runs.specs.Laws.{ReadsAreFew, ReadsOnce}
use Rattle.law_runs.specs.World.{states_of}
use Rattle.law_runs.proofs.OwnPrepares.{calls_again}
use Rattle.law_runs.proofs.Replies.{CallOf, CommitCall, ReadCall, SweepCall, call_of}
use Rattle.law_runs.proofs.Statements.{AreKept, SoBy, calls_more, replied_said, statements_so}

-- it is a BEGIN or a ROLLBACK
abbrev BeginsOrRollsBack : List ℕ → Type 0
BeginsOrRollsBack text = (reads_begin text ≡ true) ⊎ (reads_rollback text ≡ true)

-- before its read it has made no call
abbrev StageReads : ReadStage → List StoreCall → Type 0
StageReads Asking calls = calls ≡ []
StageReads (Resolving images rec meta p left) calls = ReadsOnce calls
StageReads (Ended s) calls = ReadsOnce calls

abbrev DoingReads : Doing → List StoreCall → Type 0
DoingReads (doing.Read a x) calls = StageReads x.stage calls
DoingReads d calls = ReadsOnce calls

abbrev TxnReads : Option TxnAt → List StoreCall → Type 0
TxnReads None calls = ReadsOnce calls
TxnReads (Some t) calls = DoingReads t.doing calls

abbrev NoneMade : List Event → ℕ → Executed → Type 0
NoneMade events c s = BeginsOrRollsBack s.text → calls_of events c s ≡ []

abbrev AreFew : List Event → ℕ → Executed → Type 0
AreFew events c s = (reads_commit s.text ≡ false → reads_vacuum s.text ≡ false → ReadsOnce (calls_of events c s)) × NoneMade events c s

abbrev WaitFew : List Event → ℕ → Executed → ClientAt → Type 0
WaitFew events c s h = (reads_commit s.text ≡ false → reads_vacuum s.text ≡ false → TxnReads h.txn (calls_of events c s)) × NoneMade events c s

---- lists of calls

count_push : (calls : List StoreCall) (m : StoreCall) → count_by reads_rows (calls ++ m ∷ []) ≡ count_by reads_rows calls + cond (reads_rows m) 1 0
count_push calls m = fold-append (λ a (x : StoreCall). a + cond (reads_rows x) 1 0) 0 calls (m ∷ [])

once_none : ReadsOnce []
once_none = omega arith

once_nothing : (calls : List StoreCall) → calls ≡ [] → ReadsOnce calls
once_nothing calls e = subst ReadsOnce (sym e) once_none

once_one : (calls : List StoreCall) (m : StoreCall) → calls ≡ [] → ReadsOnce (calls ++ m ∷ [])
once_one calls m e = by (reads_rows m) (count_push calls m ∙ ap (λ (ms : List StoreCall). count_by reads_rows ms + cond (reads_rows m) 1 0) e)
  where
    by : (b : Bool) → count_by reads_rows (calls ++ m ∷ []) ≡ 0 + cond b 1 0 → ReadsOnce (calls ++ m ∷ [])
    by true k = omega (arith, k)
    by false k = omega (arith, k)

-- one that reads no rows
once_more : (calls : List StoreCall) (m : StoreCall) → reads_rows m ≡ false → ReadsOnce calls → ReadsOnce (calls ++ m ∷ [])
once_more calls m unread once = by (count_by reads_rows calls) (count_by reads_rows (calls ++ m ∷ [])) once (count_push calls m ∙ ap (λ (b : Bool). count_by reads_rows calls + cond b 1 0) unread)
  where
    by : (n k : ℕ) → n ≤ 1 → k ≡ n + 0 → k ≤ 1
    by n k l e = omega (arith, l, e)

once_txn : (o : Option TxnAt) (calls : List StoreCall) → TxnReads o calls → ReadsOnce calls
once_txn None calls h = h
once_txn (Some t) calls h = by t.doing h
  where
    by_stage : (s : ReadStage) → StageReads s calls → ReadsOnce calls
    by_stage Asking k = once_nothing calls k
    by_stage (Resolving images rec meta p left) k = k
    by_stage (Ended s) k = k

    by : (d : Doing) → DoingReads d calls → ReadsOnce calls
    by (doing.Read a x) k = by_stage x.stage k
    by (doing.Commit k) z = z
    by doing.Idle z = z
    by doing.Over z = z

-- before the first call
first_txn : (o : Option TxnAt) (calls : List StoreCall) → calls ≡ [] → TxnReads o calls
first_txn None calls e = once_nothing calls e
first_txn (Some t) calls e = by t.doing
  where
    by_stage : (s : ReadStage) → StageReads s calls
    by_stage Asking = e
    by_stage (Resolving images rec meta p left) = once_nothing calls e
    by_stage (Ended s) = once_nothing calls e

    by : (d : Doing) → DoingReads d calls
    by (doing.Read a x) = by_stage x.stage
    by (doing.Commit k) = once_nothing calls e
    by doing.Idle = once_nothing calls e
    by doing.Over = once_nothing calls e

---- a read goes on

-- where a reply leads it has read
abbrev Read : ReadStage → Type 0
Read s = IsAsking s → ⊥

settle_read : (images left : List Record) → Read (settle images left)
settle_read images [] = λ h. h
settle_read images (r ∷ left) = by (kind_of r) (settle_read (images ++ r ∷ []) left)
  where
    by : (k : Kind) → Read (settle (images ++ r ∷ []) left) → Read (settle_one k images r left (settle (images ++ r ∷ []) left))
    by Firm h = h
    by (Open meta) h = λ k. k
    by Bad h = λ k. k

answered_read : (r : Reply) → Read (answered r)
answered_read (reply.Found None) = settle_read [] []
answered_read (reply.Found (Some r)) = settle_read [] (r ∷ [])
answered_read (reply.Rows rows) = settle_read [] rows
answered_read reply.Fault = λ h. h
answered_read reply.Applied = λ h. h
answered_read (reply.NotMet found) = λ h. h
answered_read (reply.NotAll place there) = λ h. h
answered_read reply.NoMemory = λ h. h

resolved_read : (images : List Record) (rec : Record) (meta : Meta) (left : List Record) (n : RecoverPhase × RecoverStep) → Read (resolved images rec meta left n)
resolved_read images rec meta left (p, steps.More) = λ h. h
resolved_read images rec meta left (p, steps.Image None) = settle_read images left
resolved_read images rec meta left (p, steps.Image (Some b)) = settle_read (images ++ b ∷ []) left
resolved_read images rec meta left (p, steps.Busy id at) = λ h. h
resolved_read images rec meta left (p, steps.Faulted) = λ h. h
resolved_read images rec meta left (p, steps.BadRecord key) = λ h. h
resolved_read images rec meta left (p, steps.NoMemory) = λ h. h

step_read : (s : ReadStage) (now : ℤ) (r : Reply) → Read (read_step s now r)
step_read Asking now r = answered_read r
step_read (Resolving images rec meta p left) now r = resolved_read images rec meta left (recover_next rec meta p now r)
step_read (Ended s) now r = λ h. h

stage_so : (s : ReadStage) (calls : List StoreCall) → Read s → ReadsOnce calls → StageReads s calls
stage_so Asking calls h once = absurd (h tt)
stage_so (Resolving images rec meta p left) calls h once = once
stage_so (Ended s) calls h once = once

-- a read that goes on
left_so : (t : TxnAt) (p : Planned) (a : Access) (x : ReadAt) (r : Reply) (now : ℤ) (n : Next) (u : TxnAt) (calls : List StoreCall) → CallPost t p a x r now n u → n ≡ next.Call → ReadsOnce calls → DoingReads u.doing calls
left_so t p a x r now n u calls acked e once = by (read_result (read_step x.stage now r)) (subst (λ (m : Next). StagePost t p a x (read_step x.stage now r) (read_result (read_step x.stage now r)) m u) e (acked.answered (λ k. other (sym e ∙ k))))
  where
    other : next.Call ≡ next.Answer answer.NoMemory → ⊥
    other k = cc

    by : (s : ReadStep) → StagePost t p a x (read_step x.stage now r) s next.Call u → DoingReads u.doing calls
    by step.More k = subst (λ (y : TxnAt). DoingReads y.doing calls) (sym k.1) (stage_so (read_step x.stage now r) calls (step_read x.stage now r) once)
    by (step.Images images) k = absurd k
    by (step.Busy key id at) k = absurd (let z = k.0 in cc)
    by step.Faulted k = absurd (let z = k.0 in cc)
    by (step.BadRecord key) k = absurd (let z = k.0 in cc)
    by step.NoMemory k = absurd k

---- a call is made

-- a COMMIT and a VACUUM are neither a BEGIN nor a ROLLBACK
no_rollback : (text : List ℕ) → reads_rollback text ≡ true → (reads_commit text ≡ true) ⊎ (reads_vacuum text ≡ true) → ⊥
no_rollback text back (inl commit) = let e = one_statement text statement.Rollback statement.Commit ((rollback_read text).0 back) ((commit_read text).0 commit) in cc
no_rollback text back (inr vacuums) = let e = one_statement text statement.Rollback statement.Vacuum ((rollback_read text).0 back) ((vacuum_read text).0 vacuums) in cc

module _ (catalog : List Table) (events : List Event) (c : ℕ) (h d : ClientAt) (store : Name) (q : Request) (how : How) (r : Reply) (now : ℤ) (acked : List Executed) (x : Executed) (waits : IsWaiting catalog events c (is_some h.vacuum) x) (so : WaitFew events c x h) where
  abbrev E : Option Answer → List Event
  E a = events ++ event.Call c store q how r a ∷ []

  abbrev made : StoreCall
  made = made_at events store q how r

  more : (a : Option Answer) → calls_of (E a) c (replied_said events x a) ≡ calls_of events c x ++ made ∷ []
  more a = calls_more events c store q how r x waits.unanswered waits.accepted a

  -- it is no statement that reads
  ends : (a : Option Answer) → (BeginsOrRollsBack x.text → ⊥) → (reads_commit x.text ≡ false → reads_vacuum x.text ≡ false → ⊥) → SoBy AreFew WaitFew (E a) c (replied_said events x a) d a
  ends None never other = (λ e f. absurd (other e f), λ z. absurd (never z))
  ends (Some b) never other = (λ e f. absurd (other e f), λ z. absurd (never z))

  never_ends : (reads_commit x.text ≡ true) ⊎ (reads_vacuum x.text ≡ true) → BeginsOrRollsBack x.text → ⊥
  never_ends is (inl begin) = clash (sym begin ∙ waits.begin)
  never_ends is (inr back) = no_rollback x.text back is

  vacuums : (a : Option Answer) → SweepCall events c x h q r now a d → SoBy AreFew WaitFew (E a) c (replied_said events x a) d a
  vacuums a z =
      let is : reads_vacuum x.text ≡ true = waits.vacuum ∙ ap is_some z.runs in
      ends a (never_ends (inr is)) (λ e f. clash (sym is ∙ f))

  commits : (a : Option Answer) → CommitCall events c acked x h q r a d → SoBy AreFew WaitFew (E a) c (replied_said events x a) d a
  commits a z = ends a (never_ends (inl z.is.text)) (λ e f. clash (sym z.is.text ∙ e))

  reads : (a : Option Answer) → ReadCall catalog events c x h q r now a d → SoBy AreFew WaitFew (E a) c (replied_said events x a) d a
  reads a z = by a refl
    where
      never : BeginsOrRollsBack x.text → ⊥
      never (inl begin) = clash (sym begin ∙ waits.begin)
      never (inr back) = clash (sym back ∙ z.is.inner.rollback)

      before : reads_commit x.text ≡ false → reads_vacuum x.text ≡ false → StageReads z.x.stage (calls_of events c x)
      before e f = subst (λ (y : Doing). DoingReads y (calls_of events c x)) z.reads (subst (λ (o : Option TxnAt). TxnReads o (calls_of events c x)) z.opened (so.0 e f))

      by_stage : (s : ReadStage) → read_pending_at z.x.request s ≡ Some made.request → StageReads s (calls_of events c x) → ReadsOnce (calls_of events c x ++ made ∷ [])
      by_stage Asking e k = once_one (calls_of events c x) made k
      by_stage (Resolving images rec meta p left) e k = once_more (calls_of events c x) made (recovery_unread rec meta p made e) k
      by_stage (Ended s) e k = none_some made.request e

      once : reads_commit x.text ≡ false → reads_vacuum x.text ≡ false → ReadsOnce (calls_of events c x ++ made ∷ [])
      once e f = by_stage z.x.stage z.pends (before e f)

      by : (b : Option Answer) → a ≡ b → SoBy AreFew WaitFew (E b) c (replied_said events x b) d b
      by (Some b) e = (λ f g. subst ReadsOnce (sym (more (Some b))) (once f g), λ y. absurd (never y))
      by None e =
          let again : z.next ≡ next.Call = calls_again z.next (sym e ∙ z.answer) in
          let left : d.txn ≡ Some z.u = ap (λ (y : ClientAt). y.txn) (z.left ∙ ap (λ (n : Next). after h n z.u) again) in (
            λ f g. subst (λ (o : Option TxnAt). TxnReads o (calls_of (E None) c x)) (sym left) (left_so z.t z.p z.access z.x r now z.next z.u (calls_of (E None) c x) z.answered again (subst ReadsOnce (sym (more None)) (once f g))),
            λ y. absurd (never y),
          )

  call_few : (a : Option Answer) → CallOf catalog events c acked x h q r now a d → SoBy AreFew WaitFew (E a) c (replied_said events x a) d a
  call_few a (inl z) = vacuums a z
  call_few a (inr (inl z)) = reads a z
  call_few a (inr (inr z)) = commits a z

---- every statement

take_few : (events : List Event) (c : ℕ) (text : List ℕ) (a : Option Answer) (d : ClientAt) → SoBy AreFew WaitFew (events ++ event.Take c text a ∷ []) c (executed_of_take events text a) d a
take_few events c text None d = (λ e f. first_txn d.txn (calls_of (events ++ event.Take c text None ∷ []) c (executed_of_take events text None)) (none_yet c events text None), λ z. none_yet c events text None)
take_few events c text (Some b) d = (λ e f. once_nothing (calls_of (events ++ event.Take c text (Some b) ∷ []) c (executed_of_take events text (Some b))) (none_yet c events text (Some b)), λ z. none_yet c events text (Some b))

pub few_kept : AreKept (λ catalog. AreFew) (λ catalog. WaitFew)
few_kept = record {
  answered = λ catalog events e c s past so. (λ f g. subst ReadsOnce (sym past.calls) (so.0 f g), λ z. past.calls ∙ so.1 z);
  waiting = λ catalog events e c s h still so. (λ f g. subst (TxnReads h.txn) (sym still.calls) (so.0 f g), λ z. still.calls ∙ so.1 z);
  takes = λ w u c text a t h. take_few w.events c text a t.client;
  calls = λ w u c store q how r a t h k runs x waiting waits so. call_few w.script.catalog w.events c t.client_slot.client t.client store q how r w.clock k.entries x waits so a
      (call_of w.script.catalog w.events c t.client_slot.client k runs x waiting q r w.clock a t.client t.pending ((h.world.each t.place t.client_slot t.at).fitted t.goes_on) t.takes);
}

-- A statement of an execution that reads reads rows once, and BEGIN and ROLLBACK make no call.
pub execution_few : (script : Script) (events : List Event) → IsPlayable script → IsExecution script events → ReadsAreFew events
execution_few script events playable x client s has = by s.answer (states_of x.last.client_slots client).client (statements_so (λ catalog. AreFew) (λ catalog. WaitFew) few_kept script events playable x client s has)
  where
    by : (o : Option Answer) (h : ClientAt) → SoBy AreFew WaitFew events client s h o → (reads_commit s.text ≡ false → reads_vacuum s.text ≡ false → ReadsOnce (calls_of events client s)) × (BeginsOrRollsBack s.text → calls_of events client s ≡ [])
    by None h so = (λ e f. once_txn h.txn (calls_of events client s) (so.0 e f), so.1)
    by (Some b) h so = so
