-- What a call leaves of its client.
use Rattle.std.proofs.Common.{◌≡◌, ◌≢◌, ℤ, Bool, true, false, cond, Option, Some, None, refl, sym, ap, subst, ◌∙◌, ◌⊎◌, inl, inr, IsSome}
use Rattle.sdb_client.specs.Types.{Access, Answer, Doing, Outcome, PlanStep, Progress, ReadStep, Reply}
use Rattle.sdb_model.specs.declared.answer.Answer.TheVariants as answer
use Rattle.sdb_model.specs.Transactions.{changes_nothing}
use Rattle.sdb_exec.specs.declared.plan.PlanStep.TheVariants.{Finished, Read as Wants}
use Rattle.sdb_exec.specs.Plans.{Planned}
use Rattle.sdb_txn.specs.declared.read.ReadStep.TheVariants as step
use Rattle.sdb_txn.specs.Read.{ReadAt, ReadStage, read_result, read_step}
use Rattle.sdb_txn.specs.declared.txn.Doing.TheVariants as doing
use Rattle.sdb_txn.specs.Txn.{IfReading, TxnAt, idle, CommitPost, IfCommitting, IsCommitting, pending_in, progress_of}
use Rattle.sdb_client.specs.declared.next.Next.{Next}
use Rattle.sdb_client.specs.declared.next.Next.TheVariants as next
use Rattle.sdb_client.specs.Client.{CallPost, ClientAt, OpenTxnPost, StagePost, after, answer_in, gives, given_answer, given_left, with_rows_read, written, next_of}
use Rattle.sdb_client.specs.Inside.{IsLeft, IsReadOf, IsUnder, OpenNext, plan_after, txn_after, IsCommitPending}
use Rattle.sdb_client.proofs.Calls.{reading_stays_idle}
use Rattle.sdb_client.proofs.Takings.{memory_or}
use Rattle.sdb_client.proofs.Pending.{commit_goes, step_asks}
use Rattle.sdb_phases.specs.Work.{Work}
use Rattle.sdb_phases.specs.Commit.{step as commit_step}
use Rattle.sdb_phases.specs.declared.step.Outcome.TheVariants as outcome
use Rattle.sdb_txn.specs.Phases.{CommitAt, IsNext, ended_at}
use Rattle.sdb_txn.specs.declared.progress.Progress.TheVariants as progress
use Rattle.sdb_txn.specs.Read.{read_pending_at}

---- reads

pub given_idle : (t : TxnAt) (s : PlanStep) → t.doing ≡ doing.Idle → (given_left t s).doing ≡ doing.Idle
given_idle t (Finished a ks) h = by (changes_nothing (given_answer t (Finished a ks)))
  where
    by : (b : Bool) → (cond b t (written t ks)).doing ≡ doing.Idle
    by true = h
    by false = h
given_idle t (Wants a) h = h

call_stage : (t u : TxnAt) (p : Planned) (a : Access) (x : ReadAt) (f : ReadStage) (s : ReadStep) → read_result f ≡ s → IsReadOf (doing.Read a x) p → (read_result f ≡ step.More → IsSome (read_pending_at x.request f)) → StagePost t p a x f s next.Call u → IsUnder u.doing (Some p)
call_stage t u p a x f step.More is at goes h = subst (λ (d : Doing). IsUnder d (Some p)) (sym (ap (λ (v : TxnAt). v.doing) h.1)) (at.0, at.1, goes is)
call_stage t u p a x f (step.Images images) is at goes h = absurd h
call_stage t u p a x f step.NoMemory is at goes h = absurd h
call_stage t u p a x f s is at goes h = absurd (let e = h.0 in cc)

answer_stage : (t u : TxnAt) (p : Planned) (a : Access) (x : ReadAt) (next_stage : ReadStage) (s : ReadStep) (z : Answer) → StagePost t p a x next_stage s (next.Answer z) u → u.doing ≡ doing.Idle
answer_stage t u p a x f step.More z h = absurd (let e = h.0 in cc)
answer_stage t u p a x f (step.Images images) z h = ap (λ (v : TxnAt). v.doing) h.2 ∙ given_idle (with_rows_read t a images) (gives p a (with_rows_read t a images)) (reading_stays_idle t a images)
answer_stage t u p a x f step.NoMemory z h = absurd h
answer_stage t u p a x f s z h = ap (λ (v : TxnAt). v.doing) h.1

answer_apart : (z : Answer) → z ≢ answer.NoMemory → next.Answer z ≢ next.Answer answer.NoMemory
answer_apart z n e = n (ap Rattle.sdb_client.proofs.Calls.answer_or e)

call_left : (t u : TxnAt) (p : Planned) (a : Access) (x : ReadAt) (r : Reply) (now : ℤ) (n : Next) → IsReadOf (doing.Read a x) p → CallPost t p a x r now n u → IsLeft n u (Some p)
call_left t u p a x r now next.Call at h = call_stage t u p a x (read_step x.stage now r) (read_result (read_step x.stage now r)) refl at (step_asks x.request x.stage now r at.2) (h.answered (λ e. cc))
call_left t u p a x r now (next.Answer z) at h = by (memory_or z)
  where
    by : (z ≡ answer.NoMemory) ⊎ (z ≢ answer.NoMemory) → u.doing ≡ doing.Idle
    by (inl e) = ap (λ (v : TxnAt). v.doing) (h.memory (ap next.Answer e))
    by (inr n) = answer_stage t u p a x (read_step x.stage now r) (read_result (read_step x.stage now r)) z (h.answered (answer_apart z n))
call_left t u p a x r now (next.End z) at h = tt

-- the plan of a statement whose read goes on is the same
kept_left : (n : Next) (u : TxnAt) (p q : Option Planned) → (n ≡ next.Call → q ≡ p) → IsLeft n u p → IsLeft n u q
kept_left next.Call u p q same h = subst (IsUnder u.doing) (sym (same refl)) h
kept_left (next.Answer z) u p q same h = h
kept_left (next.End z) u p q same h = h

pub read_left : (d : Doing) (t u : TxnAt) (p q : Planned) (o : Option Planned) (r : Reply) (now : ℤ) (n : Next) → o ≡ Some p → IsUnder d o → IfReading d (λ a x. CallPost t p a x r now n u) → (n ≡ next.Call → q ≡ p) → IsLeft n u (Some q)
read_left d t u p q o r now n is under h same = by d (subst (IsUnder d) is under) h
  where
    by : (d : Doing) → IsUnder d (Some p) → IfReading d (λ a x. CallPost t p a x r now n u) → IsLeft n u (Some q)
    by (doing.Read a x) under h = kept_left n u (Some p) (Some q) (λ e. ap Some (same e)) (call_left t u p a x r now n under h)
    by (doing.Commit k) under h = absurd under
    by doing.Idle under h = absurd under
    by doing.Over under h = absurd under

---- COMMITs

none_ended : (o : Option Outcome) → progress.More ≡ progress_of o → o ≡ None
none_ended None e = refl
none_ended (Some outcome.Committed) e = absurd (cc)
none_ended (Some (outcome.Conflict key found)) e = absurd (cc)
none_ended (Some (outcome.Expired id)) e = absurd (cc)
none_ended (Some outcome.Faulted) e = absurd (cc)
none_ended (Some (outcome.Unknown id)) e = absurd (cc)
none_ended (Some (outcome.BadRecord key)) e = absurd (cc)
none_ended (Some outcome.NoMemory) e = absurd (cc)

goes_on : (d : Doing) (k : CommitAt) (r : Reply) → IsCommitPending k.work k.stage → ended_at (commit_step k.work k.stage r) ≡ None → IsCommitting d (λ m. (m.work ≡ k.work) × IsNext k.work k.stage r m.stage) → IsUnder d None
goes_on (doing.Commit m) k r running e h = subst (λ (p : Work). IsCommitPending p m.stage) (sym h.0) (commit_goes k.work k.stage r m.stage running h.1 e)
goes_on d k r running e h = absurd h

told_left : (t u : TxnAt) (k : CommitAt) (r : Reply) (g : Progress) → IsCommitPending k.work k.stage → CommitPost t k r g u → IsLeft (next_of g) u None
told_left t u k r progress.More running h = goes_on u.doing k r running (none_ended (ended_at (commit_step k.work k.stage r)) h.answer) (h.next refl)
told_left t u k r g running h = tt

pub commit_left : (d : Doing) (t u : TxnAt) (o : Option Planned) (r : Reply) (g : Progress) (n : Next) → IsSome (pending_in d) → o ≡ None → n ≡ next_of g → IsUnder d o → IfCommitting d (λ k. CommitPost t k r g u) → IsLeft n u None
commit_left d t u o r g n asks is same under h = subst (λ (m : Next). IsLeft m u None) (sym same) (by d asks (subst (IsUnder d) is under) h)
  where
    by : (d : Doing) → IsSome (pending_in d) → IsUnder d None → IfCommitting d (λ k. CommitPost t k r g u) → IsLeft (next_of g) u None
    by (doing.Commit k) asks under h = told_left t u k r g under h
    by doing.Over asks under h = absurd under
    by (doing.Read a x) asks under h = absurd under
    by doing.Idle asks under h = absurd (cc)

---- clients

after_is : (c : ClientAt) (n : Next) (u : TxnAt) (q : Option Planned) → (n ≡ next.Call → q ≡ c.plan) → ◌≡◌ {A = ClientAt} (record c { txn = txn_after (Some u) n; plan = plan_after q n }) (after c n u)
after_is c next.Call u q same = ap (λ (p : Option Planned). record c { txn = Some u; plan = p }) (same refl)
after_is c (next.Answer z) u q same = refl
after_is c (next.End z) u q same = refl

pub reply_told : (c d : ClientAt) (t o : Option TxnAt) (q : Option Planned) (r : Reply) (now : ℤ) (n : Next) (result : Option Answer) → OpenNext t c.plan r now n o → (n ≡ next.Call → q ≡ c.plan) → result ≡ answer_in n → d ≡ record c { txn = txn_after o n; plan = plan_after q n } → OpenTxnPost c t r now result d
reply_told c d None o q r now n result h same answers is = absurd h
reply_told c d (Some t) None q r now n result h same answers is = absurd h
reply_told c d (Some t) (Some u) q r now n result h same answers is = record { next = n; left = u; answered = h; answer = answers; client = is ∙ after_is c n u q same }
