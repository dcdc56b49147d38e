-- No COMMIT and no VACUUM is answered Busy.
use Rattle.std.proofs.Common.{◌≡◌, inl, inr, ℕ, ℤ, false, List, [], ◌∷◌, ◌++◌, Option, Some, None, sym, ap, subst, ◌∙◌}
use Rattle.std.specs.Prelude.{is_some}
use Rattle.law_runs.specs.Types.{Answer, Event, How, Key, Outcome, Progress, Reply, Request, Script, Table, TxId, VacuumStep}
use Rattle.sdb_types.proofs.Public.{by_test}
use Rattle.sdb_model.specs.Catalogs.{catalog_after}
use Rattle.sdb_model.specs.declared.answer.Answer.TheVariants as answer
use Rattle.sdb_model.specs.declared.event.Event.TheVariants as event
use Rattle.sdb_model.specs.Rows.{Name}
use Rattle.sdb_model.specs.Sql.{reads_commit, reads_vacuum}
use Rattle.sdb_model.specs.Transactions.{Executed}
use Rattle.sdb_phases.specs.declared.step.Outcome.TheVariants as outcome
use Rattle.sdb_txn.specs.Phases.{ended_at}
use Rattle.sdb_phases.specs.Commit.{step as commit_step}
use Rattle.sdb_txn.specs.Txn.{progress_of}
use Rattle.sdb_vacuum.specs.declared.work.VacuumStep.TheVariants as vacuuming
use Rattle.sdb_client.specs.Client.{ClientAt, Taking, answer_in, answer_of, next_id, next_of}
use Rattle.sdb_client.specs.Step.{Step, Takes}
use Rattle.law_clients.specs.History.{executed_of_take}
use Rattle.law_answers.specs.Invariant.{IsWaiting, Knows}
use Rattle.sdb_client.specs.Execution.{IsExecution, IsPlayable}
use Rattle.law_runs.specs.Laws.{BusyIsOfReads}
use Rattle.law_runs.specs.World.{states_of}
use Rattle.law_runs.proofs.Takes.{CommitAtOnce, VacuumAtOnce, commit_taken, vacuum_taken}
use Rattle.law_runs.proofs.Replies.{CallOf, call_of}
use Rattle.law_runs.proofs.Statements.{AreKept, SoBy, replied_said, statements_so}

abbrev NoneAtEnd : List ℕ → Type 0
NoneAtEnd text = (reads_commit text ≡ false) × (reads_vacuum text ≡ false)

-- where it is answered Busy, a statement is neither
abbrev pub IsBusyOfRead : List Event → ℕ → Executed → Type 0
IsBusyOfRead events c s = (key : Key) (id : TxId) (at : ℤ) → s.answer ≡ Some (answer.Busy key id at) → NoneAtEnd s.text

abbrev pub AnyWaits : List Event → ℕ → Executed → ClientAt → Type 0
AnyWaits events c s h = Unit {0}

---- as it is accepted

module _ (key : Key) (id : TxId) (at : ℤ) where
  no_commit : CommitAtOnce (Some (answer.Busy key id at)) → ⊥
  no_commit (inl e) = cc
  no_commit (inr (inl e)) = cc
  no_commit (inr (inr e)) = cc

  no_vacuum : (catalog : List Table) → VacuumAtOnce catalog (Some (answer.Busy key id at)) → ⊥
  no_vacuum catalog (inl e) = cc
  no_vacuum catalog (inr (inl e)) = cc
  no_vacuum catalog (inr (inr (inl e))) = cc
  no_vacuum catalog (inr (inr (inr e))) = let no = e.0 in cc

  taken_busy : (q : Taking) (text : List ℕ) (h d : ClientAt) (a : Option Answer) → Step h (Takes q text) a d → a ≡ Some (answer.Busy key id at) → NoneAtEnd text
  taken_busy q text h d a t e = (
    by_test (reads_commit text) (λ z. absurd (no_commit (subst CommitAtOnce e (commit_taken q text h a d t z)))) (λ z. z),
    by_test (reads_vacuum text) (λ z. absurd (no_vacuum q.catalog (subst (VacuumAtOnce q.catalog) e (vacuum_taken q text h a d t z)))) (λ z. z),
  )

  ---- as a reply comes

  swept_busy : (s : VacuumStep) → Some (answer.Busy key id at) ≡ answer_of s → ⊥
  swept_busy vacuuming.More e = cc
  swept_busy (vacuuming.Count n) e = cc
  swept_busy vacuuming.Faulted e = cc
  swept_busy (vacuuming.BadRecord k) e = cc
  swept_busy vacuuming.NoMemory e = cc

  ended_busy : (o : Option Outcome) → Some (answer.Busy key id at) ≡ answer_in (next_of (progress_of o)) → ⊥
  ended_busy None e = cc
  ended_busy (Some outcome.Committed) e = cc
  ended_busy (Some (outcome.Conflict k found)) e = cc
  ended_busy (Some (outcome.Expired u)) e = cc
  ended_busy (Some outcome.Faulted) e = cc
  ended_busy (Some (outcome.Unknown u)) e = cc
  ended_busy (Some (outcome.BadRecord k)) e = cc
  ended_busy (Some outcome.NoMemory) e = cc

pub busy_kept : AreKept (λ catalog. IsBusyOfRead) (λ catalog. AnyWaits)
busy_kept = record {
  answered = λ catalog events e c s past h. h;
  waiting = λ catalog events e c s h still t. tt;
  takes = λ w u c text a t h. accepted a w.events c text t.client (λ key id at e. taken_busy key id at (record { catalog = catalog_after w.script.catalog w.events; now = w.clock; gate = t.gate; fresh = next_id t.client_slot.client }) text t.client_slot.client t.client a t.takes e);
  calls = λ w u c store q how r a t h k runs x waiting waits so. replied a w.events c store q how r x t.client
      (λ key id at e. called key id at w.events c t.client_slot.client k x waits q r w.clock a t.client e (call_of w.script.catalog w.events c t.client_slot.client k runs x waiting q r w.clock a t.client t.pending ((h.world.each t.place t.client_slot t.at).fitted t.goes_on) t.takes));
}
  where
    accepted : (a : Option Answer) (events : List Event) (c : ℕ) (text : List ℕ) (d : ClientAt) → ((key : Key) (id : TxId) (at : ℤ) → a ≡ Some (answer.Busy key id at) → NoneAtEnd text) → SoBy IsBusyOfRead AnyWaits (events ++ event.Take c text a ∷ []) c (executed_of_take events text a) d a
    accepted None events c text d h = tt
    accepted (Some b) events c text d h = h

    replied : (a : Option Answer) (events : List Event) (c : ℕ) (store : Name) (q : Request) (how : How) (r : Reply) (x : Executed) (d : ClientAt) → ((key : Key) (id : TxId) (at : ℤ) → a ≡ Some (answer.Busy key id at) → NoneAtEnd x.text) → SoBy IsBusyOfRead AnyWaits (events ++ event.Call c store q how r a ∷ []) c (replied_said events x a) d a
    replied None events c store q how r x d h = tt
    replied (Some b) events c store q how r x d h = h

    called : (key : Key) (id : TxId) (at : ℤ) (events : List Event) (c : ℕ) (h : ClientAt) {catalog : List Table} (k : Knows catalog events c h) (x : Executed) → IsWaiting catalog events c (is_some h.vacuum) x → (q : Request) (r : Reply) (now : ℤ) (a : Option Answer) (d : ClientAt) → a ≡ Some (answer.Busy key id at) → CallOf catalog events c k.entries x h q r now a d → NoneAtEnd x.text
    called key id at events c h k x waits q r now a d e (inl z) = absurd (swept_busy key id at z.answered.step (sym e ∙ z.answered.answer))
    called key id at events c h k x waits q r now a d e (inr (inl z)) = (z.is.inner.commit, waits.vacuum ∙ ap is_some z.free)
    called key id at events c h k x waits q r now a d e (inr (inr z)) = absurd (ended_busy key id at (ended_at (commit_step z.k.work z.k.stage r)) (sym e ∙ z.answer ∙ ap (λ (p : Progress). answer_in (next_of p)) z.answered.answer))

-- No COMMIT and no VACUUM of an execution is answered Busy.
pub execution_busy : (script : Script) (events : List Event) → IsPlayable script → IsExecution script events → BusyIsOfReads events
execution_busy script events playable h client s key id at has is =
    (subst (λ (o : Option Answer). SoBy IsBusyOfRead AnyWaits events client s (states_of h.last.client_slots client).client o) is (statements_so (λ catalog. IsBusyOfRead) (λ catalog. AnyWaits) busy_kept script events playable h client s has)) key id at is
