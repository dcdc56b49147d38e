-- What the calls of a client's COMMIT prepare, as events come.
use Rattle.std.proofs.Common.{◌≡◌, inl, inr, ◌<◌, ℕ, ℤ, List, [], ◌∷◌, ◌++◌, Option, Some, None, IfSome, sym, ap, subst, ◌∙◌}
use Rattle.std.specs.Prelude.{is_some}
use Rattle.std.specs.List.{AllByRecursion}
use Rattle.law_runs.specs.Types.{Answer, Doing, Event, How, Reply, Request, Table}
use Rattle.sdb_model.specs.Catalogs.{catalog_after}
use Rattle.sdb_model.specs.declared.event.Event.TheVariants as event
use Rattle.sdb_model.specs.Calls.{StoreCall, calls_of}
use Rattle.sdb_model.specs.Rows.{Name}
use Rattle.sdb_model.specs.Transactions.{Executed}
use Rattle.sdb_phases.specs.Commit.{preparing}
use Rattle.sdb_txn.specs.Phases.{CommitAt, IsNext}
use Rattle.sdb_txn.specs.declared.progress.Progress.TheVariants as progress
use Rattle.sdb_txn.specs.declared.txn.Doing.TheVariants as doing
use Rattle.sdb_txn.specs.Txn.{IsCommitting, TxnAt, work_of}
use Rattle.sdb_client.specs.declared.next.Next.TheVariants as next
use Rattle.sdb_client.specs.Client.{ClientAt, IsIdle, Taking, after, next_id, next_of}
use Rattle.sdb_client.specs.Step.{Step, Takes}
use Rattle.law_clients.specs.History.{executed_of_take}
use Rattle.law_answers.specs.Invariant.{IsWaiting}
use Rattle.law_answers.proofs.Public.{calls_open, end_waiting, later_within, made_at, none_yet}
use Rattle.law_runs.specs.Written.{PreparesAll}
use Rattle.law_runs.proofs.OngoingReads.{NothingMore, reads_again}
use Rattle.law_runs.proofs.OwnPrepares.{calls_again, goes_further}
use Rattle.law_runs.proofs.Preparing.{CommitPrepares, key_groups, prepares_first, prepares_on, prepares_with}
use Rattle.law_runs.proofs.Replies.{CallOf, CommitCall, call_of}
use Rattle.law_runs.proofs.Statements.{AreKept, SoBy, calls_more, replied_said}
use Rattle.law_runs.proofs.Takes.{TakenAs, taken_as}

abbrev pub DoingPrepares : Doing → List StoreCall → Type 0
DoingPrepares (doing.Commit k) calls = CommitPrepares k.work calls k.stage
DoingPrepares d calls = Unit {0}

abbrev pub TxnPrepares : Option TxnAt → List StoreCall → Type 0
TxnPrepares None calls = Unit {0}
TxnPrepares (Some t) calls = DoingPrepares t.doing calls

-- So it is of a statement that waits.
abbrev pub WaitPrepares : List Table → List Event → ℕ → Executed → ClientAt → Type 0
WaitPrepares catalog events c s h = TxnPrepares h.txn (calls_of events c s)

-- where a transaction does nothing
idle_prepares : (o : Option TxnAt) (calls : List StoreCall) → IfSome o (λ t. t.doing ≡ doing.Idle) → TxnPrepares o calls
idle_prepares None calls h = tt
idle_prepares (Some t) calls h = subst (λ (d : Doing). DoingPrepares d calls) (sym h) tt

take_prepares : (q : Taking) (text : List ℕ) (h d : ClientAt) (a : Option Answer) (events : List Event) (c : ℕ) → IsIdle h → Step h (Takes q text) a d → SoBy (NothingMore q.catalog) (WaitPrepares q.catalog) (events ++ event.Take c text a ∷ []) c (executed_of_take events text a) d a
take_prepares q text h d (Some b) events c idle t = tt
take_prepares q text h d None events c idle t = by (taken_as q text h d t)
  where
    calls : List StoreCall
    calls = calls_of (events ++ event.Take c text None ∷ []) c (executed_of_take events text None)

    by : TakenAs q h d → TxnPrepares d.txn calls
    by (inl z) = subst (λ (y : ClientAt). TxnPrepares y.txn calls) (sym z.left) (subst (λ (ms : List StoreCall). CommitPrepares (work_of z.t q.now) ms (preparing (work_of z.t q.now) 0)) (sym (none_yet c events text None)) (prepares_first (work_of z.t q.now)))
    by (inr (inl z)) = subst (λ (y : ClientAt). TxnPrepares y.txn calls) (sym z.left) (idle_prepares h.txn calls idle.still)
    by (inr (inr z)) = subst (λ (y : ClientAt). TxnPrepares y.txn calls) (sym z.left) tt

goes_on_so : (x : Doing) (calls : List StoreCall) (P : CommitAt → Type 0) → ((k : CommitAt) → P k → CommitPrepares k.work calls k.stage) → IsCommitting x P → DoingPrepares x calls
goes_on_so (doing.Commit k) calls P f h = f k h
goes_on_so doing.Idle calls P f h = absurd h
goes_on_so (doing.Read a y) calls P f h = absurd h
goes_on_so doing.Over calls P f h = absurd h

module _ (catalog : List Table) (events : List Event) (c : ℕ) (h d : ClientAt) (store : Name) (q : Request) (how : How) (r : Reply) (now : ℤ) (past : List Executed) (x : Executed) (so : WaitPrepares catalog events c x h) (waits : IsWaiting catalog events c (is_some h.vacuum) x) where
  abbrev made : StoreCall
  made = made_at events store q how r

  older : AllByRecursion (λ m. m.at < made.at) (calls_of events c x)
  older = subst (AllByRecursion (λ m. m.at < made.at)) (sym (calls_open c events x (end_waiting events x waits.unanswered))) (later_within c events x.accepted)

  module _ (a : Option Answer) (z : CommitCall events c past x h q r a d) where
    prepares_here : CommitPrepares z.k.work (calls_of events c x) z.k.stage
    prepares_here = subst (λ (y : Doing). DoingPrepares y (calls_of events c x)) z.commits (subst (λ (o : Option TxnAt). TxnPrepares o (calls_of events c x)) z.opened so)

    -- what a COMMIT has prepared, with this call
    pub call_prepares : PreparesAll (key_groups z.k.work) z.k.work.id (calls_of events c x ++ made ∷ [])
    call_prepares = prepares_with z.k.work z.writes (calls_of events c x) made older z.k.stage z.pends prepares_here

    then_prepares : (k : CommitAt) → (k.work ≡ z.k.work) × IsNext z.k.work z.k.stage r k.stage → CommitPrepares k.work (calls_of events c x ++ made ∷ []) k.stage
    then_prepares k n = subst (λ w. CommitPrepares w (calls_of events c x ++ made ∷ []) k.stage) (sym n.0) (prepares_on z.k.work z.writes (calls_of events c x) made older z.k.stage k.stage z.pends prepares_here n.1)

  abbrev E : Option Answer → List Event
  E a = events ++ event.Call c store q how r a ∷ []

  call_waits : (a : Option Answer) → CallOf catalog events c past x h q r now a d → SoBy (NothingMore catalog) (WaitPrepares catalog) (E a) c (replied_said events x a) d a
  call_waits (Some b) z = tt
  call_waits None (inl z) = subst (λ (o : Option TxnAt). TxnPrepares o (calls_of (E None) c x)) (sym (ap (λ (y : ClientAt). y.txn) z.left ∙ z.rests)) tt
  call_waits None (inr (inl z)) =
      let again : z.next ≡ next.Call = calls_again z.next z.answer in
      let left : d.txn ≡ Some z.u = ap (λ (y : ClientAt). y.txn) (z.left ∙ ap (λ n. after h n z.u) again) in
      subst (λ (o : Option TxnAt). TxnPrepares o (calls_of (E None) c x)) (sym (left ∙ ap Some (reads_again z.t z.p z.access z.x r now z.next z.u z.answered again))) tt
  call_waits None (inr (inr z)) =
      let further : z.progress ≡ progress.More = goes_further z.progress z.answer in
      let left : d.txn ≡ Some z.u = ap (λ (y : ClientAt). y.txn) (z.left ∙ ap (λ p. after h (next_of p) z.u) further) in
      subst (λ (o : Option TxnAt). TxnPrepares o (calls_of (E None) c x)) (sym left)
      (subst (DoingPrepares z.u.doing) (sym (calls_more events c store q how r x waits.unanswered waits.accepted None)) (goes_on_so z.u.doing (calls_of events c x ++ made ∷ []) _ (then_prepares None z) (z.answered.next further)))

-- So it stays by each step.
pub prepares_kept : AreKept NothingMore WaitPrepares
prepares_kept = record {
  answered = λ catalog events e c s past so. tt;
  waiting = λ catalog events e c s h still so. subst (TxnPrepares h.txn) (sym still.calls) so;
  takes = λ w u c text a t h. take_prepares (record { catalog = catalog_after w.script.catalog w.events; now = w.clock; gate = t.gate; fresh = next_id t.client_slot.client }) text t.client_slot.client t.client a w.events c t.idle t.takes;
  calls = λ w u c store q how r a t h k runs x waiting waits so. call_waits w.script.catalog w.events c t.client_slot.client t.client store q how r w.clock k.entries x so waits a
      (call_of w.script.catalog w.events c t.client_slot.client k runs x waiting q r w.clock a t.client t.pending ((h.world.each t.place t.client_slot t.at).fitted t.goes_on) t.takes);
}
