-- A statement that finds a malformed record is answered BadRecord of it, or was ended by a record before it.
use Rattle.std.proofs.Common.{◌≡◌, ◌≢◌, ◌⊎◌, inl, inr, ℕ, ℤ, true, false, List, [], ◌∷◌, ◌++◌, Option, Some, None, refl, sym, ap, subst, ◌∙◌}
use Rattle.std.specs.Prelude.{Contains, is_some}
use Rattle.std.specs.List.{AllByRecursion}
use Rattle.std.proofs.lemmas.List.Elements.{Contains-push_cases}
use Rattle.law_runs.specs.Types.{Access, Answer, Doing, Event, How, Next, Record, Reply, Request, Script, Table}
use Rattle.sdb_types.proofs.Public.{clash, none_some, some_is}
use Rattle.sdb_model.specs.declared.answer.Answer.TheVariants as answer
use Rattle.sdb_model.specs.declared.event.Event.TheVariants as event
use Rattle.sdb_model.specs.Calls.{StoreCall, calls_of, records_read}
use Rattle.sdb_model.specs.ReadSet.{reads_rows}
use Rattle.sdb_model.specs.Rows.{Name}
use Rattle.sdb_model.specs.Sql.{reads_commit, reads_vacuum}
use Rattle.sdb_model.specs.Transactions.{Executed, statements_by}
use Rattle.sdb_exec.specs.Plans.{Planned}
use Rattle.sdb_txn.specs.declared.read.ReadStep.TheVariants as step
use Rattle.sdb_txn.specs.Read.{Asking, Ended, ReadAt, ReadStage, Resolving, read_pending_at, read_result, read_step}
use Rattle.sdb_txn.specs.declared.txn.Doing.TheVariants as doing
use Rattle.sdb_txn.specs.Txn.{TxnAt}
use Rattle.sdb_client.specs.declared.next.Next.TheVariants as next
use Rattle.sdb_client.specs.Client.{CallPost, ClientAt, StagePost, after, answer_in}
use Rattle.law_clients.specs.History.{executed_of_take}
use Rattle.law_answers.specs.Invariant.{IsWaiting}
use Rattle.law_answers.specs.Reads.{ReadsBy}
use Rattle.law_answers.proofs.Public.{made_at, none_yet, recovery_unread}
use Rattle.sdb_client.specs.Execution.{IsExecution, IsPlayable}
use Rattle.law_runs.specs.Malformed.{IsTransactional}
use Rattle.law_runs.specs.World.{states_of}
use Rattle.law_runs.proofs.MalformedReads.{BusyIn, FirstBad, IsOpenIn, IsPast, LedSo, RowOf, answered_so, opens, resolved_so}
use Rattle.law_runs.proofs.OwnPrepares.{calls_again}
use Rattle.law_runs.proofs.Replies.{CallOf, ReadCall, call_of}
use Rattle.law_runs.proofs.Statements.{AreKept, SoBy, calls_more, none_in, replied_said, statements_so}

---- what is so of a statement

-- An answer ended the read of these rows before all of them passed the checks.
abbrev pub EndsEarly : List Record → Answer → Type 0
EndsEarly rows (answer.Busy key id at) = BusyIn rows key
EndsEarly rows (answer.BadRecord key) = FirstBad rows key ⊎ RowOf rows key
EndsEarly rows answer.Faulted = Unit {0}
EndsEarly rows answer.NoMemory = Unit {0}
EndsEarly rows a = ⊥

-- All of the rows that a call read pass the checks, or the answer ended the read before; and it was the only call, or a row was unresolved.
pub record IsEndOf (calls : List StoreCall) (m : StoreCall) (a : Answer) : Type 0 where
  pub ends : AllByRecursion IsTransactional (records_read m.reply) ⊎ EndsEarly (records_read m.reply) a
  pub once : (calls ≡ m ∷ []) ⊎ ((x : Record) × IsOpenIn (records_read m.reply) x)

-- What is so of each call that read rows.
abbrev pub EachRead : (StoreCall → Type 0) → List StoreCall → Type 0
EachRead P calls = (m : StoreCall) → Contains calls m → reads_rows m ≡ true → P m

abbrev EndsBy : Option Answer → List StoreCall → Type 0
EndsBy None calls = ⊥
EndsBy (Some a) calls = EachRead (λ m. IsEndOf calls m a) calls

abbrev StageSo : ReadStage → List StoreCall → Type 0
StageSo Asking calls = calls ≡ []
StageSo (Resolving images rec meta p left) calls = EachRead (λ m. IsPast (records_read m.reply) (rec ∷ left)) calls
StageSo (Ended s) calls = Unit {0}

abbrev DoingSo : Doing → List StoreCall → Type 0
DoingSo (doing.Read a x) calls = StageSo x.stage calls
DoingSo d calls = Unit {0}

abbrev TxnSo : Option TxnAt → List StoreCall → Type 0
TxnSo None calls = Unit {0}
TxnSo (Some t) calls = DoingSo t.doing calls

-- it is a statement that reads
abbrev MayRead : List ℕ → Type 0 → Type 0
MayRead text P = reads_commit text ≡ false → reads_vacuum text ≡ false → P

abbrev AnsweredSo : List Event → ℕ → Executed → Type 0
AnsweredSo events c s = MayRead s.text (EndsBy s.answer (calls_of events c s))

abbrev WaitSo : List Event → ℕ → Executed → ClientAt → Type 0
WaitSo events c s h = MayRead s.text (TxnSo h.txn (calls_of events c s))

---- before the first call

first_so : (o : Option TxnAt) (calls : List StoreCall) → calls ≡ [] → TxnSo o calls
first_so None calls e = tt
first_so (Some t) calls e = by t.doing
  where
    none : (P : StoreCall → Type 0) → EachRead P calls
    none P m has reads = none_in m (subst (λ (ms : List StoreCall). Contains ms m) e has)

    by_stage : (s : ReadStage) → StageSo s calls
    by_stage Asking = e
    by_stage (Resolving images rec meta p left) = none (λ m. IsPast (records_read m.reply) (rec ∷ left))
    by_stage (Ended s) = tt

    by : (d : Doing) → DoingSo d calls
    by (doing.Read a x) = by_stage x.stage
    by (doing.Commit k) = tt
    by doing.Idle = tt
    by doing.Over = tt

---- what the reply of a read comes to

-- Where it leads, the rows are so.
abbrev LedTo : List StoreCall → ReadStage → Type 0
LedTo calls s = EachRead (λ m. LedSo (records_read m.reply) s × ((calls ≡ m ∷ []) ⊎ ((x : Record) × IsOpenIn (records_read m.reply) x))) calls

module _ (calls : List StoreCall) (m : StoreCall) (now : ℤ) where
  asked_so : calls ≡ [] → LedTo (calls ++ m ∷ []) (read_step Asking now m.reply)
  asked_so e x has reads = by (Contains-push_cases calls m x has)
    where
      only : calls ++ m ∷ [] ≡ m ∷ []
      only = ap (λ (ms : List StoreCall). ms ++ m ∷ []) e

      by : Contains calls x ⊎ (m ≡ x) → LedSo (records_read x.reply) (read_step Asking now m.reply) × ((calls ++ m ∷ [] ≡ x ∷ []) ⊎ ((y : Record) × IsOpenIn (records_read x.reply) y))
      by (inl old) = none_in x (subst (λ (ms : List StoreCall). Contains ms x) e old)
      by (inr same) = subst (λ (y : StoreCall). LedSo (records_read y.reply) (read_step Asking now m.reply) × ((calls ++ m ∷ [] ≡ y ∷ []) ⊎ ((z : Record) × IsOpenIn (records_read y.reply) z))) same (answered_so m.reply, inl only)

  -- a read goes on from a stage
  step_so : (q : Request) (s : ReadStage) → read_pending_at q s ≡ Some m.request → ReadsBy calls s → StageSo s calls → LedTo (calls ++ m ∷ []) (read_step s now m.reply)
  step_so q Asking e stage so x has reads = asked_so so x has reads
  step_so q (Resolving images rec meta p left) e stage so x has reads = by (Contains-push_cases calls m x has)
    where
      by : Contains calls x ⊎ (m ≡ x) → LedSo (records_read x.reply) (read_step (Resolving images rec meta p left) now m.reply) × ((calls ++ m ∷ [] ≡ x ∷ []) ⊎ ((y : Record) × IsOpenIn (records_read x.reply) y))
      by (inl old) = let h = so x old reads in (resolved_so (records_read x.reply) rec meta left h stage.is_open images p now m.reply, inr (rec, opens (records_read x.reply) rec meta left h stage.is_open))
      by (inr same) = clash (sym reads ∙ ap reads_rows (sym same) ∙ recovery_unread rec meta p m e)
  step_so q (Ended s) e stage so x has reads = none_some m.request e

  -- it has asked
  has_asked : (q : Request) (s : ReadStage) → read_pending_at q s ≡ Some m.request → ReadsBy calls s → read_step s now m.reply ≡ Asking → ⊥
  has_asked q Asking e stage is = subst (LedSo (records_read m.reply)) is (answered_so m.reply)
  has_asked q (Resolving images rec meta p left) e stage is = subst (LedSo (rec ∷ left)) is (resolved_so (rec ∷ left) rec meta left (record { passed = []; split = refl; all = tt }) stage.is_open images p now m.reply)
  has_asked q (Ended s) e stage is = none_some m.request e

module _ (t : TxnAt) (p : Planned) (a : Access) (x : ReadAt) (r : Reply) (now : ℤ) (n : Next) (u : TxnAt) (answered : CallPost t p a x r now n u) (calls : List StoreCall) (led : LedTo calls (read_step x.stage now r)) where
  -- a read that goes on
  left_so : n ≡ next.Call → (read_step x.stage now r ≡ Asking → ⊥) → DoingSo u.doing calls
  left_so e asked = by (read_step x.stage now r) refl led (subst (λ (m : Next). StagePost t p a x (read_step x.stage now r) (read_result (read_step x.stage now r)) m u) e (answered.answered (λ k. other (sym e ∙ k))))
    where
      other : next.Call ≡ next.Answer answer.NoMemory → ⊥
      other k = cc

      by : (s : ReadStage) → read_step x.stage now r ≡ s → LedTo calls s → StagePost t p a x s (read_result s) next.Call u → DoingSo u.doing calls
      by Asking is g k = absurd (asked is)
      by (Resolving images rec meta f left) is g k = subst (λ (y : TxnAt). DoingSo y.doing calls) (sym k.1) (λ m has reads. (g m has reads).0.0)
      by (Ended step.More) is g k = subst (λ (y : TxnAt). DoingSo y.doing calls) (sym k.1) tt
      by (Ended (step.Images images)) is g k = absurd k
      by (Ended (step.Busy key id at)) is g k = absurd (let z = k.0 in cc)
      by (Ended step.Faulted) is g k = absurd (let z = k.0 in cc)
      by (Ended (step.BadRecord key)) is g k = absurd (let z = k.0 in cc)
      by (Ended step.NoMemory) is g k = absurd k

  -- The rows by the answer, where it isn't out of memory.
  told_so : (b : Answer) → Some b ≡ answer_in n → b ≢ answer.NoMemory → (rows : List Record) → LedSo rows (read_step x.stage now r) → AllByRecursion IsTransactional rows ⊎ EndsEarly rows b
  told_so b e some rows = by (read_step x.stage now r) (answered.answered (λ k. some (some_is b answer.NoMemory (e ∙ ap answer_in k))))
    where
      is : (d : Answer) → n ≡ next.Answer d → d ≡ b
      is d k = sym (some_is b d (e ∙ ap answer_in k))

      by : (s : ReadStage) → StagePost t p a x s (read_result s) n u → LedSo rows s → AllByRecursion IsTransactional rows ⊎ EndsEarly rows b
      by Asking k g = absurd g
      by (Resolving images rec meta f left) k g = none_some b (sym (e ∙ ap answer_in k.0))
      by (Ended step.More) k g = none_some b (sym (e ∙ ap answer_in k.0))
      by (Ended (step.Images images)) k g = inl g
      by (Ended (step.Busy key id at)) k g = inr (subst (EndsEarly rows) (is (answer.Busy key id at) k.0) g)
      by (Ended step.Faulted) k g = inr (subst (EndsEarly rows) (is answer.Faulted k.0) tt)
      by (Ended (step.BadRecord key)) k g = inr (subst (EndsEarly rows) (is (answer.BadRecord key) k.0) g)
      by (Ended step.NoMemory) k g = absurd k

  ends_so : (b : Answer) → Some b ≡ answer_in n → (rows : List Record) → LedSo rows (read_step x.stage now r) → AllByRecursion IsTransactional rows ⊎ EndsEarly rows b
  ends_so answer.NoMemory e rows g = inr tt
  ends_so (answer.Rows y) e rows g = told_so (answer.Rows y) e (λ k. absurd (cc)) rows g
  ends_so (answer.Count y) e rows g = told_so (answer.Count y) e (λ k. absurd (cc)) rows g
  ends_so answer.Done e rows g = told_so answer.Done e (λ k. absurd (cc)) rows g
  ends_so answer.Committed e rows g = told_so answer.Committed e (λ k. absurd (cc)) rows g
  ends_so (answer.Duplicate key) e rows g = told_so (answer.Duplicate key) e (λ k. absurd (cc)) rows g
  ends_so (answer.Busy key id at) e rows g = told_so (answer.Busy key id at) e (λ k. absurd (cc)) rows g
  ends_so (answer.Conflict key found) e rows g = told_so (answer.Conflict key found) e (λ k. absurd (cc)) rows g
  ends_so (answer.Expired id) e rows g = told_so (answer.Expired id) e (λ k. absurd (cc)) rows g
  ends_so answer.Faulted e rows g = told_so answer.Faulted e (λ k. absurd (cc)) rows g
  ends_so (answer.Unknown id) e rows g = told_so (answer.Unknown id) e (λ k. absurd (cc)) rows g
  ends_so (answer.BadRecord key) e rows g = told_so (answer.BadRecord key) e (λ k. absurd (cc)) rows g
  ends_so (answer.Refused y) e rows g = told_so (answer.Refused y) e (λ k. absurd (cc)) rows g
  ends_so answer.Vacuuming e rows g = told_so answer.Vacuuming e (λ k. absurd (cc)) rows g
  ends_so answer.OpenTransactions e rows g = told_so answer.OpenTransactions e (λ k. absurd (cc)) rows g

  answers_so : (b : Answer) → Some b ≡ answer_in n → EachRead (λ m. IsEndOf calls m b) calls
  answers_so b e m has reads = let g = led m has reads in record { ends = ends_so b e (records_read m.reply) g.0; once = g.1 }

---- a call is made

module _ (catalog : List Table) (events : List Event) (c : ℕ) (h d : ClientAt) (store : Name) (q : Request) (how : How) (r : Reply) (now : ℤ) (answered : List Executed) (x : Executed) (waits : IsWaiting catalog events c (is_some h.vacuum) x) (so : WaitSo events c x h) where
  abbrev E : Option Answer → List Event
  E a = events ++ event.Call c store q how r a ∷ []

  abbrev made : StoreCall
  made = made_at events store q how r

  more : (a : Option Answer) → calls_of (E a) c (replied_said events x a) ≡ calls_of events c x ++ made ∷ []
  more a = calls_more events c store q how r x waits.unanswered waits.accepted a

  -- it is no statement that reads
  others : (a : Option Answer) → (reads_commit x.text ≡ false → reads_vacuum x.text ≡ false → ⊥) → SoBy AnsweredSo WaitSo (E a) c (replied_said events x a) d a
  others None other = λ e f. absurd (other e f)
  others (Some b) other = λ e f. absurd (other e f)

  reads : (a : Option Answer) → ReadCall catalog events c x h q r now a d → SoBy AnsweredSo WaitSo (E a) c (replied_said events x a) d a
  reads a z = by a refl
    where
      before : reads_commit x.text ≡ false → reads_vacuum x.text ≡ false → StageSo z.x.stage (calls_of events c x)
      before e f = subst (λ (y : Doing). DoingSo y (calls_of events c x)) z.reads (subst (λ (o : Option TxnAt). TxnSo o (calls_of events c x)) z.opened (so e f))

      led : reads_commit x.text ≡ false → reads_vacuum x.text ≡ false → LedTo (calls_of events c x ++ made ∷ []) (read_step z.x.stage now r)
      led e f = step_so (calls_of events c x) made now z.x.request z.x.stage z.pends z.is.stage (before e f)

      by : (b : Option Answer) → a ≡ b → SoBy AnsweredSo WaitSo (E b) c (replied_said events x b) d b
      by (Some b) e = λ f g. subst (EndsBy (Some b)) (sym (more (Some b))) (answers_so z.t z.p z.access z.x r now z.next z.u z.answered (calls_of events c x ++ made ∷ []) (led f g) b (sym e ∙ z.answer))
      by None e = λ f g.
          let again : z.next ≡ next.Call = calls_again z.next (sym e ∙ z.answer) in
          let left : d.txn ≡ Some z.u = ap (λ (y : ClientAt). y.txn) (z.left ∙ ap (λ (n : Next). after h n z.u) again) in
          subst (TxnSo d.txn) (sym (more None))
          (subst (λ (o : Option TxnAt). TxnSo o (calls_of events c x ++ made ∷ [])) (sym left)
          (left_so z.t z.p z.access z.x r now z.next z.u z.answered (calls_of events c x ++ made ∷ []) (led f g) again (has_asked (calls_of events c x) made now z.x.request z.x.stage z.pends z.is.stage)))

  call_so : (a : Option Answer) → CallOf catalog events c answered x h q r now a d → SoBy AnsweredSo WaitSo (E a) c (replied_said events x a) d a
  call_so a (inl z) = others a (λ e f. clash (sym (waits.vacuum ∙ ap is_some z.runs) ∙ f))
  call_so a (inr (inl z)) = reads a z
  call_so a (inr (inr z)) = others a (λ e f. clash (sym z.is.text ∙ e))

---- every statement

take_so : (events : List Event) (c : ℕ) (text : List ℕ) (a : Option Answer) (d : ClientAt) → SoBy AnsweredSo WaitSo (events ++ event.Take c text a ∷ []) c (executed_of_take events text a) d a
take_so events c text None d = λ e f. first_so d.txn (calls_of (events ++ event.Take c text None ∷ []) c (executed_of_take events text None)) (none_yet c events text None)
take_so events c text (Some b) d = λ e f m has reads. none_in m (subst (λ (ms : List StoreCall). Contains ms m) (none_yet c events text (Some b)) has)

so_kept : AreKept (λ catalog. AnsweredSo) (λ catalog. WaitSo)
so_kept = record {
  answered = λ catalog events e c s past so f g. subst (EndsBy s.answer) (sym past.calls) (so f g);
  waiting = λ catalog events e c s h still so f g. subst (TxnSo h.txn) (sym still.calls) (so f g);
  takes = λ w u c text a t h. take_so w.events c text a t.client;
  calls = λ w u c store q how r a t h k runs x waiting waits so. call_so w.script.catalog w.events c t.client_slot.client t.client store q how r w.clock k.entries x waits so a
      (call_of w.script.catalog w.events c t.client_slot.client k runs x waiting q r w.clock a t.client t.pending ((h.world.each t.place t.client_slot t.at).fitted t.goes_on) t.takes);
}

-- Of each call by which a statement of an execution read rows, that reads and is answered so.
pub reads_end : (script : Script) (events : List Event) → IsPlayable script → IsExecution script events → (client : ℕ) (s : Executed) (a : Answer) → Contains (statements_by client events) s → s.answer ≡ Some a → reads_commit s.text ≡ false → reads_vacuum s.text ≡ false → EachRead (λ m. IsEndOf (calls_of events client s) m a) (calls_of events client s)
reads_end script events playable x client s a has is commit vacuums =
    let so : AnsweredSo events client s = subst (λ (o : Option Answer). SoBy AnsweredSo WaitSo events client s (states_of x.last.client_slots client).client o) is (statements_so (λ catalog. AnsweredSo) (λ catalog. WaitSo) so_kept script events playable x client s has) in
    subst (λ (o : Option Answer). EndsBy o (calls_of events client s)) is (so commit vacuums)
