-- A VACUUM whose scan finds a malformed record is answered BadRecord of it, or was ended by a record before it.
use Rattle.std.proofs.Common.{◌≡◌, ◌⊎◌, inl, inr, ℕ, ℤ, ◌+◌, Bool, true, false, cond, List, [], ◌∷◌, ◌++◌, Option, Some, None, refl, sym, ap, subst, ◌∙◌}
use Rattle.std.specs.Prelude.{Contains, is_some}
use Rattle.std.specs.List.{AllByRecursion}
use Rattle.std.specs.Option.{option_map}
use Rattle.std.proofs.lemmas.List.{append-nil}
use Rattle.std.proofs.lemmas.List.Elements.{Contains-push_cases}
use Rattle.sdb_types.specs.declared.record.Condition.TheVariants as condition
use Rattle.law_runs.specs.Types.{Answer, Event, How, Meta, Record, RecoverPhase, RecoverStep, Reply, Request, Script, Span, Table, TxId, VacuumStep}
use Rattle.sdb_types.specs.declared.record.Reply.TheVariants as reply
use Rattle.sdb_types.specs.declared.record.Request.TheVariants as ask
use Rattle.sdb_types.specs.declared.record.State.TheVariants as state
use Rattle.sdb_types.proofs.Public.{clash, none_some, some_is}
use Rattle.sdb_record.specs.Meta.{id_in}
use Rattle.sdb_record.specs.Rolls.{is_tombstone, remove_request}
use Rattle.sdb_model.specs.declared.answer.Answer.TheVariants as answer
use Rattle.sdb_model.specs.declared.event.Event.TheVariants as event
use Rattle.sdb_model.specs.Calls.{StoreCall, calls_of, is_read, records_read}
use Rattle.sdb_model.specs.ReadSet.{reads_rows}
use Rattle.sdb_model.specs.Rows.{Name}
use Rattle.sdb_model.specs.Sql.{reads_vacuum}
use Rattle.sdb_model.specs.Transactions.{Executed, statements_by}
use Rattle.sdb_phases.specs.declared.step.RecoverStep.TheVariants as steps
use Rattle.sdb_phases.specs.Recover.{recover_next}
use Rattle.sdb_txn.specs.Read.{Bad, Firm, Kind, Open, kind_of}
use Rattle.sdb_vacuum.specs.declared.work.VacuumStep.TheVariants as vacuuming
use Rattle.sdb_vacuum.specs.Vacuum.{Gives, Over, Removing, Resolving, Scanning, Tombstone, VacuumAt, VacuumStage, answered, first_of, first_one, next_of_row, next_table, pending_at, removal_answered, resolved, step_at, tombstone_or, vacuum_step, with_call}
use Rattle.sdb_client.specs.Client.{ClientAt, answer_of, next_of, vacuum_left}
use Rattle.law_clients.specs.History.{executed_of_take}
use Rattle.law_answers.specs.Invariant.{IsWaiting}
use Rattle.law_answers.specs.Vacuums.{VacuumStageBy}
use Rattle.law_answers.proofs.Public.{bad_is, firm_checked, made_at, none_yet, open_is, recovery_unread, unread_rows}
use Rattle.sdb_client.specs.Execution.{IsExecution, IsPlayable}
use Rattle.law_runs.specs.Malformed.{IsTransactional}
use Rattle.law_runs.specs.World.{states_of}
use Rattle.law_runs.proofs.MalformedReads.{FirstBad, IsPast, RowOf, passes, past_more, recovered_so, ComesTo, row_of}
use Rattle.law_runs.proofs.MalformedStatements.{EachRead, EndsEarly}
use Rattle.law_runs.proofs.Replies.{CallOf, SweepCall, call_of}
use Rattle.law_runs.proofs.Statements.{AreKept, SoBy, calls_more, none_in, replied_said, statements_so}
use Rattle.law_runs.proofs.Swept.{after_keeps, more_of}

---- the rows of a scan

abbrev AllPass : List Record → Type 0
AllPass rows = AllByRecursion IsTransactional rows

-- all of them pass the checks, or those before these that are left do
abbrev IsSo : List Record → List Record → Type 0
IsSo rows left = AllPass rows ⊎ IsPast rows left

abbrev StageSo : List Record → VacuumStage → Type 0
StageSo rows (Scanning span) = AllPass rows
StageSo rows (Resolving rec meta p left) = IsSo rows (rec ∷ left)
StageSo rows (Removing b left) = IsSo rows left
StageSo rows Over = Unit {0}

-- where a VACUUM is led
abbrev SweptSo : List Record → VacuumAt × VacuumStep → Type 0
SweptSo rows (v, vacuuming.More) = StageSo rows v.stage
SweptSo rows (v, vacuuming.Count n) = AllPass rows
SweptSo rows (v, vacuuming.Faulted) = Unit {0}
SweptSo rows (v, vacuuming.BadRecord key) = AllPass rows ⊎ (FirstBad rows key ⊎ RowOf rows key)
SweptSo rows (v, vacuuming.NoMemory) = Unit {0}

module _ (rows : List Record) where
  -- wherever that is, where all pass
  all_stage : AllPass rows → (s : VacuumStage) → StageSo rows s
  all_stage all (Scanning span) = all
  all_stage all (Resolving rec meta p left) = inl all
  all_stage all (Removing b left) = inl all
  all_stage all Over = tt

  all_swept : AllPass rows → (x : VacuumAt × VacuumStep) → SweptSo rows x
  all_swept all (v, vacuuming.More) = all_stage all v.stage
  all_swept all (v, vacuuming.Count n) = all
  all_swept all (v, vacuuming.Faulted) = tt
  all_swept all (v, vacuuming.BadRecord key) = inl all
  all_swept all (v, vacuuming.NoMemory) = tt

  next_so : (ss : List Span) (n : ℕ) → AllPass rows → SweptSo rows (next_table ss n)
  next_so [] n all = all
  next_so (s ∷ ss) n all = all

  rows_so : (ss : List Span) (n : ℕ) (left : List Record) → IsPast rows left → SweptSo rows (next_of_row ss n (first_of left))
  rows_so ss n [] h = next_so ss n (subst AllPass (sym (h.split ∙ append-nil h.passed)) h.all)
  rows_so ss n (r ∷ left) h = by (kind_of r) refl (λ accepted. rows_so ss n left (past_more rows left r h accepted))
    where
      by_mark : (b : Bool) → IsPast rows left → SweptSo rows (next_of_row ss n (first_of left)) → SweptSo rows (next_of_row ss n (cond b (Tombstone r left) (first_of left)))
      by_mark true past rest = inr past
      by_mark false past rest = rest

      by : (k : Kind) → kind_of r ≡ k → (IsTransactional r → SweptSo rows (next_of_row ss n (first_of left))) → SweptSo rows (next_of_row ss n (first_one k r left (first_of left)))
      by Firm e rest = let accepted = firm_checked r e in by_mark (is_tombstone r) (past_more rows left r h accepted) (rest accepted)
      by (Open meta) e rest = inr h
      by Bad e rest = inr (inl (record { found = r; left = left; past = h; malformed = bad_is r e; same = refl }))

  image_so : (ss : List Span) (n : ℕ) (left : List Record) (b : Record) → IsPast rows left → SweptSo rows (tombstone_or ss n left b)
  image_so ss n left b h = by (is_tombstone b)
    where
      by : (t : Bool) → SweptSo rows (cond t (with_call ss n (Removing b left)) (next_of_row ss n (first_of left)))
      by true = inr h
      by false = rows_so ss n left h

  module _ (ss : List Span) (n : ℕ) (rec : Record) (meta : Meta) (left : List Record) (h : IsPast rows (rec ∷ left)) (is : kind_of rec ≡ Open meta) where
    rest : IsPast rows left
    rest = past_more rows left rec h (passes rec (open_is rec meta is).0)

    resolved_so : (x : RecoverPhase × RecoverStep) → ComesTo meta x → SweptSo rows (resolved ss n rec meta left x)
    resolved_so (p, steps.More) k = inr h
    resolved_so (p, steps.Image None) k = rows_so ss n left rest
    resolved_so (p, steps.Image (Some b)) k = image_so ss n left b rest
    resolved_so (p, steps.Busy id at) k = rows_so ss n left rest
    resolved_so (p, steps.Faulted) k = tt
    resolved_so (p, steps.BadRecord key) k = inr (inr (row_of rows rec meta left h is key k))
    resolved_so (p, steps.NoMemory) k = tt

  removed_so : (ss : List Span) (n : ℕ) (left : List Record) (r : Reply) → IsPast rows left → SweptSo rows (removal_answered ss n left r)
  removed_so ss n left reply.Applied h = rows_so ss (n + 1) left h
  removed_so ss n left (reply.NotMet found) h = rows_so ss n left h
  removed_so ss n left (reply.Found found) h = tt
  removed_so ss n left (reply.Rows rows) h = tt
  removed_so ss n left (reply.NotAll place there) h = tt
  removed_so ss n left reply.Fault h = tt
  removed_so ss n left reply.NoMemory h = tt

answered_so : (ss : List Span) (n : ℕ) (r : Reply) → SweptSo (records_read r) (answered ss n r)
answered_so ss n (reply.Rows rows) = rows_so rows ss n rows (record { passed = []; split = refl; all = tt })
answered_so ss n (reply.Found found) = tt
answered_so ss n reply.Applied = tt
answered_so ss n (reply.NotMet found) = tt
answered_so ss n (reply.NotAll place there) = tt
answered_so ss n reply.Fault = tt
answered_so ss n reply.NoMemory = tt

---- one call more

-- a removal reads no rows
removal_unread : (b : Record) (m : StoreCall) → remove_request b ≡ Some m.request → reads_rows m ≡ false
removal_unread b m e = by (id_in b.columns) e
  where
    by : (o : Option TxId) → option_map (λ (id : TxId). ask.DeleteIf b.key (condition.Version id state.Committed)) o ≡ Some m.request → reads_rows m ≡ false
    by None k = none_some m.request k
    by (Some id) k = unread_rows m (ap is_read (sym (some_is (ask.DeleteIf b.key (condition.Version id state.Committed)) m.request k)))

abbrev ScansSo : VacuumStage → List StoreCall → Type 0
ScansSo s calls = EachRead (λ m. StageSo (records_read m.reply) s) calls

module _ (calls : List StoreCall) (m : StoreCall) (ss : List Span) (n : ℕ) (now : ℤ) where
  -- a scan that was made before
  old_so : (s : VacuumStage) → VacuumStageBy calls s → (rows : List Record) → StageSo rows s → SweptSo rows (step_at ss n s now m.reply)
  old_so (Scanning span) k rows h = all_swept rows h (answered ss n m.reply)
  old_so (Resolving rec meta p left) k rows (inl all) = all_swept rows all (resolved ss n rec meta left (recover_next rec meta p now m.reply))
  old_so (Resolving rec meta p left) k rows (inr h) = resolved_so rows ss n rec meta left h k.is_open (recover_next rec meta p now m.reply) (recovered_so rec meta p now m.reply)
  old_so (Removing b left) k rows (inl all) = all_swept rows all (removal_answered ss n left m.reply)
  old_so (Removing b left) k rows (inr h) = removed_so rows ss n left m.reply h
  old_so Over k rows h = tt

  -- this one
  new_so : (s : VacuumStage) → pending_at s ≡ Some m.request → reads_rows m ≡ true → SweptSo (records_read m.reply) (step_at ss n s now m.reply)
  new_so (Scanning span) e reads = answered_so ss n m.reply
  new_so (Resolving rec meta p left) e reads = clash (sym reads ∙ recovery_unread rec meta p m e)
  new_so (Removing b left) e reads = clash (sym reads ∙ removal_unread b m e)
  new_so Over e reads = none_some m.request e

  led_so : (s : VacuumStage) → VacuumStageBy calls s → pending_at s ≡ Some m.request → ScansSo s calls → EachRead (λ x. SweptSo (records_read x.reply) (step_at ss n s now m.reply)) (calls ++ m ∷ [])
  led_so s k e so x has reads = by (Contains-push_cases calls m x has)
    where
      by : Contains calls x ⊎ (m ≡ x) → SweptSo (records_read x.reply) (step_at ss n s now m.reply)
      by (inl old) = old_so s k (records_read x.reply) (so x old reads)
      by (inr same) = subst (λ (y : StoreCall). SweptSo (records_read y.reply) (step_at ss n s now m.reply)) same (new_so s e (ap reads_rows same ∙ reads))

---- what is so of a VACUUM

abbrev EndsBy : Option Answer → List StoreCall → Type 0
EndsBy None calls = ⊥
EndsBy (Some a) calls = EachRead (λ m. AllPass (records_read m.reply) ⊎ EndsEarly (records_read m.reply) a) calls

abbrev VacuumSo : Option VacuumAt → List StoreCall → Type 0
VacuumSo None calls = Unit {0}
VacuumSo (Some v) calls = ScansSo v.stage calls

abbrev SweepsSo : List Event → ℕ → Executed → Type 0
SweepsSo events c s = reads_vacuum s.text ≡ true → EndsBy s.answer (calls_of events c s)

abbrev WaitsSo : List Event → ℕ → Executed → ClientAt → Type 0
WaitsSo events c s h = VacuumSo h.vacuum (calls_of events c s)

-- what it is answered, where its step is
ends_so : (rows : List Record) (s : VacuumStep) (b : Answer) (v : VacuumAt) → Some b ≡ answer_of s → SweptSo rows (v, s) → AllPass rows ⊎ EndsEarly rows b
ends_so rows vacuuming.More b v e g = none_some b (sym e)
ends_so rows (vacuuming.Count n) b v e g = inl g
ends_so rows vacuuming.Faulted b v e g = inr (subst (EndsEarly rows) (sym (some_is b answer.Faulted e)) tt)
ends_so rows (vacuuming.BadRecord key) b v e (inl all) = inl all
ends_so rows (vacuuming.BadRecord key) b v e (inr h) = inr (subst (EndsEarly rows) (sym (some_is b (answer.BadRecord key) e)) h)
ends_so rows vacuuming.NoMemory b v e g = inr (subst (EndsEarly rows) (sym (some_is b answer.NoMemory e)) tt)

pair : (x : VacuumAt × VacuumStep) (v : VacuumAt) (s : VacuumStep) → (v ≡ x.0) × (s ≡ x.1) → (v, s) ≡ x
pair (w, z) v s g = let a : v ≡ w = g.0 in let b : s ≡ z = g.1 in cc

-- where it is led, or out of memory
given_so : (rows : List Record) (x : VacuumAt × VacuumStep) (s : VacuumStep) (v : VacuumAt) → Gives x v s → SweptSo rows x → SweptSo rows (v, s)
given_so rows x vacuuming.NoMemory v g h = tt
given_so rows x vacuuming.More v g h = subst (λ (y : VacuumAt × VacuumStep). SweptSo rows y) (sym (pair x v vacuuming.More g)) h
given_so rows x (vacuuming.Count n) v g h = subst (λ (y : VacuumAt × VacuumStep). SweptSo rows y) (sym (pair x v (vacuuming.Count n) g)) h
given_so rows x vacuuming.Faulted v g h = tt
given_so rows x (vacuuming.BadRecord key) v g h = subst (λ (y : VacuumAt × VacuumStep). SweptSo rows y) (sym (pair x v (vacuuming.BadRecord key) g)) h

module _ (catalog : List Table) (events : List Event) (c : ℕ) (h d : ClientAt) (store : Name) (q : Request) (how : How) (r : Reply) (now : ℤ) (acked : List Executed) (x : Executed) (waits : IsWaiting catalog events c (is_some h.vacuum) x) (so : WaitsSo events c x h) where
  abbrev E : Option Answer → List Event
  E a = events ++ event.Call c store q how r a ∷ []

  abbrev made : StoreCall
  made = made_at events store q how r

  abbrev ms : List StoreCall
  ms = calls_of events c x

  more : (a : Option Answer) → calls_of (E a) c (replied_said events x a) ≡ ms ++ made ∷ []
  more a = calls_more events c store q how r x waits.unanswered waits.accepted a

  -- no VACUUM runs
  rests : (a : Option Answer) → h.vacuum ≡ None → d.vacuum ≡ None → SoBy SweepsSo WaitsSo (E a) c (replied_said events x a) d a
  rests None free left = subst (λ (o : Option VacuumAt). VacuumSo o (calls_of (E None) c x)) (sym left) tt
  rests (Some b) free left = λ is. clash (sym is ∙ waits.vacuum ∙ ap is_some free)

  vacuums : (a : Option Answer) → SweepCall events c x h q r now a d → SoBy SweepsSo WaitsSo (E a) c (replied_said events x a) d a
  vacuums a z = by a refl
    where
      led : EachRead (λ m. SweptSo (records_read m.reply) (z.answered.left, z.answered.step)) (ms ++ made ∷ [])
      led m has reads = given_so (records_read m.reply) (vacuum_step z.v now r) z.answered.step z.answered.left z.answered.answered (led_so ms made z.v.spans z.v.removed now z.v.stage z.is.1 z.pends (subst (λ (o : Option VacuumAt). VacuumSo o ms) z.runs so) m has reads)

      by : (b : Option Answer) → a ≡ b → SoBy SweepsSo WaitsSo (E b) c (replied_said events x b) d b
      by None e =
          let further : z.answered.step ≡ vacuuming.More = more_of z.answered.step (sym e ∙ z.answered.answer) in
          let left : d.vacuum ≡ Some z.answered.left = z.answered.goes ∙ ap (λ (s : VacuumStep). vacuum_left s z.answered.left) further in
          subst (VacuumSo d.vacuum) (sym (more None))
          (subst (λ (o : Option VacuumAt). VacuumSo o (ms ++ made ∷ [])) (sym left) (λ m has reads. subst (λ (s : VacuumStep). SweptSo (records_read m.reply) (z.answered.left, s)) further (led m has reads)))
      by (Some b) e = λ is. subst (EndsBy (Some b)) (sym (more (Some b))) (λ m has reads. ends_so (records_read m.reply) z.answered.step b z.answered.left (sym e ∙ z.answered.answer) (led m has reads))

  call_so : (a : Option Answer) → CallOf catalog events c acked x h q r now a d → SoBy SweepsSo WaitsSo (E a) c (replied_said events x a) d a
  call_so a (inl z) = vacuums a z
  call_so a (inr (inl z)) = rests a z.free (ap (λ (y : ClientAt). y.vacuum) z.left ∙ after_keeps h z.next z.u ∙ z.free)
  call_so a (inr (inr z)) = rests a z.free (ap (λ (y : ClientAt). y.vacuum) z.left ∙ after_keeps h (next_of z.progress) z.u ∙ z.free)

---- every statement

first_so : (o : Option VacuumAt) (calls : List StoreCall) → calls ≡ [] → VacuumSo o calls
first_so None calls e = tt
first_so (Some v) calls e = λ m has reads. none_in m (subst (λ (ms : List StoreCall). Contains ms m) e has)

take_so : (events : List Event) (c : ℕ) (text : List ℕ) (a : Option Answer) (d : ClientAt) → SoBy SweepsSo WaitsSo (events ++ event.Take c text a ∷ []) c (executed_of_take events text a) d a
take_so events c text None d = first_so d.vacuum (calls_of (events ++ event.Take c text None ∷ []) c (executed_of_take events text None)) (none_yet c events text None)
take_so events c text (Some b) d = λ is m has reads. none_in m (subst (λ (ms : List StoreCall). Contains ms m) (none_yet c events text (Some b)) has)

so_kept : AreKept (λ catalog. SweepsSo) (λ catalog. WaitsSo)
so_kept = record {
  answered = λ catalog events e c s past so is. subst (EndsBy s.answer) (sym past.calls) (so is);
  waiting = λ catalog events e c s h still so. subst (VacuumSo h.vacuum) (sym still.calls) so;
  takes = λ w u c text a t h. take_so w.events c text a t.client;
  calls = λ w u c store q how r a t h k runs x waiting waits so. call_so w.script.catalog w.events c t.client_slot.client t.client store q how r w.clock k.entries x waits so a
      (call_of w.script.catalog w.events c t.client_slot.client k runs x waiting q r w.clock a t.client t.pending ((h.world.each t.place t.client_slot t.at).fitted t.goes_on) t.takes);
}

-- Of each scan of a VACUUM of an execution, that is answered so.
pub scans_end : (script : Script) (events : List Event) → IsPlayable script → IsExecution script events → (client : ℕ) (s : Executed) (a : Answer) → Contains (statements_by client events) s → s.answer ≡ Some a → reads_vacuum s.text ≡ true → EachRead (λ m. AllPass (records_read m.reply) ⊎ EndsEarly (records_read m.reply) a) (calls_of events client s)
scans_end script events playable x client s a has is vacuums =
    let so : SweepsSo events client s = subst (λ (o : Option Answer). SoBy SweepsSo WaitsSo events client s (states_of x.last.client_slots client).client o) is (statements_so (λ catalog. SweepsSo) (λ catalog. WaitsSo) so_kept script events playable x client s has) in
    subst (λ (o : Option Answer). EndsBy o (calls_of events client s)) is (so vacuums)
