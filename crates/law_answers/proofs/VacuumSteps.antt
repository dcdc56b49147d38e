-- Each call of a VACUUM keeps what the calls say of where it is.
use Rattle.std.proofs.Common.{◌≡◌, ◌<◌, ◌+◌, ℕ, ℤ, Bool, true, false, cond, not, List, [], ◌∷◌, ◌++◌, Option, Some, None, Err, inr, refl, sym, ap, subst, ◌∙◌, arith}
use Rattle.std.specs.Prelude.{if◌then◌else◌, ◌&&◌, MatchBool, is_some}
use Rattle.std.specs.List.{AllByRecursion, count_by}
use Rattle.std.specs.Option.{option_map}
use Rattle.std.proofs.lemmas.List.Elements.{Contains-append_left}
use Rattle.std.proofs.lemmas.List.Sums.{fold-append}
use Rattle.law_answers.specs.Types.{Event, Key, Meta, Record, RecoverPhase, RecoverStep, Reply, Request, Span, State, Table, TxId, VacuumStep}
use Rattle.sdb_types.specs.declared.record.Reply.TheVariants as reply
use Rattle.sdb_types.specs.declared.record.Request.TheVariants as ask
use Rattle.sdb_types.specs.declared.record.Condition.TheVariants as condition
use Rattle.sdb_types.specs.declared.record.State.TheVariants as state
use Rattle.sdb_types.specs.Contents.{CanAnswer}
use Rattle.sdb_types.proofs.Public.{all_each as each_any, clash, none_some, some_is}
use Rattle.sdb_record.specs.declared.access.Access.TheVariants as access
use Rattle.sdb_record.specs.Coordinator.{decision_in, is_coordinator_table}
use Rattle.sdb_record.specs.Meta.{id_in, is_committed, is_transactional}
use Rattle.sdb_record.specs.Parts.{before_record}
use Rattle.sdb_record.specs.Rolls.{is_tombstone, undo}
use Rattle.sdb_model.specs.Exec.{find_table}
use Rattle.sdb_model.specs.Tables.{is_data}
use Rattle.law_clients.specs.About.{IsIn, IsVacuumStageIn}
use Rattle.sdb_model.specs.Calls.{StoreCall, clock_at, is_removal}
use Rattle.sdb_model.specs.Causes.{HasReply, removes}
use Rattle.sdb_phases.specs.declared.step.RecoverPhase.TheVariants as phase
use Rattle.sdb_phases.specs.declared.step.RecoverStep.TheVariants as steps
use Rattle.sdb_phases.specs.Recover.{recover_next, recover_request_at, is_as_found}
use Rattle.sdb_txn.specs.Read.{Bad, Firm, Kind, Open, kind_of}
use Rattle.sdb_vacuum.specs.declared.work.VacuumStep.TheVariants as step
use Rattle.sdb_vacuum.specs.Vacuum.{First, Malformed, Nothing, Over, Removing, Resolving, Scanning, Tombstone, Unresolved, VacuumAt, VacuumStage, answered, first_of, first_one, with_call, next_of_row, next_table, pending_at, removal_answered, resolved, step_at, tombstone_or}
use Rattle.law_answers.specs.Commits.{IsBadRow, ObservesBad}
use Rattle.law_answers.specs.Reads.{IsFoundBy, ResolvesBy}
use Rattle.law_answers.specs.Vacuums.{VacuumStageBy, VacuumEndBy, VacuumBy}
use Rattle.law_answers.proofs.ReadSteps.{ComesTo, IsDataTable, bad_is, found_more, found_rows, open_is, recovered_is, rows_data, rows_read, observed_read}
use Rattle.law_answers.proofs.Rows.{reply_now}
use Rattle.sdb_types.specs.Replies.{is_applied, is_fault}
use Rattle.sdb_vacuum.proofs.Public.{open_state}

---- deletes of committed records

undo_keeps : (meta : Meta) (rec : Record) (before : Option Record) → is_committed meta.state ≡ false → is_removal (undo (is_as_found meta) rec.key before) ≡ false
undo_keeps meta rec None h = by meta.state h
  where
    by : (s : State) → is_committed s ≡ false → is_removal (ask.DeleteIf rec.key (condition.Version meta.id s)) ≡ false
    by state.Prepared h = refl
    by state.Deleted h = refl
    by state.Aborted h = refl
    by state.Committed h = clash h
undo_keeps meta rec (Some b) h = refl

-- a recovery makes none
recovers_none : (rec : Record) (meta : Meta) (p : RecoverPhase) (q : Request) → is_committed meta.state ≡ false → recover_request_at rec meta p ≡ Some q → is_removal q ≡ false
recovers_none rec meta phase.Look q h e = ap is_removal (sym (some_is _ q e))
recovers_none rec meta (phase.Abort n) q h e = ap is_removal (sym (some_is _ q e))
recovers_none rec meta phase.Again q h e = ap is_removal (sym (some_is _ q e))
recovers_none rec meta (phase.Forward n) q h e = ap is_removal (sym (some_is _ q e))
recovers_none rec meta phase.Back q h e = ap is_removal (sym (some_is _ q e)) ∙ undo_keeps meta rec (before_record rec) h
recovers_none rec meta phase.Ended q h e = none_some q e

-- what one call more counts for
abbrev counted : Bool → ℕ
counted b = cond b 1 0

count_more : (calls : List StoreCall) (m : StoreCall) → count_by removes (calls ++ m ∷ []) ≡ count_by removes calls + counted (removes m)
count_more calls m = fold-append (λ a x. a + cond (removes x) 1 0) 0 calls (m ∷ [])

count_none : (calls : List StoreCall) (m : StoreCall) → removes m ≡ false → count_by removes calls ≡ count_by removes (calls ++ m ∷ [])
count_none calls m f = plus (count_by removes calls) (counted (removes m)) (count_by removes (calls ++ m ∷ [])) (count_more calls m) (ap counted f)
  where
    plus : (n k x : ℕ) → x ≡ n + k → k ≡ 0 → n ≡ x
    plus n k x e f = omega arith

count_one : (calls : List StoreCall) (m : StoreCall) → removes m ≡ true → count_by removes calls + 1 ≡ count_by removes (calls ++ m ∷ [])
count_one calls m t = plus (count_by removes calls) (counted (removes m)) (count_by removes (calls ++ m ∷ [])) (count_more calls m) (ap counted t)
  where
    plus : (n k x : ℕ) → x ≡ n + k → k ≡ 1 → n + 1 ≡ x
    plus n k x e f = omega arith

not_removal : (m : StoreCall) → is_removal m.request ≡ false → removes m ≡ false
not_removal m f = ap (λ b. b && is_applied m.reply) f

not_applied : (m : StoreCall) (r : Reply) → m.reply ≡ r → is_applied r ≡ false → removes m ≡ false
not_applied m r e f = ap (λ x. is_removal m.request && is_applied x) e ∙ ap (λ b. is_removal m.request && b) f ∙ none (is_removal m.request)
  where
    none : (b : Bool) → (b && false) ≡ false
    none true = refl
    none false = refl

---- one call more

-- where another call is pending
abbrev pub IfMore : VacuumStep → Type 0 → Type 0
IfMore step.More P = P
IfMore s P = Unit {0}

-- what rows come to
abbrev FirstBy : List StoreCall → First → Type 0
FirstBy calls Nothing = Unit {0}
FirstBy calls (Tombstone b left) = IsFoundBy calls left
FirstBy calls (Unresolved r meta left) = ResolvesBy calls r meta phase.Look left
FirstBy calls (Malformed key) = ObservesBad calls key

-- the records that are left are of tables, and so is the span that is scanned
abbrev pub SweepsData : VacuumStage → Type 0
SweepsData (Scanning span) = IsDataTable span.table
SweepsData (Resolving rec meta p left) = AllByRecursion (λ r. IsDataTable r.key.table) left
SweepsData (Removing b left) = AllByRecursion (λ r. IsDataTable r.key.table) left
SweepsData Over = Unit {0}

-- so they are where a client is on tables of the catalog
pub sweeps_of : (catalog : List Table) → ((k : Key) → is_some (find_table catalog k.table) ≡ true → is_data k ≡ true) → (s : VacuumStage) → IsVacuumStageIn catalog s → SweepsData s
sweeps_of catalog apart (Scanning span) i = apart (record { table = span.table; partition = []; clustering = [] }) i
sweeps_of catalog apart (Resolving rec meta p left) i = each_any (λ (r : Record). IsIn catalog r.key) (λ (r : Record). IsDataTable r.key.table) left (λ r z. apart r.key z) i.1
sweeps_of catalog apart (Removing b left) i = each_any (λ (r : Record). IsIn catalog r.key) (λ (r : Record). IsDataTable r.key.table) left (λ r z. apart r.key z) i.1
sweeps_of catalog apart Over i = tt

module _ (events : List Event) (calls : List StoreCall) (m : StoreCall) (older : AllByRecursion (λ x. x.at < m.at) calls) (now : ℤ) (clock : clock_at events m.at ≡ now) where
  abbrev now_calls : List StoreCall
  now_calls = calls ++ m ∷ []

  abbrev pub SweepLed : VacuumAt × VacuumStep → Type 0
  SweepLed x = IfMore x.1 (VacuumBy (calls ++ m ∷ []) x.0) × VacuumEndBy (calls ++ m ∷ []) x.1

  without : (r : Record) (left : List Record) → IsFoundBy now_calls (r ∷ left) → IsFoundBy now_calls left
  without r left f = record { read = f.read; among = f.among; reads = f.reads; of_data = f.of_data; found = f.found.1 }

  first_led : (left : List Record) → IsFoundBy now_calls left → AllByRecursion (λ r. IsDataTable r.key.table) left → FirstBy now_calls (first_of left)
  first_led [] f k = tt
  first_led (r ∷ left) f k = by (kind_of r) refl (first_led left (without r left f) k.1)
    where
      bad : is_transactional r ≡ false → IsBadRow r
      bad e = by_table (is_coordinator_table r.key.table) k.0
        where
          by_table : (b : Bool) → not b ≡ true → MatchBool b ((name : List ℕ) × (decision_in r ≡ Err name)) (is_transactional r ≡ false)
          by_table true n = clash (sym n)
          by_table false n = e

      here : (b : Bool) → FirstBy now_calls (first_of left) → FirstBy now_calls (if b then Tombstone r left else first_of left)
      here true h = without r left f
      here false h = h

      by : (x : Kind) → kind_of r ≡ x → FirstBy now_calls (first_of left) → FirstBy now_calls (first_one x r left (first_of left))
      by Firm e h = here (is_tombstone r) h
      by (Open meta) e h = record { found = f; is_open = e; phase = tt }
      by Bad e h = record { call = f.read; found = r; among = f.among; observed = observed_read f.read.reply r f.found.0; same = refl; bad = bad (bad_is r e); place = inr (rows_read f.read f.reads f.of_data, f.found.0) }

  next_led : (ss : List Span) (n : ℕ) → n ≡ count_by removes now_calls → SweepLed (next_table ss n)
  next_led [] n e = (tt, e)
  next_led (s ∷ ss) n e = ((e, tt), tt)

  going_led : (ss : List Span) (n : ℕ) (f : First) → n ≡ count_by removes now_calls → FirstBy now_calls f → SweepLed (next_of_row ss n f)
  going_led ss n Nothing e h = next_led ss n e
  going_led ss n (Tombstone b left) e h = ((e, h), tt)
  going_led ss n (Unresolved r meta left) e h = ((e, h), tt)
  going_led ss n (Malformed key) e h = (tt, h)

  on_led : (ss : List Span) (n : ℕ) (left : List Record) → n ≡ count_by removes now_calls → IsFoundBy now_calls left → AllByRecursion (λ r. IsDataTable r.key.table) left → SweepLed (next_of_row ss n (first_of left))
  on_led ss n left e f k = going_led ss n (first_of left) e (first_led left f k)

  faulted : m.reply ≡ reply.Fault → HasReply is_fault now_calls
  faulted f = reply_now is_fault calls m reply.Fault f refl

  answered_led : (ss : List Span) (n : ℕ) (span : Span) (r : Reply) → n ≡ count_by removes calls → IsDataTable span.table → m.request ≡ ask.Scan span → m.reply ≡ r → CanAnswer (ask.Scan span) r → SweepLed (answered ss n r)
  answered_led ss n span (reply.Rows rows) e k q f can =
      on_led ss n rows (e ∙ count_none calls m (not_removal m (ap is_removal q))) (found_rows events calls m older now clock (access.Scan span) (reply.Rows rows) k q f) (rows_data span rows k can)
  answered_led ss n span (reply.Found found) e k q f can = (tt, tt)
  answered_led ss n span reply.Applied e k q f can = (tt, tt)
  answered_led ss n span (reply.NotMet found) e k q f can = (tt, tt)
  answered_led ss n span (reply.NotAll place there) e k q f can = (tt, tt)
  answered_led ss n span reply.Fault e k q f can = (tt, faulted f)
  answered_led ss n span reply.NoMemory e k q f can = (tt, tt)

  image_led : (ss : List Span) (n : ℕ) (left : List Record) (b : Record) → n ≡ count_by removes now_calls → IsFoundBy now_calls left → AllByRecursion (λ r. IsDataTable r.key.table) left → SweepLed (tombstone_or ss n left b)
  image_led ss n left b e f k = by (is_tombstone b)
    where
      by : (t : Bool) → SweepLed (if t then with_call ss n (Removing b left) else next_of_row ss n (first_of left))
      by true = ((e, f), tt)
      by false = on_led ss n left e f k

  resolved_led : (ss : List Span) (n : ℕ) (rec : Record) (meta : Meta) (left : List Record) (p : RecoverPhase) (before : ResolvesBy calls rec meta p left) (x : RecoverPhase × RecoverStep) → n ≡ count_by removes now_calls → AllByRecursion (λ r. IsDataTable r.key.table) left
      → ComesTo events calls m older now clock rec meta left p before x → SweepLed (resolved ss n rec meta left x)
  resolved_led ss n rec meta left p before (q, steps.More) e k h = ((e, record { found = found_more events calls m older now clock rec meta left p before; is_open = before.is_open; phase = h }), tt)
  resolved_led ss n rec meta left p before (q, steps.Image None) e k h = on_led ss n left e (without rec left (found_more events calls m older now clock rec meta left p before)) k
  resolved_led ss n rec meta left p before (q, steps.Image (Some b)) e k h = image_led ss n left b e (without rec left (found_more events calls m older now clock rec meta left p before)) k
  resolved_led ss n rec meta left p before (q, steps.Busy id at) e k h = on_led ss n left e (without rec left (found_more events calls m older now clock rec meta left p before)) k
  resolved_led ss n rec meta left p before (q, steps.Faulted) e k h = (tt, h)
  resolved_led ss n rec meta left p before (q, steps.BadRecord key) e k h = (tt, h)
  resolved_led ss n rec meta left p before (q, steps.NoMemory) e k h = (tt, tt)

  found_still : (left : List Record) → IsFoundBy calls left → IsFoundBy now_calls left
  found_still left f = record { read = f.read; among = Contains-append_left calls (m ∷ []) f.read f.among; reads = f.reads; of_data = f.of_data; found = f.found }

  removal_led : (ss : List Span) (n : ℕ) (b : Record) (left : List Record) (r : Reply) → n ≡ count_by removes calls → IsFoundBy calls left → AllByRecursion (λ x. IsDataTable x.key.table) left → is_removal m.request ≡ true → m.reply ≡ r → SweepLed (removal_answered ss n left r)
  removal_led ss n b left reply.Applied e f k q a = on_led ss (n + 1) left (ap (λ x. x + 1) e ∙ count_one calls m (ap (λ x. x && is_applied m.reply) q ∙ ap is_applied a)) (found_still left f) k
  removal_led ss n b left (reply.NotMet found) e f k q a = on_led ss n left (e ∙ count_none calls m (not_applied m (reply.NotMet found) a refl)) (found_still left f) k
  removal_led ss n b left (reply.Found found) e f k q a = (tt, tt)
  removal_led ss n b left (reply.Rows rows) e f k q a = (tt, tt)
  removal_led ss n b left (reply.NotAll place there) e f k q a = (tt, tt)
  removal_led ss n b left reply.Fault e f k q a = (tt, faulted a)
  removal_led ss n b left reply.NoMemory e f k q a = (tt, tt)

  asks_removal : (b : Record) (o : Option TxId) → option_map (λ id. ask.DeleteIf b.key (condition.Version id state.Committed)) o ≡ Some m.request → is_removal m.request ≡ true
  asks_removal b None e = none_some m.request e
  asks_removal b (Some id) e = ap is_removal (sym (some_is (ask.DeleteIf b.key (condition.Version id state.Committed)) m.request e))

  pub step_led : (ss : List Span) (n : ℕ) (s : VacuumStage) → SweepsData s → n ≡ count_by removes calls → VacuumStageBy calls s → pending_at s ≡ Some m.request → CanAnswer m.request m.reply → SweepLed (step_at ss n s now m.reply)
  step_led ss n (Scanning span) k e h a can =
      let same : m.request ≡ ask.Scan span = sym (some_is (ask.Scan span) m.request a) in
      answered_led ss n span m.reply e k same refl (subst (λ (x : Request). CanAnswer x m.reply) same can)
  step_led ss n (Resolving rec meta p left) k e h a can =
      let is = open_is rec meta h.is_open in
      resolved_led ss n rec meta left p h (recover_next rec meta p now m.reply) (e ∙ count_none calls m (not_removal m (recovers_none rec meta p m.request (open_state rec meta is.0 is.1) a))) k
      (recovered_is events calls m older now clock rec meta left p h m.reply a refl can)
  step_led ss n (Removing b left) k e h a can = removal_led ss n b left m.reply e h k (asks_removal b (id_in b.columns) a) refl
  step_led ss n Over k e h a can = none_some m.request a
