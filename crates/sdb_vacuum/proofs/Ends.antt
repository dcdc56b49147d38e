-- What a VACUUM knows of its replies, and why it ends.
use Rattle.std.proofs.Common.{◌≡◌, ℕ, ℤ, ◌+◌, Bool, true, false, List, [], ◌∷◌, ◌++◌, Some, None, Result, Ok, Err, refl, sym, ap, subst, ◌∙◌, inl, inr}
use Rattle.std.specs.Prelude.{if◌then◌else◌, is_err, is_ok, not}
use Rattle.std.specs.List.{list_any}
use Rattle.std.specs.Ordering.{is_eq}
use Rattle.std.proofs.lemmas.Cmp.{eq_by_cmp_equiv}
use Rattle.std.proofs.lemmas.List.Folds.{list_any-append}
use Rattle.sdb_vacuum.specs.Types.{Key, Meta, Record, RecoverPhase, RecoverStep, Reply, Span, Table}
use Rattle.sdb_types.specs.declared.record.Reply.TheVariants as reply
use Rattle.sdb_types.specs.declared.record.State.TheVariants as state
use Rattle.sdb_types.specs.Order.{key_cmp}
use Rattle.sdb_types.proofs.Public.{and_both, and_second, key_total, or_first, or_second}
use Rattle.sdb_record.specs.declared.coordinator.Decision.TheVariants as decision
use Rattle.sdb_record.specs.Coordinator.{coordinator_key_of}
use Rattle.sdb_record.specs.Meta.{checked, is_in, is_transactional}
use Rattle.sdb_record.specs.Parts.{are_stored}
use Rattle.sdb_record.specs.Rolls.{is_tombstone}
use Rattle.sdb_record.proofs.Public.{row-key}
use Rattle.sdb_phases.specs.declared.step.RecoverStep.TheVariants as steps
use Rattle.sdb_phases.specs.declared.step.RecoverPhase.TheVariants as recover
use Rattle.sdb_phases.specs.CommitLaws.{holds_malformed, is_malformed}
use Rattle.sdb_phases.specs.Recover.{Received, recover_next, recover_request_at, row_followed}
use Rattle.sdb_phases.proofs.Public.{by_expiry, by_row, by_rows_recover_rows as by_rows, row_malformed}
use Rattle.sdb_phases.specs.RecoverLaws.{received_fault}
use Rattle.sdb_phases.specs.Steps.{CanGet}
use Rattle.sdb_txn.specs.Read.{Kind, Firm, Open, Bad, kind_of, opened}
use Rattle.sdb_vacuum.specs.declared.work.VacuumStep.{VacuumStep}
use Rattle.sdb_vacuum.specs.declared.work.VacuumStep.TheVariants as step
use Rattle.sdb_vacuum.specs.Vacuum.{First, Nothing, Tombstone, Unresolved, Malformed, VacuumAt, VacuumStage, Scanning, Resolving, Removing, Over, answered, first_of, first_one, with_call, next_of_row, next_table, pending_at, removal_answered, resolved, spans_of, step_at, tombstone_or}
use Rattle.sdb_vacuum.specs.Calls.{VacuumReplies, rows_scanned, rows_in, vacuum_after, vacuum_answer}
use Rattle.sdb_vacuum.specs.Ends.{HoldsBadRow, IsBadAt, IsRowBad, is_bad_row}
use Rattle.sdb_types.specs.Replies.{is_fault}

---- rows that were heard

-- of the rows left each that is no record of a transaction was found by a scan
abbrev AreHeard : List Received → List Record → Type 0
AreHeard past left = (key : Key) → list_any (is_bad_row key) left ≡ true → IsRowBad key past

rows_first : (p : Record → Bool) (xs ys : List Record) → list_any p xs ≡ true → list_any p (xs ++ ys) ≡ true
rows_first p xs ys h = list_any-append p xs ys ∙ or_first (list_any p xs) (list_any p ys) h

rows_second : (p : Record → Bool) (xs ys : List Record) → list_any p ys ≡ true → list_any p (xs ++ ys) ≡ true
rows_second p xs ys h = list_any-append p xs ys ∙ or_second (list_any p xs) (list_any p ys) h

heard_later : (c : Received) (past : List Received) (left : List Record) → AreHeard past left → AreHeard (c ∷ past) left
heard_later c past left h key k = rows_second (is_bad_row key) (rows_in c.reply) (rows_scanned past) (h key k)

fault_later : (c : Received) (past : List Received) → received_fault past ≡ true → received_fault (c ∷ past) ≡ true
fault_later c past h = or_second (is_fault c.reply) (received_fault past) h

---- what is known

-- before a second look a call faulted
abbrev WasFault : List Received → RecoverPhase → Type 0
WasFault past recover.Again = received_fault past ≡ true
WasFault past p = Unit {0}

abbrev Known : List Received → VacuumStage → Type 0
Known past (Scanning span) = Unit {0}
Known past (Resolving rec meta p left) = WasFault past p × AreHeard past left
Known past (Removing b left) = AreHeard past left
Known past Over = Unit {0}

abbrev Cause : List Received → VacuumStep → Type 0
Cause past step.More = Unit {0}
Cause past (step.Count n) = Unit {0}
Cause past step.Faulted = received_fault past ≡ true
Cause past (step.BadRecord key) = IsBadAt key past
Cause past step.NoMemory = Unit {0}

abbrev SoFar : List Received → VacuumAt × VacuumStep → Type 0
SoFar past x = Known past x.0.stage × Cause past x.1

---- the first row that needs a call

bad_by : (accepted committed : Bool) (k : Result Meta (List ℕ)) → (accepted ≡ true → is_ok k ≡ true) → (if accepted then (if committed then Firm else opened k) else Bad) ≡ Bad → accepted ≡ false
bad_by true true k ok h = absurd (cc)
bad_by true false (Ok meta) ok h = absurd (cc)
bad_by true false (Err column) ok h = absurd (let e = ok refl in cc)
bad_by false committed k ok h = refl

bad_is : (r : Record) → kind_of r ≡ Bad → is_transactional r ≡ false
bad_is r e = bad_by (is_transactional r) (is_in state.Committed r.columns) (checked r.columns) (and_second (are_stored r.columns) (is_ok (checked r.columns))) e

itself_bad : (r : Record) → kind_of r ≡ Bad → is_bad_row r.key r ≡ true
itself_bad r e = and_both (is_eq (key_cmp r.key r.key)) (not (is_transactional r)) ((eq_by_cmp_equiv key_total).refl r.key) (ap not (bad_is r e))

abbrev FirstKnown : List Received → First → Type 0
FirstKnown past Nothing = Unit {0}
FirstKnown past (Tombstone b left) = AreHeard past left
FirstKnown past (Unresolved r meta left) = AreHeard past left
FirstKnown past (Malformed key) = IsRowBad key past

first_known : (past : List Received) (left : List Record) → AreHeard past left → FirstKnown past (first_of left)
first_known past [] h = tt
first_known past (r ∷ left) h = by (kind_of r) refl (first_known past left rest)
  where
    rest : AreHeard past left
    rest key k = h key (or_second (is_bad_row key r) (list_any (is_bad_row key) left) k)

    here : (b : Bool) → FirstKnown past (first_of left) → FirstKnown past (if b then Tombstone r left else first_of left)
    here true k = rest
    here false k = k

    by : (k : Kind) → kind_of r ≡ k → FirstKnown past (first_of left) → FirstKnown past (first_one k r left (first_of left))
    by Firm e k = here (is_tombstone r) k
    by (Open meta) e k = rest
    by Bad e k = h r.key (or_first (is_bad_row r.key r) (list_any (is_bad_row r.key) left) (itself_bad r e))

next_so : (past : List Received) (ss : List Span) (n : ℕ) → SoFar past (next_table ss n)
next_so past [] n = (tt, tt)
next_so past (s ∷ ss) n = (tt, tt)

going_so : (past : List Received) (ss : List Span) (n : ℕ) (f : First) → FirstKnown past f → SoFar past (next_of_row ss n f)
going_so past ss n Nothing h = next_so past ss n
going_so past ss n (Tombstone b left) h = (h, tt)
going_so past ss n (Unresolved r meta left) h = ((tt, h), tt)
going_so past ss n (Malformed key) h = (tt, inl h)

on_so : (past : List Received) (ss : List Span) (n : ℕ) (left : List Record) → AreHeard past left → SoFar past (next_of_row ss n (first_of left))
on_so past ss n left h = going_so past ss n (first_of left) (first_known past left h)

---- replies

answered_so : (c : Received) (past : List Received) (ss : List Span) (n : ℕ) (r : Reply) → c.reply ≡ r → SoFar (c ∷ past) (answered ss n r)
answered_so c past ss n (reply.Rows rows) e = on_so (c ∷ past) ss n rows (λ key k. subst (λ (x : Reply). list_any (is_bad_row key) (rows_in x ++ rows_scanned past) ≡ true) (sym e) (rows_first (is_bad_row key) rows (rows_scanned past) k))
answered_so c past ss n (reply.Found found) e = (tt, tt)
answered_so c past ss n reply.Applied e = (tt, tt)
answered_so c past ss n (reply.NotMet found) e = (tt, tt)
answered_so c past ss n (reply.NotAll place there) e = (tt, tt)
answered_so c past ss n reply.Fault e = (tt, or_first (is_fault c.reply) (received_fault past) (ap is_fault e))
answered_so c past ss n reply.NoMemory e = (tt, tt)

image_so : (past : List Received) (ss : List Span) (n : ℕ) (left : List Record) (b : Record) → AreHeard past left → SoFar past (tombstone_or ss n left b)
image_so past ss n left b h = by (is_tombstone b)
  where
    by : (t : Bool) → SoFar past (if t then with_call ss n (Removing b left) else next_of_row ss n (first_of left))
    by true = (h, tt)
    by false = on_so past ss n left h

abbrev RecoverSo : List Received → RecoverPhase × RecoverStep → Type 0
RecoverSo past (p, steps.More) = WasFault past p
RecoverSo past (p, steps.Image image) = Unit {0}
RecoverSo past (p, steps.Busy id at) = Unit {0}
RecoverSo past (p, steps.Faulted) = received_fault past ≡ true
RecoverSo past (p, steps.BadRecord key) = HoldsBadRow key past
RecoverSo past (p, steps.NoMemory) = Unit {0}

-- a row that was found is followed, or isn't well formed
row_so : (c : Received) (past : List Received) (meta : Meta) (row : Record) → row.key ≡ coordinator_key_of meta.id → holds_malformed meta.id c.reply ≡ is_malformed meta.id row → RecoverSo (c ∷ past) (row_followed meta row)
row_so c past meta row key holds =
    by_row meta row (RecoverSo (c ∷ past)) (λ d says is. tt) (λ d says is. tt) (λ column says. (meta.id, refl, holds ∙ row_malformed meta.id row key (ap is_err says)))

-- what is so after one reply more
abbrev RecoverKeeps : List Received → Record → Meta → ℤ → RecoverPhase → Reply → RecoverPhase × RecoverStep → Type 0
RecoverKeeps past rec meta now p r n = WasFault past p → CanGet (recover_request_at rec meta p) r → RecoverSo (record { reply = r; now = now } ∷ past) n

recover_so : (past : List Received) (rec : Record) (meta : Meta) (p : RecoverPhase) (now : ℤ) (r : Reply) → RecoverKeeps past rec meta now p r (recover_next rec meta p now r)
recover_so past rec meta p now r =
    by_rows rec meta now (RecoverKeeps past rec meta now)
    (record {
      look_row = λ row f h. row_so (record { reply = reply.Found (Some row); now = now }) past meta row h refl;
      look_none = λ f h. by_expiry meta now (RecoverSo (record { reply = reply.Found None; now = now } ∷ past)) (λ is. tt) (λ is. tt);
      abort_applied = λ m f h. tt;
      abort_row = λ m row f h. row_so (record { reply = reply.NotMet (Some row); now = now }) past meta row (h.0 ∙ row-key meta.id decision.Aborted m) refl;
      abort_fault = λ m f h. refl;
      again_row = λ row f h. row_so (record { reply = reply.Found (Some row); now = now }) past meta row h refl;
      again_none = λ f h. fault_later (record { reply = reply.Found None; now = now }) past f;
      forward = λ at r is f h. tt;
      back = λ r is f h. tt;
      fault = λ p f h. refl;
      no_memory = λ p r f h. tt;
    }) p r

resolved_so : (past : List Received) (ss : List Span) (n : ℕ) (rec : Record) (meta : Meta) (left : List Record) (x : RecoverPhase × RecoverStep) → AreHeard past left → RecoverSo past x → SoFar past (resolved ss n rec meta left x)
resolved_so past ss n rec meta left (p, steps.More) h k = ((k, h), tt)
resolved_so past ss n rec meta left (p, steps.Image None) h k = on_so past ss n left h
resolved_so past ss n rec meta left (p, steps.Image (Some b)) h k = image_so past ss n left b h
resolved_so past ss n rec meta left (p, steps.Busy id at) h k = on_so past ss n left h
resolved_so past ss n rec meta left (p, steps.Faulted) h k = (tt, k)
resolved_so past ss n rec meta left (p, steps.BadRecord key) h k = (tt, inr k)
resolved_so past ss n rec meta left (p, steps.NoMemory) h k = (tt, tt)

removal_so : (c : Received) (past : List Received) (ss : List Span) (n : ℕ) (left : List Record) (r : Reply) → c.reply ≡ r → AreHeard (c ∷ past) left → SoFar (c ∷ past) (removal_answered ss n left r)
removal_so c past ss n left reply.Applied e h = on_so (c ∷ past) ss (n + 1) left h
removal_so c past ss n left (reply.NotMet found) e h = on_so (c ∷ past) ss n left h
removal_so c past ss n left (reply.Found found) e h = (tt, tt)
removal_so c past ss n left (reply.Rows rows) e h = (tt, tt)
removal_so c past ss n left (reply.NotAll place there) e h = (tt, tt)
removal_so c past ss n left reply.Fault e h = (tt, or_first (is_fault c.reply) (received_fault past) (ap is_fault e))
removal_so c past ss n left reply.NoMemory e h = (tt, tt)

step_so : (c : Received) (past : List Received) (ss : List Span) (n : ℕ) (s : VacuumStage) → Known past s → CanGet (pending_at s) c.reply → SoFar (c ∷ past) (step_at ss n s c.now c.reply)
step_so c past ss n (Scanning span) k h = answered_so c past ss n c.reply refl
step_so c past ss n (Resolving rec meta p left) k h = resolved_so (c ∷ past) ss n rec meta left (recover_next rec meta p c.now c.reply) (heard_later c past left k.1) (recover_so past rec meta p c.now c.reply k.0 h)
step_so c past ss n (Removing b left) k h = removal_so c past ss n left c.reply refl (heard_later c past left k)
step_so c past ss n Over k h = absurd h

so_far : (catalog : List Table) (past : List Received) → VacuumReplies catalog past → SoFar past (vacuum_after catalog past, vacuum_answer catalog past)
so_far catalog [] h = next_so [] (spans_of catalog) 0
so_far catalog (c ∷ past) h =
    let v = vacuum_after catalog past in
    step_so c past v.spans v.removed v.stage (so_far catalog past h.0).0 h.1

pub faulted_fault : (catalog : List Table) (past : List Received) → VacuumReplies catalog past → vacuum_answer catalog past ≡ step.Faulted → received_fault past ≡ true
faulted_fault catalog past h e = subst (Cause past) e (so_far catalog past h).1

pub bad_row : (catalog : List Table) (past : List Received) (key : Key) → VacuumReplies catalog past → vacuum_answer catalog past ≡ step.BadRecord key → IsBadAt key past
bad_row catalog past key h e = subst (Cause past) e (so_far catalog past h).1
