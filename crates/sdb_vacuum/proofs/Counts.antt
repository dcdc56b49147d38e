-- How many calls a VACUUM makes, and how many tombstones it removes.
use Rattle.std.proofs.Common.{◌≡◌, ℕ, ℤ, suc, ◌+◌, ◌*◌, ◌≤◌, Bool, true, false, cond, ◌&&◌, List, [], ◌∷◌, ◌++◌, length, Option, Some, None, Ok, refl, sym, ap, subst, ◌∙◌, arith}
use Rattle.std.specs.Prelude.{if◌then◌else◌, is_some, not}
use Rattle.std.specs.Option.{option_map}
use Rattle.std.specs.List.{filter}
use Rattle.std.proofs.lemmas.List.{length-append, length-map}
use Rattle.std.proofs.lemmas.List.Elements.{filter-append}
use Rattle.sdb_vacuum.specs.Types.{Meta, Record, RecoverPhase, RecoverStep, Reply, Request, Span, Table, TxId}
use Rattle.sdb_types.specs.declared.record.Reply.TheVariants as reply
use Rattle.sdb_types.specs.declared.record.Request.TheVariants as ask
use Rattle.sdb_types.specs.declared.record.Condition.TheVariants as condition
use Rattle.sdb_types.specs.declared.record.State.TheVariants as state
use Rattle.sdb_types.proofs.Public.{and_second}
use Rattle.sdb_record.specs.Meta.{checked, id_in, is_committed, is_in, is_transactional, is_unresolved}
use Rattle.sdb_record.specs.Parts.{before_record}
use Rattle.sdb_record.specs.Rolls.{IsBaseOf, is_tombstone, AreCommitted, remove_request, undo}
use Rattle.sdb_record.proofs.Public.{checked-state}
use Rattle.sdb_phases.specs.declared.step.RecoverStep.TheVariants as steps
use Rattle.sdb_phases.specs.declared.step.RecoverPhase.TheVariants as recover
use Rattle.sdb_phases.specs.Recover.{Received, recover_next, recover_request_at, is_as_found}
use Rattle.sdb_phases.specs.RecoverCalls.{calls_left}
use Rattle.sdb_phases.specs.Steps.{CanGet}
use Rattle.sdb_phases.proofs.Public.{IsNearer, recover_nearer}
use Rattle.sdb_txn.specs.Read.{Kind, Firm, Open, Bad, kind_of}
use Rattle.sdb_vacuum.specs.declared.work.VacuumStep.{VacuumStep}
use Rattle.sdb_vacuum.specs.declared.work.VacuumStep.TheVariants as step
use Rattle.sdb_vacuum.specs.Vacuum.{First, Nothing, Tombstone, Unresolved, Malformed, VacuumAt, VacuumStage, Scanning, Resolving, Removing, Over, answered, first_of, first_one, with_call, next_of_row, next_table, pending_at, removal_answered, resolved, spans_of, step_at, tombstone_or, whole}
use Rattle.sdb_vacuum.specs.Valid.{IsValid}
use Rattle.sdb_vacuum.specs.Calls.{VacuumReplies, is_removal, removals, rows_scanned, rows_in, tombstones, vacuum_after, vacuum_answer}
use Rattle.sdb_vacuum.proofs.WellFormed.{after_fine}
use Rattle.sdb_types.specs.Replies.{is_applied}

---- at most so many calls

abbrev first_weight : First → ℕ
first_weight Nothing = 0
first_weight (Tombstone b left) = 1 + 5 * length left
first_weight (Unresolved r meta left) = 5 + 5 * length left
first_weight (Malformed key) = 0

-- how many calls a stage may still make, without those for other tables
abbrev stage_weight : VacuumStage → ℕ
stage_weight (Scanning span) = 1
stage_weight (Resolving rec meta p left) = calls_left p + (1 + 5 * length left)
stage_weight (Removing b left) = 1 + 5 * length left
stage_weight Over = 0

abbrev weight : VacuumAt → ℕ
weight v = stage_weight v.stage + length v.spans

five_more : (n w : ℕ) → w ≤ 5 * n → w ≤ 5 * suc n
five_more n w h = omega arith

first_light : (left : List Record) → first_weight (first_of left) ≤ 5 * length left
first_light [] = omega arith
first_light (r ∷ left) = by (kind_of r) (first_light left)
  where
    here : (b : Bool) → first_weight (first_of left) ≤ 5 * length left → first_weight (if b then Tombstone r left else first_of left) ≤ 5 * suc (length left)
    here true h = omega arith
    here false h = five_more (length left) (first_weight (first_of left)) h

    by : (k : Kind) → first_weight (first_of left) ≤ 5 * length left → first_weight (first_one k r left (first_of left)) ≤ 5 * suc (length left)
    by Firm h = here (is_tombstone r) h
    by (Open meta) h = omega arith
    by Bad h = omega arith

next_light : (ss : List Span) (n : ℕ) → weight (next_table ss n).0 ≤ length ss
next_light [] n = omega arith
next_light (s ∷ ss) n = omega arith

going_light : (ss : List Span) (n : ℕ) (f : First) → weight (next_of_row ss n f).0 ≤ first_weight f + length ss
going_light ss n Nothing = let h = next_light ss n in omega arith
going_light ss n (Tombstone b left) = omega arith
going_light ss n (Unresolved r meta left) = omega arith
going_light ss n (Malformed key) = omega arith

on_light : (ss : List Span) (n : ℕ) (left : List Record) → weight (next_of_row ss n (first_of left)).0 ≤ 5 * length left + length ss
on_light ss n left = let h = going_light ss n (first_of left) in let k = first_light left in omega arith

answered_light : (ss : List Span) (n : ℕ) (r : Reply) → weight (answered ss n r).0 ≤ 5 * length (rows_in r) + length ss
answered_light ss n (reply.Rows rows) = on_light ss n rows
answered_light ss n (reply.Found found) = omega arith
answered_light ss n reply.Applied = omega arith
answered_light ss n (reply.NotMet found) = omega arith
answered_light ss n (reply.NotAll place there) = omega arith
answered_light ss n reply.Fault = omega arith
answered_light ss n reply.NoMemory = omega arith

image_light : (ss : List Span) (n : ℕ) (left : List Record) (b : Record) → weight (tombstone_or ss n left b).0 ≤ 1 + 5 * length left + length ss
image_light ss n left b = by (is_tombstone b)
  where
    by : (t : Bool) → weight (if t then with_call ss n (Removing b left) else next_of_row ss n (first_of left)).0 ≤ 1 + 5 * length left + length ss
    by true = omega arith
    by false = let h = on_light ss n left in omega arith

can_get_some : (o : Option Request) (r : Reply) → CanGet o r → is_some o ≡ true
can_get_some None r h = absurd h
can_get_some (Some q) r h = refl

resolved_light : (ss : List Span) (n : ℕ) (rec : Record) (meta : Meta) (left : List Record) (m : ℕ) (x : RecoverPhase × RecoverStep) → IsNearer m x → suc (weight (resolved ss n rec meta left x).0) ≤ m + (1 + 5 * length left) + length ss
resolved_light ss n rec meta left m (p, steps.More) h = omega arith
resolved_light ss n rec meta left m (p, steps.Image None) h = let k = on_light ss n left in omega arith
resolved_light ss n rec meta left m (p, steps.Image (Some b)) h = let k = image_light ss n left b in omega arith
resolved_light ss n rec meta left m (p, steps.Busy id at) h = let k = on_light ss n left in omega arith
resolved_light ss n rec meta left m (p, steps.Faulted) h = omega arith
resolved_light ss n rec meta left m (p, steps.BadRecord key) h = omega arith
resolved_light ss n rec meta left m (p, steps.NoMemory) h = omega arith

removal_light : (ss : List Span) (n : ℕ) (left : List Record) (r : Reply) → weight (removal_answered ss n left r).0 ≤ 5 * length left + length ss
removal_light ss n left reply.Applied = on_light ss (n + 1) left
removal_light ss n left (reply.NotMet found) = on_light ss n left
removal_light ss n left (reply.Found found) = omega arith
removal_light ss n left (reply.Rows rows) = omega arith
removal_light ss n left (reply.NotAll place there) = omega arith
removal_light ss n left reply.Fault = omega arith
removal_light ss n left reply.NoMemory = omega arith

step_light : (ss : List Span) (n : ℕ) (s : VacuumStage) (now : ℤ) (r : Reply) → CanGet (pending_at s) r → suc (weight (step_at ss n s now r).0) ≤ stage_weight s + length ss + 5 * length (rows_in r)
step_light ss n (Scanning span) now r h = let k = answered_light ss n r in omega arith
step_light ss n (Resolving rec meta p left) now r h = let k = resolved_light ss n rec meta left (calls_left p) (recover_next rec meta p now r) (recover_nearer rec meta p now r (can_get_some (recover_request_at rec meta p) r h)) in omega arith
step_light ss n (Removing b left) now r h = let k = removal_light ss n left r in omega arith
step_light ss n Over now r h = absurd h

spans_long : (catalog : List Table) → length (spans_of catalog) ≡ length catalog
spans_long catalog = length-map catalog whole

light : (catalog : List Table) (past : List Received) → VacuumReplies catalog past → length past + weight (vacuum_after catalog past) ≤ length catalog + 5 * length (rows_scanned past)
light catalog [] h = let k = next_light (spans_of catalog) 0 in let e = spans_long catalog in omega arith
light catalog (c ∷ past) h =
    let v = vacuum_after catalog past in
    let k = step_light v.spans v.removed v.stage c.now c.reply h.1 in
    let before = light catalog past h.0 in
    let e = length-append (rows_in c.reply) (rows_scanned past) in
    omega arith

pub most_calls : (catalog : List Table) (past : List Received) → VacuumReplies catalog past → length past ≤ length catalog + 5 * length (rows_scanned past)
most_calls catalog past h = let k = light catalog past h in omega arith

---- exactly so many calls

-- where each row was a committed record, of the calls so far and of all calls
abbrev IsExact : VacuumStage → VacuumStep → (spans calls total : ℕ) → Type 0
IsExact (Scanning span) s m k total = suc k + m ≡ total
IsExact (Resolving rec meta p left) s m k total = ⊥
IsExact (Removing b left) s m k total = AreCommitted left × (suc k + tombstones left + m ≡ total)
IsExact Over s m k total = (n : ℕ) → s ≡ step.Count n → k ≡ total

abbrev Exact : VacuumAt × VacuumStep → (calls total : ℕ) → Type 0
Exact x k total = IsExact x.0.stage x.1 (length x.0.spans) k total

next_exact : (ss : List Span) (n k total : ℕ) → k + length ss ≡ total → Exact (next_table ss n) k total
next_exact [] n k total h = λ m e. omega arith
next_exact (s ∷ ss) n k total h = omega arith

firm_kind : (r : Record) → IsBaseOf r.key r → kind_of r ≡ Firm
firm_kind r h = rw (h.1, h.2) refl

on_exact : (ss : List Span) (n : ℕ) (left : List Record) (k total : ℕ) → AreCommitted left → k + tombstones left + length ss ≡ total → Exact (next_of_row ss n (first_of left)) k total
on_exact ss n [] k total f h = next_exact ss n k total (omega arith)
on_exact ss n (r ∷ left) k total f h =
    subst (λ (x : Kind). Exact (next_of_row ss n (first_one x r left (first_of left))) k total) (sym (firm_kind r f.0)) (by (is_tombstone r) h (λ e. on_exact ss n left k total f.1 e))
  where
    by : (t : Bool) → k + length (cond t (r ∷ filter is_tombstone left) (filter is_tombstone left)) + length ss ≡ total → (k + tombstones left + length ss ≡ total → Exact (next_of_row ss n (first_of left)) k total) → Exact (next_of_row ss n (if t then Tombstone r left else first_of left)) k total
    by true e rest = (f.1, omega arith)
    by false e rest = rest e

failed_exact : (k total : ℕ) (s : VacuumStep) → ((n : ℕ) → s ≡ step.Count n → ⊥) → (n : ℕ) → s ≡ step.Count n → k ≡ total
failed_exact k total s h n e = absurd (h n e)

answered_exact : (ss : List Span) (n : ℕ) (r : Reply) (k total : ℕ) → AreCommitted (rows_in r) → k + tombstones (rows_in r) + length ss ≡ total → Exact (answered ss n r) k total
answered_exact ss n (reply.Rows rows) k total f h = on_exact ss n rows k total f h
answered_exact ss n (reply.Found found) k total f h = λ m e. absurd (cc)
answered_exact ss n reply.Applied k total f h = λ m e. absurd (cc)
answered_exact ss n (reply.NotMet found) k total f h = λ m e. absurd (cc)
answered_exact ss n (reply.NotAll place there) k total f h = λ m e. absurd (cc)
answered_exact ss n reply.Fault k total f h = λ m e. absurd (cc)
answered_exact ss n reply.NoMemory k total f h = λ m e. absurd (cc)

-- a reply to a delete has no rows
removal_exact : (ss : List Span) (n : ℕ) (q : Option Request) (b : Record) (left : List Record) (r : Reply) (k total : ℕ) → remove_request b ≡ q → CanGet q r → AreCommitted left → k + tombstones left + length ss ≡ total → Exact (removal_answered ss n left r) k (total + tombstones (rows_in r))
removal_exact ss n q b left reply.Applied k total is h f e = on_exact ss (n + 1) left k (total + 0) f (omega arith)
removal_exact ss n q b left (reply.NotMet found) k total is h f e = on_exact ss n left k (total + 0) f (omega arith)
removal_exact ss n q b left (reply.Found found) k total is h f e = λ m e. absurd (cc)
removal_exact ss n q b left (reply.Rows rows) k total is h f e = λ m e. absurd (cc)
removal_exact ss n q b left (reply.NotAll place there) k total is h f e = λ m e. absurd (cc)
removal_exact ss n q b left reply.Fault k total is h f e = λ m e. absurd (cc)
removal_exact ss n q b left reply.NoMemory k total is h f e = λ m e. absurd (cc)

step_exact : (ss : List Span) (n : ℕ) (s : VacuumStage) (acked : VacuumStep) (now : ℤ) (r : Reply) (k total : ℕ) → CanGet (pending_at s) r → AreCommitted (rows_in r) → IsExact s acked (length ss) k total → Exact (step_at ss n s now r) (suc k) (total + tombstones (rows_in r))
step_exact ss n (Scanning span) acked now r k total h f e = answered_exact ss n r (suc k) (total + tombstones (rows_in r)) f (omega arith)
step_exact ss n (Resolving rec meta p left) acked now r k total h f e = absurd e
step_exact ss n (Removing b left) acked now r k total h f e = removal_exact ss n (remove_request b) b left r (suc k) total refl h e.0 e.1
step_exact ss n Over acked now r k total h f e = absurd h

firm_first : (xs ys : List Record) → AreCommitted (xs ++ ys) → AreCommitted xs × AreCommitted ys
firm_first [] ys h = (tt, h)
firm_first (x ∷ xs) ys h = let rest = firm_first xs ys h.1 in ((h.0, rest.0), rest.1)

tombstones_both : (xs ys : List Record) → tombstones (xs ++ ys) ≡ tombstones xs + tombstones ys
tombstones_both xs ys = ap length (filter-append is_tombstone xs ys) ∙ length-append (filter is_tombstone xs) (filter is_tombstone ys)

exact : (catalog : List Table) (past : List Received) → VacuumReplies catalog past → AreCommitted (rows_scanned past) → Exact (vacuum_after catalog past, vacuum_answer catalog past) (length past) (length catalog + tombstones (rows_scanned past))
exact catalog [] h f = next_exact (spans_of catalog) 0 0 (length catalog + 0) (let e = spans_long catalog in omega arith)
exact catalog (c ∷ past) h f =
    let v = vacuum_after catalog past in
    let both = firm_first (rows_in c.reply) (rows_scanned past) f in
    let before = exact catalog past h.0 both.1 in
    let total : (length catalog + tombstones (rows_scanned past)) + tombstones (rows_in c.reply) ≡ length catalog + tombstones (rows_in c.reply ++ rows_scanned past) =
    (let e = tombstones_both (rows_in c.reply) (rows_scanned past) in omega arith) in
    subst (λ (m : ℕ). Exact (step_at v.spans v.removed v.stage c.now c.reply) (suc (length past)) m) total
    (step_exact v.spans v.removed v.stage (vacuum_answer catalog past) c.now c.reply (length past) (length catalog + tombstones (rows_scanned past)) h.1 both.0 before)

counted_exact : (s : VacuumStage) (acked : VacuumStep) (m k total n : ℕ) → IsExact s acked m k total → (acked ≡ step.Count n → s ≡ Over) → acked ≡ step.Count n → k ≡ total
counted_exact Over acked m k total n h over e = h n e
counted_exact (Scanning span) acked m k total n h over e = absurd (let o = over e in cc)
counted_exact (Resolving rec meta p left) acked m k total n h over e = absurd h
counted_exact (Removing b left) acked m k total n h over e = absurd (let o = over e in cc)

---- what is answered at the end

-- a count comes only at the end, and it is that of the removals so far
abbrev Counted : VacuumAt × VacuumStep → Type 0
Counted x = (n : ℕ) → x.1 ≡ step.Count n → (x.0.stage ≡ Over) × (x.0.removed ≡ n)

next_counted : (ss : List Span) (n : ℕ) → Counted (next_table ss n)
next_counted [] n = λ m e. (refl, cc)
next_counted (s ∷ ss) n = λ m e. absurd (cc)

on_counted : (ss : List Span) (n : ℕ) (f : First) → Counted (next_of_row ss n f)
on_counted ss n Nothing = next_counted ss n
on_counted ss n (Tombstone b left) = λ m e. absurd (cc)
on_counted ss n (Unresolved r meta left) = λ m e. absurd (cc)
on_counted ss n (Malformed key) = λ m e. absurd (cc)

image_counted : (ss : List Span) (n : ℕ) (left : List Record) (b : Record) → Counted (tombstone_or ss n left b)
image_counted ss n left b = by (is_tombstone b)
  where
    by : (t : Bool) → Counted (if t then with_call ss n (Removing b left) else next_of_row ss n (first_of left))
    by true = λ m e. absurd (cc)
    by false = on_counted ss n (first_of left)

answered_counted : (ss : List Span) (n : ℕ) (r : Reply) → Counted (answered ss n r)
answered_counted ss n (reply.Rows rows) = on_counted ss n (first_of rows)
answered_counted ss n (reply.Found found) = λ m e. absurd (cc)
answered_counted ss n reply.Applied = λ m e. absurd (cc)
answered_counted ss n (reply.NotMet found) = λ m e. absurd (cc)
answered_counted ss n (reply.NotAll place there) = λ m e. absurd (cc)
answered_counted ss n reply.Fault = λ m e. absurd (cc)
answered_counted ss n reply.NoMemory = λ m e. absurd (cc)

resolved_counted : (ss : List Span) (n : ℕ) (rec : Record) (meta : Meta) (left : List Record) (x : RecoverPhase × RecoverStep) → Counted (resolved ss n rec meta left x)
resolved_counted ss n rec meta left (p, steps.More) = λ m e. absurd (cc)
resolved_counted ss n rec meta left (p, steps.Image None) = on_counted ss n (first_of left)
resolved_counted ss n rec meta left (p, steps.Image (Some b)) = image_counted ss n left b
resolved_counted ss n rec meta left (p, steps.Busy id at) = on_counted ss n (first_of left)
resolved_counted ss n rec meta left (p, steps.Faulted) = λ m e. absurd (cc)
resolved_counted ss n rec meta left (p, steps.BadRecord key) = λ m e. absurd (cc)
resolved_counted ss n rec meta left (p, steps.NoMemory) = λ m e. absurd (cc)

removal_counted : (ss : List Span) (n : ℕ) (left : List Record) (r : Reply) → Counted (removal_answered ss n left r)
removal_counted ss n left reply.Applied = on_counted ss (n + 1) (first_of left)
removal_counted ss n left (reply.NotMet found) = on_counted ss n (first_of left)
removal_counted ss n left (reply.Found found) = λ m e. absurd (cc)
removal_counted ss n left (reply.Rows rows) = λ m e. absurd (cc)
removal_counted ss n left (reply.NotAll place there) = λ m e. absurd (cc)
removal_counted ss n left reply.Fault = λ m e. absurd (cc)
removal_counted ss n left reply.NoMemory = λ m e. absurd (cc)

step_counted : (ss : List Span) (n : ℕ) (s : VacuumStage) (now : ℤ) (r : Reply) → Counted (step_at ss n s now r)
step_counted ss n (Scanning span) now r = answered_counted ss n r
step_counted ss n (Resolving rec meta p left) now r = resolved_counted ss n rec meta left (recover_next rec meta p now r)
step_counted ss n (Removing b left) now r = removal_counted ss n left r
step_counted ss n Over now r = λ m e. absurd (cc)

counted : (catalog : List Table) (past : List Received) → Counted (vacuum_after catalog past, vacuum_answer catalog past)
counted catalog [] = next_counted (spans_of catalog) 0
counted catalog (c ∷ past) = let v = vacuum_after catalog past in step_counted v.spans v.removed v.stage c.now c.reply

pub exact_calls : (catalog : List Table) (past : List Received) (n : ℕ) → VacuumReplies catalog past → AreCommitted (rows_scanned past) → vacuum_answer catalog past ≡ step.Count n → length past ≡ length catalog + tombstones (rows_scanned past)
exact_calls catalog past n h f e =
    let v = vacuum_after catalog past in
    counted_exact v.stage (vacuum_answer catalog past) (length v.spans) (length past) (length catalog + tombstones (rows_scanned past)) n (exact catalog past h f) (λ acked. (counted catalog past n acked).0) e

---- removals

-- how many a stage and its reply remove
abbrev one_removed : Option Request → Reply → ℕ
one_removed q r = if is_removal q && is_applied r then 1 else 0

next_keeps : (ss : List Span) (n : ℕ) → (next_table ss n).0.removed ≡ n
next_keeps [] n = refl
next_keeps (s ∷ ss) n = refl

on_keeps : (ss : List Span) (n : ℕ) (f : First) → (next_of_row ss n f).0.removed ≡ n
on_keeps ss n Nothing = next_keeps ss n
on_keeps ss n (Tombstone b left) = refl
on_keeps ss n (Unresolved r meta left) = refl
on_keeps ss n (Malformed key) = refl

image_keeps : (ss : List Span) (n : ℕ) (left : List Record) (b : Record) → (tombstone_or ss n left b).0.removed ≡ n
image_keeps ss n left b = by (is_tombstone b)
  where
    by : (t : Bool) → (if t then with_call ss n (Removing b left) else next_of_row ss n (first_of left)).0.removed ≡ n
    by true = refl
    by false = on_keeps ss n (first_of left)

answered_keeps : (ss : List Span) (n : ℕ) (r : Reply) → (answered ss n r).0.removed ≡ n
answered_keeps ss n (reply.Rows rows) = on_keeps ss n (first_of rows)
answered_keeps ss n (reply.Found found) = refl
answered_keeps ss n reply.Applied = refl
answered_keeps ss n (reply.NotMet found) = refl
answered_keeps ss n (reply.NotAll place there) = refl
answered_keeps ss n reply.Fault = refl
answered_keeps ss n reply.NoMemory = refl

resolved_keeps : (ss : List Span) (n : ℕ) (rec : Record) (meta : Meta) (left : List Record) (x : RecoverPhase × RecoverStep) → (resolved ss n rec meta left x).0.removed ≡ n
resolved_keeps ss n rec meta left (p, steps.More) = refl
resolved_keeps ss n rec meta left (p, steps.Image None) = on_keeps ss n (first_of left)
resolved_keeps ss n rec meta left (p, steps.Image (Some b)) = image_keeps ss n left b
resolved_keeps ss n rec meta left (p, steps.Busy id at) = on_keeps ss n (first_of left)
resolved_keeps ss n rec meta left (p, steps.Faulted) = refl
resolved_keeps ss n rec meta left (p, steps.BadRecord key) = refl
resolved_keeps ss n rec meta left (p, steps.NoMemory) = refl

-- a recovery deletes no committed record
pub open_state : (rec : Record) (meta : Meta) → is_unresolved rec ≡ true → checked rec.columns ≡ Ok meta → is_committed meta.state ≡ false
open_state rec meta loose says = by (is_in state.Committed rec.columns) (is_committed meta.state) (checked-state rec.columns meta says) (and_second (is_transactional rec) _ loose)
  where
    by : (a b : Bool) → a ≡ b → not a ≡ true → b ≡ false
    by true b e h = absurd (cc)
    by false b e h = sym e

undo_keeps : (meta : Meta) (rec : Record) (before : Option Record) → is_committed meta.state ≡ false → is_removal (Some (undo (is_as_found meta) rec.key before)) ≡ false
undo_keeps meta rec None h = h
undo_keeps meta rec (Some b) h = refl

recovers_none : (rec : Record) (meta : Meta) (p : RecoverPhase) → is_committed meta.state ≡ false → is_removal (recover_request_at rec meta p) ≡ false
recovers_none rec meta recover.Look h = refl
recovers_none rec meta (recover.Abort now) h = refl
recovers_none rec meta recover.Again h = refl
recovers_none rec meta (recover.Forward at) h = refl
recovers_none rec meta recover.Back h = undo_keeps meta rec (before_record rec) h
recovers_none rec meta recover.Ended h = refl

none_more : (n : ℕ) (b c : Bool) → b ≡ false → n ≡ n + (if b && c then 1 else 0)
none_more n true c e = absurd (cc)
none_more n false c e = omega arith

removal_one : (ss : List Span) (n : ℕ) (b : Record) (left : List Record) (r : Reply) (o : Option TxId) → CanGet (option_map (λ id. ask.DeleteIf b.key (condition.Version id state.Committed)) o) r → (removal_answered ss n left r).0.removed ≡ n + one_removed (option_map (λ id. ask.DeleteIf b.key (condition.Version id state.Committed)) o) r
removal_one ss n b left r None h = absurd h
removal_one ss n b left reply.Applied (Some id) h = on_keeps ss (n + 1) (first_of left)
removal_one ss n b left (reply.NotMet found) (Some id) h = on_keeps ss n (first_of left) ∙ (omega arith)
removal_one ss n b left (reply.Found found) (Some id) h = absurd h
removal_one ss n b left (reply.Rows rows) (Some id) h = absurd h
removal_one ss n b left (reply.NotAll place there) (Some id) h = absurd h
removal_one ss n b left reply.Fault (Some id) h = omega arith
removal_one ss n b left reply.NoMemory (Some id) h = omega arith

step_one : (ss : List Span) (n : ℕ) (s : VacuumStage) (now : ℤ) (r : Reply) → IsValid s → CanGet (pending_at s) r → (step_at ss n s now r).0.removed ≡ n + one_removed (pending_at s) r
step_one ss n (Scanning span) now r f h = answered_keeps ss n r ∙ none_more n false (is_applied r) refl
step_one ss n (Resolving rec meta p left) now r f h =
    resolved_keeps ss n rec meta left (recover_next rec meta p now r) ∙ none_more n (is_removal (recover_request_at rec meta p)) (is_applied r) (recovers_none rec meta p (open_state rec meta f.0 f.1))
step_one ss n (Removing b left) now r f h = removal_one ss n b left r (id_in b.columns) h
step_one ss n Over now r f h = absurd h

removed_is : (catalog : List Table) (past : List Received) → VacuumReplies catalog past → (vacuum_after catalog past).removed ≡ removals catalog past
removed_is catalog [] h = next_keeps (spans_of catalog) 0
removed_is catalog (c ∷ past) h =
    let v = vacuum_after catalog past in
    step_one v.spans v.removed v.stage c.now c.reply (after_fine catalog past h.0) h.1 ∙ ap (λ (n : ℕ). n + one_removed (pending_at v.stage) c.reply) (removed_is catalog past h.0)

pub counts : (catalog : List Table) (past : List Received) (n : ℕ) → VacuumReplies catalog past → vacuum_answer catalog past ≡ step.Count n → n ≡ removals catalog past
counts catalog past n h e = sym (counted catalog past n e).1 ∙ removed_is catalog past h
