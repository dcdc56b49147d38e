-- What a VACUUM resolves and removes is fine after each reply that its call can get.
use Rattle.std.proofs.Common.{◌≡◌, ℕ, ℤ, ◌+◌, Bool, true, false, List, [], ◌∷◌, Some, None, Ok, refl, ap}
use Rattle.std.specs.Prelude.{if◌then◌else◌}
use Rattle.sdb_vacuum.specs.Types.{Meta, Record, RecoverPhase, RecoverStep, Reply, Span, Table}
use Rattle.sdb_types.specs.declared.record.Reply.TheVariants as reply
use Rattle.sdb_types.specs.declared.record.Request.TheVariants as ask
use Rattle.sdb_types.specs.declared.record.State.TheVariants as state
use Rattle.sdb_record.specs.Meta.{checked, is_in, is_transactional, is_unresolved}
use Rattle.sdb_record.specs.Rolls.{IsBaseOf, is_tombstone}
use Rattle.sdb_phases.specs.declared.step.RecoverStep.TheVariants as steps
use Rattle.sdb_phases.specs.Recover.{Received, recover_next}
use Rattle.sdb_phases.specs.Steps.{CanGet}
use Rattle.sdb_txn.specs.Read.{Kind, Firm, Open, Bad, Resolving as Reads, kind_of, resolved as read_resolved}
use Rattle.sdb_txn.specs.Valid.{IsValid as IsReadFine}
use Rattle.sdb_txn.proofs.Public.{firm_by, open_by, open_unresolved, step_valid}
use Rattle.sdb_vacuum.specs.Vacuum.{First, Nothing, Tombstone, Unresolved, Malformed, VacuumStage, Scanning, Resolving, Removing, Over, answered, first_of, first_one, with_call, next_of_row, next_table, pending_at, removal_answered, resolved, spans_of, step_at, tombstone_or}
use Rattle.sdb_vacuum.specs.Valid.{IsValid}
use Rattle.sdb_vacuum.specs.Calls.{VacuumReplies, vacuum_after}
use Rattle.sdb_txn.specs.Rows.{sort_of}

---- what a row is

pub firm_is : (r : Record) → kind_of r ≡ Firm → IsBaseOf r.key r
firm_is r e = let h = firm_by (is_transactional r) (is_in state.Committed r.columns) (checked r.columns) e in (refl, h.0, h.1)

pub open_is : (r : Record) (meta : Meta) → kind_of r ≡ Open meta → checked r.columns ≡ Ok meta
open_is r meta e = open_by (is_transactional r) (is_in state.Committed r.columns) (checked r.columns) meta e

---- the first row that needs a call

abbrev IsFirstFine : First → Type 0
IsFirstFine Nothing = Unit {0}
IsFirstFine (Tombstone b left) = IsBaseOf b.key b × (is_tombstone b ≡ true)
IsFirstFine (Unresolved r meta left) = (is_unresolved r ≡ true) × (checked r.columns ≡ Ok meta)
IsFirstFine (Malformed key) = Unit {0}

first_fine : (left : List Record) → IsFirstFine (first_of left)
first_fine [] = tt
first_fine (r ∷ left) = by (kind_of r) refl (first_fine left)
  where
    here : (b : Bool) → is_tombstone r ≡ b → IsBaseOf r.key r → IsFirstFine (first_of left) → IsFirstFine (if b then Tombstone r left else first_of left)
    here true e firm rest = (firm, e)
    here false e firm rest = rest

    by : (k : Kind) → kind_of r ≡ k → IsFirstFine (first_of left) → IsFirstFine (first_one k r left (first_of left))
    by Firm e rest = here (is_tombstone r) refl (firm_is r e) rest
    by (Open meta) e rest = (open_unresolved r (ap sort_of e), open_is r meta e)
    by Bad e rest = tt

next_fine : (ss : List Span) (n : ℕ) → IsValid (next_table ss n).0.stage
next_fine [] n = tt
next_fine (s ∷ ss) n = tt

going_fine : (ss : List Span) (n : ℕ) (f : First) → IsFirstFine f → IsValid (next_of_row ss n f).0.stage
going_fine ss n Nothing h = next_fine ss n
going_fine ss n (Tombstone b left) h = h
going_fine ss n (Unresolved r meta left) h = (h.0, h.1, tt)
going_fine ss n (Malformed key) h = tt

on_fine : (ss : List Span) (n : ℕ) (left : List Record) → IsValid (next_of_row ss n (first_of left)).0.stage
on_fine ss n left = going_fine ss n (first_of left) (first_fine left)

---- replies

answered_fine : (ss : List Span) (n : ℕ) (r : Reply) → IsValid (answered ss n r).0.stage
answered_fine ss n (reply.Rows rows) = on_fine ss n rows
answered_fine ss n (reply.Found found) = tt
answered_fine ss n reply.Applied = tt
answered_fine ss n (reply.NotMet found) = tt
answered_fine ss n (reply.NotAll place there) = tt
answered_fine ss n reply.Fault = tt
answered_fine ss n reply.NoMemory = tt

image_fine : (ss : List Span) (n : ℕ) (left : List Record) (b : Record) → IsBaseOf b.key b → IsValid (tombstone_or ss n left b).0.stage
image_fine ss n left b firm = by (is_tombstone b) refl
  where
    by : (t : Bool) → is_tombstone b ≡ t → IsValid (if t then with_call ss n (Removing b left) else next_of_row ss n (first_of left)).0.stage
    by true e = (firm, e)
    by false e = on_fine ss n left

resolved_fine : (ss : List Span) (n : ℕ) (rec : Record) (meta : Meta) (left : List Record) (x : RecoverPhase × RecoverStep) → is_unresolved rec ≡ true → checked rec.columns ≡ Ok meta → IsReadFine (ask.Get rec.key) (read_resolved [] rec meta [] x) → IsValid (resolved ss n rec meta left x).0.stage
resolved_fine ss n rec meta left (p, steps.More) loose says h = (loose, says, h.4)
resolved_fine ss n rec meta left (p, steps.Image None) loose says h = on_fine ss n left
resolved_fine ss n rec meta left (p, steps.Image (Some b)) loose says h = image_fine ss n left b h.0.0
resolved_fine ss n rec meta left (p, steps.Busy id at) loose says h = on_fine ss n left
resolved_fine ss n rec meta left (p, steps.Faulted) loose says h = tt
resolved_fine ss n rec meta left (p, steps.BadRecord key) loose says h = tt
resolved_fine ss n rec meta left (p, steps.NoMemory) loose says h = tt

removal_fine : (ss : List Span) (n : ℕ) (left : List Record) (r : Reply) → IsValid (removal_answered ss n left r).0.stage
removal_fine ss n left reply.Applied = on_fine ss (n + 1) left
removal_fine ss n left (reply.NotMet found) = on_fine ss n left
removal_fine ss n left (reply.Found found) = tt
removal_fine ss n left (reply.Rows rows) = tt
removal_fine ss n left (reply.NotAll place there) = tt
removal_fine ss n left reply.Fault = tt
removal_fine ss n left reply.NoMemory = tt

pub step_keeps : (ss : List Span) (n : ℕ) (s : VacuumStage) (now : ℤ) (r : Reply) → IsValid s → CanGet (pending_at s) r → IsValid (step_at ss n s now r).0.stage
step_keeps ss n (Scanning span) now r f h = answered_fine ss n r
step_keeps ss n (Resolving rec meta p left) now r f h =
    resolved_fine ss n rec meta left (recover_next rec meta p now r) f.0 f.1 (step_valid (ask.Get rec.key) (Reads [] rec meta p []) now r (tt, refl, f.0, f.1, f.2) h)
step_keeps ss n (Removing b left) now r f h = removal_fine ss n left r
step_keeps ss n Over now r f h = absurd h

pub after_fine : (catalog : List Table) (past : List Received) → VacuumReplies catalog past → IsValid (vacuum_after catalog past).stage
after_fine catalog [] h = next_fine (spans_of catalog) 0
after_fine catalog (c ∷ past) h =
    let v = vacuum_after catalog past in
    step_keeps v.spans v.removed v.stage c.now c.reply (after_fine catalog past h.0) h.1
