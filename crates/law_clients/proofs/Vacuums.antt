-- The machine of a VACUUM steps as the laws of clients say.
use Rattle.std.proofs.Common.{◌≡◌, ℕ, ℤ, ◌+◌, Bool, true, false, cond, List, [], ◌∷◌, ◌++◌, append_assoc, map, Some, None, refl, subst, ◌⊎◌, inl, inr}
use Rattle.std.specs.Prelude.{find, if◌then◌else◌, is_some}
use Rattle.std.specs.List.{AllByRecursion}
use Rattle.std.specs.Ordering.{is_eq}
use Rattle.std.proofs.lemmas.Cmp.{eq_by_cmp_equiv}
use Rattle.law_clients.specs.Types.{Key, Meta, Record, RecoverPhase, RecoverStep, Reply, Span, Table, TableName, VacuumStep}
use Rattle.sdb_types.specs.declared.record.Reply.TheVariants as reply
use Rattle.sdb_types.specs.Order.{table_cmp}
use Rattle.sdb_types.proofs.Public.{table_total}
use Rattle.sdb_record.specs.declared.access.Access.TheVariants as access
use Rattle.sdb_record.specs.Rolls.{is_tombstone}
use Rattle.sdb_model.specs.Exec.{find_table}
use Rattle.sdb_phases.specs.declared.step.RecoverStep.TheVariants as steps
use Rattle.sdb_phases.specs.Recover.{recover_next}
use Rattle.sdb_txn.specs.Read as read
use Rattle.sdb_vacuum.specs.declared.work.VacuumStep.TheVariants as step
use Rattle.sdb_vacuum.specs.Vacuum as machine
use Rattle.sdb_vacuum.specs.Vacuum.{VacuumAt, VacuumStage}
use Rattle.law_clients.specs.ReadAt.{IsOfData}
use Rattle.law_clients.specs.Vacuum.{VacuumModel, remove_or, vacuum_rows, vacuum_one, vacuum_call, vacuum_removed, vacuum_resolved, vacuum_scanned, vacuum_model_step}
use Rattle.law_clients.specs.About.{AreListed, IsListed, IsVacuumIn}
use Rattle.law_clients.specs.Vacuums.{abstract_vacuum}
use Rattle.law_clients.proofs.InTables.{inside_span}
use Rattle.sdb_model.specs.Tables.{is_data}

---- the call that is pending

pub sweep_asks : (s : VacuumStage) → machine.pending_at s ≡ vacuum_call (abstract_vacuum s)
sweep_asks (machine.Scanning span) = refl
sweep_asks (machine.Resolving rec meta p left) = refl
sweep_asks (machine.Removing b left) = refl
sweep_asks machine.Over = refl

---- where a reply leads

-- Where another call is pending, it is where the laws lead it, or its table is done and it scans the next.
abbrev pub Leads : List Span → VacuumModel → VacuumAt × VacuumStep → Type 0
Leads ss w (v, step.More) = ((abstract_vacuum v.stage ≡ w) × (v.spans ≡ ss)) ⊎ ((span : Span) × (v.stage ≡ machine.Scanning span) × (ss ≡ span ∷ v.spans))
Leads ss w (v, s) = Unit {0}

next_leads : (ss : List Span) (n : ℕ) (w : VacuumModel) → Leads ss w (machine.next_table ss n)
next_leads [] n w = tt
next_leads (s ∷ ss) n w = inr (s, refl, refl)

going_leads : (ss : List Span) (n : ℕ) (left : List Record) → Leads ss (vacuum_rows left) (machine.next_of_row ss n (machine.first_of left))
going_leads ss n [] = next_leads ss n _
going_leads ss n (r ∷ left) = by (read.kind_of r) (going_leads ss n left)
  where
    here : (b : Bool) → Leads ss (vacuum_rows left) (machine.next_of_row ss n (machine.first_of left)) → Leads ss (if b then Rattle.law_clients.specs.Vacuum.Removing r left else vacuum_rows left) (machine.next_of_row ss n (if b then machine.Tombstone r left else machine.first_of left))
    here true rest = inl (refl, refl)
    here false rest = rest

    by : (k : read.Kind) → Leads ss (vacuum_rows left) (machine.next_of_row ss n (machine.first_of left)) → Leads ss (vacuum_one k r left (vacuum_rows left)) (machine.next_of_row ss n (machine.first_one k r left (machine.first_of left)))
    by read.Firm rest = here (is_tombstone r) rest
    by (read.Open meta) rest = inl (refl, refl)
    by read.Bad rest = tt

answered_leads : (ss : List Span) (n : ℕ) (r : Reply) → Leads ss (vacuum_scanned r) (machine.answered ss n r)
answered_leads ss n (reply.Rows rows) = going_leads ss n rows
answered_leads ss n (reply.Found found) = tt
answered_leads ss n reply.Applied = tt
answered_leads ss n (reply.NotMet found) = tt
answered_leads ss n (reply.NotAll place there) = tt
answered_leads ss n reply.Fault = tt
answered_leads ss n reply.NoMemory = tt

image_leads : (ss : List Span) (n : ℕ) (left : List Record) (b : Record) → Leads ss (remove_or b left (vacuum_rows left)) (machine.tombstone_or ss n left b)
image_leads ss n left b = by (is_tombstone b)
  where
    by : (t : Bool) → Leads ss (if t then Rattle.law_clients.specs.Vacuum.Removing b left else vacuum_rows left) (if t then machine.with_call ss n (machine.Removing b left) else machine.next_of_row ss n (machine.first_of left))
    by true = inl (refl, refl)
    by false = going_leads ss n left

resolved_leads : (ss : List Span) (n : ℕ) (rec : Record) (meta : Meta) (left : List Record) (x : RecoverPhase × RecoverStep) → Leads ss (vacuum_resolved rec meta left x) (machine.resolved ss n rec meta left x)
resolved_leads ss n rec meta left (p, steps.More) = inl (refl, refl)
resolved_leads ss n rec meta left (p, steps.Image None) = going_leads ss n left
resolved_leads ss n rec meta left (p, steps.Image (Some b)) = image_leads ss n left b
resolved_leads ss n rec meta left (p, steps.Busy id at) = going_leads ss n left
resolved_leads ss n rec meta left (p, steps.Faulted) = tt
resolved_leads ss n rec meta left (p, steps.BadRecord key) = tt
resolved_leads ss n rec meta left (p, steps.NoMemory) = tt

removal_leads : (ss : List Span) (n : ℕ) (left : List Record) (r : Reply) → Leads ss (vacuum_removed left r) (machine.removal_answered ss n left r)
removal_leads ss n left reply.Applied = going_leads ss (n + 1) left
removal_leads ss n left (reply.NotMet found) = going_leads ss n left
removal_leads ss n left (reply.Found found) = tt
removal_leads ss n left (reply.Rows rows) = tt
removal_leads ss n left (reply.NotAll place there) = tt
removal_leads ss n left reply.Fault = tt
removal_leads ss n left reply.NoMemory = tt

pub step_leads : (ss : List Span) (n : ℕ) (s : VacuumStage) (now : ℤ) (r : Reply) → Leads ss (vacuum_model_step (abstract_vacuum s) now r) (machine.step_at ss n s now r)
step_leads ss n (machine.Scanning span) now r = answered_leads ss n r
step_leads ss n (machine.Resolving rec meta p left) now r = resolved_leads ss n rec meta left (recover_next rec meta p now r)
step_leads ss n (machine.Removing b left) now r = removal_leads ss n left r
step_leads ss n machine.Over now r = tt

---- the tables that are left

module _ (P : Span → Type 0) where
  abbrev Are : VacuumAt × VacuumStep → Type 0
  Are x = AllByRecursion P x.0.spans

  next_are : (ss : List Span) (n : ℕ) → AllByRecursion P ss → Are (machine.next_table ss n)
  next_are [] n h = h
  next_are (s ∷ ss) n h = h.1

  going_are : (ss : List Span) (n : ℕ) (f : machine.First) → AllByRecursion P ss → Are (machine.next_of_row ss n f)
  going_are ss n machine.Nothing h = next_are ss n h
  going_are ss n (machine.Tombstone b left) h = h
  going_are ss n (machine.Unresolved r meta left) h = h
  going_are ss n (machine.Malformed key) h = h

  answered_are : (ss : List Span) (n : ℕ) (r : Reply) → AllByRecursion P ss → Are (machine.answered ss n r)
  answered_are ss n (reply.Rows rows) h = going_are ss n (machine.first_of rows) h
  answered_are ss n (reply.Found found) h = h
  answered_are ss n reply.Applied h = h
  answered_are ss n (reply.NotMet found) h = h
  answered_are ss n (reply.NotAll place there) h = h
  answered_are ss n reply.Fault h = h
  answered_are ss n reply.NoMemory h = h

  image_are : (ss : List Span) (n : ℕ) (left : List Record) (b : Record) → AllByRecursion P ss → Are (machine.tombstone_or ss n left b)
  image_are ss n left b h = by (is_tombstone b)
    where
      by : (t : Bool) → Are (if t then machine.with_call ss n (machine.Removing b left) else machine.next_of_row ss n (machine.first_of left))
      by true = h
      by false = going_are ss n (machine.first_of left) h

  resolved_are : (ss : List Span) (n : ℕ) (rec : Record) (meta : Meta) (left : List Record) (x : RecoverPhase × RecoverStep) → AllByRecursion P ss → Are (machine.resolved ss n rec meta left x)
  resolved_are ss n rec meta left (p, steps.More) h = h
  resolved_are ss n rec meta left (p, steps.Image None) h = going_are ss n (machine.first_of left) h
  resolved_are ss n rec meta left (p, steps.Image (Some b)) h = image_are ss n left b h
  resolved_are ss n rec meta left (p, steps.Busy id at) h = going_are ss n (machine.first_of left) h
  resolved_are ss n rec meta left (p, steps.Faulted) h = h
  resolved_are ss n rec meta left (p, steps.BadRecord key) h = h
  resolved_are ss n rec meta left (p, steps.NoMemory) h = h

  removal_are : (ss : List Span) (n : ℕ) (left : List Record) (r : Reply) → AllByRecursion P ss → Are (machine.removal_answered ss n left r)
  removal_are ss n left reply.Applied h = going_are ss (n + 1) (machine.first_of left) h
  removal_are ss n left (reply.NotMet found) h = going_are ss n (machine.first_of left) h
  removal_are ss n left (reply.Found found) h = h
  removal_are ss n left (reply.Rows rows) h = h
  removal_are ss n left (reply.NotAll place there) h = h
  removal_are ss n left reply.Fault h = h
  removal_are ss n left reply.NoMemory h = h

  pub step_are : (ss : List Span) (n : ℕ) (s : VacuumStage) (now : ℤ) (r : Reply) → AllByRecursion P ss → Are (machine.step_at ss n s now r)
  step_are ss n (machine.Scanning span) now r h = answered_are ss n r h
  step_are ss n (machine.Resolving rec meta p left) now r h = resolved_are ss n rec meta left (recover_next rec meta p now r) h
  step_are ss n (machine.Removing b left) now r h = removal_are ss n left r h
  step_are ss n machine.Over now r h = h

---- the tables of a catalog

found_in : (front : List Table) (t : Table) (ts : List Table) → is_some (find (λ (x : Table). is_eq (table_cmp x.name t.name)) (front ++ t ∷ ts)) ≡ true
found_in [] t ts = rw ((eq_by_cmp_equiv table_total).refl t.name) refl
found_in (x ∷ xs) t ts =
    elim (is_eq (table_cmp x.name t.name)) as (λ b. is_some (cond b (Some x) (find (λ (y : Table). is_eq (table_cmp y.name t.name)) (xs ++ t ∷ ts))) ≡ true) [ true ↦ refl | false ↦ found_in xs t ts ]

listed_from : (front ts : List Table) → AreListed (front ++ ts) (map machine.whole ts)
listed_from front [] = tt
listed_from front (t ∷ ts) = (found_in front t ts, subst (λ (xs : List Table). AreListed xs (map machine.whole ts)) (append_assoc front (t ∷ []) ts) (listed_from (front ++ t ∷ []) ts))

-- a VACUUM of a catalog begins with its first table, and has the others left
pub begun_in : (t : Table) (ts : List Table) → IsVacuumIn (t ∷ ts) (machine.begun (t ∷ ts))
begun_in t ts = let h = listed_from [] (t ∷ ts) in (h.0, h.1)

-- a table of the catalog holds records
pub scan_data : (catalog : List Table) (span : Span) → IsListed catalog span.table → ((k : Key) → is_some (find_table catalog k.table) ≡ true → is_data k ≡ true) → IsOfData (access.Scan span)
scan_data catalog span listed apart k h = apart k (subst (λ (n : TableName). is_some (find_table catalog n) ≡ true) (inside_span span k h) listed)
