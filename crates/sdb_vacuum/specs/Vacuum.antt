-- VACUUM: the rows of each table are read, each unresolved one is resolved, and each tombstone is removed.
use Rattle.std.specs.Prelude.{◌≡◌, ℕ, ℤ, ◌+◌, if◌then◌else◌, List, [], ◌∷◌, map, Option, Some, None}
use Rattle.sdb_vacuum.specs.Types.{Key, Meta, Record, RecoverPhase, RecoverStep, Reply, Request, Span, Table}
use Rattle.sdb_types.specs.declared.record.Reply.TheVariants as reply
use Rattle.sdb_types.specs.declared.record.Request.TheVariants as ask
use Rattle.sdb_record.specs.Rolls.{is_tombstone, remove_request}
use Rattle.sdb_phases.specs.declared.step.RecoverStep.TheVariants as steps
use Rattle.sdb_phases.specs.declared.step.RecoverPhase.TheVariants as phase
use Rattle.sdb_phases.specs.Recover.{recover_next, recover_request_at}
use Rattle.sdb_txn.specs.Read.{Kind, Firm, Open, Bad, kind_of}
use Rattle.sdb_vacuum.specs.declared.work.VacuumStep.{VacuumStep}
use Rattle.sdb_vacuum.specs.declared.work.VacuumStep.TheVariants as step

---- where it is

-- Where a VACUUM is: the rows of a table are asked for; it resolves a record, with the rows left; it removes a tombstone, with
-- the rows left; or no call is pending.
pub data VacuumStage : Type 0 where
  Scanning : (span : Span) → VacuumStage
  Resolving : (rec : Record) (meta : Meta) (phase : RecoverPhase) (left : List Record) → VacuumStage
  Removing : (tombstone : Record) (left : List Record) → VacuumStage
  Over : VacuumStage

-- the stage, the tables that aren't scanned yet, and how many tombstones were removed
pub record VacuumAt : Type 0 where
  pub stage : VacuumStage
  pub spans : List Span
  pub removed : ℕ

abbrev pub pending_at : VacuumStage → Option Request
pending_at (Scanning span) = Some (ask.Scan span)
pending_at (Resolving rec meta p left) = recover_request_at rec meta p
pending_at (Removing b left) = remove_request b
pending_at Over = None

-- the call that is pending
abbrev pub vacuum_pending : VacuumAt → Option Request
vacuum_pending v = pending_at v.stage

-- a call is pending
abbrev pub with_call : List Span → ℕ → VacuumStage → VacuumAt × VacuumStep
with_call ss n s = (record { stage = s; spans = ss; removed = n }, step.More)

-- it has ended
abbrev pub ends : List Span → ℕ → VacuumStep → VacuumAt × VacuumStep
ends ss n s = (record { stage = Over; spans = ss; removed = n }, s)

-- The next table is scanned; where there is none all is done.
abbrev pub next_table : List Span → ℕ → VacuumAt × VacuumStep
next_table [] n = ends [] n (step.Count n)
next_table (s ∷ ss) n = with_call ss n (Scanning s)

abbrev pub whole : Table → Span
whole t = record { table = t.name; partition = None }

-- the whole of each table, in the order of the catalog
abbrev pub spans_of : List Table → List Span
spans_of catalog = map whole catalog

-- A VACUUM of a catalog begins with its first table.
abbrev pub begun : List Table → VacuumAt
begun catalog = (next_table (spans_of catalog) 0).0

---- rows

-- What rows come to: nothing is left to do; or the first that isn't passed over, with the rows left: a tombstone, an unresolved record
-- with its metadata, or the key of one that is no record of a transaction.
pub data First : Type 0 where
  Nothing : First
  Tombstone : (rec : Record) (left : List Record) → First
  Unresolved : (rec : Record) (meta : Meta) (left : List Record) → First
  Malformed : (key : Key) → First

abbrev pub first_one : Kind → Record → List Record → First → First
first_one Firm r left rest = if is_tombstone r then Tombstone r left else rest
first_one (Open meta) r left rest = Unresolved r meta left
first_one Bad r left rest = Malformed r.key

-- Committed records that aren't tombstones are passed over.
abbrev pub first_of : List Record → First
first_of [] = Nothing
first_of (r ∷ left) = first_one (kind_of r) r left (first_of left)

-- A tombstone is removed, an unresolved record is looked up first of all, and a record of no transaction ends the VACUUM. Where nothing
-- is left to do the next table is scanned.
abbrev pub next_of_row : List Span → ℕ → First → VacuumAt × VacuumStep
next_of_row ss n Nothing = next_table ss n
next_of_row ss n (Tombstone b left) = with_call ss n (Removing b left)
next_of_row ss n (Unresolved r meta left) = with_call ss n (Resolving r meta phase.Look left)
next_of_row ss n (Malformed key) = ends ss n (step.BadRecord key)

---- replies

-- the rows of a scan; a reply without rows ends the VACUUM
abbrev pub answered : List Span → ℕ → Reply → VacuumAt × VacuumStep
answered ss n (reply.Rows rows) = next_of_row ss n (first_of rows)
answered ss n reply.Fault = ends ss n step.Faulted
answered ss n r = ends ss n step.NoMemory

-- the image of a record is removed where it is a tombstone
abbrev pub tombstone_or : List Span → ℕ → List Record → Record → VacuumAt × VacuumStep
tombstone_or ss n left b = if is_tombstone b then with_call ss n (Removing b left) else next_of_row ss n (first_of left)

-- A record whose transaction may still decide is passed over, and also one that leaves no image. Any other end of a recovery but an
-- image ends the VACUUM.
abbrev pub resolved_to : List Span → ℕ → List Record → RecoverStep → VacuumAt × VacuumStep
resolved_to ss n left (steps.Image None) = next_of_row ss n (first_of left)
resolved_to ss n left (steps.Image (Some b)) = tombstone_or ss n left b
resolved_to ss n left (steps.Busy id at) = next_of_row ss n (first_of left)
resolved_to ss n left steps.Faulted = ends ss n step.Faulted
resolved_to ss n left (steps.BadRecord key) = ends ss n (step.BadRecord key)
resolved_to ss n left s = ends ss n step.NoMemory

-- what a recovery has come to
abbrev pub resolved : List Span → ℕ → Record → Meta → List Record → RecoverPhase × RecoverStep → VacuumAt × VacuumStep
resolved ss n rec meta left (p, steps.More) = with_call ss n (Resolving rec meta p left)
resolved ss n rec meta left (p, s) = resolved_to ss n left s

-- A removal that was applied counts. One that wasn't met is passed over.
abbrev pub removal_answered : List Span → ℕ → List Record → Reply → VacuumAt × VacuumStep
removal_answered ss n left reply.Applied = next_of_row ss (n + 1) (first_of left)
removal_answered ss n left (reply.NotMet found) = next_of_row ss n (first_of left)
removal_answered ss n left reply.Fault = ends ss n step.Faulted
removal_answered ss n left r = ends ss n step.NoMemory

abbrev pub step_at : List Span → ℕ → VacuumStage → ℤ → Reply → VacuumAt × VacuumStep
step_at ss n (Scanning span) now r = answered ss n r
step_at ss n (Resolving rec meta p left) now r = resolved ss n rec meta left (recover_next rec meta p now r)
step_at ss n (Removing b left) now r = removal_answered ss n left r
step_at ss n Over now r = ends ss n step.NoMemory

-- where a reply at a moment leads, and what it is answered
abbrev pub vacuum_step : VacuumAt → ℤ → Reply → VacuumAt × VacuumStep
vacuum_step v now r = step_at v.spans v.removed v.stage now r

-- The state and the answer are those of the step; or it is out of memory, and has ended.
abbrev pub Gives : VacuumAt × VacuumStep → VacuumAt → VacuumStep → Type 0
Gives want v step.NoMemory = v.stage ≡ Over
Gives want v s = (v ≡ want.0) × (s ≡ want.1)

abbrev pub IsScanning : VacuumStage → Type 0
IsScanning (Scanning span) = Unit {0}
IsScanning s = ⊥

abbrev pub IsResolving : VacuumStage → Type 0
IsResolving (Resolving rec meta p left) = Unit {0}
IsResolving s = ⊥

abbrev pub IsRemoving : VacuumStage → Type 0
IsRemoving (Removing b left) = Unit {0}
IsRemoving s = ⊥
