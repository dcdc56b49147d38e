-- A read of a statement: its rows are settled one after the other, each unresolved one by a recovery.
use Rattle.std.specs.Prelude.{ℕ, ℤ, if◌then◌else◌, List, [], ◌∷◌, ◌++◌, Option, Some, None, Result, Ok, Err}
use Rattle.sdb_txn.specs.Types.{Access, Meta, Record, RecoverPhase, RecoverStep, Reply, Request}
use Rattle.sdb_types.specs.declared.record.Reply.TheVariants as reply
use Rattle.sdb_types.specs.declared.record.Request.TheVariants as ask
use Rattle.sdb_types.specs.declared.record.State.TheVariants as state
use Rattle.sdb_record.specs.declared.access.Access.TheVariants as access
use Rattle.sdb_record.specs.Meta.{checked, is_in, is_transactional}
use Rattle.sdb_phases.specs.declared.step.RecoverStep.TheVariants as steps
use Rattle.sdb_phases.specs.declared.step.RecoverPhase.TheVariants as phase
use Rattle.sdb_phases.specs.Recover.{recover_next, recover_request_at}
use Rattle.sdb_txn.specs.declared.read.ReadStep.{ReadStep}
use Rattle.sdb_txn.specs.declared.read.ReadStep.TheVariants as step

---- rows

-- What a row that was found is: a committed record; an unresolved one, with its metadata; or no record of a transaction.
pub data Kind : Type 0 where
  Firm : Kind
  Open : (meta : Meta) → Kind
  Bad : Kind

abbrev pub opened : Result Meta (List ℕ) → Kind
opened (Ok meta) = Open meta
opened (Err column) = Bad

abbrev pub kind_of : Record → Kind
kind_of r = if is_transactional r then (if is_in state.Committed r.columns then Firm else opened (checked r.columns)) else Bad

---- the stages

-- Where a read is: its rows are asked for; it resolves a record, with the images of the rows before it and the rows left; or it
-- has ended.
pub data ReadStage : Type 0 where
  Asking : ReadStage
  Resolving : (images : List Record) (rec : Record) (meta : Meta) (phase : RecoverPhase) (left : List Record) → ReadStage
  Ended : (step : ReadStep) → ReadStage

-- the call that asks for the rows, and the stage
pub record ReadAt : Type 0 where
  pub request : Request
  pub stage : ReadStage

abbrev pub request_of : Access → Request
request_of (access.Get key) = ask.Get key
request_of (access.Scan span) = ask.Scan span

abbrev pub read_pending_at : Request → ReadStage → Option Request
read_pending_at q Asking = Some q
read_pending_at q (Resolving images rec meta p left) = recover_request_at rec meta p
read_pending_at q (Ended s) = None

-- the call that is pending
abbrev pub read_pending : ReadAt → Option Request
read_pending r = read_pending_at r.request r.stage

abbrev pub settle_one : Kind → List Record → Record → List Record → ReadStage → ReadStage
settle_one Firm images r left rest = rest
settle_one (Open meta) images r left rest = Resolving images r meta phase.Look left
settle_one Bad images r left rest = Ended (step.BadRecord r.key)

-- Committed rows are images, up to the first that is unresolved, which is looked up first of all.
abbrev pub settle : (images left : List Record) → ReadStage
settle images [] = Ended (step.Images images)
settle images (r ∷ left) = settle_one (kind_of r) images r left (settle (images ++ r ∷ []) left)

-- The rows of a reply begin to be settled; a reply without rows ends the read.
abbrev pub answered : Reply → ReadStage
answered (reply.Found None) = settle [] []
answered (reply.Found (Some r)) = settle [] (r ∷ [])
answered (reply.Rows rows) = settle [] rows
answered reply.Fault = Ended step.Faulted
answered r = Ended step.NoMemory

-- The image that a recovery gives takes the record's place, and is left out where there is none. Any other end of a recovery
-- ends the read.
abbrev pub resolved : List Record → Record → Meta → List Record → RecoverPhase × RecoverStep → ReadStage
resolved images rec meta left (p, steps.More) = Resolving images rec meta p left
resolved images rec meta left (p, steps.Image None) = settle images left
resolved images rec meta left (p, steps.Image (Some b)) = settle (images ++ b ∷ []) left
resolved images rec meta left (p, steps.Busy id at) = Ended (step.Busy rec.key id at)
resolved images rec meta left (p, steps.Faulted) = Ended step.Faulted
resolved images rec meta left (p, steps.BadRecord key) = Ended (step.BadRecord key)
resolved images rec meta left (p, steps.NoMemory) = Ended step.NoMemory

-- where a reply at a moment leads
abbrev pub read_step : ReadStage → ℤ → Reply → ReadStage
read_step Asking now r = answered r
read_step (Resolving images rec meta p left) now r = resolved images rec meta left (recover_next rec meta p now r)
read_step (Ended s) now r = Ended s

-- what a stage is returned as
abbrev pub read_result : ReadStage → ReadStep
read_result Asking = step.More
read_result (Resolving images rec meta p left) = step.More
read_result (Ended s) = s

abbrev pub IsAsking : ReadStage → Type 0
IsAsking Asking = Unit {0}
IsAsking s = ⊥

abbrev pub IsResolving : ReadStage → Type 0
IsResolving (Resolving images rec meta p left) = Unit {0}
IsResolving s = ⊥
