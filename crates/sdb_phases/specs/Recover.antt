-- The recovery of one unresolved record, as a function of the replies so far.
use Rattle.std.specs.Prelude.{◌≡◌, ℕ, ℤ, Bool, true, false, if◌then◌else◌, List, [], ◌∷◌, Option, Some, None, Result, Ok, Err}
use Rattle.sdb_phases.specs.Types.{Condition, Decided, Meta, Record, Reply, Request}
use Rattle.sdb_types.specs.declared.record.Condition.TheVariants as condition
use Rattle.sdb_types.specs.declared.record.Request.TheVariants as ask
use Rattle.sdb_types.specs.declared.record.Reply.TheVariants as reply
use Rattle.sdb_record.specs.declared.coordinator.Decision.TheVariants as decision
use Rattle.sdb_record.specs.Coordinator.{coordinator_key_of, decision_in, is_expired}
use Rattle.sdb_record.specs.Meta.{is_moment}
use Rattle.sdb_record.specs.Parts.{before_record}
use Rattle.sdb_record.specs.Rolls.{forward_record, undo}
use Rattle.sdb_phases.specs.declared.step.RecoverStep.{RecoverStep}
use Rattle.sdb_phases.specs.declared.step.RecoverStep.TheVariants as steps
use Rattle.sdb_phases.specs.declared.step.RecoverPhase.{RecoverPhase}
use Rattle.sdb_phases.specs.declared.step.RecoverPhase.TheVariants as phase
use Rattle.sdb_phases.specs.Work.{look_of, abort_of}
use Rattle.sdb_phases.specs.Steps.{CanGet}

-- an unresolved record that was found, what its metadata says, and where its recovery is
pub record Recovers : Type 0 where
  pub rec : Record
  pub meta : Meta
  pub phase : RecoverPhase

-- the record is still as it was found
abbrev pub is_as_found : Meta → Condition
is_as_found meta = condition.Version meta.id meta.state

-- the record that it is rolled to: the row's moment is that of the commit
abbrev pub recover_forward : Record → Meta → ℤ → Request
recover_forward rec meta created_at = ask.PutIf (forward_record rec created_at) (is_as_found meta)

abbrev pub recover_back : Record → Meta → Request
recover_back rec meta = undo (is_as_found meta) rec.key (before_record rec)

abbrev pub recover_request_at : Record → Meta → RecoverPhase → Option Request
recover_request_at rec meta phase.Look = Some (look_of meta.id)
recover_request_at rec meta (phase.Abort now) = Some (abort_of meta.id now)
recover_request_at rec meta phase.Again = Some (look_of meta.id)
recover_request_at rec meta (phase.Forward created_at) = Some (recover_forward rec meta created_at)
recover_request_at rec meta phase.Back = Some (recover_back rec meta)
recover_request_at rec meta phase.Ended = None

abbrev pub recover_request : Recovers → Option Request
recover_request r = recover_request_at r.rec r.meta r.phase

abbrev pub roll_to : Meta → Result Decided (List ℕ) → RecoverPhase × RecoverStep
roll_to meta (Err column) = (phase.Ended, steps.BadRecord (coordinator_key_of meta.id))
roll_to meta (Ok d) = elim d.decision [ decision.Committed ↦ (phase.Forward d.created_at, steps.More) | decision.Aborted ↦ (phase.Back, steps.More) ]

-- a coordinator row is followed: the record is rolled forward or back by it
abbrev pub row_followed : Meta → Record → RecoverPhase × RecoverStep
row_followed meta row = roll_to meta (decision_in row)

-- Without a row the record's transaction may still decide, until the record expires; then ABORTED is put.
abbrev pub undecided : Meta → ℤ → RecoverPhase × RecoverStep
undecided meta now =
    if is_expired meta.prepared_at now then (phase.Abort now, steps.More)
    else (phase.Ended, steps.Busy meta.id meta.prepared_at)

-- The coordinator's row is asked for first, and the record is rolled by it; the roll's reply ends it with the record that it
-- was rolled to, whether the roll was applied or something else was there.
abbrev pub recover_next : Record → Meta → RecoverPhase → ℤ → Reply → RecoverPhase × RecoverStep
recover_next rec meta phase.Look now (reply.Found (Some row)) = row_followed meta row
recover_next rec meta phase.Look now (reply.Found None) = undecided meta now
recover_next rec meta phase.Look now reply.Fault = (phase.Ended, steps.Faulted)
recover_next rec meta (phase.Abort moment) now reply.Applied = (phase.Back, steps.More)
recover_next rec meta (phase.Abort moment) now (reply.NotMet (Some row)) = row_followed meta row
recover_next rec meta (phase.Abort moment) now reply.Fault = (phase.Again, steps.More)
recover_next rec meta phase.Again now (reply.Found (Some row)) = row_followed meta row
recover_next rec meta phase.Again now (reply.Found None) = (phase.Ended, steps.Faulted)
recover_next rec meta phase.Again now reply.Fault = (phase.Ended, steps.Faulted)
recover_next rec meta (phase.Forward created_at) now reply.Applied = (phase.Ended, steps.Image (Some (forward_record rec created_at)))
recover_next rec meta (phase.Forward created_at) now (reply.NotMet found) = (phase.Ended, steps.Image (Some (forward_record rec created_at)))
recover_next rec meta (phase.Forward created_at) now reply.Fault = (phase.Ended, steps.Faulted)
recover_next rec meta phase.Back now reply.Applied = (phase.Ended, steps.Image (before_record rec))
recover_next rec meta phase.Back now (reply.NotMet found) = (phase.Ended, steps.Image (before_record rec))
recover_next rec meta phase.Back now reply.Fault = (phase.Ended, steps.Faulted)
recover_next rec meta p now r = (phase.Ended, steps.NoMemory)

-- the call that follows is made from what the reply showed
abbrev pub makes_call : RecoverPhase → Bool
makes_call (phase.Abort now) = true
makes_call (phase.Forward created_at) = true
makes_call p = false

abbrev pub may_starve : RecoverPhase × RecoverStep → Bool
may_starve (p, steps.NoMemory) = true
may_starve (p, s) = makes_call p

-- The phase and the answer are those of the step. Out of memory may be returned in their place, and ends it, only where that is
-- the step or where the step makes a call.
abbrev pub Gives : RecoverPhase × RecoverStep → RecoverPhase → RecoverStep → Type 0
Gives want p steps.NoMemory = (p ≡ phase.Ended) × (may_starve want ≡ true)
Gives want p s = (p ≡ want.0) × (s ≡ want.1)

---- after any replies

-- a reply, with the moment at which it is digested
pub record Received : Type 0 where
  pub reply : Reply
  pub now : ℤ

-- where the replies lead, the newest first
abbrev pub recover_after : Record → Meta → List Received → RecoverPhase
recover_after rec meta [] = phase.Look
recover_after rec meta (c ∷ past) = (recover_next rec meta (recover_after rec meta past) c.now c.reply).0

abbrev pub recover_pending : Record → Meta → List Received → Option Request
recover_pending rec meta past = recover_request_at rec meta (recover_after rec meta past)

-- what it answers to the newest reply
abbrev pub recover_answer : Record → Meta → List Received → RecoverStep
recover_answer rec meta [] = steps.More
recover_answer rec meta (c ∷ past) = (recover_next rec meta (recover_after rec meta past) c.now c.reply).1

-- each reply is one that the call pending could get, and each moment is from 0 to 2^53
abbrev pub AreRecoverReplies : Record → Meta → List Received → Type 0
AreRecoverReplies rec meta [] = Unit {0}
AreRecoverReplies rec meta (c ∷ past) =
    AreRecoverReplies rec meta past × CanGet (recover_pending rec meta past) c.reply × (is_moment c.now ≡ true)
