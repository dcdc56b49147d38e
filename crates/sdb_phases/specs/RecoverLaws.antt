-- What holds of a recovery after any replies.
use Rattle.std.specs.Prelude.{◌≡◌, ◌≤◌, ◌<◌, ℕ, ℤ, Bool, true, false, not, ◌||◌, ◌&&◌, List, [], ◌∷◌, length, Option, Some, None, Result, Ok, Err}
use Rattle.std.specs.List.{list_any}
use Rattle.std.specs.Ordering.{int_eq}
use Rattle.sdb_phases.specs.Types.{Decided, Meta, Record, Reply, Request}
use Rattle.sdb_types.specs.declared.record.Request.TheVariants as ask
use Rattle.sdb_types.specs.declared.record.Reply.TheVariants as reply
use Rattle.sdb_record.specs.declared.coordinator.Decision.TheVariants as decision
use Rattle.sdb_record.specs.Coordinator.{coordinator_key_of, decision_in, is_expired}
use Rattle.sdb_record.specs.Meta.{is_moment}
use Rattle.sdb_record.specs.Parts.{before_record}
use Rattle.sdb_record.specs.Rolls.{forward_record}
use Rattle.sdb_phases.specs.declared.step.RecoverStep.{RecoverStep}
use Rattle.sdb_phases.specs.declared.step.RecoverStep.TheVariants as steps
use Rattle.sdb_phases.specs.declared.step.RecoverPhase.{RecoverPhase}
use Rattle.sdb_phases.specs.declared.step.RecoverPhase.TheVariants as phase
use Rattle.sdb_phases.specs.Recover.{Received, recover_pending, recover_after}
use Rattle.sdb_phases.specs.CommitLaws.{observes_decision, holds_malformed}
use Rattle.sdb_types.specs.Replies.{is_answered as is_done, is_fault}

-- the row says COMMITTED, made at that moment
abbrev pub was_committed_at : ℤ → Result Decided (List ℕ) → Bool
was_committed_at at (Err column) = false
was_committed_at at (Ok d) = elim d.decision [ decision.Committed ↦ int_eq d.created_at at | decision.Aborted ↦ false ]

-- The reply to a call shows that the record's transaction is committed, by a row of that moment.
abbrev pub observes_committed_at : ℤ → Option Request → Reply → Bool
observes_committed_at at (Some (ask.Get key)) (reply.Found (Some row)) = was_committed_at at (decision_in row)
observes_committed_at at (Some (ask.PutIf rec condition)) (reply.NotMet (Some row)) = was_committed_at at (decision_in row)
observes_committed_at at q r = false

abbrev pub learned_committed : Record → Meta → ℤ → List Received → Bool
learned_committed rec meta at [] = false
learned_committed rec meta at (c ∷ past) =
    observes_committed_at at (recover_pending rec meta past) c.reply || learned_committed rec meta at past

abbrev pub learned_aborted : Record → Meta → List Received → Bool
learned_aborted rec meta [] = false
learned_aborted rec meta (c ∷ past) =
    observes_decision meta.id decision.Aborted (recover_pending rec meta past) c.reply || learned_aborted rec meta past

abbrev pub is_none_found : Reply → Bool
is_none_found (reply.Found None) = true
is_none_found r = false

-- the first look was answered that there is no row, at a moment at which the record had expired
abbrev pub found_expired : Meta → List Received → Bool
found_expired meta [] = false
found_expired meta (c ∷ []) = is_none_found c.reply && is_expired meta.prepared_at c.now
found_expired meta (c ∷ d ∷ past) = found_expired meta (d ∷ past)

-- the first look, and the only call, was answered that there is no row, at a moment at which the record had not expired
abbrev pub found_pending : Meta → List Received → Bool
found_pending meta (c ∷ []) = is_none_found c.reply && not (is_expired meta.prepared_at c.now)
found_pending meta past = false

-- a call faulted
abbrev pub received_fault : List Received → Bool
received_fault past = list_any (λ c. is_fault c.reply) past

-- the newest reply holds a record at the coordinator key that isn't a well formed row
abbrev pub received_malformed : Meta → List Received → Bool
received_malformed meta [] = false
received_malformed meta (c ∷ past) = holds_malformed meta.id c.reply

-- The image is what a roll leaves: forward, the committed record of the moment of the row that was learned; back, what was
-- there before, and ABORTED was learned.
abbrev pub RollsTo : Record → Meta → List Received → RecoverPhase → Option Record → Type 0
RollsTo rec meta past (phase.Forward at) image = (image ≡ Some (forward_record rec at)) × (learned_committed rec meta at past ≡ true)
RollsTo rec meta past phase.Back image = (image ≡ before_record rec) × (learned_aborted rec meta past ≡ true)
RollsTo rec meta past p image = ⊥

-- the newest reply is that of a roll, applied or not met, which leaves this image
abbrev pub WasRolled : Record → Meta → List Received → Option Record → Type 0
WasRolled rec meta [] image = ⊥
WasRolled rec meta (c ∷ past) image = (is_done c.reply ≡ true) × RollsTo rec meta past (recover_after rec meta past) image

-- What an answer says.
abbrev pub RecoverEnds : Record → Meta → List Received → RecoverStep → Type 0
RecoverEnds rec meta past steps.More = Unit {0}
RecoverEnds rec meta past (steps.Image image) = WasRolled rec meta past image
RecoverEnds rec meta past (steps.Busy id prepared_at) = (id ≡ meta.id) × (prepared_at ≡ meta.prepared_at) × (found_pending meta past ≡ true)
RecoverEnds rec meta past steps.Faulted = received_fault past ≡ true
RecoverEnds rec meta past (steps.BadRecord key) = (key ≡ coordinator_key_of meta.id) × (received_malformed meta past ≡ true)
RecoverEnds rec meta past steps.NoMemory = Unit {0}

-- What holds at a phase.
abbrev pub RecoverInvariant : Record → Meta → List Received → RecoverPhase → Type 0
RecoverInvariant rec meta past phase.Look = length past ≡ 0
RecoverInvariant rec meta past (phase.Abort now) = (length past ≡ 1) × (found_expired meta past ≡ true) × (is_expired meta.prepared_at now ≡ true) × (is_moment now ≡ true)
RecoverInvariant rec meta past phase.Again = (length past ≡ 2) × (found_expired meta past ≡ true) × (received_fault past ≡ true)
RecoverInvariant rec meta past (phase.Forward at) = (length past ≤ 3) × (0 < length past) × (learned_committed rec meta at past ≡ true)
RecoverInvariant rec meta past phase.Back = (length past ≤ 3) × (0 < length past) × (learned_aborted rec meta past ≡ true)
RecoverInvariant rec meta past phase.Ended = length past ≤ 4
