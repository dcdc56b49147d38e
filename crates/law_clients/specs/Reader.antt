-- The actions of a recovery in the law of the protocol, and what its client knows at each call.
use Rattle.std.specs.Prelude.{◌≡◌, ◌⊎◌, ◌<◌, ◌^◌, ℕ, ℤ, true, false, List, [], ◌∷◌, Some}
use Rattle.law_clients.specs.Types.{Meta, Record, RecoverPhase, Reply}
use Rattle.sdb_types.specs.declared.record.State.TheVariants as state
use Rattle.sdb_record.specs.declared.coordinator.Decision.TheVariants as decision
use Rattle.sdb_record.specs.Meta.{id_in, is_in, is_moment, is_committed, is_unresolved}
use Rattle.law_protocol.specs.History.{Action, Other, Aborts, Rolls}
use Rattle.law_protocol.specs.Lawful.{Labelled, ack_of, protocol_state, IsObserved, IsRowObserved}
use Rattle.sdb_phases.specs.declared.step.RecoverPhase.TheVariants as phase
use Rattle.sdb_model.specs.Tables.{is_data}

-- The part of a recovery's call: a put of the row ABORTED of the record's transaction, or the roll of the record.
abbrev pub recover_action : Record → Meta → RecoverPhase → Reply → Action
recover_action rec meta (phase.Abort moment) r = Aborts meta.id.0 moment (ack_of r)
recover_action rec meta (phase.Forward at) r = Rolls meta.id.0 (rec.key ∷ []) decision.Committed
recover_action rec meta phase.Back r = Rolls meta.id.0 (rec.key ∷ []) decision.Aborted
recover_action rec meta p r = Other

-- A row ABORTED was observed, or a put of it was seen and applied: whatever comes later, this stays so.
abbrev pub IsLearnedAborted : List Labelled → ℕ → Type 0
IsLearnedAborted past t = ((m : ℤ) × IsRowObserved past t decision.Aborted m) ⊎ ((protocol_state past).dead t ≡ true)

-- What is known where a call of a recovery is pending: the moment at which ABORTED is put is one, the row COMMITTED was observed
-- before a roll forward, and ABORTED was learned before a roll back.
abbrev pub PhaseOk : List Labelled → Meta → RecoverPhase → Type 0
PhaseOk past meta (phase.Abort moment) = is_moment moment ≡ true
PhaseOk past meta (phase.Forward at) = IsRowObserved past meta.id.0 decision.Committed at × (is_moment at ≡ true)
PhaseOk past meta phase.Back = IsLearnedAborted past meta.id.0
PhaseOk past meta p = Unit {0}

-- A record that isn't in state 3, and its metadata, as far as the rules quote it: the writer's id and a state that is open.
pub record IsMetaOf (rec : Record) (meta : Meta) : Type 0 where
  pub held : is_in state.Committed rec.columns ≡ false
  pub writer : id_in rec.columns ≡ Some meta.id
  pub fits : meta.id.0 < 2 ^ 128
  pub is_open : is_committed meta.state ≡ false

-- A recovery is of an unresolved record of a table that was observed.
pub record RecoverOk (past : List Labelled) (rec : Record) (meta : Meta) (p : RecoverPhase) : Type 0 where
  pub of : IsMetaOf rec meta
  pub unresolved : is_unresolved rec ≡ true
  pub observed : IsObserved past rec
  pub outside : is_data rec.key ≡ true
  pub phase : PhaseOk past meta p
