-- What holds of a recovery where its client is alone.
use Rattle.std.specs.Prelude.{◌≡◌, ◌≢◌, ℤ, true, false, List, Some, None, Ok, IsSomeAnd}
use Rattle.law_clients.specs.Types.{Key, Meta, Record, RecoverPhase, RecoverStep, Table, TxId}
use Rattle.sdb_record.specs.declared.coordinator.Decision.TheVariants as decision
use Rattle.sdb_record.specs.Coordinator.{coordinator_key_of, is_expired}
use Rattle.sdb_record.specs.Meta.{checked, is_moment, is_unresolved}
use Rattle.sdb_phases.specs.declared.step.RecoverStep.TheVariants as steps
use Rattle.sdb_phases.specs.declared.step.RecoverPhase.TheVariants as phase
use Rattle.law_clients.specs.Database.{Database, decided_in, is_committed_or_none, is_listed}
use Rattle.law_clients.specs.OnlyResolves.{OnlyResolves}

-- no decision on a transaction is there
abbrev pub IsUndecided : Database → TxId → Type 0
IsUndecided g id = g (coordinator_key_of id) ≡ None

-- it is aborted
abbrev pub IsAborted : Database → TxId → Type 0
IsAborted g id = IsSomeAnd (decided_in g id) (λ d. d.decision ≡ decision.Aborted)

-- it is committed, by a row of that moment
abbrev pub IsCommittedAt : Database → TxId → ℤ → Type 0
IsCommittedAt g id at = decided_in g id ≡ Some (record { decision = decision.Committed; created_at = at })

-- What the coordinator's table has while a call of a recovery is pending.
abbrev pub PhaseAlone : Database → Meta → RecoverPhase → Type 0
PhaseAlone g meta phase.Look = Unit {0}
PhaseAlone g meta (phase.Abort moment) = IsUndecided g meta.id × (is_moment moment ≡ true)
PhaseAlone g meta phase.Again = Unit {0}
PhaseAlone g meta (phase.Forward at) = IsCommittedAt g meta.id at × (is_moment at ≡ true)
PhaseAlone g meta phase.Back = IsAborted g meta.id
PhaseAlone g meta phase.Ended = Unit {0}

-- The record that is recovered is at its key in a table, unresolved.
pub record RecoverAlone (catalog : List Table) (g : Database) (rec : Record) (meta : Meta) (p : RecoverPhase) : Type 0 where
  pub present : g rec.key ≡ Some rec
  pub listed : is_listed catalog rec.key ≡ true
  pub unresolved : is_unresolved rec ≡ true
  pub says : checked rec.columns ≡ Ok meta
  pub phase : PhaseAlone g meta p

-- Where a reply leads: the recovery makes another call; the record's image is in its place; or the transaction is undecided and the record
-- has not expired. It never meets a bad row.
abbrev pub RecoveryLeadsTo : List Table → Database → Record → Meta → ℤ → RecoverPhase × RecoverStep → Type 0
RecoveryLeadsTo catalog h rec meta now (p, steps.More) = RecoverAlone catalog h rec meta p
RecoveryLeadsTo catalog h rec meta now (p, steps.Image image) = (h rec.key ≡ image) × (is_committed_or_none image ≡ true)
RecoveryLeadsTo catalog h rec meta now (p, steps.Busy id at) = (id ≡ meta.id) × (at ≡ meta.prepared_at) × IsUndecided h meta.id × (is_expired at now ≡ false) × (h rec.key ≡ Some rec)
RecoveryLeadsTo catalog h rec meta now (p, steps.Faulted) = Unit {0}
RecoveryLeadsTo catalog h rec meta now (p, steps.BadRecord key) = ⊥
RecoveryLeadsTo catalog h rec meta now (p, steps.NoMemory) = Unit {0}

-- A call of a recovery changes its record and its transaction's row alone, as it may.
pub record RecoversTo (catalog : List Table) (g h : Database) (rec : Record) (meta : Meta) (now : ℤ) (next : RecoverPhase × RecoverStep) : Type 0 where
  pub resolves : OnlyResolves catalog g h
  pub others : (k : Key) → is_listed catalog k ≡ true → k ≢ rec.key → h k ≡ g k
  pub leads_to : RecoveryLeadsTo catalog h rec meta now next
