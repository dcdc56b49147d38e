-- What the laws of records speak of.
use Rattle.std.specs.Prelude.{◌≡◌, ◌<◌, ◌^◌, ℤ, Option, None, Some, IfSome, false, true, is_some}
use Rattle.sdb_record.specs.Types.{Record, TxId}
use Rattle.sdb_record.specs.declared.coordinator.Decided.{Decided}
use Rattle.sdb_record.specs.declared.coordinator.Decision.{Decision}
use Rattle.sdb_record.specs.declared.meta.Meta.{Meta}
use Rattle.sdb_record.specs.declared.write.Write.{Write}
use Rattle.sdb_record.specs.Coordinator.{coordinator_row_of}
use Rattle.sdb_record.specs.Meta.{is_moment, is_transactional}
use Rattle.sdb_record.specs.Rolls.{IsWrite, forward_record, image_of, next_version, prepared_record, state_of_change}

---- prepared

-- A write that a transaction prepares, the transaction's id and the moment.
pub record PreparedWrite : Type 0 where
  pub write : Write
  pub id : TxId
  pub now : ℤ

-- It is a write that may be prepared. The id has 128 bits, and the moment is from 0 to 2^53.
pub record IsPreparable (p : PreparedWrite) : Type 0 where
  pub write : IsWrite p.write
  pub id : p.id.0 < 2 ^ 128
  pub now : is_moment p.now ≡ true

-- the record that the transaction puts for it
abbrev pub record_put : PreparedWrite → Record
record_put p = prepared_record p.write p.id p.now

-- the metadata of that record
abbrev pub meta_put : PreparedWrite → Meta
meta_put p =
    record { id = p.id; state = state_of_change p.write.change; version = next_version p.write.base; prepared_at = p.now; committed_at = None; tombstone = false; has_before = is_some p.write.base }

-- that record rolled forward, as committed at a moment
abbrev pub forwarded : PreparedWrite → ℤ → Record
forwarded p created_at = forward_record (record_put p) created_at

---- images

-- A transactional record, the decision on its transaction if there is one, and the record's image under it.
pub record TransactionalImage : Type 0 where
  pub found : Record
  pub image : Record
  pub decided : Option Decided
  pub accepted : is_transactional found ≡ true
  pub moment : IfSome decided (λ d. is_moment d.created_at ≡ true)
  pub is_image : image_of found decided ≡ Some image

---- decisions

-- a decision and its moment
abbrev pub decided_at : Decision → ℤ → Decided
decided_at d created_at = record { decision = d; created_at = created_at }

-- A decision on a transaction. The id has 128 bits, and the moment is from 0 to 2^53.
pub record DecisionMade : Type 0 where
  pub id : TxId
  pub decision : Decision
  pub created_at : ℤ
  pub fits : id.0 < 2 ^ 128
  pub moment : is_moment created_at ≡ true

-- the coordinator row of it
abbrev pub row_made : DecisionMade → Record
row_made m = coordinator_row_of m.id m.decision m.created_at
