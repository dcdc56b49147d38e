-- The coordinator's rows, each the one decision on a transaction.
use Rattle.std.specs.Prelude.{ℕ, ℤ, pos, ◌+ℤ◌, int_le, Bool, ◌&&◌, if◌then◌else◌, List, [], ◌∷◌, Option, Some, None, Result, Ok, codes, true, false}
use Rattle.std.specs.Ordering.{int_eq}
use Rattle.sdb_record.specs.Types.{Key, Pair, Record, TableName, TxId, Value}
use Rattle.sdb_types.specs.declared.value.Value.TheVariants as value
use Rattle.sdb_types.specs.Columns.{column}
use Rattle.sdb_types.specs.TxId.{id_text}
use Rattle.sdb_types.specs.Contents.{tx_id, tx_state}
use Rattle.sdb_record.specs.declared.coordinator.Decision.{Decision}
use Rattle.sdb_record.specs.declared.coordinator.Decision.TheVariants as decision
use Rattle.sdb_record.specs.declared.coordinator.Decided.{Decided}
use Rattle.sdb_record.specs.Names.{tx_created_at, same_name}
use Rattle.sdb_record.specs.Ids.{id_of_text}
use Rattle.sdb_record.specs.Meta.{moment_in, need}

-- The table of the coordinator's rows.
abbrev pub coordinator_table : TableName
coordinator_table = record { ns = codes "coordinator"; table = codes "state" }

-- the key of a transaction's row
unfoldable pub coordinator_key_of : TxId → Key
coordinator_key_of id =
    record { table = coordinator_table; partition = value.Text (id_text id.0) ∷ []; clustering = [] }

-- the number of a decision, as `tx_state` has it
abbrev pub decision_number : Decision → ℤ
decision_number decision.Committed = pos 3
decision_number decision.Aborted = pos 4

-- what a transaction's row says of a decision that was made at a moment
abbrev pub decision_columns : Decision → ℤ → List Pair
decision_columns decision created_at =
    record { name = tx_created_at; value = value.BigInt created_at } ∷ record { name = tx_state; value = value.Int (decision_number decision) } ∷ []

-- the row of a decision on a transaction
unfoldable pub coordinator_row_of : TxId → Decision → ℤ → Record
coordinator_row_of id decision created_at =
    record { key = coordinator_key_of id; columns = decision_columns decision created_at }

abbrev pub id_in_values : List Value → Option TxId
id_in_values (value.Text text ∷ []) = id_of_text text
id_in_values _ = None

abbrev pub if_empty : {A : Type 0} → List Value → Option A → Option A
if_empty [] o = o
if_empty (v ∷ vs) o = None

abbrev pub is_coordinator_table : TableName → Bool
is_coordinator_table t = same_name t.ns coordinator_table.ns && same_name t.table coordinator_table.table

-- the transaction whose row has this key
unfoldable pub id_of_key : Key → Option TxId
id_of_key key =
    if is_coordinator_table key.table then if_empty key.clustering (id_in_values key.partition) else None

abbrev pub numbered_decision : ℤ → Option Decision
numbered_decision n =
    if int_eq n (pos 3) then Some decision.Committed else if int_eq n (pos 4) then Some decision.Aborted else None

abbrev pub decision_in_value : Option Value → Option Decision
decision_in_value (Some (value.Int n)) = numbered_decision n
decision_in_value _ = None

-- The decision that a coordinator row records, or the first column that fails: the key is that of a transaction's row,
-- `tx_created_at` is a moment, and `tx_state` is an INT, 3 or 4. Further columns have no effect.
unfoldable pub decision_in : Record → Result Decided (List ℕ)
decision_in r =
    need (id_of_key r.key) tx_id (λ id.
    need (moment_in r.columns tx_created_at) tx_created_at (λ created_at.
    need (decision_in_value (column r.columns tx_state)) tx_state (λ decision.
    Ok (record { decision = decision; created_at = created_at }))))

-- A record that no row decides may be given up 15 seconds after it was prepared.
abbrev pub is_expired : ℤ → ℤ → Bool
is_expired prepared_at now = int_le (prepared_at +ℤ pos 15000) now

abbrev pub same_decision : Decision → Decision → Bool
same_decision decision.Committed decision.Committed = true
same_decision decision.Committed decision.Aborted = false
same_decision decision.Aborted decision.Committed = false
same_decision decision.Aborted decision.Aborted = true
