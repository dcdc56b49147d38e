-- What a write leaves unresolved, what that is rolled to, and the committed image of a record.
use Rattle.std.specs.Prelude.{◌&&◌, ◌≡◌, ℤ, pos, ◌+ℤ◌, Bool, true, false, if◌then◌else◌, List, [], ◌∷◌, ◌++◌, map, Option, Some, None, IfSome}
use Rattle.std.specs.Int.{int_min}
use Rattle.sdb_record.specs.Types.{Condition, Key, Pair, Record, Request, State, TxId, Value}
use Rattle.sdb_types.specs.declared.value.Value.TheVariants as value
use Rattle.sdb_types.specs.declared.record.State.TheVariants as state
use Rattle.sdb_types.specs.Columns.{column, are_columns}
use Rattle.sdb_types.specs.TxId.{id_text}
use Rattle.sdb_types.specs.Contents.{tx_id, tx_state, state_number, has_value}
use Rattle.sdb_record.specs.declared.write.Change.{Change}
use Rattle.sdb_record.specs.declared.write.Change.TheVariants as change
use Rattle.sdb_record.specs.declared.write.Write.{Write}
use Rattle.sdb_record.specs.declared.roll.Back.{Back}
use Rattle.sdb_record.specs.declared.roll.Back.TheVariants as back
use Rattle.sdb_record.specs.declared.coordinator.Decision.TheVariants as decision
use Rattle.sdb_record.specs.declared.coordinator.Decided.{Decided}
use Rattle.sdb_record.specs.Names.{tx_version, tx_prepared_at, tx_committed_at, tx_tombstone}
use Rattle.sdb_record.specs.Parts.{with_columns, before_pair, own_columns, user_columns, are_user_columns, before_record}
use Rattle.sdb_record.specs.Meta.{is_in, is_transactional, id_in}
use Rattle.std.specs.List.{AllByRecursion}
use Rattle.std.specs.Option.{option_map}
use Rattle.sdb_types.specs.declared.record.Request.TheVariants as ask
use Rattle.sdb_types.specs.declared.record.Condition.TheVariants as condition

---- prepared

-- the user columns of a change
abbrev pub new_columns : Change → List Pair
new_columns (change.Row columns) = columns
new_columns change.Delete = []

-- the state of what a change leaves
abbrev pub state_of_change : Change → State
state_of_change (change.Row columns) = state.Prepared
state_of_change change.Delete = state.Deleted

abbrev pub base_columns : Option Record → List Pair
base_columns None = []
base_columns (Some r) = r.columns

abbrev pub next_version_of : Option Value → ℤ
next_version_of (Some (value.Int n)) = int_min (n +ℤ pos 1) (pos 2147483647)
next_version_of _ = pos 1

-- one more than the base's version, but no more than an INT holds; 1 where there is no base
abbrev pub next_version : Option Record → ℤ
next_version base = next_version_of (column (base_columns base) tx_version)

-- who wrote a record, and its state
abbrev pub writer_columns : TxId → State → List Pair
writer_columns id state =
    record { name = tx_id; value = value.Text (id_text id.0) } ∷ record { name = tx_state; value = value.Int (state_number state) } ∷ []

-- how often the row was written, and when this time
abbrev pub age_columns : ℤ → ℤ → List Pair
age_columns version prepared_at =
    record { name = tx_version; value = value.Int version } ∷ record { name = tx_prepared_at; value = value.BigInt prepared_at } ∷ []

-- the metadata of what a transaction leaves unresolved
abbrev pub new_meta : Write → TxId → ℤ → List Pair
new_meta w id now = writer_columns id (state_of_change w.change) ++ age_columns (next_version w.base) now

-- The record that a transaction puts for a write: the new row, each column of the base as it is kept, and the metadata.
unfoldable pub prepared_record : Write → TxId → ℤ → Record
prepared_record w id now =
    record { key = w.key; columns = with_columns (new_meta w id now) (with_columns (map before_pair (base_columns w.base)) (new_columns w.change)) }

-- A base is a committed record of the key.
abbrev pub IsBaseOf : Key → Record → Type 0
IsBaseOf key base = (base.key ≡ key) × (is_transactional base ≡ true) × (is_in state.Committed base.columns ≡ true)

-- each is a committed record
abbrev pub AreCommitted : List Record → Type 0
AreCommitted rs = AllByRecursion (λ r. IsBaseOf r.key r) rs

-- a row holds user columns alone
abbrev pub is_change : Change → Bool
is_change (change.Row columns) = are_columns columns && are_user_columns columns
is_change change.Delete = true

-- a write that a transaction may prepare
pub record IsWrite (w : Write) : Type 0 where
  pub base : IfSome w.base (IsBaseOf w.key)
  pub change : is_change w.change ≡ true

---- rolled

abbrev pub tombstone_mark : Bool → List Pair
tombstone_mark true = record { name = tx_tombstone; value = value.Bool true } ∷ []
tombstone_mark false = []

-- columns in state 3, committed at a moment, and those of a tombstone where the row was deleted
abbrev pub with_committed : Bool → ℤ → List Pair → List Pair
with_committed deleted created_at ps =
    with_columns (tombstone_mark deleted) (with_columns (record { name = tx_state; value = value.Int (state_number state.Committed) } ∷ record { name = tx_committed_at; value = value.BigInt created_at } ∷ []) ps)

abbrev pub forward_columns : List Pair → ℤ → List Pair
forward_columns ps created_at = with_committed (is_in state.Deleted ps) created_at (own_columns ps)

abbrev pub deletes : Change → Bool
deletes (change.Row columns) = false
deletes change.Delete = true

-- An unresolved record rolled forward: without its before image, in state 3, committed at the moment of the coordinator's
-- row, and a tombstone where it was in state 2.
unfoldable pub forward_record : Record → ℤ → Record
forward_record r created_at = record { key = r.key; columns = forward_columns r.columns created_at }

abbrev pub back_to : Key → Option Record → Back
back_to key None = back.Remove key
back_to key (Some base) = back.Put base

-- An unresolved record rolled back: its before image is put, or it is removed where it has none.
abbrev pub back_of : Record → Back
back_of r = back_to r.key (before_record r)

-- what was there before is put again, or the record is removed where there was none
abbrev pub undo : Condition → Key → Option Record → Request
undo condition key None = ask.DeleteIf key condition
undo condition key (Some base) = ask.PutIf base condition

---- the committed image

abbrev pub image_under : Record → Option Decided → Option Record
image_under r None = before_record r
image_under r (Some d) = elim d.decision [ decision.Committed ↦ Some (forward_record r d.created_at) | decision.Aborted ↦ before_record r ]

-- The committed record that a record means, under the coordinator's row of its transaction: itself in state 3, else
-- itself rolled forward where the row is COMMITTED, else its before image, or none. A tombstone means itself.
abbrev pub image_of : Record → Option Decided → Option Record
image_of r decided = if is_in state.Committed r.columns then Some r else image_under r decided

abbrev pub is_tombstone : Record → Bool
is_tombstone r = has_value (column r.columns tx_tombstone) (value.Bool true)

-- a tombstone is deleted on condition that it is still there
abbrev pub remove_request : Record → Option Request
remove_request b = option_map (λ id. ask.DeleteIf b.key (condition.Version id state.Committed)) (id_in b.columns)

-- the row that a committed record shows: its user columns; a tombstone is no row
abbrev pub row_of_image : Record → Option (List Pair)
row_of_image r = if is_tombstone r then None else Some (user_columns r.columns)

abbrev pub row_of_change : Change → Option (List Pair)
row_of_change (change.Row columns) = Some columns
row_of_change change.Delete = None
