-- The metadata of a transactional record: nine checks in their order, and the first column that fails.
use Rattle.std.specs.Prelude.{ℕ, ℤ, pos, int_le, Bool, true, false, not, ◌&&◌, ◌||◌, if◌then◌else◌, nat_lt, List, length, Option, Some, None, Result, Ok, Err, is_ok, find}
use Rattle.std.specs.Ordering.{int_eq}
use Rattle.std.specs.List.{list_any, list_all}
use Rattle.sdb_record.specs.Types.{Pair, Record, State, TxId, Value}
use Rattle.sdb_types.specs.declared.value.Value.TheVariants as value
use Rattle.sdb_types.specs.declared.record.State.TheVariants.{Prepared, Deleted, Committed, Aborted}
use Rattle.sdb_types.specs.Columns.{column}
use Rattle.sdb_types.specs.Identifier.{is_identifier}
use Rattle.sdb_types.specs.Contents.{tx_id, tx_state, state_number, has_value}
use Rattle.sdb_record.specs.declared.meta.Meta.{Meta}
use Rattle.sdb_record.specs.Names.{tx_version, tx_prepared_at, tx_committed_at, tx_tombstone, before_name, base_name}
use Rattle.sdb_record.specs.Parts.{before_part, is_user_pair, is_before_pair, are_stored}
use Rattle.sdb_record.specs.Ids.{id_of_text}

---- what single columns say

-- milliseconds, from 0 to 2^53
abbrev pub is_moment : ℤ → Bool
is_moment n = int_le (pos 0) n && int_le n (pos 9007199254740992)

abbrev pub id_in_value : Option Value → Option TxId
id_in_value (Some (value.Text text)) = id_of_text text
id_in_value _ = None

-- the transaction that wrote a record
abbrev pub id_in : List Pair → Option TxId
id_in ps = id_in_value (column ps tx_id)

abbrev pub numbered_state : ℤ → Option State
numbered_state n =
    if int_eq n (pos 1) then Some Prepared
    else if int_eq n (pos 2) then Some Deleted
    else if int_eq n (pos 3) then Some Committed
    else None

abbrev pub state_in_value : Option Value → Option State
state_in_value (Some (value.Int n)) = numbered_state n
state_in_value _ = None

abbrev pub state_in : List Pair → Option State
state_in ps = state_in_value (column ps tx_state)

-- A record is in a state: its `tx_state` is the state's number.
abbrev pub is_in : State → List Pair → Bool
is_in state ps = has_value (column ps tx_state) (value.Int (state_number state))

abbrev pub is_committed : State → Bool
is_committed Prepared = false
is_committed Deleted = false
is_committed Committed = true
is_committed Aborted = false

abbrev pub is_deleted : State → Bool
is_deleted Prepared = false
is_deleted Deleted = true
is_deleted Committed = false
is_deleted Aborted = false

abbrev pub version_in_value : Option Value → Option ℤ
version_in_value (Some (value.Int n)) = if int_le (pos 1) n then Some n else None
version_in_value _ = None

-- how often the row was written
abbrev pub version_in : List Pair → Option ℤ
version_in ps = version_in_value (column ps tx_version)

abbrev pub moment_in_value : Option Value → Option ℤ
moment_in_value (Some (value.BigInt n)) = if is_moment n then Some n else None
moment_in_value _ = None

abbrev pub moment_in : List Pair → List ℕ → Option ℤ
moment_in ps name = moment_in_value (column ps name)

abbrev pub present : Option ℤ → Option (Option ℤ)
present None = None
present (Some n) = Some (Some n)

abbrev pub absent : Option Value → Option (Option ℤ)
absent None = Some None
absent (Some v) = None

abbrev pub committed_at_by : State → Option Value → Option (Option ℤ)
committed_at_by state v = if is_committed state then present (moment_in_value v) else absent v

-- When the record was committed: a moment in state 3, and no column in states 1 and 2. None where the column is of
-- neither form.
abbrev pub committed_at_in : State → List Pair → Option (Option ℤ)
committed_at_in state ps = committed_at_by state (column ps tx_committed_at)

abbrev pub tombstone_in_value : Bool → Option Value → Option Bool
tombstone_in_value committed None = Some false
tombstone_in_value committed (Some (value.Bool true)) = if committed then Some true else None
tombstone_in_value committed (Some _) = None

-- Whether the record is a tombstone: no column, or TRUE in state 3. None where the column is of neither form.
abbrev pub tombstone_in : State → List Pair → Option Bool
tombstone_in state ps = tombstone_in_value (is_committed state) (column ps tx_tombstone)

---- the checks

-- go on with what is there, or name the column that fails
abbrev pub need : {A B : Type 0} → Option A → List ℕ → (A → Result B (List ℕ)) → Result B (List ℕ)
need None name next = Err name
need (Some x) name next = next x

-- name the column that was found, or go on
abbrev pub refuse : {B : Type 0} → Option Pair → Result B (List ℕ) → Result B (List ℕ)
refuse None next = next
refuse (Some p) next = Err p.name

abbrev pub then_check : {A B : Type 0} → Result A (List ℕ) → (A → Result B (List ℕ)) → Result B (List ℕ)
then_check (Ok x) next = next x
then_check (Err name) next = Err name

abbrev pub only_if : {A : Type 0} → (A → Bool) → Option A → Option A
only_if test None = None
only_if test (Some x) = if test x then Some x else None

-- a user column where there may be none, or whose name is too long
abbrev pub is_stray : State → Bool → Pair → Bool
is_stray state tombstone p =
    is_user_pair p && ((is_deleted state || tombstone) || nat_lt 64 (length p.name))

-- a column of a before image where there may be none
abbrev pub is_early : State → Pair → Bool
is_early state p = is_committed state && is_before_pair p

-- The first six checks, of columns whose state is one of those allowed: what the metadata columns say.
unfoldable pub meta_in : (State → Bool) → List Pair → Result Meta (List ℕ)
meta_in allowed ps =
    need (id_in ps) tx_id (λ id.
    need (only_if allowed (state_in ps)) tx_state (λ state.
    need (version_in ps) tx_version (λ version.
    need (moment_in ps tx_prepared_at) tx_prepared_at (λ prepared_at.
    need (committed_at_in state ps) tx_committed_at (λ committed_at.
    need (tombstone_in state ps) tx_tombstone (λ tombstone.
    Ok (record { id = id; state = state; version = version; prepared_at = prepared_at; committed_at = committed_at; tombstone = tombstone; has_before = false })))))))

-- the seventh and the eighth check
abbrev pub checked_columns : List Pair → Meta → Result Meta (List ℕ)
checked_columns ps meta =
    refuse (find (is_stray meta.state meta.tombstone) ps) (refuse (find (is_early meta.state) ps) (Ok meta))

-- The first eight checks.
abbrev pub checked_part : (State → Bool) → List Pair → Result Meta (List ℕ)
checked_part allowed ps = then_check (meta_in allowed ps) (checked_columns ps)

abbrev pub is_badly_named : Option (List ℕ) → Bool
is_badly_named None = false
is_badly_named (Some name) = not (is_identifier name)

-- a column of a before image whose name keeps no identifier
abbrev pub is_misnamed : Pair → Bool
is_misnamed p = is_badly_named (base_name p.name)

-- whether each column of a before image keeps an identifier
abbrev pub have_identifiers : List Pair → Bool
have_identifiers ps = list_all (λ p. not (is_misnamed p)) ps

-- a before image keeps a committed record; a column of it that fails is named as it is kept
abbrev pub with_before : Meta → Result Meta (List ℕ) → Result Meta (List ℕ)
with_before meta (Ok base) = Ok (record meta { has_before = true })
with_before meta (Err name) = Err (before_name name)

-- the ninth check
abbrev pub checked_before : List Pair → Meta → Result Meta (List ℕ)
checked_before ps meta =
    if list_any is_before_pair ps then refuse (find is_misnamed ps) (with_before meta (checked_part is_committed (before_part ps)))
    else Ok meta

abbrev pub any_state : State → Bool
any_state state = true

-- The metadata of a record, or the first column that fails:
--  1. `tx_id` is the text of an id;
--  2. `tx_state` is an INT, 1, 2 or 3;
--  3. `tx_version` is an INT from 1 on;
--  4. `tx_prepared_at` is a moment;
--  5. `tx_committed_at` is a moment in state 3, and absent in states 1 and 2;
--  6. `tx_tombstone` is absent, or TRUE in state 3;
--  7. in state 2 and in a tombstone there is no user column, and nowhere one whose name has more than 64 bytes;
--  8. in state 3 there is no before image;
--  9. the columns of a before image keep identifiers, and without their prefix pass 1 to 8 in state 3.
unfoldable pub checked : List Pair → Result Meta (List ℕ)
checked ps = then_check (checked_part any_state ps) (checked_before ps)

-- A transactional record: columns as a record holds them, which pass the checks.
abbrev pub is_transactional : Record → Bool
is_transactional r = are_stored r.columns && is_ok (checked r.columns)

-- a transactional record in state 1 or 2
abbrev pub is_unresolved : Record → Bool
is_unresolved r = is_transactional r && not (is_in Committed r.columns)
