-- The names of a record's columns: the six metadata columns, those of the before image, and the user's own.
use Rattle.std.specs.Prelude.{ℕ, Bool, not, ◌&&◌, ◌||◌, List, ◌++◌, Option, is_some, codes}
use Rattle.std.specs.Ordering.{is_eq}
use Rattle.sdb_types.specs.Order.{name_cmp}
use Rattle.sdb_types.specs.Contents.{tx_id, tx_state}
use Rattle.sdb_types.specs.NameText.{before_prefix, after_front}

abbrev pub tx_version : List ℕ
tx_version = codes "tx_version"

abbrev pub tx_prepared_at : List ℕ
tx_prepared_at = codes "tx_prepared_at"

abbrev pub tx_committed_at : List ℕ
tx_committed_at = codes "tx_committed_at"

abbrev pub tx_tombstone : List ℕ
tx_tombstone = codes "tx_tombstone"

-- the column of a coordinator row that says when it was made
abbrev pub tx_created_at : List ℕ
tx_created_at = codes "tx_created_at"

-- the name under which a column of the base is kept
abbrev pub before_name : List ℕ → List ℕ
before_name name = before_prefix ++ name

-- the name of the base's column that is kept under this name, or none where it is no column of a before image
unfoldable pub base_name : List ℕ → Option (List ℕ)
base_name name = after_front before_prefix name

abbrev pub is_before : List ℕ → Bool
is_before name = is_some (base_name name)

abbrev pub same_name : List ℕ → List ℕ → Bool
same_name a b = is_eq (name_cmp a b)

-- whether it names one of the six metadata columns
unfoldable pub is_meta : List ℕ → Bool
is_meta name =
    same_name name tx_id || (same_name name tx_state || (same_name name tx_version || (same_name name tx_prepared_at || (same_name name tx_committed_at || same_name name tx_tombstone))))

-- whether it names a user column: neither metadata, nor of a before image
abbrev pub is_user : List ℕ → Bool
is_user name = not (is_meta name) && not (is_before name)
