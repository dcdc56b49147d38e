-- The parts of a record's columns: the user's, and the before image.
use Rattle.std.specs.Prelude.{ℕ, Bool, not, ◌&&◌, nat_le, List, [], ◌∷◌, length, filter, Option, Some, None}
use Rattle.std.specs.Option.{option_map}
use Rattle.std.specs.List.{list_all, filter_map}
use Rattle.sdb_record.specs.Types.{Key, Pair, Record}
use Rattle.sdb_types.specs.Columns.{with_column, are_columns}
use Rattle.sdb_types.specs.Identifier.{is_name, is_identifier}
use Rattle.sdb_record.specs.Names.{before_name, base_name, is_before, is_user}

-- the columns with each of these set, in order
abbrev pub with_columns : List Pair → List Pair → List Pair
with_columns [] columns = columns
with_columns (p ∷ ps) columns = with_columns ps (with_column p columns)

abbrev pub is_user_pair : Pair → Bool
is_user_pair p = is_user p.name

abbrev pub is_before_pair : Pair → Bool
is_before_pair p = is_before p.name

-- the user columns
abbrev pub user_columns : List Pair → List Pair
user_columns ps = filter is_user_pair ps

-- the columns outside the before image
abbrev pub own_columns : List Pair → List Pair
own_columns ps = filter (λ p. not (is_before_pair p)) ps

-- a column of the base as it is kept
abbrev pub before_pair : Pair → Pair
before_pair p = record { name = before_name p.name; value = p.value }

-- the column of the base that is kept in this one
abbrev pub base_pair : Pair → Option Pair
base_pair p = option_map (λ name. record { name = name; value = p.value }) (base_name p.name)

-- the before image: the columns of the base that are kept
abbrev pub before_part : List Pair → List Pair
before_part ps = filter_map base_pair ps

-- Columns as a record holds them: in the order of their names, none NULL, and each with a name.
abbrev pub are_stored : List Pair → Bool
are_stored ps = are_columns ps && list_all (λ p. is_name p.name) ps

-- an identifier of at most 64 bytes
abbrev pub is_column_name : List ℕ → Bool
is_column_name name = nat_le (length name) 64 && is_identifier name

-- These columns are user columns alone, each with a name of at most 64 bytes.
abbrev pub are_user_columns : List Pair → Bool
are_user_columns ps = list_all (λ p. is_user_pair p && is_column_name p.name) ps

abbrev pub record_with : Key → List Pair → Option Record
record_with key [] = None
record_with key (p ∷ ps) = Some (record { key = key; columns = p ∷ ps })

-- the record that a before image keeps, or none where there is no before image
unfoldable pub before_record : Record → Option Record
before_record r = record_with r.key (before_part r.columns)

-- each name leaves room for the prefix
abbrev pub are_short : List Pair → Bool
are_short ps = list_all (λ p. nat_le (length p.name) 64) ps
