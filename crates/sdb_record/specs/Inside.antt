-- The two parts of a record that hold metadata: its own columns, and the before image that it keeps.
use Rattle.std.specs.Prelude.{ℕ, Bool, false, ◌&&◌, ◌||◌, nat_lt, List, length, Option, Some, None, Result, Ok, Err, find}
use Rattle.std.specs.Option.{option_map}
use Rattle.sdb_record.specs.Types.{Pair, State}
use Rattle.sdb_types.specs.Contents.{tx_id, tx_state}
use Rattle.sdb_record.specs.declared.meta.Meta.{Meta}
use Rattle.sdb_record.specs.declared.part.Part.{Part}
use Rattle.sdb_record.specs.declared.part.Part.TheVariants.{Own, Before}
use Rattle.sdb_record.specs.declared.part.MetaColumn.{MetaColumn}
use Rattle.sdb_record.specs.declared.part.MetaColumn.TheVariants as meta
use Rattle.sdb_record.specs.Names.{tx_version, tx_prepared_at, tx_committed_at, tx_tombstone, before_name, base_name, is_user, is_before}
use Rattle.sdb_record.specs.Parts.{before_part}
use Rattle.sdb_record.specs.Meta.{meta_in, checked_part, any_state, is_committed}

abbrev pub meta_name : MetaColumn → List ℕ
meta_name meta.Id = tx_id
meta_name meta.State = tx_state
meta_name meta.Version = tx_version
meta_name meta.PreparedAt = tx_prepared_at
meta_name meta.CommittedAt = tx_committed_at
meta_name meta.Tombstone = tx_tombstone

-- the name that a record has for a column of a part
abbrev pub name_from : Part → List ℕ → List ℕ
name_from Own name = name
name_from Before name = before_name name

-- the name that a column has in a part, if it is there
abbrev pub name_within : Part → List ℕ → Option (List ℕ)
name_within Own name = Some name
name_within Before name = base_name name

abbrev pub columns_of : Part → List Pair → List Pair
columns_of Own ps = ps
columns_of Before ps = before_part ps

-- the states in which a part may be
abbrev pub allows : Part → State → Bool
allows Own state = any_state state
allows Before state = is_committed state

abbrev pub named_from : Part → Result Meta (List ℕ) → Result Meta (List ℕ)
named_from part (Ok meta) = Ok meta
named_from part (Err name) = Err (name_from part name)

-- The first six checks of a part, and the first eight; a column that fails is named as the record has it.
abbrev pub meta_within : Part → List Pair → Result Meta (List ℕ)
meta_within part ps = named_from part (meta_in (allows part) (columns_of part ps))

abbrev pub checked_within : Part → List Pair → Result Meta (List ℕ)
checked_within part ps = named_from part (checked_part (allows part) (columns_of part ps))

abbrev pub passes_name : (List ℕ → Bool) → Option (List ℕ) → Bool
passes_name test None = false
passes_name test (Some name) = test name

-- a user column where there may be none, or whose name is too long
abbrev pub is_stray_name : Bool → List ℕ → Bool
is_stray_name forbidden name = is_user name && (forbidden || nat_lt 64 (length name))

abbrev pub is_early_name : State → List ℕ → Bool
is_early_name state name = is_committed state && is_before name

-- the first column of a part whose name passes a test, as the record has it
abbrev pub first_within : (List ℕ → Bool) → Part → List Pair → Option (List ℕ)
first_within test part ps = option_map (λ p. name_from part p.name) (find (λ p. test p.name) (columns_of part ps))

-- the same, looked for among the columns of the record
abbrev pub first_of_part : (List ℕ → Bool) → Part → List Pair → Option (List ℕ)
first_of_part test part ps = option_map (λ p. p.name) (find (λ p. passes_name test (name_within part p.name)) ps)
