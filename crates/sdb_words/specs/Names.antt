-- The names of tables among the words of the program.
use Rattle.std.specs.Prelude.{◌≡◌, ℕ, true, ◌∷◌, ◌++◌, List}
use Rattle.sdb_types.specs.declared.key.TableName.{TableName}
use Rattle.sdb_record.specs.Parts.{is_column_name}

-- Both are identifiers of at most 64 bytes.
abbrev pub IsTable : TableName → Type 0
IsTable t = (is_column_name t.ns ≡ true) × (is_column_name t.table ≡ true)
