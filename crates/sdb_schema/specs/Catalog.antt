-- Catalogs: tables in the order of their names.
use Rattle.std.specs.Prelude.{Bool, true, ◌&&◌, if◌then◌else◌, nat_le, List, [], ◌∷◌, length, find, Option}
use Rattle.std.specs.List.{list_all, list_any}
use Rattle.std.specs.Ordering.{is_lt, is_eq}
use Rattle.sdb_types.specs.declared.key.TableName.{TableName}
use Rattle.sdb_types.specs.Order.{table_cmp}
use Rattle.sdb_schema.specs.declared.table.Table.{Table}
use Rattle.sdb_schema.specs.Table.{is_table}

abbrev pub is_called : TableName → Table → Bool
is_called name t = is_eq (table_cmp t.name name)

-- the table of a name, if there is one
abbrev pub table_named : List Table → TableName → Option Table
table_named ts name = find (is_called name) ts

abbrev pub has_table : List Table → TableName → Bool
has_table ts name = list_any (is_called name) ts

-- the tables with one more, in its place
abbrev pub with_table : Table → List Table → List Table
with_table t [] = t ∷ []
with_table t (u ∷ us) = if is_lt (table_cmp u.name t.name) then u ∷ with_table t us else t ∷ u ∷ us

abbrev pub is_above_name : TableName → List Table → Bool
is_above_name name [] = true
is_above_name name (t ∷ ts) = is_lt (table_cmp name t.name)

abbrev pub rises : List Table → Bool
rises [] = true
rises (t ∷ ts) = is_above_name t.name ts && rises ts

-- At most 64 tables, whose names rise strictly.
abbrev pub is_catalog : List Table → Bool
is_catalog ts = rises ts && (nat_le (length ts) 64 && list_all is_table ts)
