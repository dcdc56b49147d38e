-- Where a column is found by its name, among columns in the order of their names.
use Rattle.std.specs.Prelude.{ℕ, suc, if◌then◌else◌, List, [], ◌∷◌, Option, Some, None}
use Rattle.std.specs.Ordering.{is_lt}
use Rattle.sdb_types.specs.Order.{name_cmp}
use Rattle.sdb_record.specs.Names.{same_name}
use Rattle.sdb_schema.specs.declared.table.Column.{Column}

-- how many columns there are before the first whose name isn't smaller
abbrev pub place_in : List ℕ → List Column → ℕ
place_in name [] = 0
place_in name (c ∷ cs) = if is_lt (name_cmp c.name name) then suc (place_in name cs) else 0

-- the first column, where that has the name
abbrev pub first_named : List ℕ → List Column → Option Column
first_named name [] = None
first_named name (c ∷ cs) = if same_name c.name name then Some c else None
