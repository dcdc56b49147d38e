-- Mentions in the order of their names.
use Rattle.std.specs.Prelude.{Bool, true, ◌&&◌, List, [], ◌∷◌}
use Rattle.std.specs.Ordering.{is_lt}
use Rattle.sdb_types.specs.Order.{name_cmp}
use Rattle.sdb_model.specs.declared.statement.Mention.{Mention}
use Rattle.sdb_model.specs.Rows.{Name}

-- the first has a greater name
abbrev pub starts_above : Name → List Mention → Bool
starts_above name [] = true
starts_above name (m ∷ ms) = is_lt (name_cmp name m.name)

-- names that rise strictly
abbrev pub names_rise : List Mention → Bool
names_rise [] = true
names_rise (m ∷ ms) = starts_above m.name ms && names_rise ms
