-- Mentions that a table does not fit.
use Rattle.std.specs.Prelude.{Bool, ◌||◌, List}
use Rattle.std.specs.List.{list_any}
use Rattle.sdb_model.specs.Types.{Table}
use Rattle.sdb_model.specs.declared.statement.Mention.{Mention}
use Rattle.sdb_model.specs.Refused.{is_unknown, is_of_other_kind}

-- the table lacks the column, or has it with another kind than the literal's
abbrev pub is_misfit : Table → Mention → Bool
is_misfit t m = is_unknown t m || is_of_other_kind t m

abbrev pub has_misfit : Table → List Mention → Bool
has_misfit t ms = list_any (is_misfit t) ms
