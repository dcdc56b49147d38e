use Rattle.std.proofs.Common.{◌≡◌, true, take}
use Rattle.std.specs.List.{list_all}
use Rattle.sdb_types.specs.Identifier.{is_name}
use Rattle.sdb_schema.proofs.make.are_identifiers.Given as goal

abbrev pub invariant-loop-column : goal.invariant-loop-column
invariant-loop-column l = list_all (λ c. is_name c.name) (take l.column-index l.columns) ≡ true
