-- A table that is named, with its value.
use Rattle.std.specs.Prelude.{◌≡◌, Option, Some}
use Rattle.sdb_types.specs.declared.key.TableName.{TableName}
use Rattle.sdb_schema.specs.declared.make.TableRefused.{TableRefused}
use Rattle.serde_json.specs.Data.{Data}
use Rattle.serde_json.specs.View.{view}
use Rattle.sdb_loader.specs.declared.tables.Named.{Named}
use Rattle.sdb_loader.specs.declared.fault.SchemaFault.{SchemaFault}
use Rattle.sdb_loader.specs.declared.fault.SchemaFault.TheVariants as fault

abbrev pub named_data : Named → TableName × Data
named_data t = (t.name, view t.value.now)

-- the fault of a refused table; out of memory may be returned in its place
abbrev pub IsRefusedAs : Option (TableName × TableRefused) → SchemaFault → Type 0
IsRefusedAs r fault.NotJson = ⊥
IsRefusedAs r fault.NotAnObject = ⊥
IsRefusedAs r (fault.BadTableName text) = ⊥
IsRefusedAs r (fault.NonTransactional table) = ⊥
IsRefusedAs r (fault.BadField table name) = ⊥
IsRefusedAs r (fault.UnknownType table column) = ⊥
IsRefusedAs r (fault.BadTable table refusal) = r ≡ Some (table, refusal)
IsRefusedAs r fault.TooManyTables = ⊥
IsRefusedAs r fault.NoMemory = Unit {0}
