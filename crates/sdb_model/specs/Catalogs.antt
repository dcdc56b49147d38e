-- The tables of a run: those of its script, with the columns that its events add.
use Rattle.std.specs.Prelude.{Bool, ◌&&◌, List, fold, is_none, if◌then◌else◌}
use Rattle.sdb_record.specs.Parts.{is_column_name}
use Rattle.sdb_schema.specs.Added.{column_refused, with_column}
use Rattle.sdb_model.specs.Types.{Column, Table, TableName}
use Rattle.sdb_model.specs.declared.event.Altered.TheVariants as altered
use Rattle.sdb_model.specs.declared.event.Event.{Event}
use Rattle.sdb_model.specs.declared.event.Event.TheVariants as event

-- a catalog takes a column of a table: its name may name a column, and the catalog doesn't refuse it
abbrev pub takes_column : List Table → TableName → Column → Bool
takes_column catalog table c = is_column_name c.name && is_none (column_refused catalog table c)

-- the catalog, with a column more where it takes that
abbrev pub with_added : List Table → TableName → Column → List Table
with_added catalog table c = if takes_column catalog table c then with_column catalog table c else catalog

-- the catalog after an event: only a column that was added changes it
abbrev pub added : List Table → Event → List Table
added catalog (event.Alter table column kind altered.Done) = with_added catalog table (record { name = column; kind = kind })
added catalog e = catalog

-- the catalog after events, of which the first found this one
abbrev pub catalog_after : List Table → List Event → List Table
catalog_after catalog events = fold added catalog events
