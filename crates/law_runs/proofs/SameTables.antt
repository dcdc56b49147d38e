-- The tables of a catalog to which columns are added, by their names.
use Rattle.std.proofs.Common.{◌≡◌, true, false, cond, List, [], ◌∷◌, None, refl, ◌∙◌}
use Rattle.law_runs.specs.Types.{Event, Table, TableName}
use Rattle.sdb_schema.specs.declared.table.Column.{Column}
use Rattle.sdb_schema.specs.Added.{grown, grown_if, with_column}
use Rattle.sdb_schema.specs.Catalog.{is_called}
use Rattle.sdb_model.specs.declared.event.Altered.TheVariants as altered
use Rattle.sdb_model.specs.declared.event.Event.TheVariants as event
use Rattle.sdb_model.specs.Catalogs.{added, catalog_after, takes_column}
use Rattle.law_runs.specs.Vacuums.{whole_tables}

name_grown : (n : TableName) (c : Column) (t : Table) → (grown_if n c t).name ≡ t.name
name_grown n c t = elim (is_called n t) as (λ b. (cond b (grown t c) t).name ≡ t.name) [ true ↦ refl | false ↦ refl ]

whole_with : (n : TableName) (c : Column) (ts : List Table) → whole_tables (with_column ts n c) ≡ whole_tables ts
whole_with n c [] = refl
whole_with n c (t ∷ ts) = λ i. record { table = name_grown n c t i; partition = None } ∷ whole_with n c ts i

whole_added : (ts : List Table) (e : Event) → whole_tables (added ts e) ≡ whole_tables ts
whole_added ts (event.Alter table column kind altered.Done) =
    elim (takes_column ts table (record { name = column; kind = kind })) as (λ b. whole_tables (cond b (with_column ts table (record { name = column; kind = kind })) ts) ≡ whole_tables ts) [ true ↦ whole_with table (record { name = column; kind = kind }) ts | false ↦ refl ]
whole_added ts (event.Alter table column kind altered.Open) = refl
whole_added ts (event.Alter table column kind (altered.Refused k)) = refl
whole_added ts (event.Take client text answer) = refl
whole_added ts (event.Call client store q how r answer) = refl
whole_added ts (event.Stop client) = refl
whole_added ts (event.Clock moment) = refl
whole_added ts (event.Idle client) = refl
whole_added ts (event.Land number store q how r) = refl

-- they are the same tables, in the same order
pub same_whole : (ts : List Table) (es : List Event) → whole_tables (catalog_after ts es) ≡ whole_tables ts
same_whole ts [] = refl
same_whole ts (e ∷ es) = same_whole (added ts e) es ∙ whole_added ts e
