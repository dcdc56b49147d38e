-- What stays of a catalog to which columns are added.
use Rattle.std.proofs.Common.{◌≡◌, ℕ, Bool, true, false, cond, List, [], ◌∷◌, ◌++◌, Option, Some, None, refl, sym, ap, ◌∙◌}
use Rattle.std.specs.Prelude.{◌&&◌, find, is_none, is_some, nat_le, length}
use Rattle.std.specs.Option.{option_map, option_map_or}
use Rattle.std.proofs.lemmas.List.{length-map}
use Rattle.std.specs.Ordering.{is_eq}
use Rattle.sdb_types.specs.Identifier.{is_identifier}
use Rattle.sdb_types.specs.Order.{table_cmp}
use Rattle.sdb_types.proofs.Public.{and_first, and_second, by_test, none_some}
use Rattle.sdb_record.specs.Parts.{is_column_name}
use Rattle.sdb_record.proofs.Public.{name_of_column}
use Rattle.sdb_schema.specs.Added.{column_refused, column_refused_by, grown, grown_if, with_column}
use Rattle.sdb_schema.specs.Catalog.{is_called, is_catalog, table_named}
use Rattle.sdb_schema.specs.Table.{is_table}
use Rattle.sdb_schema.proofs.Public.{grown_is_catalog, grown_is_table}
use Rattle.sdb_model.specs.Types.{Column, Table, TableName}
use Rattle.sdb_model.specs.declared.event.Altered.TheVariants as altered
use Rattle.sdb_model.specs.declared.event.Event.{Event}
use Rattle.sdb_model.specs.declared.event.Event.TheVariants as event
use Rattle.sdb_model.specs.Catalogs.{added, catalog_after, takes_column, with_added}
use Rattle.sdb_model.specs.Exec.{find_table}

-- the table of a name, with the column where it is that table
pub find_with : (ts : List Table) (n : TableName) (c : Column) (name : TableName) → find_table (with_column ts n c) name ≡ option_map (grown_if n c) (find_table ts name)
find_with [] n c name = refl
find_with (t ∷ ts) n c name =
    ap (λ (b : Bool). cond b (Some (grown_if n c t)) (find_table (with_column ts n c) name)) called
    ∙ elim (is_eq (table_cmp t.name name)) as (λ b. cond b (Some (grown_if n c t)) (find_table (with_column ts n c) name) ≡ option_map (grown_if n c) (cond b (Some t) (find_table ts name))) [
      | true ↦ refl
      | false ↦ find_with ts n c name
    ]
  where
    called : is_eq (table_cmp (grown_if n c t).name name) ≡ is_eq (table_cmp t.name name)
    called = elim (is_called n t) as (λ b. is_eq (table_cmp (cond b (grown t c) t).name name) ≡ is_eq (table_cmp t.name name)) [ true ↦ refl | false ↦ refl ]

some_mapped : {A B : Type 0} (f : A → B) (o : Option A) → is_some (option_map f o) ≡ is_some o
some_mapped f None = refl
some_mapped f (Some a) = refl

-- A table that is added to stays one, and so does the catalog.
refused_none : (ts : List Table) (n : TableName) (c : Column) → column_refused ts n c ≡ None → (t : Table) × (table_named ts n ≡ Some t) × (column_refused_by t c ≡ None)
refused_none ts n c h = by (table_named ts n) refl h
  where
    by : (o : Option Table) → table_named ts n ≡ o → option_map_or (λ (t : Table). column_refused_by t c) o (Some 1) ≡ None → (t : Table) × (table_named ts n ≡ Some t) × (column_refused_by t c ≡ None)
    by None e k = none_some 1 (sym k)
    by (Some t) e k = (t, e, k)

none_of : {A : Type 0} (o : Option A) → is_none o ≡ true → o ≡ None
none_of None h = refl
none_of (Some a) h = absurd (cc)

-- where a catalog takes a column, its table does
pub taken_by : (ts : List Table) (n : TableName) (c : Column) → takes_column ts n c ≡ true → (t : Table) × (table_named ts n ≡ Some t) × (column_refused_by t c ≡ None)
taken_by ts n c h = refused_none ts n c (none_of (column_refused ts n c) (and_second (is_column_name c.name) (is_none (column_refused ts n c)) h))

with_added_is : (ts : List Table) (n : TableName) (c : Column) → is_catalog ts ≡ true → is_catalog (with_added ts n c) ≡ true
with_added_is ts n c h = by_test (takes_column ts n c) (λ k. ap (λ (b : Bool). is_catalog (cond b (with_column ts n c) ts)) k ∙ takes k) (λ k. ap (λ (b : Bool). is_catalog (cond b (with_column ts n c) ts)) k ∙ h)
  where
    takes : takes_column ts n c ≡ true → is_catalog (with_column ts n c) ≡ true
    takes k =
        let t = taken_by ts n c k in
        let name = and_first (is_column_name c.name) (is_none (column_refused ts n c)) k in
        grown_is_catalog n c ts t.0 h t.1 (λ table. grown_is_table t.0 c table t.2 (and_first (nat_le (length c.name) 64) (is_identifier c.name) name) (name_of_column c.name name))

same_with_added : (ts : List Table) (n : TableName) (c : Column) (name : TableName) → is_some (find_table (with_added ts n c) name) ≡ is_some (find_table ts name)
same_with_added ts n c name = elim (takes_column ts n c) as (λ b. is_some (find_table (cond b (with_column ts n c) ts) name) ≡ is_some (find_table ts name)) [
  | true ↦ ap (λ (o : Option Table). is_some o) (find_with ts n c name) ∙ some_mapped (grown_if n c) (find_table ts name)
  | false ↦ refl
]

---- events

added_is : (ts : List Table) (e : Event) → is_catalog ts ≡ true → is_catalog (added ts e) ≡ true
added_is ts (event.Alter table column kind altered.Done) h = with_added_is ts table (record { name = column; kind = kind }) h
added_is ts (event.Alter table column kind altered.Open) h = h
added_is ts (event.Alter table column kind (altered.Refused k)) h = h
added_is ts (event.Take client text answer) h = h
added_is ts (event.Call client store q how r answer) h = h
added_is ts (event.Stop client) h = h
added_is ts (event.Clock moment) h = h
added_is ts (event.Idle client) h = h
added_is ts (event.Land number store q how r) h = h

same_added : (ts : List Table) (e : Event) (name : TableName) → is_some (find_table (added ts e) name) ≡ is_some (find_table ts name)
same_added ts (event.Alter table column kind altered.Done) name = same_with_added ts table (record { name = column; kind = kind }) name
same_added ts (event.Alter table column kind altered.Open) name = refl
same_added ts (event.Alter table column kind (altered.Refused k)) name = refl
same_added ts (event.Take client text answer) name = refl
same_added ts (event.Call client store q how r answer) name = refl
same_added ts (event.Stop client) name = refl
same_added ts (event.Clock moment) name = refl
same_added ts (event.Idle client) name = refl
same_added ts (event.Land number store q how r) name = refl

-- A catalog stays one whatever the events.
pub after_is : (ts : List Table) (es : List Event) → is_catalog ts ≡ true → is_catalog (catalog_after ts es) ≡ true
after_is ts [] h = h
after_is ts (e ∷ es) h = after_is (added ts e) es (added_is ts e h)

-- No event adds a table, or removes one.
pub same_tables : (ts : List Table) (es : List Event) (name : TableName) → is_some (find_table (catalog_after ts es) name) ≡ is_some (find_table ts name)
same_tables ts [] name = refl
same_tables ts (e ∷ es) name = same_tables (added ts e) es name ∙ same_added ts e name

same_size : (ts : List Table) (n : TableName) (c : Column) → length (with_added ts n c) ≡ length ts
same_size ts n c = elim (takes_column ts n c) as (λ b. length (cond b (with_column ts n c) ts) ≡ length ts) [ true ↦ length-map ts (grown_if n c) | false ↦ refl ]

same_length_added : (ts : List Table) (e : Event) → length (added ts e) ≡ length ts
same_length_added ts (event.Alter table column kind altered.Done) = same_size ts table (record { name = column; kind = kind })
same_length_added ts (event.Alter table column kind altered.Open) = refl
same_length_added ts (event.Alter table column kind (altered.Refused k)) = refl
same_length_added ts (event.Take client text answer) = refl
same_length_added ts (event.Call client store q how r answer) = refl
same_length_added ts (event.Stop client) = refl
same_length_added ts (event.Clock moment) = refl
same_length_added ts (event.Idle client) = refl
same_length_added ts (event.Land number store q how r) = refl

pub same_length : (ts : List Table) (es : List Event) → length (catalog_after ts es) ≡ length ts
same_length ts [] = refl
same_length ts (e ∷ es) = same_length (added ts e) es ∙ same_length_added ts e

pub after_append : (ts : List Table) (es more : List Event) → catalog_after ts (es ++ more) ≡ catalog_after (catalog_after ts es) more
after_append ts [] more = refl
after_append ts (e ∷ es) more = after_append (added ts e) es more

-- one event more
pub after_more : (ts : List Table) (es : List Event) (e : Event) → catalog_after ts (es ++ e ∷ []) ≡ added (catalog_after ts es) e
after_more ts es e = after_append ts es (e ∷ [])
