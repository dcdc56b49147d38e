-- What passes the checks is a table.
use Rattle.std.proofs.Common.{◌≡◌, List, [], true, refl, sym, ap, ◌∙◌, Option, Some, None, Result, Ok}
use Rattle.std.specs.Prelude.{is_ok}
use Rattle.std.specs.List.{list_all}
use Rattle.sdb_types.specs.Identifier.{is_name}
use Rattle.sdb_types.proofs.Public.{and_both}
use Rattle.sdb_record.specs.Parts.{is_column_name}
use Rattle.sdb_schema.specs.declared.table.Column.{Column}
use Rattle.sdb_schema.specs.declared.table.Table.{Table}
use Rattle.sdb_schema.specs.declared.make.TableRefused.{TableRefused}
use Rattle.sdb_schema.specs.Table.{refuse, none_of, first_unknown, key_names, first_listed_twice, checked_table, in_order, rises, is_table, are_short}
use Rattle.sdb_schema.proofs.ColumnOrder.{in_order-rises, all-put_columns, column-names}

refuse-ok : {A B : Type 0} (o : Option A) (f : A → TableRefused) (next : Result B TableRefused) (y : B) → refuse o f next ≡ Ok y → (o ≡ None) × (next ≡ Ok y)
refuse-ok None f next y h = (refl, h)
refuse-ok (Some a) f next y h = absurd (cc)

pub listed-once : (t : Table) → checked_table t ≡ Ok t → first_listed_twice t.columns ≡ None
unfolding checked_table
listed-once t h =
    let a = refuse-ok (none_of t.partition) _ _ t h in
    let b = refuse-ok (first_unknown t.columns (key_names t)) _ _ t a.1 in
    let c = refuse-ok (first_unknown t.columns t.indexed) _ _ t b.1 in
    (refuse-ok (first_listed_twice t.columns) _ _ t c.1).0

pub made : (t : Table) (columns : List Column) → t.columns ≡ in_order columns → are_short columns ≡ true → list_all (λ c. is_name c.name) columns ≡ true → checked_table t ≡ Ok t → is_table t ≡ true
made t columns e s n h =
    let once : first_listed_twice (in_order columns) ≡ None = ap first_listed_twice (sym e) ∙ listed-once t h in
    and_both (rises t.columns) _ (ap rises e ∙ in_order-rises columns once)
    (and_both (list_all (λ (c : Column). is_column_name c.name) t.columns) _ (ap (list_all (λ (c : Column). is_column_name c.name)) e ∙ all-put_columns (λ (c : Column). is_column_name c.name) columns [] (column-names columns s n) refl) (ap is_ok h))
