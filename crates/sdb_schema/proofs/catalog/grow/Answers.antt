use Rattle.std.proofs.Common.{◌≡◌, ◌∙◌, ℕ, Some, ap, subst, sym, length, slice_set}
use Rattle.std.specs.Prelude.{◌<◌}
use Rattle.sdb_schema.specs.declared.table.Table.{Table}
use Rattle.sdb_schema.specs.Catalog.{is_catalog, table_named}
use Rattle.sdb_schema.specs.Table.{is_table}
use Rattle.sdb_schema.proofs.Grown.{catalog_rises, grown_is_catalog, place, set_in_place, within_tables}
use Rattle.sdb_schema.proofs.catalog.grow.Goals as goal

pub replace-requires : goal.replace-requires
replace-requires c =
    let at : c.count_before-place.result ≡ place c.args.name.now c.args.tables.now = c.count_before-place.ensures ∙ ap (place c.args.name.now) c.as_slice.ensures in
    let found : table_named c.args.tables.now c.args.name.now ≡ Some c.in-Some.table.now = ap (λ ts. table_named ts c.args.name.now) (sym c.as_slice-2.ensures) ∙ sym c.in-Some.ensures in
    subst (λ (i : ℕ). i < length c.args.tables.now) (sym at) (within_tables c.args.name.now c.args.tables.now c.in-Some.table.now found)

pub returns-clause-ok : goal.returns-clause-ok
returns-clause-ok c =
    let at : c.count_before-place.result ≡ place c.args.name.now c.args.tables.now = c.count_before-place.ensures ∙ ap (place c.args.name.now) c.as_slice.ensures in
    let found : table_named c.args.tables.now c.args.name.now ≡ Some c.in-Some.table.now = ap (λ ts. table_named ts c.args.name.now) (sym c.as_slice-2.ensures) ∙ sym c.in-Some.ensures in
    c.replace.ensures ∙ ap (λ (i : ℕ). slice_set c.args.tables.now i c.in_ok-grown.grown) at ∙ ap (λ (t : Table). slice_set c.args.tables.now (place c.args.name.now c.args.tables.now) t) c.in_ok-grown.ensures.ok
    ∙ set_in_place c.args.name.now c.args.column.now c.args.tables.now c.in-Some.table.now (catalog_rises c.args.tables.now c.requires.catalog) found

pub returns-clause-catalog : goal.returns-clause-catalog
returns-clause-catalog c =
    let found : table_named c.args.tables.now c.args.name.now ≡ Some c.in-Some.table.now = ap (λ ts. table_named ts c.args.name.now) (sym c.as_slice-2.ensures) ∙ sym c.in-Some.ensures in
    ap is_catalog (returns-clause-ok c) ∙ grown_is_catalog c.args.name.now c.args.column.now c.args.tables.now c.in-Some.table.now c.requires.catalog found (λ h. ap is_table (sym c.in_ok-grown.ensures.ok) ∙ c.in_ok-grown.ensures.table h)
