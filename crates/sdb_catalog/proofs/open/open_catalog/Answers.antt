use Rattle.std.proofs.Common.{◌∙◌, ◌≤◌, List, ℕ, [], length, subst, sym, ap}
use Rattle.std.specs.List.{list_all}
use Rattle.sdb_schema.specs.Catalog.{rises}
use Rattle.sdb_schema.specs.Table.{is_table}
use Rattle.sdb_stores.specs.Views.{names_of}
use Rattle.sdb_catalog.specs.declared.entry.Entry.{Entry}
use Rattle.sdb_catalog.specs.Opened.{are_attached, store_in, tables_of}
use Rattle.sdb_catalog.proofs.Catalogs.{all_attached, all_tables, few_tables, read_rises}
use Rattle.sdb_catalog.proofs.Known.{bad_in, catalog_in, passed_on}
use Rattle.sdb_catalog.proofs.ReadBack.{read_back}
use Rattle.sdb_catalog.proofs.open.open_catalog.Goals as goal

pub placed-requires-clause-attached : goal.placed-requires-clause-attached
placed-requires-clause-attached g c =
    let read = c.in_ok-entries.ensures.read in
    ap (λ (ns : List (List ℕ)). are_attached ns c.as_slice.result.now) c.in_ok-entries.ensures.goes.names
    ∙ ap (are_attached (names_of (g.R.Registry.state c.args.stores.now).views)) c.as_slice.ensures ∙ all_attached (names_of (g.R.Registry.state c.args.stores.now).views) [] c.in_ok-entries.entries read.opens.follow

pub placed-requires-clause-tables : goal.placed-requires-clause-tables
placed-requires-clause-tables g c =
    ap (λ (es : List Entry). list_all is_table (tables_of es)) c.as_slice.ensures ∙ all_tables (names_of (g.R.Registry.state c.args.stores.now).views) [] c.in_ok-entries.entries c.in_ok-entries.ensures.read.opens.follow

pub placed-requires-clause-rise : goal.placed-requires-clause-rise
placed-requires-clause-rise g c =
    ap (λ (es : List Entry). rises (tables_of es)) c.as_slice.ensures ∙ read_rises (g.R.Registry.state c.args.stores.now) (g.R.Registry.state c.read_entries.new.stores).views c.in_ok-entries.entries c.in_ok-entries.ensures.read

pub placed-requires-clause-few : goal.placed-requires-clause-few
placed-requires-clause-few g c =
    subst (λ (es : List Entry). length (tables_of es) ≤ 64) (sym c.as_slice.ensures) (few_tables (names_of (g.R.Registry.state c.args.stores.now).views) c.in_ok-entries.entries c.in_ok-entries.ensures.read.opens.follow)

pub returns-in-Ok-clause-known : goal.returns-in-Ok-clause-known
returns-in-Ok-clause-known g c =
    catalog_in c.in_ok-entries.entries (g.R.Registry.state c.placed.new.stores).places c.in-Ok.catalog (g.R.Registry.state c.args.stores.now) (g.R.Registry.state c.read_entries.new.stores).views c.in_ok-entries.ensures.read
    (c.in-Ok.ensures.catalog ∙ ap tables_of c.as_slice.ensures) (λ ns. c.in-Ok.ensures.placed ns ∙ ap (λ (es : List Entry). store_in es ns) c.as_slice.ensures)

pub returns-in-Ok-clause-kept : goal.returns-in-Ok-clause-kept
returns-in-Ok-clause-kept g c = λ t.
    read_back c.in-Ok.catalog (g.R.Registry.state c.placed.new.stores).places (g.R.Registry.state c.args.stores.now).views
    (catalog_in c.in_ok-entries.entries (g.R.Registry.state c.placed.new.stores).places c.in-Ok.catalog (g.R.Registry.state c.args.stores.now) (g.R.Registry.state c.read_entries.new.stores).views c.in_ok-entries.ensures.read
    (c.in-Ok.ensures.catalog ∙ ap tables_of c.as_slice.ensures) (λ ns. c.in-Ok.ensures.placed ns ∙ ap (λ (es : List Entry). store_in es ns) c.as_slice.ensures) t)

pub returns-in_err-entries-clause-bad : goal.returns-in_err-entries-clause-bad
returns-in_err-entries-clause-bad g c =
    passed_on _ c.from_residual.result c.in_err-entries.field-0.0 c.from_residual.ensures.1
    (bad_in (g.R.Registry.state c.args.stores.now) (g.R.Registry.state c.read_entries.new.stores).views c.in_err-entries.field-0.0 c.in_err-entries.ensures.err)
