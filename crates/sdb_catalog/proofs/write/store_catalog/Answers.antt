use Rattle.std.proofs.Common.{◌∙◌, inl, refl}
use Rattle.std.specs.Prelude.{string_bytes}
use Rattle.sdb_catalog.proofs.Calling.{goes_more}
use Rattle.sdb_catalog.specs.declared.refused.CatalogRefused.TheVariants as refused
use Rattle.sdb_catalog.proofs.Known.{left_unread, left_writing, passed_on, stored_in}
use Rattle.sdb_catalog.proofs.ReadBack.{kept}
use Rattle.sdb_catalog.proofs.Writes.{stored}
use Rattle.sdb_catalog.proofs.write.store_catalog.Goals as goal

pub returns-clause-stored : goal.returns-clause-stored
returns-clause-stored g c =
    let old = g.R.Registry.state c.args.stores.now in
    let mid = g.R.Registry.state c.read_entries.new.stores in
    let new = (g.R.Registry.state c.write_all.new.stores).views in
    stored c.args.places.now c.args.catalog.now c.as_slice.result.now c.in_ok-first.first (string_bytes c.in_ok-text.text) c.in_ok-new.field-0 c.in_ok-known.known old mid new
    c.in_ok-known.ensures.read c.in_ok-first.ensures c.in_ok-known.ensures.goes.where_known c.in_ok-text.ensures.written (c.as_slice.ensures ∙ c.in_ok-tables.ensures.tables) (c.in_ok-new.ensures ∙ c.as_str.ensures.value)

pub returns-clause-kept : goal.returns-clause-kept
returns-clause-kept g c =
    let old = g.R.Registry.state c.args.stores.now in
    let mid = g.R.Registry.state c.read_entries.new.stores in
    let new = (g.R.Registry.state c.write_all.new.stores).views in
    kept c.args.places.now c.args.catalog.now (string_bytes c.in_ok-text.text) old new c.in_ok-tables.ensures.catalog (c.in_ok-text.ensures.goes.names ∙ c.in_ok-known.ensures.goes.names)
    (stored c.args.places.now c.args.catalog.now c.as_slice.result.now c.in_ok-first.first (string_bytes c.in_ok-text.text) (string_bytes c.in_ok-text.text) c.in_ok-known.known old mid new
    c.in_ok-known.ensures.read c.in_ok-first.ensures c.in_ok-known.ensures.goes.where_known c.in_ok-text.ensures.written (c.as_slice.ensures ∙ c.in_ok-tables.ensures.tables) refl)

pub returns-clause-known : goal.returns-clause-known
returns-clause-known g c =
    let old = g.R.Registry.state c.args.stores.now in
    let mid = g.R.Registry.state c.read_entries.new.stores in
    let new = (g.R.Registry.state c.write_all.new.stores).views in
    stored_in c.args.places.now c.args.catalog.now c.in_ok-new.field-0 old new
    (stored c.args.places.now c.args.catalog.now c.as_slice.result.now c.in_ok-first.first (string_bytes c.in_ok-text.text) c.in_ok-new.field-0 c.in_ok-known.known old mid new
    c.in_ok-known.ensures.read c.in_ok-first.ensures c.in_ok-known.ensures.goes.where_known c.in_ok-text.ensures.written (c.as_slice.ensures ∙ c.in_ok-tables.ensures.tables) (c.in_ok-new.ensures ∙ c.as_str.ensures.value))

pub returns-in_err-tables-clause-left : goal.returns-in_err-tables-clause-left
returns-in_err-tables-clause-left g c = passed_on _ c.from_residual.result refused.NoMemory c.from_residual.ensures.1 (λ t. inl refl)

pub returns-in_err-first-clause-left : goal.returns-in_err-first-clause-left
returns-in_err-first-clause-left g c = passed_on _ c.from_residual-in_err-first.result refused.NoMemory c.from_residual-in_err-first.ensures.1 (λ t. inl refl)

pub returns-in_err-known-clause-left : goal.returns-in_err-known-clause-left
returns-in_err-known-clause-left g c =
    passed_on _ c.from_residual-in_err-known.result c.in_err-known.field-0.0 c.from_residual-in_err-known.ensures.1
    (left_unread c.args.places.now c.args.catalog.now (g.R.Registry.state c.args.stores.now) (g.R.Registry.state c.read_entries.new.stores) c.in_err-known.field-0.0 c.in_err-known.ensures.err c.in_err-known.ensures.unchanged)

pub returns-in_err-text-clause-left : goal.returns-in_err-text-clause-left
returns-in_err-text-clause-left g c =
    passed_on _ c.from_residual-in_err-text.result c.in_err-text.field-0.0 c.from_residual-in_err-text.ensures.1
    (left_writing c.args.places.now c.args.catalog.now c.as_slice.result.now c.in_ok-first.first c.in_ok-known.known c.in_err-text.field-0.0
    (g.R.Registry.state c.args.stores.now) (g.R.Registry.state c.read_entries.new.stores) (g.R.Registry.state c.write_all.new.stores)
    c.in_ok-known.ensures.read c.in_ok-first.ensures (c.as_slice.ensures ∙ c.in_ok-tables.ensures.tables) c.in_ok-known.ensures.unchanged c.in_ok-known.ensures.goes.where_known c.in_err-text.ensures.left c.in_err-text.ensures.err)

pub returns-in_err-new-clause-left : goal.returns-in_err-new-clause-left
returns-in_err-new-clause-left g c =
    passed_on _ c.from_residual-in_err-new.result refused.NoMemory c.from_residual-in_err-new.ensures.1
    (left_writing c.args.places.now c.args.catalog.now c.as_slice.result.now c.in_ok-first.first c.in_ok-known.known refused.NoMemory
    (g.R.Registry.state c.args.stores.now) (g.R.Registry.state c.read_entries.new.stores) (g.R.Registry.state c.write_all.new.stores)
    c.in_ok-known.ensures.read c.in_ok-first.ensures (c.as_slice.ensures ∙ c.in_ok-tables.ensures.tables) c.in_ok-known.ensures.unchanged c.in_ok-known.ensures.goes.where_known c.in_ok-text.ensures.left tt)

pub returns-in_err-known-clause-places : goal.returns-in_err-known-clause-places
returns-in_err-known-clause-places g c = c.in_err-known.ensures.places

pub returns-in_err-known-clause-goes : goal.returns-in_err-known-clause-goes
returns-in_err-known-clause-goes g c = c.in_err-known.ensures.goes

pub returns-in_err-text-clause-places : goal.returns-in_err-text-clause-places
returns-in_err-text-clause-places g c = c.in_err-text.ensures.places ∙ c.in_ok-known.ensures.places

pub returns-in_err-text-clause-goes : goal.returns-in_err-text-clause-goes
returns-in_err-text-clause-goes g c =
    goes_more (g.R.Registry.state c.args.stores.now) (g.R.Registry.state c.read_entries.new.stores) (g.R.Registry.state c.write_all.new.stores) c.in_ok-known.ensures.goes c.in_err-text.ensures.goes

pub returns-in_err-new-clause-places : goal.returns-in_err-new-clause-places
returns-in_err-new-clause-places g c = c.in_ok-text.ensures.places ∙ c.in_ok-known.ensures.places

pub returns-in_err-new-clause-goes : goal.returns-in_err-new-clause-goes
returns-in_err-new-clause-goes g c =
    goes_more (g.R.Registry.state c.args.stores.now) (g.R.Registry.state c.read_entries.new.stores) (g.R.Registry.state c.write_all.new.stores) c.in_ok-known.ensures.goes c.in_ok-text.ensures.goes

pub returns-clause-places : goal.returns-clause-places
returns-clause-places g c = c.in_ok-text.ensures.places ∙ c.in_ok-known.ensures.places

pub returns-clause-goes : goal.returns-clause-goes
returns-clause-goes g c =
    goes_more (g.R.Registry.state c.args.stores.now) (g.R.Registry.state c.read_entries.new.stores) (g.R.Registry.state c.write_all.new.stores) c.in_ok-known.ensures.goes c.in_ok-text.ensures.goes
