use Rattle.std.proofs.Common.{refl, subst, sym}
use Rattle.sdb_catalog.specs.declared.refused.CatalogRefused.TheVariants as refused
use Rattle.sdb_app.specs.declared.status.Status.{Status}
use Rattle.sdb_app.specs.Ends.{stream, work_of}
use Rattle.sdb_app.specs.Schema.{StopsSchema}
use Rattle.sdb_app.specs.Schema.StopsSchema.{Unkept}
use Rattle.sdb_app.proofs.Following.{err_then}
use Rattle.sdb_app.proofs.Schemas.{whole_is_partly}
use Rattle.sdb_app.proofs.schema.schema.Goals as goal

pub returns-in-Ok-store_catalog-clause-err : goal.returns-in-Ok-store_catalog-clause-err
returns-in-Ok-store_catalog-clause-err g c =
    let work = work_of g.S.Registry.state (stream g.R.Source.remaining g.R.Source.faults) c.args.stores.now c.store_catalog.new.stores c.args.input.now c.read_schema.new.input in
    err_then _ _ c.text_of.result
    (λ s is. subst (λ (x : Status). StopsSchema c.args.places.now work x) (sym is)
    (Unkept c.in-Ok.catalog refused.NoMemory c.in-Ok.ensures.read
    (record { refused = tt; known = λ answered. whole_is_partly _ c.args.places.now c.in-Ok.catalog _ _ _ (c.in-Ok-store_catalog.ensures.known answered); others = c.in-Ok-store_catalog.ensures.goes.others }) refl)) c.text_of.ensures.err

pub returns-clause-err : goal.returns-clause-err
returns-clause-err g c =
    Unkept c.in-Ok.catalog c.in-Err-store_catalog.refused c.in-Ok.ensures.read
    (record { refused = c.in-Err-store_catalog.ensures.err; known = c.in-Err-store_catalog.ensures.left; others = c.in-Err-store_catalog.ensures.goes.others }) c.catalog_status.ensures
