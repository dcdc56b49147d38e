use Rattle.sdb_schema.proofs.CatalogLaws.{after_add}
use Rattle.sdb_schema.proofs.catalog.Catalog.add.Goals as goal

pub invariant_of-self : goal.invariant_of-self
invariant_of-self c =
    after_add c.place.result c.args.table c.place.new.tables c.self.inside.tables c.place.ensures.ok c.place.ensures.err c.place.ensures.new c.place.ensures.room c.requires c.self.invariant
