use Rattle.std.proofs.Common.{map, ap, ◌∙◌}
use Rattle.sdb_schema.specs.Catalog.{rises}
use Rattle.sdb_loader.specs.Described.{table_of}
use Rattle.sdb_loader.specs.NamedData.{named_data}
use Rattle.sdb_loader.proofs.Names.{tables_rise}
use Rattle.sdb_loader.proofs.load.catalog_among.Goals as goal

pub catalog_with-requires-clause-rise : goal.catalog_with-requires-clause-rise
catalog_with-requires-clause-rise c =
    ap rises (c.in_ok-tables.ensures.made ∙ ap (λ ts. map table_of (map named_data ts)) c.as_slice.ensures ∙ ap (map table_of) c.in_ok-named.ensures.named)
    ∙ tables_rise c.args.members.now.entries c.in_ok-named.ensures.ordered c.in_ok-named.ensures.good
