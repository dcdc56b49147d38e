use Rattle.std.proofs.Common.{◌≡◌, ◌∙◌, ap, length}
use Rattle.std.specs.Prelude.{insert, take_while}
use Rattle.sdb_schema.proofs.CatalogLaws.{with_table-is, below}
use Rattle.sdb_schema.proofs.catalog.put.Goals as goal

pub returns-clause-ok : goal.returns-clause-ok
returns-clause-ok c =
    let e : insert c.args.tables.now c.place_of-place.result c.args.table ≡ insert c.args.tables.now (length (take_while (below c.args.table) c.args.tables.now)) c.args.table = ap (λ n. insert c.args.tables.now n c.args.table) (c.place_of-place.ensures ∙ ap (λ ts. length (take_while (below c.args.table) ts)) c.as_slice.ensures) in
    rw (← with_table-is c.args.table c.args.tables.now, ← e) c.insert.ensures.ok
