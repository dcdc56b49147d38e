use Rattle.std.proofs.Common.{◌++◌, ◌∙◌, sym, ap}
use Rattle.std.specs.Vec.Iter.{into_iter_items}
use Rattle.sdb_schema.specs.Catalog.{rises}
use Rattle.sdb_loader.proofs.Order.{rises-front}
use Rattle.sdb_loader.proofs.load.catalog_with.Goals as goal

pub put-requires-clause-above : goal.put-requires-clause-above
put-requires-clause-above c =
    let whole = ap (λ l. c.loop-table.catalog ++ l) (sym c.in-Some.ensures.steps.0) ∙ c.loop-table.invariant.2 in
    rises-front c.loop-table.catalog c.in-Some.table (into_iter_items c.next.new.self) (ap rises whole ∙ c.requires.rise)
