use Rattle.std.proofs.Common.{◌≡◌, ◌++◌}
use Rattle.std.specs.Vec.Iter.{into_iter_items}
use Rattle.sdb_loader.proofs.load.catalog_with.Given as goal

abbrev pub invariant-loop-table : goal.invariant-loop-table
invariant-loop-table l =
    (goal.iterator-loop-table).can_next l.table-iterator ×
    (goal.iterator-loop-table).is_finite l.table-iterator ×
    (l.catalog ++ into_iter_items l.table-iterator ≡ l.fn.tables)
