use Rattle.std.proofs.Common.{◌≡◌}
use Rattle.std.specs.Prelude.{drop}
use Rattle.sdb_model.specs.Catalogs.{catalog_after}
use Rattle.check_tables.proofs.catalogs.catalog_after.Given as goal

abbrev pub invariant-loop-event : goal.invariant-loop-event
invariant-loop-event l = catalog_after l.now (drop l.event-index l.events) ≡ catalog_after l.catalog l.events
