use Rattle.std.proofs.Common.{◌≡◌, take}
use Rattle.sdb_model.specs.Catalogs.{catalog_after}
use Rattle.sdb_client.specs.Execution.{IsReachedBy}
use Rattle.check_answers.proofs.executed.is_execution.Given as goal

abbrev pub invariant-loop-event : goal.invariant-loop-event
invariant-loop-event l = record {
  reached : IsReachedBy l.script (take l.event-index l.events) l.clients;
  catalog : l.catalog ≡ catalog_after l.script.catalog (take l.event-index l.events);
}
