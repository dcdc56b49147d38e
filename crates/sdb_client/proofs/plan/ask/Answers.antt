use Rattle.sdb_client.proofs.Takings.{plan_fine}
use Rattle.sdb_client.proofs.plan.ask.Goals as goal

pub begin_read-requires-clause-valid : goal.begin_read-requires-clause-valid
begin_read-requires-clause-valid c = plan_fine c.args.catalog.now c.args.statement c.in-Ok.plan c.planned.ensures.catalog c.requires.literals c.in-Ok.ensures.plan
