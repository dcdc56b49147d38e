use Rattle.std.proofs.Common.{All, subst}
use Rattle.std.proofs.lemmas.List.{take_all}
use Rattle.std.proofs.lemmas.List.Elements.{All-more}
use Rattle.law_runs.specs.Facts.{event_fits}
use Rattle.law_runs.proofs.facts.events_facts.Goals as goal

pub loop-event-preserved : goal.loop-event-preserved
loop-event-preserved c =
    All-more event_fits c.args.events.now c.loop-event.event-index c.event-item.result c.loop-event-test.true c.loop-event.invariant (subst event_fits c.event-item.is c.event_facts.ensures)

pub returns : goal.returns
returns c = subst (All event_fits) (take_all c.loop-event.event-index c.args.events.now c.loop-event-test.false) c.loop-event.invariant
