use Rattle.std.proofs.Common.{All, take}
use Rattle.law_runs.specs.Facts.{event_fits}
use Rattle.law_runs.proofs.facts.events_facts.Given as goal

abbrev pub invariant-loop-event : goal.invariant-loop-event
invariant-loop-event l = All event_fits (take l.event-index l.events)
