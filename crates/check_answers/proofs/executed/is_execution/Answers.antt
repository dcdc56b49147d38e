use Rattle.std.proofs.Common.{◌+◌, ◌∙◌, List, ap, sym, take}
use Rattle.check_answers.specs.Types.{Table}
use Rattle.sdb_model.specs.Catalogs.{added, catalog_after}
use Rattle.sdb_model.proofs.Public.{after_more}
use Rattle.sdb_client.proofs.Public.{reached_on}
use Rattle.check_answers.proofs.Steps.{event_more}
use Rattle.check_answers.proofs.executed.is_execution.Goals as goal

pub loop-event-preserved : goal.loop-event-preserved
loop-event-preserved c =
    let es = c.args.events.now in
    let i = c.loop-event.event-index in
    let e = c.event-item.result in
    let before = c.loop-event.invariant in
    let more = event_more es i e c.loop-event-test.true c.event-item.is in
    record {
      reached = reached_on c.args.script.now (take i es) (take (i + 1) es) e c.loop-event.clients c.step.new.self before.reached (c.in_ok-step.ensures c.if-not-branch.false (take i es) before.catalog) more;
      catalog = c.in_ok-add_event.ensures ∙ ap (λ (ts : List Table). added ts e) before.catalog ∙ sym (after_more c.args.script.now.catalog (take i es) e) ∙ ap (catalog_after c.args.script.now.catalog) (sym more);
    }
