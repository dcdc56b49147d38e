use Rattle.std.proofs.Common.{[]}
use Rattle.sdb_contents.proofs.RetireCalls.{goes_more, hold_same, still_there}
use Rattle.sdb_catalog.proofs.Public.{passed_on}
use Rattle.sdb_contents.proofs.Steps.{seen_more, unseen_more}
use Rattle.sdb_contents.proofs.see.see_all.Goals as goal

pub loop-table-preserved : goal.loop-table-preserved
loop-table-preserved g c =
    let old = g.R.Registry.state c.args.stores.now in
    let mid = g.R.Registry.state c.loop-table.stores in
    let new = g.R.Registry.state c.see_table.new.stores in
    let before = c.loop-table.invariant in
    record {
      goes = goes_more old mid new before.goes c.in_ok-see_table.ensures.goes;
      held = hold_same old mid new [] before.goes before.held c.in_ok-see_table.ensures.held;
      seen =
          seen_more old mid c.args.from.now c.args.to.now c.args.tables.now c.loop-table.table-index c.table-item.result c.loop-table.seen c.push.new.self c.in_ok-see_table.field-0 before.goes before.held c.loop-table-test.true c.table-item.is c.in_ok-see_table.ensures.table c.in_ok-push.ensures.ok
          before.seen c.in_ok-see_table.ensures.seen;
    }

pub see_table-requires-clause-from : goal.see_table-requires-clause-from
see_table-requires-clause-from g c = still_there (g.R.Registry.state c.args.stores.now) (g.R.Registry.state c.loop-table.stores) c.args.from.now c.loop-table.invariant.goes c.requires.from

pub see_table-requires-clause-to : goal.see_table-requires-clause-to
see_table-requires-clause-to g c = still_there (g.R.Registry.state c.args.stores.now) (g.R.Registry.state c.loop-table.stores) c.args.to.now c.loop-table.invariant.goes c.requires.to

pub returns-in_err-see_table-clause-held : goal.returns-in_err-see_table-clause-held
returns-in_err-see_table-clause-held g c =
    hold_same (g.R.Registry.state c.args.stores.now) (g.R.Registry.state c.loop-table.stores) (g.R.Registry.state c.see_table.new.stores) [] c.loop-table.invariant.goes c.loop-table.invariant.held c.in_err-see_table.ensures.held

pub returns-in_err-see_table-clause-goes : goal.returns-in_err-see_table-clause-goes
returns-in_err-see_table-clause-goes g c =
    goes_more (g.R.Registry.state c.args.stores.now) (g.R.Registry.state c.loop-table.stores) (g.R.Registry.state c.see_table.new.stores) c.loop-table.invariant.goes c.in_err-see_table.ensures.goes

pub returns-in_err-see_table-clause-err : goal.returns-in_err-see_table-clause-err
returns-in_err-see_table-clause-err g c =
    passed_on _ c.from_residual.result c.in_err-see_table.field-0.0 c.from_residual.ensures.1
    (unseen_more (g.R.Registry.state c.args.stores.now) (g.R.Registry.state c.loop-table.stores) (g.R.Registry.state c.see_table.new.stores).views c.args.from.now c.args.to.now c.args.tables.now c.loop-table.table-index c.table-item.result c.in_err-see_table.field-0.0
    c.loop-table.invariant.goes c.loop-table.invariant.held c.loop-table-test.true c.table-item.is c.in_err-see_table.ensures.err)
