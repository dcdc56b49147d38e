use Rattle.sdb_stores.specs.Views.{index_at}
use Rattle.sdb_catalog.proofs.Public.{passed_on}
use Rattle.sdb_contents.proofs.RetireCalls.{goes_more, still_there}
use Rattle.sdb_contents.proofs.Making.{made_step, one_at}
use Rattle.sdb_contents.proofs.Steps.{first_step, first_taken, hold_step, unwritten_more}
use Rattle.sdb_contents.proofs.retire_write.run.Goals as goal

pub loop-request-preserved : goal.loop-request-preserved
loop-request-preserved g c =
    let old = g.R.Registry.state c.args.stores.now in
    let mid = g.R.Registry.state c.loop-request.stores in
    let new = g.R.Registry.state c.write.new.stores in
    record {
      goes = goes_more old mid new c.loop-request.invariant.goes c.in_ok-write.ensures.goes;
      made = made_step old mid new.views c.args.store.now c.args.requests.now c.loop-request.request-index c.request-item.result c.loop-request-test.true c.request-item.is c.loop-request.invariant.goes c.loop-request.invariant.made c.in_ok-write.ensures.made;
      held = hold_step old mid new c.args.store.now c.args.requests.now c.loop-request.request-index c.request-item.result c.loop-request-test.true c.request-item.is c.loop-request.invariant.goes c.loop-request.invariant.held c.in_ok-write.ensures.held;
    }

pub write-requires : goal.write-requires
write-requires g c = record {
  attached = still_there (g.R.Registry.state c.args.stores.now) (g.R.Registry.state c.loop-request.stores) c.args.store.now c.loop-request.invariant.goes c.requires.attached;
  one = one_at c.args.requests.now c.loop-request.request-index c.request-item.result c.loop-request-test.true c.request-item.is c.requires.one;
}

pub returns-in_err-write-clause-left : goal.returns-in_err-write-clause-left
returns-in_err-write-clause-left g c =
    first_step (g.R.Registry.state c.args.stores.now) (g.R.Registry.state c.loop-request.stores) (g.R.Registry.state c.write.new.stores) c.args.store.now c.args.requests.now c.loop-request.request-index c.request-item.result c.loop-request-test.true c.request-item.is
    c.loop-request.invariant.goes c.loop-request.invariant.held c.in_err-write.ensures.left

pub returns-in_err-write-clause-goes : goal.returns-in_err-write-clause-goes
returns-in_err-write-clause-goes g c =
    goes_more (g.R.Registry.state c.args.stores.now) (g.R.Registry.state c.loop-request.stores) (g.R.Registry.state c.write.new.stores) c.loop-request.invariant.goes c.in_err-write.ensures.goes

pub returns-in_err-write-clause-err : goal.returns-in_err-write-clause-err
returns-in_err-write-clause-err g c =
    passed_on _ c.from_residual.result c.in_err-write.field-0.0 c.from_residual.ensures.1
    (unwritten_more (g.R.Registry.state c.args.stores.now) (g.R.Registry.state c.loop-request.stores) (g.R.Registry.state c.write.new.stores).views c.args.store.now c.args.requests.now c.loop-request.request-index c.request-item.result c.in_err-write.field-0.0
    c.loop-request-test.true c.request-item.is c.loop-request.invariant.goes c.loop-request.invariant.held c.in_err-write.ensures.err)

pub returns-clause-left : goal.returns-clause-left
returns-clause-left g c =
    first_taken (g.R.Registry.state c.args.stores.now) (g.R.Registry.state c.loop-request.stores) (index_at (g.R.Registry.state c.args.stores.now) c.args.store.now) c.args.requests.now c.loop-request.request-index c.loop-request.invariant.held
