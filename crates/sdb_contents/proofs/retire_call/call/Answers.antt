use Rattle.sdb_stores.specs.Views.{index_at}
use Rattle.sdb_contents.proofs.RetireCalls.{goes_call, hold_call, may_hold}
use Rattle.sdb_contents.proofs.retire_call.call.Goals as goal

pub returns-in_default : goal.returns-in_default
returns-in_default g c =
    let old = g.R.Registry.state c.args.stores.now in
    let new = g.R.Registry.state c.perform_at.new.self in
    let at = index_at old c.args.store.now in
    record {
      called = c.perform_at.ensures.called;
      answered = (c.in_default.not-Fault, c.in_default.not-NoMemory);
      held = hold_call at c.args.request.now c.perform_at.result old new c.perform_at.ensures.called c.in_default.not-Fault c.in_default.not-NoMemory;
      left = may_hold at c.args.request.now c.perform_at.result old new c.perform_at.ensures.called;
      goes = goes_call at c.args.request.now c.perform_at.result old new c.perform_at.ensures.called c.perform_at.ensures.places;
      err = tt;
    }
