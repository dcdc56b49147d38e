use Rattle.sdb_stores.specs.Views.{table_of}
use Rattle.sdb_catalog.proofs.Calling.{called, goes_call, left_call}
use Rattle.sdb_catalog.proofs.call.call.Goals as goal

pub returns-in_default : goal.returns-in_default
returns-in_default g c =
    let old = g.R.Registry.state c.args.stores.now in
    let new = g.R.Registry.state c.perform.new.self in
    let ns = (table_of c.args.request.now).ns in
    record {
      called = called ns c.args.request.now c.perform.result old new c.requires.bare c.perform.ensures.called;
      lawful = c.perform.ensures.called.lawful;
      answered = (c.in_default.not-Fault, c.in_default.not-NoMemory);
      left = left_call ns c.args.request.now c.perform.result old new c.requires.bare c.perform.ensures.called;
      places = c.perform.ensures.places;
      goes = goes_call ns c.args.request.now c.perform.result old new c.requires.bare c.perform.ensures.called;
      err = tt;
    }
