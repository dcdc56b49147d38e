use Rattle.std.proofs.Common.{subst}
use Rattle.sdb_types.specs.declared.key.TableName.{TableName}
use Rattle.sdb_stores.specs.Views.{IsCallAt, home_in}
use Rattle.sdb_contents.proofs.GoesOn.{goes_call}
use Rattle.sdb_contents.proofs.Made.{asked, called, known_stay, still}
use Rattle.sdb_contents.proofs.calls.call.Goals as goal

pub returns : goal.returns
returns g c =
    let old = g.R.Registry.state c.args.stores.now in
    let new = g.R.Registry.state c.perform.new.self in
    let call = c.perform.ensures.called in
    record {
      once = subst (λ (t : TableName). IsCallAt (home_in old t.ns) c.args.request.now c.perform.result old new) (asked c.args.request.now) call;
      called = λ f. called old c.args.request.now f new c.perform.result call;
      still = λ f read. still old c.args.request.now f new c.perform.result call read;
      known = λ read. known_stay _ c.args.request.now c.perform.result old new call read;
      lawful = call.lawful;
      goes = goes_call _ old new c.args.request.now c.perform.result c.perform.ensures.places call;
      cause = c.perform.ensures.cause;
    }
