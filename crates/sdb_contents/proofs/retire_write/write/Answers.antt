use Rattle.std.proofs.Common.{subst}
use Rattle.sdb_types.specs.declared.record.Reply.{Reply}
use Rattle.sdb_types.specs.declared.record.Reply.TheVariants.{NotMet}
use Rattle.sdb_stores.specs.Views.{IsCallAt, index_at}
use Rattle.sdb_contents.proofs.Making.{made_call, met_done, one_formed, passed_made}
use Rattle.sdb_contents.proofs.Steps.{met_err}
use Rattle.sdb_contents.proofs.retire_write.write.Goals as goal

pub call-requires : goal.call-requires
call-requires g c = record { attached = c.requires.attached; formed = one_formed c.args.request.now c.requires.one }

pub returns-in-NotMet-clause-made : goal.returns-in-NotMet-clause-made
returns-in-NotMet-clause-made g c =
    let old = g.R.Registry.state c.args.stores.now in
    let new = g.R.Registry.state c.call.new.stores in
    passed_made c.unmet.result c.args.request.now (NotMet c.in-NotMet.found) (index_at old c.args.store.now) old new
    (subst (λ (x : Reply). IsCallAt (index_at old c.args.store.now) c.args.request.now x old new) c.in-NotMet.is c.in_ok-found.ensures.called) c.unmet.ensures.passed

pub returns-in-NotMet-clause-err : goal.returns-in-NotMet-clause-err
returns-in-NotMet-clause-err g c =
    let old = g.R.Registry.state c.args.stores.now in
    let new = g.R.Registry.state c.call.new.stores in
    met_err c.unmet.result (index_at old c.args.store.now) c.args.request.now c.in-NotMet.found old new
    (subst (λ (x : Reply). IsCallAt (index_at old c.args.store.now) c.args.request.now x old new) c.in-NotMet.is c.in_ok-found.ensures.called) c.unmet.ensures.err

pub returns-clause-made : goal.returns-clause-made
returns-clause-made g c =
    let old = g.R.Registry.state c.args.stores.now in
    let new = g.R.Registry.state c.call.new.stores in
    made_call (index_at old c.args.store.now) c.args.request.now c.in_ok-found.field-0 old new c.in_ok-found.ensures.called (met_done c.args.request.now c.in_ok-found.field-0 c.requires.one c.in_ok-found.ensures.called.lawful c.in_ok-found.ensures.answered.0 c.in_ok-found.ensures.answered.1 c.in_default.not-NotMet)
