use Rattle.sdb_catalog.proofs.Public.{passed_on}
use Rattle.sdb_contents.proofs.RetireCalls.{still_there}
use Rattle.sdb_contents.proofs.Dropping.{attached_of, holds_still, retired, some_store, unmoved_known}
use Rattle.sdb_contents.proofs.Staying.{opens_same}
use Rattle.sdb_contents.proofs.Surveys.{left_at}
use Rattle.sdb_contents.proofs.retiring.retire.Goals as goal

pub move_all-requires-clause-some : goal.move_all-requires-clause-some
move_all-requires-clause-some g c = some_store (g.R.Registry.state c.args.stores.now) c.args.from.now c.requires.from

pub move_all-requires-clause-from : goal.move_all-requires-clause-from
move_all-requires-clause-from g c = attached_of (g.R.Registry.state c.args.stores.now) c.args.from.now c.requires.from

pub move_all-requires-clause-to : goal.move_all-requires-clause-to
move_all-requires-clause-to g c = attached_of (g.R.Registry.state c.args.stores.now) c.args.to.now c.requires.to

pub drop_store-requires : goal.drop_store-requires
drop_store-requires g c = record { attached = still_there (g.R.Registry.state c.args.stores.now) (g.R.Registry.state c.move_all.new.stores) c.args.from.now c.in_ok-count.ensures.goes (attached_of (g.R.Registry.state c.args.stores.now) c.args.from.now c.requires.from) }

pub returns-clause-retired : goal.returns-clause-retired
returns-clause-retired g c =
    retired (record { from = c.args.from.now; to = c.args.to.now }) c.in_ok-count.count (g.R.Registry.state c.args.stores.now) (g.R.Registry.state c.move_all.new.stores) (g.R.Registry.state c.drop_store.new.self)
    c.in_ok-count.ensures.goes c.in_ok-count.ensures.moved c.in_ok-count.ensures.others c.drop_store.ensures.dropped

pub returns-clause-opens : goal.returns-clause-opens
returns-clause-opens g c = opens_same (record { from = c.args.from.now; to = c.args.to.now }) c.in_ok-count.count (g.R.Registry.state c.args.stores.now) (g.R.Registry.state c.drop_store.new.self) (returns-clause-retired g c) c.requires

pub returns-in_err-count-clause-kept : goal.returns-in_err-count-clause-kept
returns-in_err-count-clause-kept g c =
    left_at _ _ (holds_still (record { from = c.args.from.now; to = c.args.to.now }) (g.R.Registry.state c.args.stores.now) (g.R.Registry.state c.move_all.new.stores) c.requires c.in_err-count.ensures.goes c.in_err-count.ensures.others)

pub returns-in_err-count-clause-known : goal.returns-in_err-count-clause-known
returns-in_err-count-clause-known g c =
    passed_on _ c.from_residual.result c.in_err-count.field-0.0 c.from_residual.ensures.1
    (unmoved_known (record { from = c.args.from.now; to = c.args.to.now }) (g.R.Registry.state c.args.stores.now) (g.R.Registry.state c.move_all.new.stores) c.in_err-count.field-0.0 c.in_err-count.ensures.err)
