use Rattle.std.proofs.Common.{take}
use Rattle.sdb_stores.specs.Views.{index_at}
use Rattle.sdb_contents.specs.Copying.{AreMade}
use Rattle.sdb_contents.specs.Writes.{GoOn, Hold, writes_at}
use Rattle.sdb_contents.proofs.retire_write.run.Given as goal

abbrev pub invariant-loop-request : goal.invariant-loop-request
invariant-loop-request g l = record {
  goes : GoOn (g.R.Registry.state l.initial.stores) (g.R.Registry.state l.stores);
  made : AreMade (writes_at (index_at (g.R.Registry.state l.initial.stores) l.store) (take l.request-index l.requests)) (g.R.Registry.state l.initial.stores) (g.R.Registry.state l.stores).views;
  held : Hold (writes_at (index_at (g.R.Registry.state l.initial.stores) l.store) (take l.request-index l.requests)) (g.R.Registry.state l.initial.stores) (g.R.Registry.state l.stores);
}
