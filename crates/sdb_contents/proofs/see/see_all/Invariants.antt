use Rattle.std.proofs.Common.{[], take}
use Rattle.sdb_stores.specs.Views.{index_at}
use Rattle.sdb_contents.specs.Read.{AreSeen}
use Rattle.sdb_contents.specs.Writes.{GoOn, Hold}
use Rattle.sdb_contents.proofs.see.see_all.Given as goal

abbrev pub invariant-loop-table : goal.invariant-loop-table
invariant-loop-table g l = record {
  goes : GoOn (g.R.Registry.state l.initial.stores) (g.R.Registry.state l.stores);
  held : Hold [] (g.R.Registry.state l.initial.stores) (g.R.Registry.state l.stores);
  seen : AreSeen (index_at (g.R.Registry.state l.initial.stores) l.from) (index_at (g.R.Registry.state l.initial.stores) l.to) (take l.table-index l.tables) (g.R.Registry.state l.initial.stores) l.seen;
}
