use Rattle.std.proofs.Common.{◌≡◌, take}
use Rattle.std.specs.Prelude.{string_bytes}
use Rattle.sdb_catalog.specs.Calls.{GoOn}
use Rattle.sdb_catalog.proofs.Writes.{WrittenSo}
use Rattle.sdb_catalog.proofs.write.write_all.Given as goal

abbrev pub invariant-loop-table : goal.invariant-loop-table
invariant-loop-table g l = record {
  bare : (g.R.Registry.state l.stores).places ≡ (g.R.Registry.state l.initial.stores).places;
  goes : GoOn (g.R.Registry.state l.initial.stores) (g.R.Registry.state l.stores);
  so : WrittenSo l.places l.first l.initial.known l.known (take l.table-index l.tables) (string_bytes l.text) (g.R.Registry.state l.initial.stores) (g.R.Registry.state l.stores).views;
}
