use Rattle.std.proofs.Common.{◌≡◌, ℕ, List, take}
use Rattle.sdb_stores.specs.Views.{route_of}
use Rattle.sdb_catalog.specs.Opened.{store_in}
use Rattle.sdb_catalog.proofs.open.place_all.Given as goal

abbrev pub invariant-loop-entry : goal.invariant-loop-entry
invariant-loop-entry g l = record {
  stores : (g.R.Registry.state l.stores).views ≡ (g.R.Registry.state l.initial.stores).views;
  where_known : (i : ℕ) → (g.R.Registry.state l.initial.stores).known i → (g.R.Registry.state l.stores).known i;
  placed : (ns : List ℕ) → route_of ns (g.R.Registry.state l.stores).places ≡ store_in (take l.entry-index l.entries) ns;
}
