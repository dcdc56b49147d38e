use Rattle.std.proofs.Common.{◌≡◌, ℕ, take}
use Rattle.sdb_app.proofs.places.route_all.Given as goal

abbrev pub invariant-loop-i : goal.invariant-loop-i
invariant-loop-i g l = record {
  placed : (g.R.Registry.state l.stores).places ≡ take l.i l.places;
  stores : (g.R.Registry.state l.stores).views ≡ (g.R.Registry.state l.initial.stores).views;
  where_known : (i : ℕ) → (g.R.Registry.state l.initial.stores).known i → (g.R.Registry.state l.stores).known i;
}
