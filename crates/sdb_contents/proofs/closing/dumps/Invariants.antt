use Rattle.std.proofs.Common.{◌≡◌, ◌<◌, length, take}
use Rattle.std.specs.Prelude.{map}
use Rattle.sdb_contents.specs.Decided.{decided}
use Rattle.sdb_contents.specs.Board.{AreUsable, GoOn, HoldTheSame, KnownAreUnchanged}
use Rattle.sdb_contents.specs.Opening.{table_names}
use Rattle.sdb_contents.specs.Held.{AreDumpsUnder, AreWellFormedUnder}
use Rattle.sdb_contents.proofs.closing.dumps.Given as goal

abbrev pub invariant-loop-i : goal.invariant-loop-i
invariant-loop-i g l = record {
  some : 0 < length (g.R.Registry.state l.stores).views;
  goes : GoOn (g.R.Registry.state l.initial.stores) (g.R.Registry.state l.stores);
  still : AreUsable l.catalog (g.R.Registry.state l.initial.stores) → HoldTheSame (g.R.Registry.state l.initial.stores) (g.R.Registry.state l.stores);
  known : KnownAreUnchanged (g.R.Registry.state l.initial.stores) (g.R.Registry.state l.stores);
  named : map (λ d. d.name) l.tables ≡ table_names (take l.i l.catalog);
  tables : AreDumpsUnder (decided l.decisions) l.catalog (g.R.Registry.state l.initial.stores) l.tables;
  well_formed : AreWellFormedUnder (decided l.decisions) (take l.i l.catalog) (g.R.Registry.state l.initial.stores);
}
