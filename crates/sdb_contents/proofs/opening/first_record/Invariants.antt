use Rattle.std.proofs.Common.{◌≡◌, ◌<◌, [], length}
use Rattle.sdb_contents.specs.Board.{AreUsable, GoOn, HoldTheSame, KnownAreUnchanged}
use Rattle.sdb_contents.proofs.Empty.{NoneUntil, looked}
use Rattle.sdb_contents.proofs.opening.first_record.Given as goal

abbrev pub invariant-loop-table : goal.invariant-loop-table
invariant-loop-table g l = record {
  some : 0 < length (g.R.Registry.state l.stores).views;
  goes : GoOn (g.R.Registry.state l.initial.stores) (g.R.Registry.state l.stores);
  still : AreUsable l.catalog (g.R.Registry.state l.initial.stores) → HoldTheSame (g.R.Registry.state l.initial.stores) (g.R.Registry.state l.stores);
  known : KnownAreUnchanged (g.R.Registry.state l.initial.stores) (g.R.Registry.state l.stores);
  none_known : NoneUntil l.table-items (g.R.Registry.state l.initial.stores) l.table-index;
  none : AreUsable l.catalog (g.R.Registry.state l.initial.stores) → looked (g.R.Registry.state l.initial.stores) l.table-items l.table-index ≡ [];
}
