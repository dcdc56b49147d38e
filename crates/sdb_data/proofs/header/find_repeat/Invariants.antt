use Rattle.std.proofs.Common.{◌≡◌, ◌≤◌, ◌-◌, length, take, drop, []}
use Rattle.sdb_data.specs.Tables.{repeat_place}
use Rattle.sdb_data.proofs.header.find_repeat.Given as goal

abbrev pub invariant-loop-i : goal.invariant-loop-i
invariant-loop-i l = record {
  within : l.i ≤ length l.header;
  same : repeat_place (take l.i l.header) (drop l.i l.header) ≡ repeat_place [] l.header;
}

abbrev pub decreases-loop-i : goal.decreases-loop-i
decreases-loop-i l = length l.header - l.i
