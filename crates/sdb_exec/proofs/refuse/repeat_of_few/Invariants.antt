use Rattle.std.proofs.Common.{◌≡◌, ◌≤◌, ◌-◌, length, take, drop, []}
use Rattle.sdb_model.specs.Refused.{repeat_place}
use Rattle.sdb_exec.proofs.refuse.repeat_of_few.Given as goal

abbrev pub invariant-loop-i : goal.invariant-loop-i
invariant-loop-i l = record {
  within : l.i ≤ length l.mentions;
  same : repeat_place (take l.i l.mentions) (drop l.i l.mentions) ≡ repeat_place [] l.mentions;
}

abbrev pub decreases-loop-i : goal.decreases-loop-i
decreases-loop-i l = length l.mentions - l.i
