use Rattle.std.proofs.Common.{◌≡◌, ◌≤◌, ◌-◌, length, drop}
use Rattle.sdb_validate.specs.Rescan.{reads_rise}
use Rattle.sdb_validate.proofs.checks.rise.Given as goal

abbrev pub invariant-loop-i : goal.invariant-loop-i
invariant-loop-i l = record {
  within : 1 ≤ l.i;
  same : reads_rise (drop (l.i - 1) l.reads) ≡ reads_rise l.reads;
}

abbrev pub decreases-loop-i : goal.decreases-loop-i
decreases-loop-i l = length l.reads - l.i
