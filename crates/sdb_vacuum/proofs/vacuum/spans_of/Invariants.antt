use Rattle.std.proofs.Common.{◌≡◌, take}
use Rattle.std.specs.Prelude.{map}
use Rattle.sdb_vacuum.specs.Vacuum.{whole}
use Rattle.sdb_vacuum.proofs.vacuum.spans_of.Given as goal

abbrev pub invariant-loop-i : goal.invariant-loop-i
invariant-loop-i l = l.spans ≡ map whole (take l.i l.catalog)
