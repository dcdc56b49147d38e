use Rattle.std.proofs.Common.{◌≡◌, length}
use Rattle.sdb_vacuum.specs.Vacuum.{first_of}
use Rattle.sdb_vacuum.proofs.rows.first.Given as goal

abbrev pub invariant-loop-row : goal.invariant-loop-row
invariant-loop-row l = first_of l.left.items ≡ first_of l.initial.left.items

abbrev pub decreases-loop-row : goal.decreases-loop-row
decreases-loop-row l = length l.left.items
