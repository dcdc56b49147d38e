use Rattle.std.proofs.Common.{◌≡◌, length}
use Rattle.sdb_txn.specs.Read.{settle}
use Rattle.sdb_txn.proofs.row_kinds.settle.Given as goal

abbrev pub invariant-loop-row : goal.invariant-loop-row
invariant-loop-row l = settle l.images l.left.items ≡ settle l.initial.images l.initial.left.items

abbrev pub decreases-loop-row : goal.decreases-loop-row
decreases-loop-row l = length l.left.items
