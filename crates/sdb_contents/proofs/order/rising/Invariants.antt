use Rattle.std.proofs.Common.{◌≡◌, ◌++◌, drop}
use Rattle.sdb_contents.specs.Order.{rising_from}
use Rattle.sdb_contents.proofs.order.rising.Given as goal

abbrev pub invariant-loop-point : goal.invariant-loop-point
invariant-loop-point l = l.order ++ rising_from l.last (drop l.point-index l.points) ≡ rising_from 0 l.points
