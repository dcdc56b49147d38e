use Rattle.std.proofs.Common.{◌≡◌, [], drop}
use Rattle.std.specs.Prelude.{fold}
use Rattle.check_tables.specs.Points.{inserted_point}
use Rattle.check_tables.proofs.points.in_order.Given as goal

abbrev pub invariant-loop-point : goal.invariant-loop-point
invariant-loop-point l = fold inserted_point l.order (drop l.point-index l.points) ≡ fold inserted_point [] l.points
