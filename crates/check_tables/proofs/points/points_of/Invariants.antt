use Rattle.std.proofs.Common.{◌≡◌, take, map}
use Rattle.check_tables.proofs.points.points_of.Given as goal
use Rattle.sdb_model.specs.Transactions.{point_at}

abbrev pub invariant-loop-id : goal.invariant-loop-id
invariant-loop-id l = l.points ≡ map (point_at l.events) (take l.id-index l.ids)
