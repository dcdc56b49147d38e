use Rattle.std.proofs.Common.{◌≡◌, take, map, IfSome}
use Rattle.sdb_model.specs.Transactions.{statements_by, point_at}
use Rattle.sdb_contents.specs.Commits.{commits_of}
use Rattle.sdb_contents.proofs.order.points_of.Given as goal

abbrev pub invariant-loop-id : goal.invariant-loop-id
invariant-loop-id l = record {
  known : IfSome l.known (λ k. k.accepted ≡ commits_of (statements_by k.client l.events));
  points : l.points.items ≡ map (point_at l.events) (take l.id-index l.ids);
}
