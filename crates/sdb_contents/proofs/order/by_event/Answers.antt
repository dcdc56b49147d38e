use Rattle.std.proofs.Common.{rules}
use Rattle.std.proofs.lemmas.List.Sorted.{IsNonDecreasingBy-from_sort_by_key}
use Rattle.sdb_model.specs.declared.event.Point.{Point}
use Rattle.sdb_contents.proofs.order.by_event.Goals as goal

pub returns-clause-sorted : goal.returns-clause-sorted
returns-clause-sorted c = IsNonDecreasingBy-from_sort_by_key (λ (p : Point). p.event) _ c.in_ok-sort_by_key.ensures.sorted (λ a r q k. search rules)
