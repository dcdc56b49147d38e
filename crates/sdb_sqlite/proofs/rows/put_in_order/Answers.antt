use Rattle.std.proofs.Common.{rules}
use Rattle.sdb_sqlite.proofs.Sorting.{by_keys}
use Rattle.sdb_sqlite.proofs.rows.put_in_order.Goals as goal

pub returns-clause-sorted : goal.returns-clause-sorted
returns-clause-sorted c = by_keys _ c.in_ok-sort_by.ensures.sorted (λ a r q k. search rules)
