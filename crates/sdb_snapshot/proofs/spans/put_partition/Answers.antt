use Rattle.std.proofs.Common.{Some, cond, ap, ◌∙◌}
use Rattle.std.specs.BTreeMap.{get}
use Rattle.std.specs.Ordering.{eq_by_cmp}
use Rattle.sdb_snapshot.specs.Spans.{partition_cmp}
use Rattle.sdb_snapshot.proofs.spans.put_partition.Goals as goal

pub returns-clause-ok : goal.returns-clause-ok
returns-clause-ok c p =
    c.in_ok-insert.ensures.updates.0 p ∙ ap (λ k. cond (eq_by_cmp partition_cmp k p) (Some c.args.place) (get partition_cmp c.args.parts.now p)) c.in_ok-copy.ensures
