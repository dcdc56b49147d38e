use Rattle.std.proofs.Common.{Some, cond, ap, sym, ◌∙◌}
use Rattle.std.specs.BTreeMap.{get}
use Rattle.std.specs.Map.{lookup}
use Rattle.sdb_types.specs.Order.{table_cmp}
use Rattle.sdb_snapshot.specs.Spans.{place_in_table}
use Rattle.sdb_snapshot.proofs.SpanPlaces.{put, same_partition, same_table}
use Rattle.sdb_snapshot.proofs.spans.add_table.Goals as goal

pub returns-clause-ok : goal.returns-clause-ok
returns-clause-ok c =
    let old = c.args.tables.now in
    let span = c.args.span.now in
    let w = c.put_partition.new.parts in
    put old c.insert.new.self span w
    (λ t. c.in_ok-insert.ensures.updates.0 t ∙ ap (λ k. cond (same_table k t) (Some w) (get table_cmp old t)) c.in_ok-copy.ensures)
    c.args.place
    (λ p. c.in_ok-put_partition.ensures.ok p
    ∙ ap (cond (same_partition span.partition p) (Some c.args.place)) (ap (lookup (same_partition p)) c.new-parts.ensures.empty ∙ sym (ap (λ o. place_in_table o p) c.requires)))
