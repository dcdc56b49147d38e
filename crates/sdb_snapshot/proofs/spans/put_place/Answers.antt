use Rattle.sdb_snapshot.proofs.SpanPlaces.{through_err, through_ok}
use Rattle.sdb_snapshot.proofs.spans.put_place.Goals as goal

pub returns-in-Some-clause-ok : goal.returns-in-Some-clause-ok
returns-in-Some-clause-ok c =
    let w = c.put_partition.new.parts in
    through_ok c.args.tables.now (c.get_mut.follows.lender w) c.args.span.now c.in-Some.parts.now w c.in-Some.ensures.value (c.get_mut.follows.holds w) c.args.place c.put_partition.result c.put_partition.ensures.ok

pub returns-in-Some-clause-err : goal.returns-in-Some-clause-err
returns-in-Some-clause-err c =
    let w = c.put_partition.new.parts in
    through_err c.args.tables.now (c.get_mut.follows.lender w) c.args.span.now c.in-Some.parts.now w c.in-Some.ensures.value (c.get_mut.follows.holds w) c.put_partition.result c.put_partition.ensures.err
