use Rattle.std.proofs.Common.{ap, None}
use Rattle.sdb_vacuum.specs.Types.{Span, TableName}
use Rattle.sdb_vacuum.proofs.Spans.{span_more}
use Rattle.sdb_vacuum.proofs.vacuum.spans_of.Goals as goal

pub loop-i-preserved : goal.loop-i-preserved
loop-i-preserved c =
    span_more c.args.catalog.now c.loop-i.spans c.push.new.self c.loop-i.i c.table_at.result.now (record { table = c.in_ok-copy.field-0; partition = None }) c.table_at.ensures
    (ap (λ (n : TableName). let s : Span = record { table = n; partition = None } in s) c.in_ok-copy.ensures) c.loop-i.invariant c.in_ok-push.ensures.ok
