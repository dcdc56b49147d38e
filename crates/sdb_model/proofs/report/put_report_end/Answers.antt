use Rattle.std.proofs.Common.{codes}
use Rattle.std.specs.String.{string_bytes}
use Rattle.sdb_model.specs.Report.{order_text_of, tables_text_of}
use Rattle.sdb_model.proofs.Pieces.{three_pieces}
use Rattle.sdb_model.proofs.report.put_report_end.Goals as goal

pub returns : goal.returns
returns c =
    let o = c.args.outcome.now in
    three_pieces (string_bytes c.args.out.now) (order_text_of o.order) (tables_text_of o.tables) (codes "end\n") c.in_ok-put_order_part.ensures c.in_ok-put_tables_part.ensures c.in_ok-push_str.ensures.bytes
