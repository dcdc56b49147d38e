use Rattle.std.proofs.Common.{List, ℕ, ◌++◌, ◌∙◌, ap, sym}
use Rattle.std.specs.String.{string_bytes}
use Rattle.sdb_model.specs.Report.{event_lines, report_start_of, report_end_of}
use Rattle.sdb_model.proofs.Pieces.{three_pieces, report_parts}
use Rattle.sdb_model.proofs.report.put_report.Goals as goal

pub returns : goal.returns
returns c =
    let start = string_bytes c.args.out.now in
    let o = c.args.outcome.now in
    three_pieces start (report_start_of o.events) (event_lines 1 o.events) (report_end_of o) c.in_ok-put_report_start.ensures c.in_ok-put_lines.ensures c.in_ok-put_report_end.ensures
    ∙ ap (λ (text : List ℕ). start ++ text) (sym (report_parts o))
