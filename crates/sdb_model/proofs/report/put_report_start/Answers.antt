use Rattle.std.proofs.Common.{codes, length, ap, ◌∙◌, ◌++◌}
use Rattle.std.specs.String.{string_bytes}
use Rattle.sdb_model.specs.Report.{heading}
use Rattle.sdb_model.proofs.Pieces.{two_pieces}
use Rattle.sdb_model.proofs.report.put_report_start.Goals as goal

pub returns : goal.returns
returns c =
    let start = string_bytes c.args.out.now in
    let events = c.args.events.now in
    two_pieces start (codes "scalardb report 1\n") (heading (codes "events") (length events)) c.in_ok-push_str.ensures.bytes
    (c.in_ok-put_heading.ensures ∙ ap (λ n. string_bytes c.push_str.new.self ++ heading (codes "events") n) c.len.ensures)
