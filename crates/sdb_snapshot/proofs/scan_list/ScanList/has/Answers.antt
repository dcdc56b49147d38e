use Rattle.std.proofs.Common.{List, sym, ap, ◌∙◌}
use Rattle.sdb_record.specs.declared.access.Scan.{Scan}
use Rattle.sdb_snapshot.specs.Seen.{is_scanned}
use Rattle.sdb_snapshot.specs.Spans.{place_in_tables}
use Rattle.sdb_snapshot.proofs.Scans.{looked_up}
use Rattle.sdb_snapshot.proofs.scan_list.ScanList.has.Goals as goal

pub returns-in-Some : goal.returns-in-Some
returns-in-Some c =
    c.is_scan_at.ensures
    ∙ looked_up c.self.inside.scans (place_in_tables c.self.inside.places.tables) c.args.span.now c.in-Some.i c.self.invariant (sym c.in-Some.ensures)
    ∙ ap (λ (scans : List Scan). is_scanned scans c.args.span.now) c.self.view_is
