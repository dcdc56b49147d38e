use Rattle.std.proofs.Common.{◌≡◌, List, true, ap, ◌∙◌, rules}
use Rattle.sdb_record.specs.declared.access.Scan.{Scan}
use Rattle.sdb_snapshot.specs.Seen.{is_scanned}
use Rattle.sdb_snapshot.specs.Spans.{place_in_tables}
use Rattle.sdb_snapshot.proofs.Scans.{places_pushed}
use Rattle.sdb_snapshot.proofs.scan_list.ScanList.push.Goals as goal

pub invariant_of-self : goal.invariant_of-self
invariant_of-self c =
    let has : is_scanned c.args.self.now c.args.scan.span ≡ true = search rules in
    let scanned : is_scanned c.self.inside.scans c.args.scan.span ≡ true = ap (λ (scans : List Scan). is_scanned scans c.args.scan.span) c.self.view_is ∙ has in
    places_pushed c.push.result c.self.inside.scans c.push.new.self c.args.scan (place_in_tables c.self.inside.places.tables) scanned c.self.invariant c.push.ensures.ok c.push.ensures.err
