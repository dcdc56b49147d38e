use Rattle.std.proofs.Common.{◌≡◌, ℕ, List, Some, cond, false, length, ap, ◌∙◌}
use Rattle.sdb_snapshot.specs.Types.{Scan, Span}
use Rattle.sdb_snapshot.specs.Seen.{is_scanned, same_span}
use Rattle.sdb_snapshot.specs.Spans.{place_in_tables}
use Rattle.sdb_snapshot.proofs.Scans.{places_opened}
use Rattle.sdb_snapshot.proofs.scan_list.ScanList.push_new.Goals as goal

pub invariant_of-self-2 : goal.invariant_of-self-2
invariant_of-self-2 c =
    let scans = c.self.inside.scans in
    let place = place_in_tables c.self.inside.places.tables in
    let next = place_in_tables c.put.new.self.tables in
    let new : is_scanned scans c.args.scan.span ≡ false = ap (λ (xs : List Scan). is_scanned xs c.args.scan.span) c.self.view_is ∙ c.requires in
    let is : (q : Span) → next q ≡ cond (same_span c.args.scan.span q) (Some (length scans)) (place q) = λ q.
    c.in_ok-put.ensures.ok q
    ∙ ap (λ (n : ℕ). cond (same_span c.args.scan.span q) (Some n) (place q)) c.len.ensures in
    places_opened c.push.result scans c.push.new.self c.args.scan place next new c.self.invariant is c.push.ensures.ok c.push.ensures.err
