use Rattle.std.proofs.Common.{List, sym, subst}
use Rattle.sdb_record.specs.declared.access.Scan.{Scan}
use Rattle.sdb_snapshot.specs.Sets.{HaveFirstIndexes}
use Rattle.sdb_snapshot.specs.Spans.{place_in_tables}
use Rattle.sdb_snapshot.proofs.Scans.{places_first}
use Rattle.sdb_snapshot.proofs.scan_list.ScanList.cut.Goals as goal

pub invariant_of-self : goal.invariant_of-self
invariant_of-self c =
    let place = place_in_tables c.self.inside.places.tables in
    subst (λ (scans : List Scan). HaveFirstIndexes scans place) (sym c.cut.ensures) (places_first c.self.inside.scans c.args.len place c.self.invariant)
