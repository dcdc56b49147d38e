use Rattle.std.proofs.Common.{◌≡◌, ◌+◌, List, drop, subst, sym}
use Rattle.sdb_types.specs.declared.record.Record.{Record}
use Rattle.sdb_sqlite.specs.Asked.{rows_records}
use Rattle.sdb_sqlite.proofs.Listing.{onto, one_more}
use Rattle.sdb_sqlite.proofs.rows.records_of_rows.Goals as goal
use Rattle.sdb_types.proofs.Public.{drop_next}

pub loop-row-preserved : goal.loop-row-preserved
loop-row-preserved c =
    let span = c.args.span.now in
    let rows = c.args.rows.now in
    let i = c.loop-row.row-index in
    let row = c.row-item.result in
    subst (λ (xs : List Record). onto xs (rows_records span (drop (i + 1) rows)) ≡ rows_records span rows) (sym c.in_ok-push.ensures.ok)
    (one_more span c.loop-row.records row c.in_ok-record_of_row.field-0 rows (drop i rows) (drop (i + 1) rows) (drop_next rows i row c.loop-row-test.true c.row-item.is) c.in_ok-record_of_row.ensures c.loop-row.invariant)
