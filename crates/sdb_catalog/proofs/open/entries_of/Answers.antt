use Rattle.std.proofs.Common.{◌≡◌, [], List, sym, subst, Option}
use Rattle.std.specs.Prelude.{IfSome}
use Rattle.sdb_catalog.specs.declared.entry.Entry.{Entry}
use Rattle.sdb_catalog.specs.Opened.{Follow, Follows}
use Rattle.sdb_catalog.specs.Rows.{row_of}
use Rattle.sdb_catalog.proofs.Opening.{first_bad, follow_more, rows_more}
use Rattle.sdb_catalog.proofs.open.entries_of.Goals as goal

pub returns-in-None-clause-err : goal.returns-in-None-clause-err
returns-in-None-clause-err c =
    first_bad c.args.names.now c.args.rows.now c.loop-row.row-index c.row-item.result c.loop-row.entries c.in_ok-entry.field-0 c.in_ok-copy-in-None.field-0 c.loop-row-test.true c.row-item.is c.loop-row.invariant.rows c.loop-row.invariant.follow
    (λ e same fit. c.in_ok-entry.ensures.read e same (subst (λ (l : List Entry). Follows c.args.names.now l e) (sym c.as_slice.ensures) fit)) c.in-None.is c.in_ok-copy-in-None.ensures

pub loop-row-preserved : goal.loop-row-preserved
loop-row-preserved c =
    let found = subst (λ (o : Option Entry). IfSome o (λ e. (row_of e ≡ c.row-item.result) × Follows c.args.names.now c.as_slice.result.now e)) c.in-Some.is c.in_ok-entry.ensures.some in
    let fit = subst (λ (l : List Entry). Follows c.args.names.now l c.in-Some.entry) c.as_slice.ensures found.1 in
    record {
      rows = rows_more c.args.rows.now c.loop-row.row-index c.loop-row.entries c.in-Some.entry c.loop-row-test.true c.row-item.is found.0 c.loop-row.invariant.rows c.in_ok-push-in-Some.ensures.ok;
      follow = subst (λ (l : List Entry). Follow c.args.names.now [] l) (sym c.in_ok-push-in-Some.ensures.ok) (follow_more c.args.names.now [] c.loop-row.entries c.in-Some.entry c.loop-row.invariant.follow fit);
    }
