use Rattle.std.proofs.Common.{◌≡◌, true, sym, subst}
use Rattle.sdb_contents.specs.Types.{Reply, TableName}
use Rattle.sdb_types.specs.declared.record.Request.TheVariants as ask
use Rattle.sdb_types.specs.Contents.{CanAnswer, are_rows_of}
use Rattle.sdb_contents.specs.Board.{AreUsableFor}
use Rattle.sdb_contents.specs.Opening.{whole}
use Rattle.sdb_contents.proofs.Empty.{scanned}
use Rattle.sdb_contents.proofs.opening.scan.Goals as goal

pub returns-in-Rows-clause-rows : goal.returns-in-Rows-clause-rows
returns-in-Rows-clause-rows g c = λ f.
    let named = c.in_ok-name.ensures in
    let old = g.R.Registry.state c.args.stores.now in
    scanned old (g.R.Registry.state c.call.new.stores) c.in_ok-name.name c.args.table.now c.in-Rows.rows c.call.result named c.in-Rows.is
    (c.call.ensures.called (subst (λ (t : TableName). AreUsableFor t old) (sym named) f))

pub returns-in-Rows-clause-of : goal.returns-in-Rows-clause-of
returns-in-Rows-clause-of g c =
    subst (λ (t : TableName). are_rows_of (whole t) c.in-Rows.rows ≡ true) c.in_ok-name.ensures
    (subst (λ (r : Reply). CanAnswer (ask.Scan (whole c.in_ok-name.name)) r) c.in-Rows.is c.call.ensures.lawful)
