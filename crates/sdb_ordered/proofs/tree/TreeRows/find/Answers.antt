use Rattle.std.proofs.Common.{◌≡◌, ap, subst}
use Rattle.std.specs.Prelude.{IfOk, Option}
use Rattle.sdb_types.specs.declared.record.Record.{Record}
use Rattle.sdb_ordered.proofs.Writes.{stored_at, lies_at}
use Rattle.sdb_ordered.proofs.tree.TreeRows.find.Goals as goal

pub returns : goal.returns
returns c =
    let key = c.args.key.now in
    subst (λ (found : Option Record). IfOk c.record_of_found.result (λ r. r ≡ found))
    (ap (stored_at key) (lies_at c.self.inside.rows.entries c.args.self.now key _ c.self.view_is c.get.ensures.value)) c.record_of_found.ensures
