use Rattle.std.proofs.Common.{◌∙◌, ap, refl}
use Rattle.std.specs.FinMap.{remove}
use Rattle.std.specs.Option.{option_copied}
use Rattle.sdb_types.proofs.Public.{key_exact, key_total}
use Rattle.sdb_ordered.proofs.TreeLemmas.{removed}
use Rattle.sdb_ordered.proofs.Writes.{lies_at, unmet_delete, delete}
use Rattle.sdb_ordered.proofs.tree.TreeRows.delete.Goals as goal

pub returns-then-not-holds_of_columns-clause-ok : goal.returns-then-not-holds_of_columns-clause-ok
returns-then-not-holds_of_columns-clause-ok c =
    let key = c.args.key.now in
    unmet_delete c.args.condition.now key c.args.self.now c.args.self.now (option_copied c.get-found.result)
    (lies_at c.self.inside.rows.entries c.args.self.now key _ c.self.view_is c.get-found.ensures.value) c.in_ok-record_of_found.field-0 (c.if-not-holds_of_columns.ensures key) c.in_ok-record_of_found.ensures refl

pub returns-clause-ok : goal.returns-clause-ok
returns-clause-ok c =
    let key = c.args.key.now in
    delete c.args.condition.now key c.args.self.now _ (option_copied c.get-found.result)
    (lies_at c.self.inside.rows.entries c.args.self.now key _ c.self.view_is c.get-found.ensures.value) (c.if-not-holds_of_columns.ensures key)
    (removed key_total key_exact c.self.inside.rows.entries c.remove.new.self.entries key c.remove.ensures.updates.0 ∙ ap (λ m. remove m key) c.self.view_is)
