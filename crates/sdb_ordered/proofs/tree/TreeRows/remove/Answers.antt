use Rattle.std.proofs.Common.{◌∙◌, ap}
use Rattle.std.specs.FinMap.{remove}
use Rattle.sdb_types.proofs.Public.{key_exact, key_total}
use Rattle.sdb_ordered.proofs.TreeLemmas.{removed}
use Rattle.sdb_ordered.proofs.tree.TreeRows.remove.Goals as goal

pub returns : goal.returns
returns c =
    removed key_total key_exact c.self.inside.rows.entries c.remove.new.self.entries c.args.key.now c.remove.ensures.updates.0
    ∙ ap (λ m. remove m c.args.key.now) c.self.view_is
