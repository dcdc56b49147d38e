use Rattle.std.proofs.Common.{◌∙◌, ap}
use Rattle.std.specs.FinMap.{insert}
use Rattle.sdb_types.proofs.Public.{key_exact, key_total}
use Rattle.sdb_ordered.proofs.TreeLemmas.{inserted}
use Rattle.sdb_ordered.proofs.tree.TreeRows.insert.Goals as goal

pub returns-clause-ok : goal.returns-clause-ok
returns-clause-ok c =
    inserted key_total key_exact c.self.inside.rows.entries c.insert.new.self.entries c.into_key-key.result c.in_ok-columns.columns c.in_ok-insert.ensures.updates.0
    ∙ (ap (λ m. insert m c.into_key-key.result c.in_ok-columns.columns) c.self.view_is
    ∙ (ap (λ k. insert c.args.self.now k c.in_ok-columns.columns) c.into_key-key.ensures
    ∙ ap (λ cs. insert c.args.self.now c.args.rec.key cs) c.in_ok-columns.ensures))
