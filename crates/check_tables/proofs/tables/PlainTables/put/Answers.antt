use Rattle.std.proofs.Common.{◌∙◌, ap}
use Rattle.std.specs.FinMap.{insert}
use Rattle.sdb_types.proofs.Public.{key_exact, key_total}
use Rattle.sdb_ordered.proofs.Public.{inserted}
use Rattle.check_tables.proofs.tables.PlainTables.put.Goals as goal

pub returns : goal.returns
returns c =
    inserted key_total key_exact c.self.inside.rows.entries c.insert.new.self.entries c.args.key c.args.columns c.in_ok-insert.ensures.updates.0
    ∙ ap (λ m. insert m c.args.key c.args.columns) c.self.view_is
