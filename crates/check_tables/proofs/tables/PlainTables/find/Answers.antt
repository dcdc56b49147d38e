use Rattle.std.proofs.Common.{◌∙◌, ap, sym}
use Rattle.std.specs.FinMap.{get}
use Rattle.sdb_types.proofs.Public.{key_total}
use Rattle.sdb_ordered.proofs.Public.{get_entries}
use Rattle.check_tables.proofs.tables.PlainTables.find.Goals as goal

pub returns : goal.returns
returns c = c.get.ensures.value ∙ sym (get_entries key_total c.self.inside.rows.entries c.args.key.now) ∙ ap (λ m. get m c.args.key.now) c.self.view_is
