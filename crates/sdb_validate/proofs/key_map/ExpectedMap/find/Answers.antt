use Rattle.std.proofs.Common.{◌∙◌, ap, sym}
use Rattle.std.specs.FinMap.{get}
use Rattle.sdb_types.proofs.Public.{key_total}
use Rattle.sdb_ordered.proofs.Public.{get_entries}
use Rattle.sdb_validate.proofs.key_map.ExpectedMap.find.Goals as goal

pub returns : goal.returns
returns c = c.get.ensures.value ∙ sym (get_entries key_total c.self.inside.wishes.entries c.args.key.now) ∙ ap (λ m. get m c.args.key.now) c.self.view_is
