use Rattle.std.proofs.Common.{◌∙◌, ap}
use Rattle.std.specs.FinMap.{insert}
use Rattle.sdb_types.proofs.Public.{key_exact, key_total}
use Rattle.sdb_ordered.proofs.Public.{inserted}
use Rattle.sdb_validate.proofs.key_map.ExpectedMap.insert.Goals as goal

pub returns : goal.returns
returns c =
    record {
      ok = inserted key_total key_exact c.self.inside.wishes.entries c.insert.new.self.entries c.in_ok-copy.field-0 c.args.wish c.in_ok-insert.ensures.updates.0
          ∙ ap (λ m. insert m c.in_ok-copy.field-0 c.args.wish) c.self.view_is
          ∙ ap (λ k. insert c.args.self.now k c.args.wish) c.in_ok-copy.ensures;
    }
