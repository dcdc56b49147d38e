use Rattle.std.proofs.Common.{List, ap, subst, ◌∙◌}
use Rattle.std.specs.Prelude.{◌↔◌, IfOk, IsTrue}
use Rattle.sdb_model.specs.Catalogs.{catalog_after}
use Rattle.sdb_contents.specs.Commits.{executed_of}
use Rattle.check_answers.specs.Types.{Table}
use Rattle.check_answers.specs.Tests.{IsOfDuplicate}
use Rattle.check_answers.proofs.caused.is_of_duplicate_then.Goals as goal

pub returns : goal.returns
returns c =
    subst (λ (ts : List Table). IfOk c.is_of_duplicate.result (λ b. IsTrue b ↔ IsOfDuplicate ts (executed_of c.args.executed.now) c.args.key.now))
    (c.in_ok-then.ensures ∙ ap (catalog_after c.args.catalog.now) c.before-2.ensures) c.is_of_duplicate.ensures
