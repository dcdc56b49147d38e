use Rattle.std.proofs.Common.{List, ap, ◌∙◌}
use Rattle.sdb_model.specs.Catalogs.{catalog_after}
use Rattle.check_answers.specs.Types.{Table}
use Rattle.check_answers.specs.Rows.{turn_is_under}
use Rattle.check_answers.proofs.Decided.{if_ok}
use Rattle.check_answers.proofs.answer.is_answer_of_then.Goals as goal

pub returns : goal.returns
returns c =
    let same = c.in_ok-then.ensures ∙ ap (catalog_after c.args.catalog.now) c.before-2.ensures in
    if_ok c.is_answer_of.result (λ b h. h ∙ ap (λ (ts : List Table). turn_is_under ts c.args.stores.now c.args.turns.now c.args.turn.now) same) c.is_answer_of.ensures
