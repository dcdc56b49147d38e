use Rattle.check_answers.proofs.Decided.{if_ok}
use Rattle.check_answers.proofs.WholeLaws.{of_shown, shown_of}
use Rattle.check_answers.proofs.all.have_no_dirty_reads.Goals as goal

pub returns : goal.returns
returns c =
    if_ok c.are_takers_kept.result (λ b h. (λ t. shown_of c.args.catalog.now c.args.events.now c.args.stores.now (h.0 t), λ a. h.1 (of_shown c.args.catalog.now c.args.events.now c.args.stores.now a))) c.are_takers_kept.ensures
