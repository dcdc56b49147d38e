use Rattle.check_answers.proofs.Decided.{if_ok}
use Rattle.check_answers.proofs.KeptLaws.{counted_of, of_counted}
use Rattle.check_answers.proofs.all.calls_are_counted.Goals as goal

pub returns : goal.returns
returns c = if_ok c.are_takers_kept.result (λ b h. (λ t. counted_of c.args.catalog.now c.args.events.now (h.0 t), λ a. h.1 (of_counted c.args.catalog.now c.args.events.now a))) c.are_takers_kept.ensures
