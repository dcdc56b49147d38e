use Rattle.check_answers.proofs.CausedLaws.{caused_of, of_caused}
use Rattle.check_answers.proofs.Decided.{if_ok}
use Rattle.check_answers.proofs.caused.answers_have_causes.Goals as goal

pub returns : goal.returns
returns c = if_ok c.are_takers_well.result (λ b h. (λ t. caused_of c.args.catalog.now c.args.events.now (h.0 t), λ a. h.1 (of_caused c.args.catalog.now c.args.events.now a))) c.are_takers_well.ensures
