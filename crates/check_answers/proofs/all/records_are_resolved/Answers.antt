use Rattle.check_answers.proofs.Decided.{if_ok}
use Rattle.check_answers.proofs.KeptLaws.{of_resolved, resolved_of}
use Rattle.check_answers.proofs.all.records_are_resolved.Goals as goal

pub returns : goal.returns
returns c = if_ok c.are_takers_kept.result (λ b h. (λ t. resolved_of c.args.catalog.now c.args.events.now (h.0 t), λ a. h.1 (of_resolved c.args.catalog.now c.args.events.now a))) c.are_takers_kept.ensures
