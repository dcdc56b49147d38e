use Rattle.check_answers.proofs.Decided.{first_found, if_ok, second_sought}
use Rattle.check_answers.proofs.bad.is_bad_record.Goals as goal

pub returns-then-finds : goal.returns-then-finds
returns-then-finds c = first_found c.in_ok-finds.finds c.if-finds.true c.in_ok-finds.ensures

pub returns : goal.returns
returns c = if_ok c.meets_misfit.result (λ b h. second_sought c.in_ok-finds.finds b c.if-finds.false c.in_ok-finds.ensures h) c.meets_misfit.ensures
