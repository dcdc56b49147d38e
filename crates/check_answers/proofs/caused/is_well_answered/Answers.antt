use Rattle.std.proofs.Common.{sym, ◌∙◌}
use Rattle.check_answers.proofs.caused.is_well_answered.Goals as goal
use Rattle.sdb_types.proofs.Public.{clash}

pub returns-then-caused : goal.returns-then-caused
returns-then-caused c = (λ t. (c.in_ok-caused.ensures.0 c.if-caused.true, c.in_ok-turned.ensures.0 t), λ w. c.in_ok-turned.ensures.1 w.1)

pub returns : goal.returns
returns c = (λ t. clash (sym t), λ w. sym c.if-caused.false ∙ c.in_ok-caused.ensures.1 w.0)
