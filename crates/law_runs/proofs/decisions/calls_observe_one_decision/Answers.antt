use Rattle.law_runs.proofs.Agreeing.{decisions_agree}
use Rattle.law_runs.proofs.decisions.calls_observe_one_decision.Goals as goal

pub returns : goal.returns
returns c = λ t x. decisions_agree t.places t.events t.opening t.closing t.moments t.trace x.rows_final
