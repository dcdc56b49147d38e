use Rattle.law_runs.proofs.MalformedAnswers.{execution_ends_at_once, execution_malformed, execution_sweeps_malformed}
use Rattle.law_runs.proofs.laws.malformed_records_are_answered.Goals as goal

pub returns : goal.returns
returns c = record { ends = λ x. execution_malformed x.script x.events x.playable x.execution; at_once = λ x. execution_ends_at_once x.script x.events x.playable x.execution; vacuum = λ x. execution_sweeps_malformed x.script x.events x.playable x.execution }
