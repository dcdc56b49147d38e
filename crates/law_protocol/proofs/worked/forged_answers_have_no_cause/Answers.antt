use Rattle.law_protocol.proofs.Uncaused.{oracle_not_shown, accused_not_caused, broken_not_caused, counting_not_caused}
use Rattle.law_protocol.proofs.worked.forged_answers_have_no_cause.Goals as goal

pub returns : goal.returns
returns c = record { oracle = oracle_not_shown; accused = accused_not_caused; broken = broken_not_caused; counting = counting_not_caused }
