use Rattle.sdb_sqltext.proofs.Clauses.{one_statement, one_refusal, not_both}
use Rattle.sdb_sqltext.proofs.laws.one_reading.Goals as goal

pub returns : goal.returns
returns c = record { statement = one_statement; refusal = one_refusal; either = not_both }
