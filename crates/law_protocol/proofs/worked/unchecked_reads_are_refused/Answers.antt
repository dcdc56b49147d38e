use Rattle.law_protocol.proofs.Unchecked.{unchecked_refused}
use Rattle.law_protocol.proofs.worked.unchecked_reads_are_refused.Goals as goal

pub returns : goal.returns
returns c = unchecked_refused
