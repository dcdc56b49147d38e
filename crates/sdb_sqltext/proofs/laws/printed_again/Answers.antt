use Rattle.sdb_sqltext.proofs.Again.{read_again}
use Rattle.sdb_sqltext.proofs.laws.printed_again.Goals as goal

pub returns : goal.returns
returns c = read_again
