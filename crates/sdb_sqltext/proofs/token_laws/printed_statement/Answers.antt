use Rattle.sdb_sqltext.proofs.AllPrinted.{statement_read}
use Rattle.sdb_sqltext.proofs.token_laws.printed_statement.Goals as goal

pub returns : goal.returns
returns c = statement_read
