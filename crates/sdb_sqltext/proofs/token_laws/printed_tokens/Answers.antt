use Rattle.sdb_sqltext.proofs.AllPrinted.{printed_read}
use Rattle.sdb_sqltext.proofs.token_laws.printed_tokens.Goals as goal

pub returns : goal.returns
returns c = printed_read
