use Rattle.sdb_sqltext.proofs.Spelled.{lexed_spelled}
use Rattle.sdb_sqltext.proofs.token_laws.read_tokens_spelled.Goals as goal

pub returns : goal.returns
returns c = lexed_spelled
