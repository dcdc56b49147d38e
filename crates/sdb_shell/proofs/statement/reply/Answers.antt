use Rattle.sdb_shell.specs.Session.{Unwritten}
use Rattle.sdb_shell.proofs.statement.reply.Goals as goal

pub returns-in-Err-Failed-clause-stopped : goal.returns-in-Err-Failed-clause-stopped
returns-in-Err-Failed-clause-stopped g c = Unwritten tt c.in-Ok.answer c.in-Ok.ensures.answered c.in-Err-Failed.ensures.prefix

pub returns-in-Ok-clause-stopped : goal.returns-in-Ok-clause-stopped
returns-in-Ok-clause-stopped g c = Unwritten tt c.in-Ok.answer c.in-Ok.ensures.answered c.in-Err-NoMemory.ensures.prefix
