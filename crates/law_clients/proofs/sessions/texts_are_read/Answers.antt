use Rattle.law_clients.proofs.SessionTexts.{text_is_read}
use Rattle.law_clients.proofs.sessions.texts_are_read.Goals as goal

pub returns : goal.returns
returns c = text_is_read
