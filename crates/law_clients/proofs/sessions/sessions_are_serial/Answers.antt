use Rattle.law_clients.proofs.SessionFresh.{fresh_ids}
use Rattle.law_clients.proofs.SessionSteps.{session_serial}
use Rattle.law_clients.proofs.sessions.sessions_are_serial.Goals as goal

pub returns : goal.returns
returns c = λ s. session_serial s.catalog s.apart s.opening s.before s.sound s.are_images s.fit (fresh_ids s.catalog s.apart s.opening s.before s.exchanges s.new) s.chain
