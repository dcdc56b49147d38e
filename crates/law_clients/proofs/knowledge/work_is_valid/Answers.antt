use Rattle.law_clients.proofs.Seen.{sound_of, settled_of}
use Rattle.law_clients.proofs.Work.{work_ok}
use Rattle.law_clients.proofs.knowledge.work_is_valid.Goals as goal

pub returns : goal.returns
returns c = record { sound = sound_of; settled = settled_of; plan = work_ok }
