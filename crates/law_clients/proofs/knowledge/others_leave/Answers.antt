use Rattle.law_clients.proofs.Clients.{client_later, others_spared}
use Rattle.law_clients.proofs.knowledge.others_leave.Goals as goal

pub returns : goal.returns
returns c = λ plan past c d q x o ok. client_later plan past d q x (others_spared plan past c d q x o.apart o.by o.may o.ends ok) ok
