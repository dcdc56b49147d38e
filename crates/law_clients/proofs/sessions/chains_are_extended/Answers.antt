use Rattle.law_clients.specs.Session.{no_parts}
use Rattle.law_clients.proofs.SessionFresh.{chain_more, reached}
use Rattle.law_clients.proofs.Betweens.{between_more}
use Rattle.law_clients.proofs.sessions.chains_are_extended.Goals as goal

pub returns-clause-longer : goal.returns-clause-longer
returns-clause-longer c = λ m. chain_more m.next.catalog no_parts m.start m.next.g m.next.h m.next.exchanges m.chain m.own m.next.exchanged

pub returns-clause-between : goal.returns-clause-between
returns-clause-between c = λ n. between_more n.catalog n.g n.h n.exchanges n.exchange n.after n.exchanged

pub returns-clause-reached : goal.returns-clause-reached
returns-clause-reached c = λ s. reached s.catalog s.apart s.opening s.before s.sound s.are_images s.fit s.new s.chain
