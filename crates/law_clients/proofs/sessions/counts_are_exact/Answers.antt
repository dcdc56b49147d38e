use Rattle.law_clients.proofs.Counts.{none_answered, none_counted, one_count}
use Rattle.law_clients.proofs.sessions.counts_are_exact.Goals as goal

pub returns-clause-exact : goal.returns-clause-exact
returns-clause-exact c = one_count

pub returns-clause-none : goal.returns-clause-none
returns-clause-none c = none_counted

pub returns-clause-answered : goal.returns-clause-answered
returns-clause-answered c = λ s n counted none. none_answered s.catalog s.opening s.last s.before s.vacuum n s.serial s.is counted none
