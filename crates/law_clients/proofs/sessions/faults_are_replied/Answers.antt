use Rattle.law_clients.proofs.Faults.{faults_replied, faults_at_takes}
use Rattle.law_clients.proofs.sessions.faults_are_replied.Goals as goal

pub returns-clause-accepted : goal.returns-clause-accepted
returns-clause-accepted c = faults_at_takes

pub returns-clause-replied : goal.returns-clause-replied
returns-clause-replied c = faults_replied
