use Rattle.sdb_model.specs.declared.event.How.TheVariants.{Delayed, Discarded}
use Rattle.sdb_client.proofs.Delayed.{faults_alike}
use Rattle.sdb_client.proofs.laws.delayed_are_like_dropped.Goals as goal

pub returns : goal.returns
returns x = λ s t c q answer. (faults_alike s t c q Delayed Discarded answer, faults_alike s t c q Discarded Delayed answer)
