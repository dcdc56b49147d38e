use Rattle.sdb_vacuum.proofs.Counts.{exact_calls, most_calls}
use Rattle.sdb_vacuum.proofs.laws.vacuum_calls.Goals as goal

pub returns-clause-most : goal.returns-clause-most
returns-clause-most c = λ r. most_calls r.catalog r.past r.correct

pub returns-clause-exact : goal.returns-clause-exact
returns-clause-exact c = λ r n. exact_calls r.catalog r.past n r.correct
