use Rattle.sdb_vacuum.proofs.Ends.{bad_row, faulted_fault}
use Rattle.sdb_vacuum.proofs.laws.vacuum_ends.Goals as goal

pub returns-clause-faulted : goal.returns-clause-faulted
returns-clause-faulted c = λ r. faulted_fault r.catalog r.past r.correct

pub returns-clause-bad : goal.returns-clause-bad
returns-clause-bad c = λ r key. bad_row r.catalog r.past key r.correct
