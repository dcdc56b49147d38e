use Rattle.sdb_txn.proofs.CommitCalls.{all_within}
use Rattle.sdb_txn.proofs.commit_phases.CommitPhases.validate_took.Goals as goal

pub stop-self-inside-requires-clause-within : goal.stop-self-inside-requires-clause-within
stop-self-inside-requires-clause-within c = all_within c.self.inside c.len-count.result c.self.invariant c.len-count.ensures

pub stop-self-inside-requires-in-Faulted-clause-within : goal.stop-self-inside-requires-in-Faulted-clause-within
stop-self-inside-requires-in-Faulted-clause-within c = all_within c.self.inside c.len-count.result c.self.invariant c.len-count.ensures

pub stop-self-inside-requires-in-NoMemory-clause-within : goal.stop-self-inside-requires-in-NoMemory-clause-within
stop-self-inside-requires-in-NoMemory-clause-within c = all_within c.self.inside c.len-count.result c.self.invariant c.len-count.ensures
