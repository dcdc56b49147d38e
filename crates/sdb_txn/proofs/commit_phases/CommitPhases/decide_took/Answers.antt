use Rattle.sdb_txn.proofs.CommitCalls.{all_within}
use Rattle.sdb_txn.proofs.commit_phases.CommitPhases.decide_took.Goals as goal

pub stop-self-inside-requires-clause-within : goal.stop-self-inside-requires-clause-within
stop-self-inside-requires-clause-within c = all_within c.self.inside c.len-count.result c.self.invariant c.len-count.ensures
