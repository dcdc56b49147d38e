use Rattle.sdb_txn.proofs.CommitCalls.{all_within}
use Rattle.sdb_txn.proofs.commit_phases.CommitPhases.rolled_back.Goals as goal

pub undo-self-inside-requires-clause-within : goal.undo-self-inside-requires-clause-within
undo-self-inside-requires-clause-within c = all_within c.self.inside c.len-count.result c.self.invariant c.len-count.ensures
