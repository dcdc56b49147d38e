use Rattle.std.proofs.Common.{length}
use Rattle.check_tables.proofs.finished.+finds_transactional.Given as goal

abbrev pub decreases-finds_transactional : goal.decreases-finds_transactional
decreases-finds_transactional l = length l.calls.now
