use Rattle.std.proofs.Common.{length}
use Rattle.check_answers.proofs.plain.+removed.Given as goal

abbrev pub decreases-removed : goal.decreases-removed
decreases-removed l = length l.calls.now
