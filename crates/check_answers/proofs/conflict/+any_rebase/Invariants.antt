use Rattle.std.proofs.Common.{length}
use Rattle.check_answers.proofs.conflict.+any_rebase.Given as goal

abbrev pub decreases-any_rebase : goal.decreases-any_rebase
decreases-any_rebase l = length l.puts.now
