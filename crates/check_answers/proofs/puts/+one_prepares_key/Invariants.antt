use Rattle.std.proofs.Common.{length}
use Rattle.check_answers.proofs.puts.+one_prepares_key.Given as goal

abbrev pub decreases-one_prepares_key : goal.decreases-one_prepares_key
decreases-one_prepares_key l = length l.puts.now
