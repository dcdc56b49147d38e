use Rattle.std.proofs.Common.{length}
use Rattle.check_answers.proofs.puts.+one_puts_key.Given as goal

abbrev pub decreases-one_puts_key : goal.decreases-one_puts_key
decreases-one_puts_key l = length l.puts.now
