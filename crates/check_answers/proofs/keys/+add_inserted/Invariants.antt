use Rattle.std.proofs.Common.{length}
use Rattle.check_answers.proofs.keys.+add_inserted.Given as goal

abbrev pub decreases-add_inserted : goal.decreases-add_inserted
decreases-add_inserted l = length l.turns.now
