use Rattle.std.proofs.Common.{length}
use Rattle.check_answers.proofs.keys.+add_all_kept.Given as goal

abbrev pub decreases-add_all_kept : goal.decreases-add_all_kept
decreases-add_all_kept l = length l.moments.now
