use Rattle.std.proofs.Common.{◌≡◌, length}
use Rattle.sdb_types.specs.Contents.{rise}
use Rattle.check_answers.proofs.replies.rises.Given as goal

abbrev pub invariant-loop-rest : goal.invariant-loop-rest
invariant-loop-rest l = rise l.records ≡ rise l.rest

abbrev pub decreases-loop-rest : goal.decreases-loop-rest
decreases-loop-rest l = length l.rest
