use Rattle.std.proofs.Common.{◌≡◌, length}
use Rattle.sdb_types.specs.Order.{are_distinct}
use Rattle.sdb_types.specs.Contents.{put_keys}
use Rattle.sdb_types.proofs.batch.are_once.Given as goal

abbrev pub invariant-loop-rest : goal.invariant-loop-rest
invariant-loop-rest l = are_distinct (put_keys l.puts) ≡ are_distinct (put_keys l.rest)

abbrev pub decreases-loop-rest : goal.decreases-loop-rest
decreases-loop-rest l = length l.rest
