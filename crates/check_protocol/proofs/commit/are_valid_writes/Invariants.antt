use Rattle.std.proofs.Common.{◌≡◌, drop}
use Rattle.check_protocol.specs.Rules.{are_valid_writes}
use Rattle.check_protocol.proofs.commit.are_valid_writes.Given as goal

abbrev pub invariant-loop-write : goal.invariant-loop-write
invariant-loop-write l = are_valid_writes l.observed l.writes (drop l.write-index l.writes) ≡ are_valid_writes l.observed l.writes l.writes
