use Rattle.std.proofs.Common.{◌≡◌, drop}
use Rattle.sdb_record.specs.Among.{write_among}
use Rattle.check_protocol.proofs.plan.write_of.Given as goal

abbrev pub invariant-loop-write : goal.invariant-loop-write
invariant-loop-write l = write_among (drop l.write-index l.writes) l.key ≡ write_among l.writes l.key
