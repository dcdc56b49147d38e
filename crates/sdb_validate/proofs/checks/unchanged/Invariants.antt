use Rattle.std.proofs.Common.{◌≡◌, map, take}
use Rattle.sdb_validate.specs.Rescan.{wanted_of_read}
use Rattle.sdb_validate.proofs.checks.unchanged.Given as goal

abbrev pub invariant-loop-read : goal.invariant-loop-read
invariant-loop-read l = l.wants ≡ map wanted_of_read (take l.read-index l.reads)
