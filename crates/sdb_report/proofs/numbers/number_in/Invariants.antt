use Rattle.std.proofs.Common.{◌≡◌, length}
use Rattle.sdb_report.specs.FieldReading.{number_on}
use Rattle.sdb_report.proofs.numbers.number_in.Given as goal

abbrev pub invariant-loop-rest : goal.invariant-loop-rest
invariant-loop-rest l = number_on l.n l.rest ≡ number_on 0 l.bytes

abbrev pub decreases-loop-rest : goal.decreases-loop-rest
decreases-loop-rest l = length l.rest
