use Rattle.std.proofs.Common.{◌≡◌, length, false, []}
use Rattle.sdb_report.specs.FieldReading.{quoted_on}
use Rattle.sdb_report.proofs.values.quoted_at.Given as goal

abbrev pub invariant-loop-rest : goal.invariant-loop-rest
invariant-loop-rest l = quoted_on l.second l.text.items l.rest ≡ quoted_on false [] l.bytes

abbrev pub decreases-loop-rest : goal.decreases-loop-rest
decreases-loop-rest l = length l.rest
