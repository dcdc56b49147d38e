use Rattle.std.proofs.Common.{◌≡◌, [], ◌-◌}
use Rattle.sdb_report.specs.FieldReading.{counted, record_at}
use Rattle.sdb_report.specs.Lines.{behind_space}
use Rattle.sdb_report.proofs.requests.records_on.Given as goal

abbrev pub invariant-loop : goal.invariant-loop
invariant-loop l = counted (behind_space record_at) (l.count - l.counter) l.records l.rest ≡ counted (behind_space record_at) l.count [] l.bytes
