use Rattle.std.proofs.Common.{◌≡◌, [], ◌-◌}
use Rattle.sdb_report.specs.FieldReading.{counted, row_at}
use Rattle.sdb_report.specs.Lines.{behind_space}
use Rattle.sdb_report.proofs.answers.rows_on.Given as goal

abbrev pub invariant-loop : goal.invariant-loop
invariant-loop l = counted (behind_space row_at) (l.count - l.counter) l.rows l.rest ≡ counted (behind_space row_at) l.count [] l.bytes
