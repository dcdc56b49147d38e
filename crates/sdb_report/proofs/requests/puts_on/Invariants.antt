use Rattle.std.proofs.Common.{◌≡◌, [], ◌-◌}
use Rattle.sdb_report.specs.FieldReading.{counted}
use Rattle.sdb_report.specs.Lines.{behind_space, one_put_at}
use Rattle.sdb_report.proofs.requests.puts_on.Given as goal

abbrev pub invariant-loop : goal.invariant-loop
invariant-loop l = counted (behind_space one_put_at) (l.count - l.counter) l.puts l.rest ≡ counted (behind_space one_put_at) l.count [] l.bytes
