use Rattle.std.proofs.Common.{[]}
use Rattle.sdb_report.specs.Reading.{lines_at, dump_at}
use Rattle.sdb_report.proofs.Loops.{Goes}
use Rattle.sdb_report.proofs.parts.dumps_on.Given as goal

abbrev pub invariant-loop : goal.invariant-loop
invariant-loop l = Goes dump_at l.dumps l.count l.counter l.rest (lines_at dump_at [] l.count l.bytes)
