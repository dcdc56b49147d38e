use Rattle.std.proofs.Common.{[]}
use Rattle.sdb_report.specs.Reading.{lines_at, point_at}
use Rattle.sdb_report.proofs.Loops.{Goes}
use Rattle.sdb_report.proofs.parts.points_on.Given as goal

abbrev pub invariant-loop : goal.invariant-loop
invariant-loop l = Goes point_at l.points l.count l.counter l.rest (lines_at point_at [] l.count l.bytes)
