use Rattle.std.proofs.Common.{[]}
use Rattle.sdb_report.specs.Reading.{lines_at, row_line_at}
use Rattle.sdb_report.proofs.Loops.{Goes}
use Rattle.sdb_report.proofs.parts.rows_on.Given as goal

abbrev pub invariant-loop : goal.invariant-loop
invariant-loop l = Goes row_line_at l.rows l.count l.counter l.rest (lines_at row_line_at [] l.count l.bytes)
