use Rattle.sdb_report.proofs.LineLaws.{event_one, row_one}
use Rattle.sdb_report.proofs.field_laws.one_line.Goals as goal

pub returns-clause-events : goal.returns-clause-events
returns-clause-events c = event_one

pub returns-clause-rows : goal.returns-clause-rows
returns-clause-rows c = row_one
