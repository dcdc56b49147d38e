use Rattle.sdb_report.proofs.RisingTables.{bad_told}
use Rattle.sdb_report.proofs.Answered.{ok_told, only_told}
use Rattle.sdb_report.proofs.report.read_report.Goals as goal

pub returns-clause-ok : goal.returns-clause-ok
returns-clause-ok c = ok_told c.args.bytes.now c.report_of.result c.report_of.ensures

pub returns-clause-only : goal.returns-clause-only
returns-clause-only c = λ o plain e. only_told c.args.bytes.now c.report_of.result c.report_of.ensures o plain e

pub returns-clause-bad : goal.returns-clause-bad
returns-clause-bad c = bad_told c.args.bytes.now c.report_of.result c.report_of.ensures
