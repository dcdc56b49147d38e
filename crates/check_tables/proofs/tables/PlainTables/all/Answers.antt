use Rattle.check_tables.proofs.RowSteps.{all_of_view}
use Rattle.check_tables.proofs.tables.PlainTables.all.Goals as goal

pub returns : goal.returns
returns c = all_of_view c.rows_of.result c.self.inside.rows.entries c.args.self.now c.self.view_is c.rows_of.ensures.rows c.rows_of.ensures.ordered
