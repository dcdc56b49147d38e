use Rattle.sdb_ordered.proofs.SpanLemmas.{rows_of_view}
use Rattle.sdb_ordered.proofs.tree.TreeRows.list.Goals as goal

pub returns : goal.returns
returns c = rows_of_view c.rows_of.result c.args.span.now c.self.inside.rows.entries c.args.self.now c.self.view_is c.rows_of.ensures.rows c.rows_of.ensures.ordered
