use Rattle.std.proofs.Common.{sym, rules}
use Rattle.sdb_schema.proofs.ColumnOrder.{in_order-rising}
use Rattle.sdb_schema.proofs.make.ordered.Goals as goal

pub returns-then-names_rise : goal.returns-then-names_rise
returns-then-names_rise c = sym (in_order-rising c.args.columns (search rules))
