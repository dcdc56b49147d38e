use Rattle.sdb_schema.proofs.OrderLaws.{row-total, row-exact}
use Rattle.sdb_schema.proofs.laws.row_order.Goals as goal

pub returns : goal.returns
returns c = record { total = row-total; exact = row-exact }
