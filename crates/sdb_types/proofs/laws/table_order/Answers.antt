use Rattle.sdb_types.proofs.KeyOrder.{by_text}
use Rattle.sdb_types.proofs.laws.table_order.Goals as goal

pub returns : goal.returns
returns c = by_text
