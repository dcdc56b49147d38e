use Rattle.sdb_exec.proofs.InOrder.{rows_rise, changes_rise}
use Rattle.sdb_exec.proofs.laws.changes_in_key_order.Goals as goal

pub returns : goal.returns
returns c = record { rows = rows_rise; changes = changes_rise }
