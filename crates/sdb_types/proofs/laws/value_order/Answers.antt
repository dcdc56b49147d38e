use Rattle.std.specs.Cmp.{tied_itself}
use Rattle.sdb_types.specs.ValueLaws.{value_total, value_exact}
use Rattle.sdb_types.proofs.laws.value_order.Goals as goal

pub returns : goal.returns
returns c = record { total = value_total; exact = value_exact; itself = tied_itself value_total }
