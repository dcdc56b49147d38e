use Rattle.std.specs.Cmp.{tied_itself}
use Rattle.sdb_types.proofs.KeyOrder.{key_total, key_exact}
use Rattle.sdb_types.proofs.laws.key_order.Goals as goal

pub returns : goal.returns
returns c = record { total = key_total; exact = key_exact; itself = tied_itself key_total }
