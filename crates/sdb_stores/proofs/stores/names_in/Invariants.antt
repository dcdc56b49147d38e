use Rattle.std.proofs.Common.{◌≡◌, map, take}
use Rattle.sdb_stores.proofs.stores.names_in.Given as goal

abbrev pub invariant-loop-item : goal.invariant-loop-item
invariant-loop-item g l = l.names ≡ map g.T.Named.name (take l.item-index l.items)
