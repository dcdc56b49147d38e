use Rattle.std.proofs.Common.{◌≡◌, take}
use Rattle.sdb_types.proofs.seq.SeqDuplicate.copy.Given as goal

abbrev pub invariant-loop-item : goal.invariant-loop-item
invariant-loop-item g l = l.items.items ≡ take l.item-index l.item-items
