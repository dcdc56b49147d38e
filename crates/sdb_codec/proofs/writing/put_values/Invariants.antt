use Rattle.std.proofs.Common.{◌≡◌, ◌++◌, ◌∷◌, [], length, take}
use Rattle.std.specs.List.{flat_map}
use Rattle.sdb_codec.specs.Spelling.{value_bytes}
use Rattle.sdb_codec.proofs.writing.put_values.Given as goal

abbrev pub invariant-loop-value : goal.invariant-loop-value
invariant-loop-value l = l.out ≡ (l.fn.out ++ length l.fn.values ∷ []) ++ flat_map value_bytes (take l.value-index l.value-items)
