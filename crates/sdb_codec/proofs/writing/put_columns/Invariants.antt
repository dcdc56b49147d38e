use Rattle.std.proofs.Common.{◌≡◌, ◌++◌, length, take}
use Rattle.std.specs.List.{flat_map}
use Rattle.std.specs.Int.{w16, to_be_bytes}
use Rattle.sdb_codec.specs.Spelling.{pair_bytes}
use Rattle.sdb_codec.proofs.writing.put_columns.Given as goal

abbrev pub invariant-loop-pair : goal.invariant-loop-pair
invariant-loop-pair l = l.out ≡ (l.fn.out ++ to_be_bytes w16 (length l.fn.columns)) ++ flat_map pair_bytes (take l.pair-index l.pair-items)
