use Rattle.std.proofs.Common.{◌≡◌, drop, true, map}
use Rattle.sdb_record.specs.Parts.{with_columns, before_pair, are_short}
use Rattle.sdb_record.proofs.roll.lay_kept.Given as goal

abbrev pub invariant-loop-pair : goal.invariant-loop-pair
invariant-loop-pair l =
    (with_columns (map before_pair (drop l.pair-index l.base)) l.columns ≡ with_columns (map before_pair l.base) l.initial.columns) × (are_short (drop l.pair-index l.base) ≡ true)
