use Rattle.std.proofs.Common.{◌≡◌, drop}
use Rattle.sdb_record.specs.Parts.{with_columns}
use Rattle.sdb_record.proofs.roll.lay.Given as goal

abbrev pub invariant-loop-pair : goal.invariant-loop-pair
invariant-loop-pair l =
    with_columns (drop l.pair-index l.pairs) l.columns ≡ with_columns l.pairs l.initial.columns
