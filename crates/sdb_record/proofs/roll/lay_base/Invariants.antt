use Rattle.std.proofs.Common.{◌≡◌, drop, true}
use Rattle.sdb_record.specs.Meta.{have_identifiers}
use Rattle.sdb_record.specs.Parts.{with_columns, before_part}
use Rattle.sdb_record.proofs.roll.lay_base.Given as goal

abbrev pub invariant-loop-pair : goal.invariant-loop-pair
invariant-loop-pair l =
    (with_columns (before_part (drop l.pair-index l.pairs)) l.columns ≡ with_columns (before_part l.pairs) l.initial.columns) × (have_identifiers (drop l.pair-index l.pairs) ≡ true)
