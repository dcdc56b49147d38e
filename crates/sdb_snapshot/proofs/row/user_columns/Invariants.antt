use Rattle.std.proofs.Common.{◌≡◌, ◌++◌, drop}
use Rattle.sdb_record.specs.Parts.{user_columns}
use Rattle.sdb_snapshot.proofs.row.user_columns.Given as goal

abbrev pub invariant-loop-pair : goal.invariant-loop-pair
invariant-loop-pair l =
    l.user ++ user_columns (drop l.pair-index l.pair-items) ≡ user_columns l.columns
