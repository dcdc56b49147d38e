use Rattle.std.proofs.Common.{◌≡◌, drop}
use Rattle.sdb_record.specs.Parts.{are_user_columns}
use Rattle.check_protocol.proofs.commit.are_user_columns.Given as goal

abbrev pub invariant-loop-pair : goal.invariant-loop-pair
invariant-loop-pair l = are_user_columns (drop l.pair-index l.pairs) ≡ are_user_columns l.pairs
