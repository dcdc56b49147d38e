use Rattle.std.proofs.Common.{◌≡◌, vec_len}
use Rattle.sdb_hashed.specs.Put.{with_rows}
use Rattle.sdb_hashed.proofs.parts.add_rows.Given as goal

abbrev pub invariant-loop-rec : goal.invariant-loop-rec
invariant-loop-rec l = with_rows l.left.items l.all ≡ with_rows l.fn.rows l.fn.all

abbrev pub decreases-loop-rec : goal.decreases-loop-rec
decreases-loop-rec l = vec_len l.left
