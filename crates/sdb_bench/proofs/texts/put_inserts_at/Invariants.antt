use Rattle.std.proofs.Common.{◌≡◌, ◌++◌, map}
use Rattle.sdb_model.specs.Sql.{statement_text_of}
use Rattle.sdb_bench.specs.Draws.{numbers_below}
use Rattle.sdb_bench.specs.Setup.{insert_of}
use Rattle.sdb_bench.proofs.texts.put_inserts_at.Given as goal

abbrev pub invariant-loop-n : goal.invariant-loop-n
invariant-loop-n l = l.texts ≡ l.initial.texts ++ map statement_text_of (map (insert_of l.side l.p) (numbers_below l.n))
