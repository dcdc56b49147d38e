use Rattle.std.proofs.Common.{◌≡◌, ◌++◌, map, flat_map}
use Rattle.sdb_model.specs.Sql.{statement_text_of}
use Rattle.sdb_bench.specs.Draws.{numbers_below}
use Rattle.sdb_bench.specs.Setup.{inserts_at}
use Rattle.sdb_bench.proofs.texts.put_inserts.Given as goal

abbrev pub invariant-loop-p : goal.invariant-loop-p
invariant-loop-p l = l.texts ≡ l.initial.texts ++ map statement_text_of (flat_map (inserts_at l.side) (numbers_below l.p))
