use Rattle.std.proofs.Common.{◌≡◌, map, take}
use Rattle.sdb_model.specs.Sql.{statement_text_of}
use Rattle.sdb_bench.specs.Script.{writer_statements}
use Rattle.sdb_bench.proofs.texts.writer_texts.Given as goal

abbrev pub invariant-loop-turn : goal.invariant-loop-turn
invariant-loop-turn l = l.texts ≡ map statement_text_of (writer_statements l.writer (take l.turn-index l.turns))
