use Rattle.std.proofs.Common.{◌≡◌, drop, map, string_bytes}
use Rattle.sdb_words.specs.Parser.{are_undashed}
use Rattle.sdb_words.proofs.read.are_undashed.Given as goal

abbrev pub invariant-loop-word : goal.invariant-loop-word
invariant-loop-word l = are_undashed (map string_bytes (drop l.word-index l.words)) ≡ are_undashed (map string_bytes l.words)
