use Rattle.std.proofs.Common.{◌≡◌, drop}
use Rattle.std.specs.Prelude.{find}
use Rattle.std.specs.Str.{bytes_eq}
use Rattle.sdb_model.specs.SqlTokens.{lower, keyword_text}
use Rattle.sdb_sqltext.proofs.marks.find_keyword.Given as goal

abbrev pub invariant-loop-keyword : goal.invariant-loop-keyword
invariant-loop-keyword l =
    find (λ k. bytes_eq (lower l.word) (lower (keyword_text k))) (drop l.keyword-index l.keywords) ≡ find (λ k. bytes_eq (lower l.word) (lower (keyword_text k))) l.keywords
