use Rattle.std.proofs.Common.{rules, ◌≡◌, ◌∙◌, ◌∷◌, find, sym, ap}
use Rattle.std.specs.Str.{bytes_eq}
use Rattle.sdb_model.specs.SqlTokens as spec
use Rattle.sdb_model.specs.SqlTokens.{lower, keyword_text}
use Rattle.sdb_sqltext.proofs.marks.keyword_of.Goals as goal

pub returns-in-Some : goal.returns-in-Some
returns-in-Some c =
    let whole : c.args.word.now ≡ c.in-Some.first.now ∷ c.in-Some.field-0-1.now = search rules in
    c.find_keyword.ensures ∙ ap (λ w. find (λ k. bytes_eq (lower w) (lower (keyword_text k))) c.keywords_from.result.now) whole
    ∙ c.keywords_from.ensures c.in-Some.field-0-1.now ∙ sym (ap spec.keyword_of whole)
