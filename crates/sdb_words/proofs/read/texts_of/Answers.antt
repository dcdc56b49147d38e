use Rattle.std.proofs.Common.{◌≡◌, ◌∙◌, List, ℕ, codes, option_map, refl}
use Rattle.std.specs.Borrow.{Bor}
use Rattle.clap.specs.Words.{first_of, found_of, rows_of}
use Rattle.clap.proofs.WalkLemmas.{first_value-rows}
use Rattle.sdb_words.proofs.read.texts_of.Goals as goal

abbrev text : Bor (List ℕ) → List ℕ
text s = s.now

pub returns : goal.returns
returns c =
    let f = found_of c.args.given.now in
    let first : option_map text c.get_str.result ≡ first_of (codes "first") (rows_of f) = c.get_str.ensures ∙ first_value-rows f (codes "first") in
    let second : option_map text c.get_str-2.result ≡ first_of (codes "second") (rows_of f) = c.get_str-2.ensures ∙ first_value-rows f (codes "second") in
    let third : option_map text c.get_str-3.result ≡ first_of (codes "third") (rows_of f) = c.get_str-3.ensures ∙ first_value-rows f (codes "third") in
    rw (first, second, third) refl
