-- What a parse makes of one word that doesn't begin with `-`.
use Rattle.std.proofs.Common.{◌≡◌, ◌∙◌, ℕ, List, [], ◌∷◌, ◌++◌, true, false, ◌==◌, Option, Some, None, refl, append_assoc, append-nil}
use Rattle.std.specs.Prelude.{fold, not, is_some}
use Rattle.std.specs.Str.{bytes_eq}
use Rattle.clap.specs.Lexer.{long_of, short_of, strip_byte}
use Rattle.clap.specs.Walk.{Held, Names, Rule, Text, Waiting, walked}
use Rattle.sdb_words.specs.Parser.{is_undashed}

none_is : (w : Option Text) → not (is_some w) ≡ true → w ≡ None
none_is None h = refl
none_is (Some x) h = cc

pub unstripped : (w : Text) → is_undashed w ≡ true → strip_byte 45 w ≡ None
unstripped w h = none_is (strip_byte 45 w) h

pub no_long : (w : Text) → strip_byte 45 w ≡ None → long_of w ≡ None
no_long w h = rw h refl

pub no_short : (w : Text) → strip_byte 45 w ≡ None → short_of w ≡ None
no_short w h = rw h refl

pub not_dashes : (w : Text) → strip_byte 45 w ≡ None → bytes_eq w (45 ∷ 45 ∷ []) ≡ false
not_dashes [] h = refl
not_dashes (x ∷ xs) h =
    elim (x == 45) as (λ b. (x == 45) ≡ b → bytes_eq (x ∷ xs) (45 ∷ 45 ∷ []) ≡ false) [
      | true ↦ λ e. let bad : Some xs ≡ None = rw e at h in cc
      | false ↦ λ e. rw e refl
    ] refl

-- the words after a subcommand's name are gathered
pub gathered : (c : List Rule) (names : Names) (h : Held) (waiting : Waiting) (position : ℕ) (n : Text) (xs more : List Text)
    → fold (walked c names) (record { held = h; waiting = waiting; position = position; is_trailing = false; stopped = Some (n, xs) }) more
    ≡ record { held = h; waiting = waiting; position = position; is_trailing = false; stopped = Some (n, xs ++ more) }
unfolding walked
gathered c names h waiting position n xs [] = rw append-nil refl
gathered c names h waiting position n xs (m ∷ more) = gathered c names h waiting position n (xs ++ m ∷ []) more ∙ rw append_assoc refl
