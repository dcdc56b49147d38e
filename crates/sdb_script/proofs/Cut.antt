-- The first line of a text.
use Rattle.std.proofs.Common.{◌≡◌, ℕ, suc, ◌+◌, ◌<◌, ◌≤◌, Bool, List, [], ◌∷◌, length, take, drop, Some, None, refl, ◌∙◌, arith, ◌==◌, ltb}
use Rattle.std.specs.Prelude.{position}
use Rattle.std.specs.List.{position_or_len}
use Rattle.std.proofs.lemmas.Bool.{ltb-false}
use Rattle.std.proofs.lemmas.List.{take_all, drop_all}
use Rattle.sdb_model.specs.Form.{lines_of}
use Rattle.sdb_types.proofs.Public.{by_test}

abbrev pub is_lf : ℕ → Bool
is_lf b = b == 10

pub len_le : (xs : List ℕ) → position_or_len is_lf xs ≤ length xs
len_le [] = omega arith
len_le (x ∷ xs) = by_test (x == 10) (λ e. rw e (omega arith)) (λ e. rw e (omega (arith, len_le xs)))

pub at_some : (xs : List ℕ) (n : ℕ) → position is_lf xs ≡ Some n → n ≡ position_or_len is_lf xs
at_some xs n h = by_test (ltb (position_or_len is_lf xs) (length xs)) (λ e. let k = rw e at h in cc) (λ e. let k = rw e at h in absurd cc)

pub at_none : (xs : List ℕ) → position is_lf xs ≡ None → length xs ≡ position_or_len is_lf xs
at_none xs h = by_test (ltb (position_or_len is_lf xs) (length xs)) (λ e. let k = rw e at h in absurd cc) (λ e. let le = ltb-false _ _ e in omega (arith, le, len_le xs))

pub lines_first : (xs : List ℕ) → 0 < length xs → lines_of xs ≡ take (position_or_len is_lf xs) xs ∷ lines_of (drop (position_or_len is_lf xs + 1) xs)
lines_first [] h = absurd (omega arith)
lines_first (b ∷ []) h = by_test (b == 10) (λ e. rw e refl) (λ e. rw e refl)
lines_first (b ∷ c ∷ cs) h =
    let more = lines_first (c ∷ cs) (omega arith) in
    let k = position_or_len is_lf (c ∷ cs) in
    let one : 1 + k ≡ suc k = omega arith in
    let two : suc k + 1 ≡ suc (k + 1) = omega arith in
    by_test (b == 10) (λ e. rw e refl) (λ e. rw (e, more, one, two) refl)

pub lines_whole : (xs : List ℕ) → 0 < length xs → length xs ≤ position_or_len is_lf xs → lines_of xs ≡ xs ∷ []
lines_whole xs h le = lines_first xs h ∙ rw (take_all _ xs le, drop_all (position_or_len is_lf xs + 1) xs (omega arith)) refl
