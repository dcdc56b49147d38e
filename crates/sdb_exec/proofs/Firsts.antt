-- The first place at which a test passes, in a list behind another and in one that is mapped.
use Rattle.std.proofs.Common.{◌≡◌, inl, inr, ℕ, ◌+◌, ◌<◌, ◌≤◌, Bool, not, cond, List, [], ◌∷◌, ◌++◌, map, length, Option, Some, None, refl, sym, ap, ◌∙◌, arith}
use Rattle.std.specs.Prelude.{nat_lt, position}
use Rattle.std.specs.List.{position_or_len}
use Rattle.std.specs.Option.{option_map}
use Rattle.std.proofs.lemmas.Bool.{cases_lt, lt-ltb, le-ltb, eq-eqb, ne_eqb}
use Rattle.std.proofs.lemmas.List.{length-append, length-map}
use Rattle.std.proofs.lemmas.List.Folds.{prefix_len-append}
use Rattle.std.proofs.lemmas.List.Sums.{prefix_len-le-length}

abbrev placed : ℕ → ℕ → Option ℕ
placed k n = cond (nat_lt k n) (Some k) None

placed_in : (k n : ℕ) → k < n → placed k n ≡ Some k
placed_in k n h = ap (λ b. cond b (Some k) None) (lt-ltb k n h)

placed_out : (k n : ℕ) → n ≤ k → placed k n ≡ None
placed_out k n h = ap (λ b. cond b (Some k) None) (le-ltb k n h)

is_placed : (k n i : ℕ) → placed k n ≡ Some i → (k ≡ i) × (k < n)
is_placed k n i e =
    elim (cases_lt k n) [
      | inl less ↦ (let same : Some k ≡ Some i = sym (placed_in k n less) ∙ e in cc, less)
      | inr most ↦ let none : ◌≡◌ {A = Option ℕ} None (Some i) = sym (placed_out k n most) ∙ e in absurd (cc)
    ]

not_placed : (k n : ℕ) → placed k n ≡ None → n ≤ k
not_placed k n e =
    elim (cases_lt k n) [
      | inl less ↦ let none : ◌≡◌ {A = Option ℕ} (Some k) None = sym (placed_in k n less) ∙ e in absurd (cc)
      | inr most ↦ most
    ]

shifted : (l k n : ℕ) → placed (l + k) (l + n) ≡ option_map (λ i. l + i) (placed k n)
shifted l k n =
    elim (cases_lt k n) [
      | inl less ↦ placed_in (l + k) (l + n) (omega (arith, less)) ∙ sym (ap (option_map (λ i. l + i)) (placed_in k n less))
      | inr most ↦ placed_out (l + k) (l + n) (omega (arith, most)) ∙ sym (ap (option_map (λ i. l + i)) (placed_out k n most))
    ]

module _ {X : Type 0} (p : X → Bool) where
  -- where the first list has such a place, and where it has none
  pub first_before : (xs ys : List X) (i : ℕ) → position p xs ≡ Some i → position p (xs ++ ys) ≡ Some i
  first_before xs ys i e =
      let a = is_placed (position_or_len p xs) (length xs) i e in
      let at : position_or_len p (xs ++ ys) ≡ position_or_len p xs = prefix_len-append (λ x. not (p x)) xs ys ∙ ap (λ b. cond b (length xs + position_or_len p ys) (position_or_len p xs)) (ne_eqb (position_or_len p xs) (length xs) (λ q. omega (arith, a.1, q))) in
      let inside : position_or_len p xs < length (xs ++ ys) = let l = length-append xs ys in omega (arith, l, a.1) in
      ap (λ k. placed k (length (xs ++ ys))) at ∙ placed_in (position_or_len p xs) (length (xs ++ ys)) inside ∙ ap Some a.0

  pub first_behind : (xs ys : List X) → position p xs ≡ None → position p (xs ++ ys) ≡ option_map (λ i. length xs + i) (position p ys)
  first_behind xs ys e =
      let long = not_placed (position_or_len p xs) (length xs) e in
      let short = prefix_len-le-length (λ x. not (p x)) xs in
      let all : position_or_len p xs ≡ length xs = omega (arith, long, short) in
      let at : position_or_len p (xs ++ ys) ≡ length xs + position_or_len p ys = prefix_len-append (λ x. not (p x)) xs ys ∙ ap (λ b. cond b (length xs + position_or_len p ys) (position_or_len p xs)) (eq-eqb (position_or_len p xs) (length xs) all) in
      ap (λ k. placed k (length (xs ++ ys))) at ∙ ap (placed (length xs + position_or_len p ys)) (length-append xs ys) ∙ shifted (length xs) (position_or_len p ys) (length ys)

module _ {X Y : Type 0} (p : Y → Bool) (f : X → Y) where
  mapped : (xs : List X) → position_or_len p (map f xs) ≡ position_or_len (λ x. p (f x)) xs
  mapped [] = refl
  mapped (x ∷ xs) = ap (λ n. cond (not (p (f x))) (1 + n) 0) (mapped xs)

  pub position-map : (xs : List X) → position p (map f xs) ≡ position (λ x. p (f x)) xs
  position-map xs = ap (λ k. placed k (length (map f xs))) (mapped xs) ∙ ap (placed (position_or_len (λ x. p (f x)) xs)) (length-map xs f)
