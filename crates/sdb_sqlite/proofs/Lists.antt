-- Lists and what passes a test.
use Rattle.std.proofs.Common.{◌≡◌, ◌≤◌, List, [], ◌∷◌, filter, length, Bool, true, false, cond, refl, sym, ap, ◌∙◌, IsPermutation, arith}
use Rattle.std.specs.Prelude.{not}
use Rattle.std.specs.List.{AllByRecursion, list_any}
use Rattle.std.proofs.lemmas.List.Sorted.{length_permutation}
use Rattle.sqlite.proofs.Callers.{one_permutation}

pub filter_same : {X : Type 0} (p q : X → Bool) (xs : List X) → AllByRecursion (λ x. p x ≡ q x) xs → filter p xs ≡ filter q xs
filter_same p q [] all = refl
filter_same p q (x ∷ xs) (same, all) = rw same (ap (λ ys. cond (q x) (x ∷ ys) ys) (filter_same p q xs all))

pub weaker : {X : Type 0} (P Q : X → Type 0) → ((x : X) → P x → Q x) → (xs : List X) → AllByRecursion P xs → AllByRecursion Q xs
weaker P Q f [] all = tt
weaker P Q f (x ∷ xs) (one, all) = (f x one, weaker P Q f xs all)

-- what passes a test does, and is as all were
pub passed : {X : Type 0} (P : X → Type 0) (p : X → Bool) (xs : List X) → AllByRecursion P xs → AllByRecursion (λ x. P x × (p x ≡ true)) (filter p xs)
passed P p [] all = tt
passed P p (x ∷ xs) (one, all) =
    elim (p x) as (λ b. p x ≡ b → AllByRecursion (λ y. P y × (p y ≡ true)) (cond b (x ∷ filter p xs) (filter p xs))) [
      | true ↦ λ e. ((one, e), passed P p xs all)
      | false ↦ λ e. passed P p xs all
    ] refl

-- what holds of all that pass a test holds of each that passes it
pub each_passed : {X : Type 0} (P : X → Type 0) (p : X → Bool) (xs : List X) → AllByRecursion P (filter p xs) → AllByRecursion (λ x. p x ≡ true → P x) xs
each_passed P p [] all = tt
each_passed P p (x ∷ xs) all =
    elim (p x) as (λ b. p x ≡ b → AllByRecursion P (cond b (x ∷ filter p xs) (filter p xs)) → (p x ≡ true → P x) × AllByRecursion (λ y. p y ≡ true → P y) xs) [
      | true ↦ λ e h. (λ _. h.0, each_passed P p xs h.1)
      | false ↦ λ e h. (λ t. absurd (let f : true ≡ false = sym t ∙ e in cc), each_passed P p xs h)
    ] refl all

-- a list of at most one, in another order
pub few_permutation : {X : Type 0} (xs ys : List X) → length xs ≤ 1 → IsPermutation xs ys → ys ≡ xs
few_permutation [] [] few h = refl
few_permutation [] (y ∷ ys) few h = absurd (omega (arith, length_permutation [] (y ∷ ys) h))
few_permutation (x ∷ []) ys few h = one_permutation x ys h
few_permutation (x ∷ y ∷ xs) ys few h = absurd (omega arith)

-- a test that lets no more pass than another
pub fewer_passed : {X : Type 0} (p q : X → Bool) (xs : List X) → length (filter p (filter q xs)) ≤ length (filter p xs)
fewer_passed p q [] = omega arith
fewer_passed p q (x ∷ xs) =
    let rest = fewer_passed p q xs in
    elim (q x) as (λ b. length (filter p (cond b (x ∷ filter q xs) (filter q xs))) ≤ length (cond (p x) (x ∷ filter p xs) (filter p xs))) [
      | true ↦ elim (p x) as (λ b. length (cond b (x ∷ filter p (filter q xs)) (filter p (filter q xs))) ≤ length (cond b (x ∷ filter p xs) (filter p xs))) [ true ↦ omega arith | false ↦ rest ]
      | false ↦ elim (p x) as (λ b. length (filter p (filter q xs)) ≤ length (cond b (x ∷ filter p xs) (filter p xs))) [ true ↦ omega arith | false ↦ rest ]
    ]

-- Where none of those that a test takes out passes another, the same pass as before.
pub still_passed : {X : Type 0} (p h : X → Bool) (xs : List X) → AllByRecursion (λ x. h x ≡ true → p x ≡ false) xs → filter p (filter (λ x. not (h x)) xs) ≡ filter p xs
still_passed p h [] all = refl
still_passed p h (x ∷ xs) (one, all) =
    let rest = still_passed p h xs all in
    elim (h x) as (λ b. h x ≡ b → filter p (cond (not b) (x ∷ filter (λ y. not (h y)) xs) (filter (λ y. not (h y)) xs)) ≡ cond (p x) (x ∷ filter p xs) (filter p xs)) [
      | true ↦ λ e. rw (one e) rest
      | false ↦ λ e. ap (λ ys. cond (p x) (x ∷ ys) ys) rest
    ] refl

-- where each one accepted out is one that passes, and each that passes is accepted out, none is left that passes
pub none_passed : {X : Type 0} (p h : X → Bool) (xs : List X) → AllByRecursion (λ x. p x ≡ true → h x ≡ true) xs → filter p (filter (λ x. not (h x)) xs) ≡ []
none_passed p h [] all = refl
none_passed p h (x ∷ xs) (one, all) =
    let rest = none_passed p h xs all in
    elim (h x) as (λ b. h x ≡ b → filter p (cond (not b) (x ∷ filter (λ y. not (h y)) xs) (filter (λ y. not (h y)) xs)) ≡ []) [
      | true ↦ λ e. rest
      | false ↦ λ e. elim (p x) as (λ b. p x ≡ b → cond b (x ∷ filter p (filter (λ y. not (h y)) xs)) (filter p (filter (λ y. not (h y)) xs)) ≡ []) [
        | true ↦ λ f. absurd (let g : true ≡ false = sym (one f) ∙ e in cc)
        | false ↦ λ f. rest
      ] refl
    ] refl

pub none_any : {X : Type 0} (p : X → Bool) (xs : List X) → list_any (λ x. p x) (filter (λ x. not (p x)) xs) ≡ false
none_any p [] = refl
none_any p (x ∷ xs) =
    let rest = none_any p xs in
    elim (p x) as (λ b. p x ≡ b → list_any (λ y. p y) (cond (not b) (x ∷ filter (λ y. not (p y)) xs) (filter (λ y. not (p y)) xs)) ≡ false) [
      | true ↦ λ e. rest
      | false ↦ λ e. rw (e, rest) refl
    ] refl
