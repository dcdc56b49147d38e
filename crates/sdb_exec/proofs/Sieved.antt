-- Items that pass several tests, sieved by one test after the other.
use Rattle.std.proofs.Common.{◌≡◌, List, [], ◌∷◌, Bool, true, false, ◌&&◌, cond, length, refl, sym, ap, arith}
use Rattle.std.specs.Prelude.{filter}
use Rattle.std.specs.List.{list_all}

all-pass : {X : Type 0} (xs : List X) → filter (λ x. true) xs ≡ xs
all-pass [] = refl
all-pass (x ∷ xs) = ap (λ l. x ∷ l) (all-pass xs)

pub sieved-by-none : {X T : Type 0} (p : X → T → Bool) (ts : List T) (xs : List X) → length ts ≡ 0 → xs ≡ filter (λ x. list_all (p x) ts) xs
sieved-by-none p [] xs h = sym (all-pass xs)
sieved-by-none p (t ∷ ts) xs h = absurd (omega (arith, h))

pub sieved-twice : {X : Type 0} (p q : X → Bool) (xs : List X) → filter q (filter p xs) ≡ filter (λ x. p x && q x) xs
sieved-twice p q [] = refl
sieved-twice p q (x ∷ xs) =
    elim (p x) as (λ b. filter q (cond b (x ∷ filter p xs) (filter p xs)) ≡ cond (b && q x) (x ∷ filter (λ y. p y && q y) xs) (filter (λ y. p y && q y) xs)) [
      | true ↦ ap (λ l. cond (q x) (x ∷ l) l) (sieved-twice p q xs)
      | false ↦ sieved-twice p q xs
    ]
