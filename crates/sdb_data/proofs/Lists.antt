-- Fields by their places.
use Rattle.std.proofs.Common.{◌≡◌, ℕ, zero, suc, List, [], ◌∷◌, get_or, map, true, false, cond, refl, ap, Some, None}
use Rattle.std.specs.Option.{option_map_or}
use Rattle.std.specs.List.{list_all}
use Rattle.std.specs.Str.{is_utf8}
use Rattle.csv.specs.Records.{field_at}

pub field_at-is : (xs : List (List ℕ)) (i : ℕ) → option_map_or (λ (f : List ℕ). f) (field_at xs i) [] ≡ get_or xs i []
unfolding field_at
field_at-is [] i = refl
field_at-is (x ∷ xs) zero = refl
field_at-is (x ∷ xs) (suc i) = field_at-is xs i

pub mapped : {A B C : Type 0} (f : B → C) (g : A → B) (xs : List A) → map (λ x. f (g x)) xs ≡ map f (map g xs)
mapped f g [] = refl
mapped f g (x ∷ xs) = ap (λ ys. f (g x) ∷ ys) (mapped f g xs)

-- texts that were made of fields are those fields, and each is UTF-8
pub texted : (names fields : List (List ℕ)) → Some names ≡ cond (list_all is_utf8 fields) (Some fields) None → (names ≡ fields) × (list_all is_utf8 fields ≡ true)
texted names fields h =
    elim (list_all is_utf8 fields) as (λ b. Some names ≡ cond b (Some fields) None → (names ≡ fields) × (b ≡ true)) [
      | true ↦ λ k. (cc, refl)
      | false ↦ λ k. absurd (cc)
    ] h
