-- What holds of each item of a list.
use Rattle.std.proofs.Common.{◌≡◌, ℕ, zero, suc, Bool, true, false, cond, List, [], ◌∷◌, ◌++◌, map, filter, take, drop, Some, refl, subst}
use Rattle.std.specs.Prelude.{slice_get, if◌then◌else◌}
use Rattle.std.specs.List.{AllByRecursion}
use Rattle.sdb_types.proofs.Public.{append_all as each_append}

pub each_at : {A : Type 0} (P : A → Type 0) (xs : List A) (i : ℕ) (x : A) → AllByRecursion P xs → slice_get xs i ≡ Some x → P x
each_at P [] i x all h = absurd (cc)
each_at {A = A} P (y ∷ ys) zero x all h = subst P (some_is y x h) all.0
  where
    some_is : (a b : A) → Some a ≡ Some b → a ≡ b
    some_is a b e = cc
each_at P (y ∷ ys) (suc i) x all h = each_at P ys i x all.1 h

pub each_more : {A : Type 0} (P : A → Type 0) (xs : List A) (x : A) → AllByRecursion P xs → P x → AllByRecursion P (xs ++ x ∷ [])
each_more P xs x a b = each_append P xs (x ∷ []) a (b, tt)

pub each_map : {A B : Type 0} (P : B → Type 0) (f : A → B) (xs : List A) → AllByRecursion (λ x. P (f x)) xs → AllByRecursion P (map f xs)
each_map P f [] a = tt
each_map P f (x ∷ xs) a = (a.0, each_map P f xs a.1)

pub each_unmap : {A B : Type 0} (P : B → Type 0) (f : A → B) (xs : List A) → AllByRecursion P (map f xs) → AllByRecursion (λ x. P (f x)) xs
each_unmap P f [] a = tt
each_unmap P f (x ∷ xs) a = (a.0, each_unmap P f xs a.1)

pub each_filter : {A : Type 0} (P : A → Type 0) (t : A → Bool) (xs : List A) → AllByRecursion P xs → AllByRecursion (λ x. P x × (t x ≡ true)) (filter t xs)
each_filter P t [] a = tt
each_filter P t (x ∷ xs) a = by (t x) refl (each_filter P t xs a.1)
  where
    by : (b : Bool) → t x ≡ b → AllByRecursion (λ x. P x × (t x ≡ true)) (filter t xs) → AllByRecursion (λ x. P x × (t x ≡ true)) (if b then x ∷ filter t xs else filter t xs)
    by true e ih = ((a.0, e), ih)
    by false e ih = ih

pub each_both : {A : Type 0} (P Q R : A → Type 0) (xs : List A) → ((x : A) → P x → Q x → R x) → AllByRecursion P xs → AllByRecursion Q xs → AllByRecursion R xs
each_both P Q R [] f a b = tt
each_both P Q R (x ∷ xs) f a b = (f x a.0 b.0, each_both P Q R xs f a.1 b.1)

-- without one item in the middle
pub each_drop : {A : Type 0} (P : A → Type 0) (xs : List A) (x : A) (ys : List A) → AllByRecursion P (xs ++ x ∷ ys) → AllByRecursion P (xs ++ ys)
each_drop P [] x ys a = a.1
each_drop P (y ∷ xs) x ys a = (a.0, each_drop P xs x ys a.1)

pub map_all : {A B : Type 0} (P : A → Type 0) (Q : B → Type 0) (f : A → B) (xs : List A) → ((x : A) → P x → Q (f x)) → AllByRecursion P xs → AllByRecursion Q (map f xs)
map_all P Q f [] g h = tt
map_all P Q f (x ∷ xs) g h = (g x h.0, map_all P Q f xs g h.1)

pub filter_all : {A : Type 0} (P : A → Type 0) (p : A → Bool) (xs : List A) → AllByRecursion P xs → AllByRecursion P (filter p xs)
filter_all P p [] h = tt
filter_all P p (x ∷ xs) h =
    let rest = filter_all P p xs h.1 in
    elim (p x) as (λ b. AllByRecursion P (cond b (x ∷ filter p xs) (filter p xs))) [ true ↦ (h.0, rest) | false ↦ rest ]

pub take_all : {A : Type 0} (P : A → Type 0) (n : ℕ) (xs : List A) → AllByRecursion P xs → AllByRecursion P (take n xs)
take_all P zero xs h = tt
take_all P (suc n) [] h = tt
take_all P (suc n) (x ∷ xs) h = (h.0, take_all P n xs h.1)

pub drop_all : {A : Type 0} (P : A → Type 0) (n : ℕ) (xs : List A) → AllByRecursion P xs → AllByRecursion P (drop n xs)
drop_all P zero xs h = h
drop_all P (suc n) [] h = tt
drop_all P (suc n) (x ∷ xs) h = drop_all P n xs h.1
