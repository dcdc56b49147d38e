-- Lists that grow at their end, and their items by place.
use Rattle.std.proofs.Common.{◌≡◌, ◌<◌, ℕ, zero, suc, ◌+◌, List, [], ◌∷◌, ◌++◌, length, take, Some, refl, ap, ◌∙◌, subst, arith}
use Rattle.std.specs.Prelude.{slice_get, Contains, reverse}
use Rattle.std.specs.List.{AllByRecursion, AllZip}
use Rattle.std.proofs.lemmas.List.{take_more, reverse-append}
use Rattle.std.proofs.lemmas.Option.{slice_get_within, get_or_from_slice_get}
use Rattle.sdb_types.proofs.Public.{some_is}

pub take_next : {A : Type 0} (xs : List A) (i : ℕ) (x : A) → slice_get xs i ≡ Some x → take (i + 1) xs ≡ take i xs ++ x ∷ []
take_next xs i x h = take_more xs i x (slice_get_within xs i x h) ∙ ap (λ y. take i xs ++ y ∷ []) (get_or_from_slice_get xs i x x h)

pub all_at : {A : Type 0} (P : A → Type 0) (xs : List A) (i : ℕ) (x : A) → AllByRecursion P xs → slice_get xs i ≡ Some x → P x
all_at P [] i x all h = absurd (cc)
all_at P (y ∷ xs) zero x all h = subst P (some_is y x h) all.0
all_at P (y ∷ xs) (suc i) x all h = all_at P xs i x all.1 h

---- items by place

pub get_front : {A : Type 0} (xs ys : List A) (i : ℕ) (x : A) → slice_get xs i ≡ Some x → slice_get (xs ++ ys) i ≡ Some x
get_front [] ys i x h = absurd (cc)
get_front (a ∷ xs) ys zero x h = h
get_front (a ∷ xs) ys (suc i) x h = get_front xs ys i x h

pub get_behind : {A : Type 0} (xs ys : List A) (i : ℕ) → slice_get (xs ++ ys) (length xs + i) ≡ slice_get ys i
get_behind [] ys i = ap (slice_get ys) (none_in i)
  where
    none_in : (n : ℕ) → 0 + n ≡ n
    none_in n = omega arith
get_behind (a ∷ xs) ys i = ap (slice_get (a ∷ (xs ++ ys))) (one_in (length xs) i) ∙ get_behind xs ys i
  where
    one_in : (m n : ℕ) → suc m + n ≡ suc (m + n)
    one_in m n = omega arith

pub get_last : {A : Type 0} (xs : List A) (x : A) → slice_get (xs ++ x ∷ []) (length xs) ≡ Some x
get_last [] x = refl
get_last (a ∷ xs) x = get_last xs x

pub get_take : {A : Type 0} (xs : List A) (n i : ℕ) → i < n → slice_get (take n xs) i ≡ slice_get xs i
get_take xs zero i l = absurd (omega arith)
get_take [] (suc n) i l = refl
get_take (x ∷ xs) (suc n) zero l = refl
get_take (x ∷ xs) (suc n) (suc i) l = get_take xs n i (omega arith)

pub get_some : {A : Type 0} (xs : List A) (i : ℕ) → i < length xs → (x : A) × (slice_get xs i ≡ Some x)
get_some [] i l = absurd (omega arith)
get_some (x ∷ xs) zero l = (x, refl)
get_some (x ∷ xs) (suc i) l = get_some xs i (omega arith)

pub contains_at : {A : Type 0} (xs : List A) (i : ℕ) (x : A) → slice_get xs i ≡ Some x → Contains xs x
contains_at xs i x h = (i, slice_get_within xs i x h, get_or_from_slice_get xs i x x h)

---- two lists, item by item

pub zip_at : {A B : Type 0} (R : A → B → Type 0) (xs : List A) (ys : List B) (i : ℕ) (x : A) → AllZip R xs ys → slice_get xs i ≡ Some x → (y : B) × (slice_get ys i ≡ Some y) × R x y
zip_at R [] ys i x all h = absurd (cc)
zip_at R (a ∷ xs) [] i x all h = absurd all
zip_at R (a ∷ xs) (y ∷ ys) zero x all h = (y, refl, subst (λ b. R b y) (some_is a x h) all.0)
zip_at R (a ∷ xs) (y ∷ ys) (suc i) x all h = zip_at R xs ys i x all.1 h

---- the newest first, and the oldest first

pub reverse_more : {A : Type 0} (x : A) (xs : List A) → reverse (x ∷ xs) ≡ reverse xs ++ x ∷ []
reverse_more x xs = reverse-append (x ∷ []) xs
