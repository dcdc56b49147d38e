-- What is so of each item of lists.
use Rattle.std.proofs.Common.{◌≡◌, inl, inr, ℕ, zero, suc, ◌<◌, Bool, true, false, cond, List, [], ◌∷◌, ◌++◌, map, take, drop, find, slice_get, Option, Some, None, IfSome, ap, subst, arith}
use Rattle.std.specs.Prelude.{Contains}
use Rattle.std.proofs.lemmas.List.Elements.{Contains-append_left, Contains-append_right, Contains-push}
use Rattle.std.specs.List.{AllByRecursion, cons_option, filter_map}
use Rattle.std.specs.Option.{option_map}
use Rattle.sdb_types.proofs.Public.{append_all, one_of, some_is}
pub use Rattle.law_clients.proofs.Public.{drop_all, filter_all, map_all, take_all}

-- an item more, if there is one
pub cons_all : {B : Type 0} (Q : B → Type 0) (o : Option B) (ys : List B) → IfSome o Q → AllByRecursion Q ys → AllByRecursion Q (cons_option o ys)
cons_all Q None ys k h = h
cons_all Q (Some y) ys k h = (k, h)

pub filter_map_all : {A B : Type 0} (P : A → Type 0) (Q : B → Type 0) (f : A → Option B) (xs : List A) → ((x : A) → P x → IfSome (f x) Q) → AllByRecursion P xs → AllByRecursion Q (filter_map f xs)
filter_map_all P Q f [] g h = tt
filter_map_all P Q f (x ∷ xs) g h = cons_all Q (f x) (filter_map f xs) (g x h.0) (filter_map_all P Q f xs g h.1)

-- with an item at a place
pub insert_all : {A : Type 0} (P : A → Type 0) (xs : List A) (n : ℕ) (x : A) → P x → AllByRecursion P xs → AllByRecursion P (take n xs ++ x ∷ drop n xs)
insert_all P xs n x k h = append_all P (take n xs) (x ∷ drop n xs) (take_all P n xs h) (k, drop_all P n xs h)

-- an item that was found
pub find_all : {A : Type 0} (P : A → Type 0) (p : A → Bool) (xs : List A) → AllByRecursion P xs → IfSome (find p xs) P
find_all P p [] h = tt
find_all P p (x ∷ xs) h =
    let rest = find_all P p xs h.1 in
    elim (p x) as (λ b. IfSome (cond b (Some x) (find p xs)) P) [ true ↦ h.0 | false ↦ rest ]

-- the item at a place
pub at_all : {A : Type 0} (P : A → Type 0) (xs : List A) (i : ℕ) → AllByRecursion P xs → IfSome (slice_get xs i) P
at_all P [] i h = tt
at_all P (x ∷ xs) zero h = h.0
at_all P (x ∷ xs) (suc i) h = at_all P xs i h.1

pub get_all : {A : Type 0} (P : A → Type 0) (xs : List A) (i : ℕ) (x : A) → AllByRecursion P xs → slice_get xs i ≡ Some x → P x
get_all P xs i x h e = subst (λ (o : Option _). IfSome o P) e (at_all P xs i h)

pub option_so : {A B : Type 0} (P : A → Type 0) (Q : B → Type 0) (f : A → B) (o : Option A) → ((x : A) → P x → Q (f x)) → IfSome o P → IfSome (option_map f o) Q
option_so P Q f None g h = tt
option_so P Q f (Some x) g h = g x h

pub is_so : {A : Type 0} (P : A → Type 0) (x y : A) → P x → Some x ≡ Some y → P y
is_so P x y h e = subst P (some_is x y e) h

-- an item among those that were mapped
pub among_map : {A B : Type 0} (f : A → B) (xs : List A) (x : A) → Contains xs x → Contains (map f xs) (f x)
among_map f [] x h = absurd (let low : h.0 < 0 = h.1 in omega (arith, low))
among_map f (y ∷ ys) x h = elim (one_of y x ys h) [
  | inl same ↦ subst (Contains (f y ∷ map f ys)) (ap f same) (Contains-append_left (f y ∷ []) (map f ys) (f y) (Contains-push [] (f y)))
  | inr later ↦ Contains-append_right (f y ∷ []) (map f ys) (f x) (among_map f ys x later)
]
