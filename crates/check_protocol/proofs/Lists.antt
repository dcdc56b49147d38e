-- Lemmas on tests, and on tests of lists.
use Rattle.std.proofs.Common.{◌≡◌, ℕ, zero, suc, ◌+◌, Bool, true, false, List, [], ◌∷◌, Option, Some, None, ◌⊎◌, inl, inr, refl, sym, ap, ◌∙◌, arith, Bor}
use Rattle.std.specs.Prelude.{◌&&◌, ◌||◌, not, find, map, slice_get, if◌then◌else◌}
use Rattle.std.specs.Option.{option_map, option_copied, is_some}
use Rattle.std.specs.List.{list_any, list_all, enumerate_from}
use Rattle.sdb_types.proofs.Public.{and_both as both, and_first as left, clash, either, or_second as or_right, some_is}

---- tests

pub none_some : {A B : Type 0} {x : A} → ◌≡◌ {A = Option A} None (Some x) → B
none_some e = absurd (cc)

pub right : (a b : Bool) → (a && b) ≡ true → b ≡ true
right true b h = h
right false b h = clash (sym h)

pub or_left : (a b : Bool) → a ≡ true → (a || b) ≡ true
or_left a b h = λ i. h i || b

pub not_true : (a : Bool) → not a ≡ true → a ≡ false
not_true true h = clash (sym h)
not_true false h = refl

pub true_not : (a : Bool) → a ≡ false → not a ≡ true
true_not a h = ap not h

pub not_both : {A : Type 0} (a : Bool) → a ≡ true → a ≡ false → A
not_both a h k = clash (sym h ∙ k)

---- lists

-- an item of a list
abbrev pub In : {X : Type 0} → List X → X → Type 0
In [] x = ⊥
In (y ∷ ys) x = (x ≡ y) ⊎ In ys x

pub any_some : {X : Type 0} (f : X → Bool) (xs : List X) → list_any f xs ≡ true → (x : X) × In xs x × (f x ≡ true)
any_some f [] h = clash (sym h)
any_some f (y ∷ ys) h = elim (either (f y) (list_any f ys) h) [
  | inl e ↦ (y, inl refl, e)
  | inr e ↦ let r = any_some f ys e in (r.0, inr r.1, r.2)
]

pub some_any : {X : Type 0} (f : X → Bool) (xs : List X) (x : X) → In xs x → f x ≡ true → list_any f xs ≡ true
some_any f [] x h e = absurd h
some_any f (y ∷ ys) x (inl h) e = or_left (f y) (list_any f ys) (ap f (sym h) ∙ e)
some_any f (y ∷ ys) x (inr h) e = or_right (f y) (list_any f ys) (some_any f ys x h e)

pub all_each : {X : Type 0} (f : X → Bool) (xs : List X) → list_all f xs ≡ true → (x : X) → In xs x → f x ≡ true
all_each f [] h x i = absurd i
all_each f (y ∷ ys) h x (inl i) = ap f i ∙ left (f y) (list_all f ys) h
all_each f (y ∷ ys) h x (inr i) = all_each f ys (right (f y) (list_all f ys) h) x i

pub each_all : {X : Type 0} (f : X → Bool) (xs : List X) → ((x : X) → In xs x → f x ≡ true) → list_all f xs ≡ true
each_all f [] h = refl
each_all f (y ∷ ys) h = both (f y) (list_all f ys) (h y (inl refl)) (each_all f ys (λ x i. h x (inr i)))

found_by : {X : Type 0} (f : X → Bool) (y : X) (ys : List X) (x : X) → (find f ys ≡ Some x → In ys x × (f x ≡ true)) → (b : Bool) → f y ≡ b → (if b then Some y else find f ys) ≡ Some x → (x ≡ y ⊎ In ys x) × (f x ≡ true)
found_by f y ys x more true e k = (inl (sym (some_is y x k)), ap f (sym (some_is y x k)) ∙ e)
found_by f y ys x more false e k = let r = more k in (inr r.0, r.1)

some_by : {X : Type 0} (f : X → Bool) (y : X) (ys : List X) (x : X) → f x ≡ true → (In ys x → (z : X) × (find f ys ≡ Some z)) → (b : Bool) → f y ≡ b → (x ≡ y ⊎ In ys x) → (z : X) × ((if b then Some y else find f ys) ≡ Some z)
some_by f y ys x e more true h k = (y, refl)
some_by f y ys x e more false h (inl k) = not_both (f y) (ap f (sym k) ∙ e) h
some_by f y ys x e more false h (inr k) = more k

-- what a search finds
pub found_in : {X : Type 0} (f : X → Bool) (xs : List X) (x : X) → find f xs ≡ Some x → In xs x × (f x ≡ true)
found_in f [] x h = none_some h
found_in f (y ∷ ys) x h = found_by f y ys x (λ k. found_in f ys x k) (f y) refl h

pub found_some : {X : Type 0} (f : X → Bool) (xs : List X) (x : X) → In xs x → f x ≡ true → (y : X) × (find f xs ≡ Some y)
found_some f [] x i e = absurd i
found_some f (y ∷ ys) x i e = some_by f y ys x e (λ k. found_some f ys x k e) (f y) refl i

found_or : {X : Type 0} (x : X) (o : Option X) (more : Bool) → is_some o ≡ more → (b : Bool) → is_some (if b then Some x else o) ≡ (b || more)
found_or x o more e true = refl
found_or x o more e false = e

pub found_entry : {X : Type 0} (o : Option (Bor X)) → is_some o ≡ is_some (option_copied o)
found_entry None = refl
found_entry (Some x) = refl

-- a search finds something where an item passes
pub found_any : {X : Type 0} (f : X → Bool) (xs : List X) → is_some (find f xs) ≡ list_any f xs
found_any f [] = refl
found_any f (x ∷ xs) = found_or x (find f xs) (list_any f xs) (found_any f xs) (f x)

pub got_in : {X : Type 0} (xs : List X) (i : ℕ) (x : X) → slice_get xs i ≡ Some x → In xs x
got_in [] i x h = none_some h
got_in (y ∷ ys) zero x h = inl (sym (some_is y x h))
got_in (y ∷ ys) (suc i) x h = inr (got_in ys i x h)

pub in_got : {X : Type 0} (xs : List X) (x : X) → In xs x → (i : ℕ) × (slice_get xs i ≡ Some x)
in_got [] x h = absurd h
in_got (y ∷ ys) x (inl h) = (0, ap Some (sym h))
in_got (y ∷ ys) x (inr h) = let r = in_got ys x h in (suc r.0, r.1)

pub got_map : {X Y : Type 0} (f : X → Y) (xs : List X) (i : ℕ) → slice_get (map f xs) i ≡ option_map f (slice_get xs i)
got_map f [] i = refl
got_map f (x ∷ xs) zero = refl
got_map f (x ∷ xs) (suc i) = got_map f xs i

-- a test of each item with its place
pub placed_each : {X : Type 0} (f : ℕ → X → Bool) (xs : List X) (n : ℕ) → list_all (λ (e : ℕ × X). f e.0 e.1) (enumerate_from n xs) ≡ true → (i : ℕ) (x : X) → slice_get xs i ≡ Some x → f (n + i) x ≡ true
placed_each f [] n h i x g = none_some g
placed_each f (y ∷ ys) n h zero x g = ap (λ m. f m x) (omega arith) ∙ ap (f n) (sym (some_is y x g)) ∙ left (f n y) (list_all (λ e. f e.0 e.1) (enumerate_from (n + 1) ys)) h
placed_each f (y ∷ ys) n h (suc i) x g = ap (λ m. f m x) (omega arith) ∙ placed_each f ys (n + 1) (right (f n y) (list_all (λ e. f e.0 e.1) (enumerate_from (n + 1) ys)) h) i x g

pub each_placed : {X : Type 0} (f : ℕ → X → Bool) (xs : List X) (n : ℕ) → ((i : ℕ) (x : X) → slice_get xs i ≡ Some x → f (n + i) x ≡ true) → list_all (λ (e : ℕ × X). f e.0 e.1) (enumerate_from n xs) ≡ true
each_placed f [] n h = refl
each_placed f (y ∷ ys) n h = both (f n y) (list_all (λ e. f e.0 e.1) (enumerate_from (n + 1) ys)) (ap (λ m. f m y) (omega arith) ∙ h 0 y refl) (each_placed f ys (n + 1) (λ i x g. ap (λ m. f m x) (omega arith) ∙ h (suc i) x g))

---- a list newest first, read by a search

-- one more item before what a test of the rest says
pub if_or : (b x : Bool) → (if b then true else x) ≡ (b || x)
if_or true x = refl
if_or false x = refl
