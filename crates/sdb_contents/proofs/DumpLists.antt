-- Lists, item by item.
use Rattle.std.proofs.Common.{◌≡◌, ◌∙◌, ◌⊎◌, inl, inr, ℕ, zero, suc, Bool, true, false, cond, List, [], ◌∷◌, ◌++◌, length, take, get_or, Option, Some, None, Result, Ok, Err, IfOk, IfErr, refl, sym, ap, subst, arith}
use Rattle.std.specs.Prelude.{AllPairs, Contains, find, slice_get}
use Rattle.std.specs.List.{cons_option, filter_map}
use Rattle.std.specs.Result.{result_ok}
use Rattle.std.proofs.lemmas.List.Elements.{Contains-get_or}
use Rattle.sdb_types.proofs.Public.{by_test, none_some, some_is}

-- what is so of a success
pub ok_is : {A E : Type 0} (P : A → Type 0) (r : Result A E) (x : A) → IfOk r P → Some x ≡ result_ok r → P x
ok_is P (Ok y) x h e = subst P (sym (some_is x y e)) h
ok_is P (Err y) x h e = absurd (none_some x (sym e))

-- what is so of an error
pub err_is : {A E : Type 0} (P : E → Type 0) (r : Result A E) → IfErr r P → None ≡ result_ok r → (e : E) × P e
err_is P (Ok y) h e = absurd (none_some y e)
err_is P (Err y) h e = (y, h)

---- the first that passes

-- the first of all is the first after those that don't pass
pub found_first : {A : Type 0} (q : A → Bool) (xs : List A) (i : ℕ) (x : A) → slice_get xs i ≡ Some x → find q (take i xs) ≡ None → q x ≡ true → find q xs ≡ Some x
found_first q [] i x here none t = absurd (none_some x here)
found_first q (y ∷ ys) zero x here none t = ap (λ (z : _). cond (q z) (Some z) (find q ys)) (some_is y x here) ∙ ap (λ (b : Bool). cond b (Some x) (find q ys)) t
found_first q (y ∷ ys) (suc i) x here none t =
    by_test (q y)
    (λ u. absurd (none_some y (sym none ∙ ap (λ (b : Bool). cond b (Some y) (find q (take i ys))) u)))
    (λ u. ap (λ (b : Bool). cond b (Some y) (find q ys)) u ∙ found_first q ys i x here (sym (ap (λ (b : Bool). cond b (Some y) (find q (take i ys))) u) ∙ none) t)

-- one more that doesn't pass
pub none_more : {A : Type 0} (q : A → Bool) (xs : List A) (x : A) → find q xs ≡ None → q x ≡ false → find q (xs ++ x ∷ []) ≡ None
none_more q [] x none t = ap (λ (b : Bool). cond b (Some x) None) t
none_more q (y ∷ ys) x none t =
    by_test (q y)
    (λ u. absurd (none_some y (sym none ∙ ap (λ (b : Bool). cond b (Some y) (find q ys)) u)))
    (λ u. ap (λ (b : Bool). cond b (Some y) (find q (ys ++ x ∷ []))) u ∙ none_more q ys x (sym (ap (λ (b : Bool). cond b (Some y) (find q ys)) u) ∙ none) t)

---- items

pub here_in : {A : Type 0} (x : A) (xs : List A) → Contains (x ∷ xs) x
here_in x xs = (0, omega arith, refl)

pub later_in : {A : Type 0} (x y : A) (xs : List A) → Contains xs y → Contains (x ∷ xs) y
later_in x y xs h = (suc h.0, let k = h.1 in omega arith, h.2)

pub none_in : {A : Type 0} (x : A) → Contains [] x → ⊥
none_in x h = let k = h.1 in omega arith

pub first_or_later : {A : Type 0} (x y : A) (xs : List A) → Contains (x ∷ xs) y → (x ≡ y) ⊎ Contains xs y
first_or_later x y xs (zero, k, e) = inl e
first_or_later x y xs (suc i, k, e) = inr (i, omega arith, e)

-- an item of those that are kept comes from one
pub kept_from : {A B : Type 0} (f : A → Option B) (xs : List A) (y : B) → Contains (filter_map f xs) y → (x : A) × Contains xs x × (f x ≡ Some y)
kept_from f [] y h = absurd (none_in y h)
kept_from f (x ∷ xs) y h = by (kept_from f xs y) (f x) refl h
  where
    by : (Contains (filter_map f xs) y → (z : _) × Contains xs z × (f z ≡ Some y)) → (o : Option _) → f x ≡ o → Contains (cons_option o (filter_map f xs)) y → (z : _) × Contains (x ∷ xs) z × (f z ≡ Some y)
    by rest None e k = let r = rest k in (r.0, later_in x r.0 xs r.1, r.2)
    by rest (Some z) e k = elim (first_or_later z y (filter_map f xs) k) [
      | inl same ↦ (x, here_in x xs, e ∙ ap Some same)
      | inr more ↦ let r = rest more in (r.0, later_in x r.0 xs r.1, r.2)
    ]

pub kept_in : {A B : Type 0} (f : A → Option B) (xs : List A) (x : A) (y : B) → Contains xs x → f x ≡ Some y → Contains (filter_map f xs) y
kept_in f [] x y h e = absurd (none_in x h)
kept_in f (z ∷ xs) x y h e = elim (first_or_later z x xs h) [
  | inl same ↦ subst (λ (o : Option _). Contains (cons_option o (filter_map f xs)) y) (sym (ap f same ∙ e)) (here_in y (filter_map f xs))
  | inr more ↦ behind (f z) (kept_in f xs x y more e)
]
  where
    behind : (o : Option _) → Contains (filter_map f xs) y → Contains (cons_option o (filter_map f xs)) y
    behind None k = k
    behind (Some w) k = later_in w y (filter_map f xs) k

-- a first one that is in the relation to each later one
pub pairs_more : {A : Type 0} (R : A → A → Type 0) (x : A) (xs : List A) → ((y : A) → Contains xs y → R x y) → AllPairs R xs → AllPairs R (x ∷ xs)
pairs_more R x xs first rest zero zero d low high = absurd (omega arith)
pairs_more R x xs first rest zero (suc j) d low high = first (get_or xs j d) (Contains-get_or xs j d (omega arith))
pairs_more R x xs first rest (suc i) zero d low high = absurd (omega arith)
pairs_more R x xs first rest (suc i) (suc j) d low high = rest i j d (omega arith) (omega arith)

-- the first that passes is one of them
pub found_in_list : {A : Type 0} (q : A → Bool) (xs : List A) (x : A) → find q xs ≡ Some x → Contains xs x × (q x ≡ true)
found_in_list q [] x e = absurd (none_some x e)
found_in_list q (y ∷ ys) x e =
    by_test (q y)
    (λ t. let same : y ≡ x = some_is y x (sym (ap (λ (b : Bool). cond b (Some y) (find q ys)) t) ∙ e) in
    (subst (λ z. Contains (y ∷ ys) z) same (here_in y ys), ap q (sym same) ∙ t))
    (λ t. let rest = found_in_list q ys x (sym (ap (λ (b : Bool). cond b (Some y) (find q ys)) t) ∙ e) in (later_in y x ys rest.0, rest.1))

-- tests that are the same find the same
pub found_same : {A : Type 0} (p q : A → Bool) (xs : List A) → ((x : A) → p x ≡ q x) → find p xs ≡ find q xs
found_same p q [] same = refl
found_same p q (x ∷ xs) same = ap (λ (b : Bool). cond b (Some x) (find p xs)) (same x) ∙ ap (cond (q x) (Some x)) (found_same p q xs same)

---- places

-- the i-th is one of them
pub contains_at : {A : Type 0} (xs : List A) (i : ℕ) (x : A) → slice_get xs i ≡ Some x → Contains xs x
contains_at [] i x e = absurd (none_some x e)
contains_at (y ∷ ys) zero x e = subst (λ z. Contains (y ∷ ys) z) (some_is y x e) (here_in y ys)
contains_at (y ∷ ys) (suc i) x e = later_in y x ys (contains_at ys i x e)

-- of a list with one more at its end each place is one of the list, or the last
pub last_or_before : {A : Type 0} (xs : List A) (x : A) (k : ℕ) (y : A) → slice_get (xs ++ x ∷ []) k ≡ Some y → (slice_get xs k ≡ Some y) ⊎ ((k ≡ length xs) × (x ≡ y))
last_or_before [] x zero y e = inr (refl, some_is x y e)
last_or_before [] x (suc k) y e = absurd (none_some y e)
last_or_before (z ∷ xs) x zero y e = inl e
last_or_before (z ∷ xs) x (suc k) y e = elim (last_or_before xs x k y e) [
  | inl h ↦ inl h
  | inr h ↦ inr (ap suc h.0, h.1)
]
