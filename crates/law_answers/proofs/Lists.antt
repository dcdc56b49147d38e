-- Lists of what was said: where a transaction begins and ends among them, as they grow.
use Rattle.std.proofs.Common.{◌≡◌, ◌+◌, ◌==◌, ◌⊎◌, inl, inr, ℕ, zero, suc, Bool, true, false, List, [], ◌∷◌, ◌++◌, Option, Some, None, refl, sym, ap, ◌∙◌, arith, map}
use Rattle.std.specs.Prelude.{if◌then◌else◌, filter, find, Contains}
use Rattle.std.specs.List.{AllByRecursion}
use Rattle.std.proofs.lemmas.Bool.Decides.{nat_tests}
use Rattle.std.proofs.lemmas.List.Elements.{All-contains, All-contains_itself, All-from_recursion, recursion_from_All}
use Rattle.sdb_model.specs.Transactions.{Executed, begins, ends, from_begin, rest_of}
use Rattle.law_clients.proofs.Public.{find_more}
use Rattle.sdb_types.proofs.Public.{none_some}
use Rattle.law_answers.specs.Invariant.{begun_in}

pub each_in : {X : Type 0} (P : X → Type 0) (xs : List X) (x : X) → AllByRecursion P xs → Contains xs x → P x
each_in P xs x all has = All-contains P xs x (All-from_recursion P xs all) has

-- what is found was there before one more came, or is that
pub find_front : {X : Type 0} (p : X → Bool) (xs : List X) (w x : X) → find p (xs ++ w ∷ []) ≡ Some x → (find p xs ≡ Some x) ⊎ (w ≡ x)
find_front {X = X} p [] w x e = by (p w) e
  where
    by : (b : Bool) → (if b then Some w else None) ≡ Some x → (◌≡◌ {A = Option X} None (Some x)) ⊎ (w ≡ x)
    by true h = inr (cc)
    by false h = inl h
find_front {X = X} p (y ∷ xs) w x e = by (p y) (λ h. find_front p xs w x h) e
  where
    by : (b : Bool) → (find p (xs ++ w ∷ []) ≡ Some x → (find p xs ≡ Some x) ⊎ (w ≡ x)) → (if b then Some y else find p (xs ++ w ∷ [])) ≡ Some x → ((if b then Some y else find p xs) ≡ Some x) ⊎ (w ≡ x)
    by true ih h = inl h
    by false ih h = ih h

-- two tests that agree at each element keep the same
pub filter_same : {X : Type 0} (p q : X → Bool) (xs : List X) → AllByRecursion (λ x. p x ≡ q x) xs → filter p xs ≡ filter q xs
filter_same p q [] all = refl
filter_same p q (x ∷ xs) all = ap (λ b. if b then x ∷ filter p xs else filter p xs) all.0 ∙ ap (λ r. if q x then x ∷ r else r) (filter_same p q xs all.1)

pub each_kept : {X : Type 0} (P : X → Type 0) (p : X → Bool) (xs : List X) → AllByRecursion P xs → AllByRecursion P (filter p xs)
each_kept P p [] all = tt
each_kept P p (x ∷ xs) all = by (p x) (each_kept P p xs all.1)
  where
    by : (b : Bool) → AllByRecursion P (filter p xs) → AllByRecursion P (if b then x ∷ filter p xs else filter p xs)
    by true ih = (all.0, ih)
    by false ih = ih

-- what a filter keeps was there
pub kept_in : {X : Type 0} (p : X → Bool) (xs : List X) (x : X) → Contains (filter p xs) x → Contains xs x
kept_in p xs x has = each_in (Contains xs) (filter p xs) x (each_kept (Contains xs) p xs (recursion_from_All (Contains xs) xs (All-contains_itself xs))) has

---- where a transaction begins

-- one statement more after a BEGIN
pub since_more : (n : ℕ) (ss : List Executed) (s b : Executed) (body : List Executed) → from_begin n ss ≡ b ∷ body → from_begin n (ss ++ s ∷ []) ≡ b ∷ (body ++ s ∷ [])
since_more zero ss s b body e = absurd (cc)
since_more (suc k) [] s b body e = absurd (cc)
since_more (suc k) (x ∷ xs) s b body e = by (begins x) (k == 0) (λ h. since_more k xs s b body h) (λ h. since_more (suc k) xs s b body h) e
  where
    by : (t z : Bool) → (from_begin k xs ≡ b ∷ body → from_begin k (xs ++ s ∷ []) ≡ b ∷ (body ++ s ∷ [])) → (from_begin (suc k) xs ≡ b ∷ body → from_begin (suc k) (xs ++ s ∷ []) ≡ b ∷ (body ++ s ∷ []))
        → (if t then (if z then x ∷ xs else from_begin k xs) else from_begin (suc k) xs) ≡ b ∷ body → (if t then (if z then x ∷ (xs ++ s ∷ []) else from_begin k (xs ++ s ∷ [])) else from_begin (suc k) (xs ++ s ∷ [])) ≡ b ∷ (body ++ s ∷ [])
    by true true i j h = ap (λ r. r ++ s ∷ []) h
    by true false i j h = i h
    by false z i j h = j h

-- where none began, one more statement is at most a BEGIN
pub since_none : (n : ℕ) (ss : List Executed) (s : Executed) → from_begin n ss ≡ [] → rest_of (from_begin n (ss ++ s ∷ [])) ≡ []
since_none zero ss s e = refl
since_none (suc k) [] s e = by (begins s) (k == 0) (only k)
  where
    only : (k : ℕ) → from_begin k [] ≡ []
    only zero = refl
    only (suc j) = refl

    by : (t z : Bool) → from_begin k [] ≡ [] → rest_of (if t then (if z then s ∷ [] else from_begin k []) else []) ≡ []
    by true true i = refl
    by true false i = ap rest_of i
    by false z i = refl
since_none (suc k) (x ∷ xs) s e = by (begins x) (k == 0) (λ h. since_none k xs s h) (λ h. since_none (suc k) xs s h) e
  where
    by : (t z : Bool) → (from_begin k xs ≡ [] → rest_of (from_begin k (xs ++ s ∷ [])) ≡ []) → (from_begin (suc k) xs ≡ [] → rest_of (from_begin (suc k) (xs ++ s ∷ [])) ≡ [])
        → (if t then (if z then x ∷ xs else from_begin k xs) else from_begin (suc k) xs) ≡ [] → rest_of (if t then (if z then x ∷ (xs ++ s ∷ []) else from_begin k (xs ++ s ∷ [])) else from_begin (suc k) (xs ++ s ∷ [])) ≡ []
    by true true i j h = absurd (cc)
    by true false i j h = i h
    by false z i j h = j h

-- the next transaction begins with its BEGIN
pub since_new : (ss : List Executed) (s : Executed) → begins s ≡ true → from_begin (suc (begun_in ss)) (ss ++ s ∷ []) ≡ s ∷ []
since_new [] s t = ap (λ b. if b then (if 0 == 0 then s ∷ [] else from_begin 0 []) else from_begin 1 []) t
since_new (x ∷ xs) s t = by (begins x) (since_new xs s t)
  where
    positive : (n : ℕ) → (suc n == 0) ≡ false
    positive n = grind (arith, nat_tests)

    by : (b : Bool) → from_begin (suc (begun_in xs)) (xs ++ s ∷ []) ≡ s ∷ []
        → (if b then (if (if b then suc (begun_in xs) else begun_in xs) == 0 then x ∷ (xs ++ s ∷ []) else from_begin (if b then suc (begun_in xs) else begun_in xs) (xs ++ s ∷ [])) else from_begin (suc (if b then suc (begun_in xs) else begun_in xs)) (xs ++ s ∷ [])) ≡ s ∷ []
    by true ih = ap (λ z. if z then x ∷ (xs ++ s ∷ []) else from_begin (suc (begun_in xs)) (xs ++ s ∷ [])) (positive (begun_in xs)) ∙ ih
    by false ih = ih

pub begun_more : (ss : List Executed) (s : Executed) → begins s ≡ true → begun_in (ss ++ s ∷ []) ≡ begun_in ss + 1
begun_more [] s t = ap (λ b. if b then 1 else 0) t
begun_more (x ∷ xs) s t = by (begins x) (begun_more xs s t)
  where
    up : (n m : ℕ) → n ≡ m + 1 → suc n ≡ suc m + 1
    up n m e = omega (arith, e)

    by : (b : Bool) → begun_in (xs ++ s ∷ []) ≡ begun_in xs + 1 → (if b then suc (begun_in (xs ++ s ∷ [])) else begun_in (xs ++ s ∷ [])) ≡ (if b then suc (begun_in xs) else begun_in xs) + 1
    by true ih = up (begun_in (xs ++ s ∷ [])) (begun_in xs) ih
    by false ih = ih

pub begun_same : (ss : List Executed) (s : Executed) → begins s ≡ false → begun_in (ss ++ s ∷ []) ≡ begun_in ss
begun_same [] s f = ap (λ b. if b then 1 else 0) f
begun_same (x ∷ xs) s f = ap (λ n. if begins x then suc n else n) (begun_same xs s f)

---- where it ends

-- an ending of a transaction stays
pub ending_stays : (n : ℕ) (ss : List Executed) (x s : Executed) → find ends (rest_of (from_begin n ss)) ≡ Some s → find ends (rest_of (from_begin n (ss ++ x ∷ []))) ≡ Some s
ending_stays n ss x s e = by (from_begin n ss) refl
  where
    by : (r : List Executed) → from_begin n ss ≡ r → find ends (rest_of (from_begin n (ss ++ x ∷ []))) ≡ Some s
    by [] k = none_some s (sym (ap (λ r. find ends (rest_of r)) k) ∙ e)
    by (b ∷ body) k = ap (λ r. find ends (rest_of r)) (since_more n ss x b body k) ∙ find_more ends body (x ∷ []) s (sym (ap (λ r. find ends (rest_of r)) k) ∙ e)

-- and was there before one more came, or is that
pub ending_front : (n : ℕ) (ss : List Executed) (w s : Executed) → find ends (rest_of (from_begin n (ss ++ w ∷ []))) ≡ Some s → (find ends (rest_of (from_begin n ss)) ≡ Some s) ⊎ (w ≡ s)
ending_front n ss w s e = by (from_begin n ss) refl
  where
    as_front : (b : Executed) (body : List Executed) → from_begin n ss ≡ b ∷ body → (find ends body ≡ Some s) ⊎ (w ≡ s) → (find ends (rest_of (from_begin n ss)) ≡ Some s) ⊎ (w ≡ s)
    as_front b body k (inl h) = inl (ap (λ r. find ends (rest_of r)) k ∙ h)
    as_front b body k (inr h) = inr h

    by : (r : List Executed) → from_begin n ss ≡ r → (find ends (rest_of (from_begin n ss)) ≡ Some s) ⊎ (w ≡ s)
    by [] k = none_some s (sym (ap (find ends) (since_none n ss w k)) ∙ e)
    by (b ∷ body) k = as_front b body k (find_front ends body w s (sym (ap (λ r. find ends (rest_of r)) (since_more n ss w b body k)) ∙ e))

-- none of these ends it, and the next does
pub ends_last : (body : List Executed) (s : Executed) → AllByRecursion (λ x. ends x ≡ false) body → ends s ≡ true → find ends (body ++ s ∷ []) ≡ Some s
ends_last [] s all t = ap (λ b. if b then Some s else None) t
ends_last (x ∷ xs) s all t = ap (λ b. if b then Some x else find ends (xs ++ s ∷ [])) all.0 ∙ ends_last xs s all.1 t

pub map_more : {X Y : Type 0} (f : X → Y) (xs ys : List X) → map f (xs ++ ys) ≡ map f xs ++ map f ys
map_more f [] ys = refl
map_more f (x ∷ xs) ys = ap (λ r. f x ∷ r) (map_more f xs ys)
