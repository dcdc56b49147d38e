-- What appended lists contain, and numbers from one on, before another.
use Rattle.std.proofs.Common.{◌≡◌, ℕ, zero, suc, ◌-◌, ◌≤◌, ◌<◌, Bool, true, false, List, [], ◌∷◌, ◌++◌, Option, ◌⊎◌, inl, inr, refl, sym, ap, subst, ◌∙◌, arith}
use Rattle.std.specs.Prelude.{nat_lt, if◌then◌else◌}
use Rattle.std.specs.List.{flat_map}
use Rattle.std.proofs.lemmas.Bool.Decides.{nat_tests}
use Rattle.sdb_types.specs.declared.pair.Pair.{Pair}
use Rattle.sdb_types.proofs.Public.{lt_of}
use Rattle.check_protocol.proofs.Public.{In}
use Rattle.check_answers.specs.Rows.{rows_below}

pub in_left : {X : Type 0} (xs ys : List X) (x : X) → In xs x → In (xs ++ ys) x
in_left [] ys x i = absurd i
in_left (y ∷ xs) ys x (inl e) = inl e
in_left (y ∷ xs) ys x (inr i) = inr (in_left xs ys x i)

pub in_right : {X : Type 0} (xs ys : List X) (x : X) → In ys x → In (xs ++ ys) x
in_right [] ys x i = i
in_right (y ∷ xs) ys x i = inr (in_right xs ys x i)

pub in_either : {X : Type 0} (xs ys : List X) (x : X) → In (xs ++ ys) x → In xs x ⊎ In ys x
in_either [] ys x i = inr i
in_either (y ∷ xs) ys x (inl e) = inl (inl e)
in_either (y ∷ xs) ys x (inr i) = elim (in_either xs ys x i) [ inl j ↦ inl (inr j) | inr j ↦ inr j ]

pub in_flat : {X Y : Type 0} (f : X → List Y) (xs : List X) (y : Y) → In (flat_map f xs) y → (x : X) × In xs x × In (f x) y
in_flat f [] y i = absurd i
in_flat f (x ∷ xs) y i = elim (in_either (f x) (flat_map f xs) y i) [
  | inl j ↦ (x, inl refl, j)
  | inr j ↦ let r = in_flat f xs y j in (r.0, inr r.1, r.2)
]

pub flat_in : {X Y : Type 0} (f : X → List Y) (xs : List X) (x : X) (y : Y) → In xs x → In (f x) y → In (flat_map f xs) y
flat_in f [] x y i j = absurd i
flat_in f (z ∷ xs) x y (inl e) j = in_left (f z) (flat_map f xs) y (subst (λ w. In (f w) y) e j)
flat_in f (z ∷ xs) x y (inr i) j = in_right (f z) (flat_map f xs) y (flat_in f xs x y i j)

pub last_or_less : (i m : ℕ) → i < suc m → (i ≡ m) ⊎ (i < m)
last_or_less zero zero l = inl refl
last_or_less zero (suc m) l = inr (omega arith)
last_or_less (suc i) zero l = absurd (omega (arith, l))
last_or_less (suc i) (suc m) l = elim (last_or_less i m (omega (arith, l))) [ inl e ↦ inl (ap suc e) | inr e ↦ inr (omega (arith, e)) ]

pub below_in : (f : ℕ → Option (List Pair)) (accepted n : ℕ) (row : Option (List Pair)) → In (rows_below f accepted n) row → (at : ℕ) × (accepted ≤ at) × (at < n) × (f at ≡ row)
below_in f accepted zero row i = absurd i
below_in f accepted (suc n) row i = elim (in_either (rows_below f accepted n) (if nat_lt accepted (suc n) then f n ∷ [] else []) row i) [
  | inl j ↦ let r = below_in f accepted n row j in (r.0, r.1, omega (arith, r.2), r.3)
  | inr j ↦ by (nat_lt accepted (suc n)) refl j
]
  where
    by : (b : Bool) → nat_lt accepted (suc n) ≡ b → In (if b then f n ∷ [] else []) row → (at : ℕ) × (accepted ≤ at) × (at < suc n) × (f at ≡ row)
    by true e (inl k) = let l : accepted < suc n = lt_of accepted (suc n) e in (n, omega (arith, l), omega arith, sym k)
    by true e (inr k) = absurd k
    by false e k = absurd k

pub in_below : (f : ℕ → Option (List Pair)) (accepted n at : ℕ) (row : Option (List Pair)) → accepted ≤ at → at < n → f at ≡ row → In (rows_below f accepted n) row
in_below f accepted zero at row h l e = absurd (omega (arith, l))
in_below f accepted (suc n) at row h l e = by (last_or_less at n l) (λ k. in_below f accepted n at row h k e)
  where
    is_lt : at ≡ n → nat_lt accepted (suc n) ≡ true
    is_lt s = grind (arith, nat_tests, h, s)

    by : (at ≡ n) ⊎ (at < n) → (at < n → In (rows_below f accepted n) row) → In (rows_below f accepted (suc n)) row
    by (inl s) more = in_right (rows_below f accepted n) (if nat_lt accepted (suc n) then f n ∷ [] else []) row (subst (λ b. In (if b then f n ∷ [] else []) row) (sym (is_lt s)) (inl (sym e ∙ ap f s)))
    by (inr k) more = in_left (rows_below f accepted n) (if nat_lt accepted (suc n) then f n ∷ [] else []) row (more k)

-- the last number first
pub below_more : (f : ℕ → Option (List Pair)) (accepted n : ℕ) → (n ≡ 0 → ⊥) → rows_below f accepted n ≡ rows_below f accepted (n - 1) ++ (if nat_lt accepted n then f (n - 1) ∷ [] else [])
below_more f accepted zero some = absurd (some refl)
below_more f accepted (suc n) some = let e : suc n - 1 ≡ n = omega arith in ap (λ m. rows_below f accepted m ++ (if nat_lt accepted (suc n) then f m ∷ [] else [])) (sym e)
