-- Columns are a map from names to values: what is at a name after a column is set, and columns that agree at every
-- name are equal.
use Rattle.std.proofs.Common.{◌≡◌, ℕ, List, [], ◌∷◌, true, false, not, cond, Some, None, option_map, refl, sym, ap, ◌∙◌, subst, drop}
use Rattle.std.specs.Prelude.{if◌then◌else◌, find}
use Rattle.std.specs.declared.cmp.Ordering.{Ordering}
use Rattle.std.specs.declared.cmp.Ordering.TheVariants.{Less, Equal, Greater}
use Rattle.std.specs.Ordering.{is_lt, is_eq, ordering_reverse}
use Rattle.std.specs.Cmp.{tied_itself}
use Rattle.sdb_types.specs.declared.pair.Pair.{Pair}
use Rattle.sdb_types.specs.declared.value.Value.{Value}
use Rattle.sdb_types.specs.Order.{name_cmp}
use Rattle.sdb_types.specs.Columns.{is_null, starts_above, are_columns, put_pair, take_out, with_column, column, is_named, is_first_name, first_value, place_in}
use Rattle.sdb_types.proofs.Bools.{and_first, and_second}
use Rattle.sdb_types.proofs.KeyOrder.{name_exact, name_total}
use Rattle.sdb_types.proofs.ColumnLemmas.{by_order, above_more, named-is_place}
use Rattle.sdb_types.proofs.Basics.{less_of}

-- what follows a column is above it
pub tail_above : (e : Pair) (es : List Pair) → are_columns (e ∷ es) ≡ true → starts_above e.name es ≡ true
tail_above e es c = and_first (starts_above e.name es) (are_columns es) (and_second (not (is_null e.value)) _ c)

-- what follows a column are columns
pub tail_columns : (e : Pair) (es : List Pair) → are_columns (e ∷ es) ≡ true → are_columns es ≡ true
tail_columns e es c = and_second (starts_above e.name es) (are_columns es) (and_second (not (is_null e.value)) _ c)

-- a name is at its own place
itself : (name : List ℕ) → name_cmp name name ≡ Equal
itself = tied_itself name_total

pub turned : (a b : List ℕ) (r : Ordering) → name_cmp a b ≡ r → name_cmp b a ≡ ordering_reverse r
turned a b r e = name_total.antisymm b a ∙ ap ordering_reverse e

-- no column is below the first
pub column_above : (name : List ℕ) (ps : List Pair) → are_columns ps ≡ true → starts_above name ps ≡ true → column ps name ≡ None
column_above name [] c h = refl
column_above name (e ∷ es) c h =
    let q = turned name e.name Less (less_of _ h) in
    simp q (column_above name es (tail_columns e es c) (above_more name e es h (tail_above e es c)))

-- a column is found at its place
pub column-at_place : (name : List ℕ) (ps : List Pair) → are_columns ps ≡ true → first_value name (drop (place_in name ps) ps) ≡ column ps name
column-at_place name [] c = refl
column-at_place name (e ∷ es) c =
    by_order (name_cmp e.name name)
    (λ q. simp q (column-at_place name es (tail_columns e es c)))
    (λ q. simp q refl)
    (λ q. let above : starts_above name es ≡ true = above_more name e es (ap is_lt (turned e.name name Greater q)) (tail_above e es c) in simp q (sym (column_above name es (tail_columns e es c) above)))

named-first : (name : List ℕ) (ps : List Pair) (v : Value) → first_value name ps ≡ Some v → is_first_name name ps ≡ true
named-first name [] v h = absurd (cc)
named-first name (e ∷ es) v h = elim (is_named name e) as (λ b. cond b (Some e.value) None ≡ Some v → b ≡ true) [ true ↦ λ k. refl | false ↦ λ k. absurd (cc) ] h

-- the value at any place whose column has the name
pub column-near : (name : List ℕ) (ps : List Pair) (n : ℕ) (v : Value) → are_columns ps ≡ true → first_value name (drop n ps) ≡ Some v → column ps name ≡ Some v
column-near name ps n v c h =
    let at : n ≡ place_in name ps = named-is_place name ps n c (named-first name (drop n ps) v h) in
    sym (column-at_place name ps c) ∙ ap (λ k. first_value name (drop k ps)) (sym at) ∙ h

pub column-put_same : (p : Pair) (ps : List Pair) → column (put_pair p ps) p.name ≡ Some p.value
column-put_same p [] = simp (itself p.name) refl
column-put_same p (e ∷ es) =
    by_order (name_cmp e.name p.name)
    (λ q. simp q (column-put_same p es))
    (λ q. simp (q, itself p.name) refl)
    (λ q. simp (q, itself p.name) refl)

-- a name that is another's is not answered by the test
apart : (a b : List ℕ) → (a ≡ b → ⊥) → is_eq (name_cmp a b) ≡ false
apart a b n =
    by_order (name_cmp a b)
    (λ q. simp q refl)
    (λ q. absurd (n (name_exact a b q)))
    (λ q. simp q refl)

skip : (e : Pair) (es : List Pair) (name : List ℕ) → is_eq (name_cmp e.name name) ≡ false → column (e ∷ es) name ≡ column es name
skip e es name h = simp h refl

onto : (e : Pair) (xs ys : List Pair) (name : List ℕ) → column xs name ≡ column ys name → column (e ∷ xs) name ≡ column (e ∷ ys) name
onto e xs ys name h =
    elim (is_named name e) as (λ b. option_map (λ p. p.value) (cond b (Some e) (find (is_named name) xs)) ≡ option_map (λ p. p.value) (cond b (Some e) (find (is_named name) ys))) [
      | true ↦ refl
      | false ↦ h
    ]

pub column-put_other : (p : Pair) (ps : List Pair) (name : List ℕ) → (name ≡ p.name → ⊥) → column (put_pair p ps) name ≡ column ps name
column-put_other p [] name n = simp (apart p.name name (λ e. n (sym e))) refl
column-put_other p (e ∷ es) name n =
    let other = apart p.name name (λ e. n (sym e)) in
    by_order (name_cmp e.name p.name)
    (λ q. simp q (onto e (put_pair p es) es name (column-put_other p es name n)))
    (λ q. simp (q, other) (sym (skip e es name (apart e.name name (λ f. n (sym f ∙ name_exact _ _ q))))))
    (λ q. simp (q, other) refl)

pub column-out_same : (name : List ℕ) (ps : List Pair) → are_columns ps ≡ true → column (take_out name ps) name ≡ None
column-out_same name [] c = refl
column-out_same name (e ∷ es) c =
    let above = tail_above e es c in
    let tail = tail_columns e es c in
    by_order (name_cmp e.name name)
    (λ q. simp q (column-out_same name es tail))
    (λ q. simp q (column_above name es tail (subst (λ (x : List ℕ). starts_above x es ≡ true) (name_exact _ _ q) above)))
    (λ q. simp q (column_above name es tail (above_more name e es (ap is_lt (turned e.name name Greater q)) above)))

pub column-out_other : (name : List ℕ) (ps : List Pair) (other : List ℕ) → (other ≡ name → ⊥) → column (take_out name ps) other ≡ column ps other
column-out_other name [] other n = refl
column-out_other name (e ∷ es) other n =
    by_order (name_cmp e.name name)
    (λ q. simp q (onto e (take_out name es) es other (column-out_other name es other n)))
    (λ q. simp q (sym (skip e es other (apart e.name other (λ f. n (sym f ∙ name_exact _ _ q))))))
    (λ q. simp q refl)

-- the column that was set reads as its value, or as none where it is Null
pub column-with_column_same : (p : Pair) (ps : List Pair) → are_columns ps ≡ true → column (with_column p ps) p.name ≡ (if is_null p.value then None else Some p.value)
column-with_column_same p ps c =
    elim (is_null p.value) as (λ b. column (if b then take_out p.name ps else put_pair p ps) p.name ≡ (if b then None else Some p.value)) [
      | true ↦ column-out_same p.name ps c
      | false ↦ column-put_same p ps
    ]

-- every other column stays
pub column-with_column_other : (p : Pair) (ps : List Pair) (name : List ℕ) → (name ≡ p.name → ⊥) → column (with_column p ps) name ≡ column ps name
column-with_column_other p ps name n =
    elim (is_null p.value) as (λ b. column (if b then take_out p.name ps else put_pair p ps) name ≡ column ps name) [
      | true ↦ column-out_other p.name ps name n
      | false ↦ column-put_other p ps name n
    ]

-- what is first is answered, and what is above it isn't
first_told : (e : Pair) (es : List Pair) → column (e ∷ es) e.name ≡ Some e.value
first_told e es = simp (itself e.name) refl

-- the rest of columns that read alike reads alike
rest_alike : (d e : Pair) (ds es : List Pair) → are_columns (d ∷ ds) ≡ true → are_columns (e ∷ es) ≡ true → d.name ≡ e.name
    → ((name : List ℕ) → column (d ∷ ds) name ≡ column (e ∷ es) name) → (name : List ℕ) → column ds name ≡ column es name
rest_alike d e ds es c k same alike name =
    by_order (name_cmp d.name name)
    (λ q. let p = skip d ds name (ap is_eq q) in let r = skip e es name (ap (λ x. is_eq (name_cmp x name)) (sym same) ∙ ap is_eq q) in sym p ∙ alike name ∙ r)
    (λ q.
    let at = name_exact _ _ q in
    column_above name ds (tail_columns d ds c) (subst (λ (x : List ℕ). starts_above x ds ≡ true) at (tail_above d ds c))
    ∙ sym (column_above name es (tail_columns e es k) (subst (λ (x : List ℕ). starts_above x es ≡ true) (sym same ∙ at) (tail_above e es k))))
    (λ q. let p = skip d ds name (ap is_eq q) in let r = skip e es name (ap (λ x. is_eq (name_cmp x name)) (sym same) ∙ ap is_eq q) in sym p ∙ alike name ∙ r)

-- columns that read alike at every name are equal
pub same_columns : (a b : List Pair) → are_columns a ≡ true → are_columns b ≡ true → ((name : List ℕ) → column a name ≡ column b name) → a ≡ b
same_columns [] [] c k alike = refl
same_columns [] (e ∷ es) c k alike = let h = alike e.name ∙ first_told e es in cc
same_columns (d ∷ ds) [] c k alike = let h = sym (first_told d ds) ∙ alike d.name in cc
same_columns (d ∷ ds) (e ∷ es) c k alike =
    by_order (name_cmp d.name e.name)
    (λ q. let h = sym (first_told d ds) ∙ alike d.name ∙ column_above d.name (e ∷ es) k (ap is_lt q) in cc)
    (λ q.
    let same = name_exact _ _ q in
    let value : Some d.value ≡ Some e.value = sym (first_told d ds) ∙ alike d.name ∙ ap (column (e ∷ es)) same ∙ first_told e es in
    let worth : d.value ≡ e.value = cc in
    let tails = same_columns ds es (tail_columns d ds c) (tail_columns e es k) (rest_alike d e ds es c k same alike) in
    λ i. record { name = same i; value = worth i } ∷ tails i)
    (λ q. let h = sym (first_told e es) ∙ sym (alike e.name) ∙ column_above e.name (d ∷ ds) c (ap is_lt (turned d.name e.name Greater q)) in cc)
