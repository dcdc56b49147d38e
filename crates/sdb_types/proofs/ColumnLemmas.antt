-- A column set at its place, and columns stay columns.
use Rattle.std.proofs.Common.{◌≡◌, ℕ, zero, suc, ◌<◌, ◌≤◌, List, [], ◌∷◌, ◌++◌, true, false, not, refl, sym, ap, ◌∙◌, ◌-◌, subst, arith, length, drop, get_or}
use Rattle.std.specs.Prelude.{insert, remove, slice_set, slice_get, if◌then◌else◌, Some}
use Rattle.std.specs.Option.{option_map_or}
use Rattle.std.proofs.lemmas.List.{get_or_default}
use Rattle.std.proofs.lemmas.Option.{slice_get-get_or}
use Rattle.std.specs.List.Sorted.{IsPartitionPoint}
use Rattle.std.specs.Cmp.{Equal-is}
use Rattle.std.specs.declared.cmp.Ordering.{Ordering}
use Rattle.std.specs.declared.cmp.Ordering.TheVariants.{Less, Equal, Greater}
use Rattle.std.specs.Ordering.{is_lt, ordering_reverse}
use Rattle.sdb_types.specs.declared.pair.Pair.{Pair}
use Rattle.std.proofs.Common.{Result, Ok, Err, OnOk, OnErr}
use Rattle.sdb_types.specs.declared.memory.NoMemory.{NoMemory}
use Rattle.sdb_types.specs.Order.{name_cmp}
use Rattle.sdb_types.proofs.Bools.{and_first, and_second, and_both}
use Rattle.sdb_types.proofs.KeyOrder.{name_exact, name_total}
use Rattle.sdb_types.specs.Columns.{is_null, starts_above, are_columns, is_below, put_pair, take_out, with_column, place_in, is_first_name, ends_below}
use Rattle.sdb_types.proofs.Basics.{less_of}

pub by_order : {G : Type 0} (r : Ordering) → (r ≡ Less → G) → (r ≡ Equal → G) → (r ≡ Greater → G) → G
by_order Less f g h = f refl
by_order Equal f g h = g refl
by_order Greater f g h = h refl

pub put_before : (p : Pair) (es : List Pair) → is_first_name p.name (drop (place_in p.name es) es) ≡ false → insert es (place_in p.name es) p ≡ put_pair p es
put_before p [] h = refl
put_before p (e ∷ es) h =
    by_order (name_cmp e.name p.name)
    (λ q. let t = simp q at h in simp q (ap (λ l. e ∷ l) (put_before p es t)))
    (λ q. let t = simp q at h in cc)
    (λ q. simp q refl)

pub put_over : (p : Pair) (es : List Pair) → is_first_name p.name (drop (place_in p.name es) es) ≡ true → slice_set es (place_in p.name es) p ≡ put_pair p es
put_over p [] h = cc
put_over p (e ∷ es) h =
    by_order (name_cmp e.name p.name)
    (λ q. let t = simp q at h in simp q (ap (λ l. e ∷ l) (put_over p es t)))
    (λ q. simp q refl)
    (λ q. let t = simp q at h in cc)

pub take_at : (name : List ℕ) (es : List Pair) → is_first_name name (drop (place_in name es) es) ≡ true → remove es (place_in name es) ≡ take_out name es
take_at name [] h = cc
take_at name (e ∷ es) h =
    by_order (name_cmp e.name name)
    (λ q. let t = simp q at h in simp q (ap (λ l. e ∷ l) (take_at name es t)))
    (λ q. simp q refl)
    (λ q. let t = simp q at h in cc)

pub take_none : (name : List ℕ) (es : List Pair) → is_first_name name (drop (place_in name es) es) ≡ false → es ≡ take_out name es
take_none name [] h = refl
take_none name (e ∷ es) h =
    by_order (name_cmp e.name name)
    (λ q. let t = simp q at h in simp q (ap (λ l. e ∷ l) (take_none name es t)))
    (λ q. let t = simp q at h in cc)
    (λ q. simp q refl)

-- what is above a name that is above another is above that one
not_above : (name : List ℕ) (p : Pair) (es : List Pair) → is_lt (name_cmp name p.name) ≡ true → starts_above name es ≡ true → starts_above name (put_pair p es) ≡ true
not_above name p [] h k = h
not_above name p (e ∷ es) h k =
    by_order (name_cmp e.name p.name)
    (λ q. simp q k)
    (λ q. simp q h)
    (λ q. simp q h)

pub put-are_columns : (p : Pair) (es : List Pair) → is_null p.value ≡ false → are_columns es ≡ true → are_columns (put_pair p es) ≡ true
put-are_columns p [] n h = simp n refl
put-are_columns p (e ∷ es) n h =
    let full = and_first _ _ h in
    let rest = and_second _ _ h in
    let above = and_first _ _ rest in
    let tail = and_second _ _ rest in
    by_order (name_cmp e.name p.name)
    (λ q. simp q (and_both _ _ full (and_both _ _ (not_above e.name p es (ap is_lt q) above) (put-are_columns p es n tail))))
    (λ q. simp q (and_both _ _ (ap not n) (and_both _ _ (subst (λ (x : List ℕ). starts_above x es ≡ true) (name_exact _ _ q) above) tail)))
    (λ q. simp q (and_both _ _ (ap not n) (and_both _ _ (ap is_lt (name_total.antisymm p.name e.name ∙ ap ordering_reverse q)) h)))

pub above_more : (name : List ℕ) (e : Pair) (es : List Pair) → is_lt (name_cmp name e.name) ≡ true → starts_above e.name es ≡ true → starts_above name es ≡ true
above_more name e [] h k = refl
above_more name e (f ∷ es) h k = ap is_lt (name_total.trans name e.name f.name (less_of _ h) (less_of _ k))

above_out : (name other : List ℕ) (es : List Pair) → are_columns es ≡ true → starts_above name es ≡ true → starts_above name (take_out other es) ≡ true
above_out name other [] c k = refl
above_out name other (e ∷ es) c k =
    by_order (name_cmp e.name other)
    (λ q. simp q k)
    (λ q. simp q (above_more name e es k (and_first _ _ (and_second _ _ c))))
    (λ q. simp q k)

pub out-are_columns : (name : List ℕ) (es : List Pair) → are_columns es ≡ true → are_columns (take_out name es) ≡ true
out-are_columns name [] h = refl
out-are_columns name (e ∷ es) h =
    let rest = and_second _ _ h in
    let tail = and_second _ _ rest in
    by_order (name_cmp e.name name)
    (λ q. simp q (and_both _ _ (and_first _ _ h) (and_both _ _ (above_out e.name name es tail (and_first _ _ rest)) (out-are_columns name es tail))))
    (λ q. simp q tail)
    (λ q. simp q h)

pub with_column-are_columns : (p : Pair) (es : List Pair) → are_columns es ≡ true → are_columns (with_column p es) ≡ true
with_column-are_columns p es h =
    elim (is_null p.value) as (λ b. is_null p.value ≡ b → are_columns (if b then take_out p.name es else put_pair p es) ≡ true) [
      | true ↦ λ q. out-are_columns p.name es h
      | false ↦ λ q. put-are_columns p es q h
    ] refl

pub place_within : (name : List ℕ) (es : List Pair) → place_in name es ≤ length es
place_within name [] = omega arith
place_within name (e ∷ es) =
    by_order (name_cmp e.name name)
    (λ q. simp q (omega (arith, place_within name es)))
    (λ q. simp q (omega arith))
    (λ q. simp q (omega arith))

---- where a search among columns ends

-- what is after columns that are above a name is above it
all_above : (name : List ℕ) (es : List Pair) (j : ℕ) (d : Pair) → are_columns es ≡ true → starts_above name es ≡ true → j < length es → name_cmp name (get_or es j d).name ≡ Less
all_above name [] j d c k l = absurd (omega (arith, l))
all_above name (e ∷ es) zero d c k l = less_of _ k
all_above name (e ∷ es) (suc j) d c k l =
    let rest = and_second _ _ c in
    name_total.trans name e.name (get_or es j d).name (less_of _ k) (all_above e.name es j d (and_second _ _ rest) (and_first _ _ rest) (omega (arith, l)))

-- the same of a column by its name
named_above : (low name : List ℕ) (es : List Pair) (n : ℕ) → are_columns es ≡ true → starts_above low es ≡ true → is_first_name name (drop n es) ≡ true → name_cmp low name ≡ Less
named_above low name [] zero c k h = cc
named_above low name [] (suc n) c k h = cc
named_above low name (e ∷ es) zero c k h =
    let same : e.name ≡ name = name_exact e.name name ((Equal-is _).0 h) in
    subst (λ (x : List ℕ). name_cmp low x ≡ Less) same (less_of _ k)
named_above low name (e ∷ es) (suc n) c k h =
    let rest = and_second _ _ c in
    name_total.trans low e.name name (less_of _ k) (named_above e.name name es n (and_second _ _ rest) (and_first _ _ rest) h)

-- a column is at the place of its name
pub named-is_place : (name : List ℕ) (es : List Pair) (n : ℕ) → are_columns es ≡ true → is_first_name name (drop n es) ≡ true → n ≡ place_in name es
named-is_place name [] zero c h = refl
named-is_place name [] (suc n) c h = cc
named-is_place name (e ∷ es) zero c h = simp ((Equal-is _).0 h) refl
named-is_place name (e ∷ es) (suc n) c h =
    let rest = and_second _ _ c in
    let q : name_cmp e.name name ≡ Less = named_above e.name name es n (and_second _ _ rest) (and_first _ _ rest) h in
    simp q (ap suc (named-is_place name es n (and_second _ _ rest) h))

-- before a column that is below a name, each is
pub columns_parted : (name : List ℕ) (es : List Pair) → are_columns es ≡ true → (i j : ℕ) (d : Pair) → i ≤ j → j < length es → is_below name (get_or es j d) ≡ true → is_below name (get_or es i d) ≡ true
columns_parted name [] c i j d h l b = absurd (omega (arith, l))
columns_parted name (e ∷ es) c zero zero d h l b = b
columns_parted name (e ∷ es) c zero (suc j) d h l b =
    let rest = and_second _ _ c in
    ap is_lt (name_total.trans e.name (get_or es j d).name name (all_above e.name es j d (and_second _ _ rest) (and_first _ _ rest) (omega (arith, l))) (less_of _ b))
columns_parted name (e ∷ es) c (suc i) zero d h l b = absurd (omega (arith, h))
columns_parted name (e ∷ es) c (suc i) (suc j) d h l b =
    columns_parted name es (and_second _ _ (and_second _ _ c)) i j d (omega (arith, h)) (omega (arith, l)) b

pub parted-place : (name : List ℕ) (es : List Pair) (n : ℕ) → n ≤ length es → IsPartitionPoint (λ e. is_below name e ≡ true) (λ e. is_below name e ≡ false) es n → n ≡ place_in name es
parted-place name [] n h parted = omega (arith, h)
parted-place name (e ∷ es) zero h parted =
    let first : is_below name e ≡ false = parted.1 0 e (omega arith) (omega arith) in
    by_order (name_cmp e.name name)
    (λ q. let t = simp q at first in cc)
    (λ q. simp q refl)
    (λ q. simp q refl)
parted-place name (e ∷ es) (suc n) h parted =
    let q : name_cmp e.name name ≡ Less = less_of _ (parted.0 0 e (omega arith) (omega arith)) in
    let rest : IsPartitionPoint (λ e. is_below name e ≡ true) (λ e. is_below name e ≡ false) es n = (λ k d l u. parted.0 (suc k) d (omega arith) (omega (arith, u)), λ k d l u. parted.1 (suc k) d (omega (arith, l)) (omega (arith, u))) in
    simp q (ap suc (parted-place name es n (omega (arith, h)) rest))

-- after the last column, where that is below the name
pub end-is_place : (name : List ℕ) (es : List Pair) → are_columns es ≡ true → ends_below name es ≡ true → length es ≡ place_in name es
end-is_place name [] c h = refl
end-is_place name (e ∷ es) c h =
    let same : length (e ∷ es) - 1 ≡ length es = omega arith in
    let last : slice_get (e ∷ es) (length es) ≡ Some (get_or (e ∷ es) (length es) e) = slice_get-get_or (e ∷ es) (length es) e (omega arith) in
    let below : is_below name (get_or (e ∷ es) (length es) e) ≡ true = sym (ap (λ o. option_map_or (is_below name) o false) last) ∙ sym (ap (λ n. option_map_or (is_below name) (slice_get (e ∷ es) n) false) same) ∙ h in
    parted-place name (e ∷ es) (length (e ∷ es)) (omega arith) (
      λ k d l u. columns_parted name (e ∷ es) c k (length es) d (omega arith) (omega arith) (ap (is_below name) (get_or_default (e ∷ es) (length es) d e (omega arith)) ∙ below),
      λ k d l u. absurd (omega arith),
    )

-- behind all others
put_behind : (p : Pair) (es : List Pair) → length es ≡ place_in p.name es → es ++ p ∷ [] ≡ put_pair p es
put_behind p [] h = refl
put_behind p (e ∷ es) h =
    by_order (name_cmp e.name p.name)
    (λ q. let t = simp q at h in simp q (ap (λ l. e ∷ l) (put_behind p es (omega (arith, t)))))
    (λ q. let t = simp q at h in absurd (omega (arith, t)))
    (λ q. let t = simp q at h in absurd (omega (arith, t)))

none_behind : (name : List ℕ) (es : List Pair) → length es ≡ place_in name es → es ≡ take_out name es
none_behind name [] h = refl
none_behind name (e ∷ es) h =
    by_order (name_cmp e.name name)
    (λ q. let t = simp q at h in simp q (ap (λ l. e ∷ l) (none_behind name es (omega (arith, t)))))
    (λ q. let t = simp q at h in absurd (omega (arith, t)))
    (λ q. let t = simp q at h in absurd (omega (arith, t)))

pub with_column-last : (p : Pair) (es : List Pair) → are_columns es ≡ true → ends_below p.name es ≡ true → is_null p.value ≡ false → es ++ p ∷ [] ≡ with_column p es
with_column-last p es c h k = rw k (put_behind p es (end-is_place p.name es c h))

pub with_column-not_last : (p : Pair) (es : List Pair) → are_columns es ≡ true → ends_below p.name es ≡ true → is_null p.value ≡ true → es ≡ with_column p es
with_column-not_last p es c h k = rw k (none_behind p.name es (end-is_place p.name es c h))

-- the same at a place that a search has given
module _ (p : Pair) (es : List Pair) (n : ℕ) (at : n ≡ place_in p.name es) where
  pub with_column-over : is_first_name p.name (drop n es) ≡ true → is_null p.value ≡ false → slice_set es n p ≡ with_column p es
  with_column-over h k = let t = rw at at h in rw (at, k) (put_over p es t)

  pub with_column-before : is_first_name p.name (drop n es) ≡ false → is_null p.value ≡ false → insert es n p ≡ with_column p es
  with_column-before h k = let t = rw at at h in rw (at, k) (put_before p es t)

  pub with_column-out : is_first_name p.name (drop n es) ≡ true → is_null p.value ≡ true → remove es n ≡ with_column p es
  with_column-out h k = let t = rw at at h in rw (at, k) (take_at p.name es t)

  pub with_column-none : is_first_name p.name (drop n es) ≡ false → is_null p.value ≡ true → es ≡ with_column p es
  with_column-none h k = let t = rw at at h in rw k (take_none p.name es t)

  pub place_fits : n ≤ length es
  place_fits = rw at (place_within p.name es)

pub after_put : (r : Result (Unit {0}) NoMemory) (new old : List Pair) (p : Pair) → OnOk r (new ≡ with_column p old) → OnErr r (new ≡ old) → are_columns old ≡ true → are_columns new ≡ true
after_put (Ok x) new old p o e h = rw o (with_column-are_columns p old h)
after_put (Err x) new old p o e h = rw e h
