-- The records of a span after a record was put above all of them.
use Rattle.std.proofs.Common.{◌≡◌, List, [], ◌∷◌, ◌++◌, Bool, true, false, cond, map, Some, None, refl, sym, ap, subst, ◌∙◌}
use Rattle.std.specs.Prelude.{filter}
use Rattle.std.specs.List.{list_all}
use Rattle.std.specs.declared.cmp.Ordering.TheVariants.{Less, Equal, Greater}
use Rattle.std.specs.Ordering.{eq_by_cmp, is_lt}
use Rattle.std.specs.Cmp.{tied_itself}
use Rattle.std.specs.Option.{option_map}
use Rattle.std.specs.FinMap.{entries, entries_sorted, entries-insert, find, get-entries, insert, put}
use Rattle.std.specs.FinMap.Entries.{below_all, by_order, is_sorted}
use Rattle.sdb_catalog.specs.Types.{Key, Pair, Record, Span}
use Rattle.sdb_types.specs.Contents.{Contents, in_span, record_at, record_of, rows_among, rows_in}
use Rattle.sdb_types.specs.Exact.{equal_of}
use Rattle.sdb_types.specs.Order.{key_cmp}
use Rattle.sdb_types.proofs.Public.{and_both, and_first, and_second, key_exact, key_total, less_of, truth}

-- the records have keys below this one
abbrev pub are_below : Key → List Record → Bool
are_below k rs = list_all (λ (r : Record). is_lt (key_cmp r.key k)) rs

-- no key is below itself
pub not_below : {X : Type 0} (k : Key) → is_lt (key_cmp k k) ≡ true → X
not_below k h = absurd (let e : Equal ≡ Less = sym (tied_itself key_total k) ∙ less_of (key_cmp k k) h in cc)

below_trans : (a b c : Key) → is_lt (key_cmp a b) ≡ true → is_lt (key_cmp b c) ≡ true → is_lt (key_cmp a c) ≡ true
below_trans a b c h k = ap is_lt (key_total.trans a b c (less_of (key_cmp a b) h) (less_of (key_cmp b c) k))

pub below_more : (k : Key) (x : Key) (es : List (Key × List Pair)) → is_lt (key_cmp k x) ≡ true → below_all key_cmp x es ≡ true → below_all key_cmp k es ≡ true
below_more k x [] h l = refl
below_more k x (e ∷ es) h l =
    and_both (is_lt (key_cmp k e.0)) (below_all key_cmp k es) (below_trans k x e.0 h (and_first (is_lt (key_cmp x e.0)) (below_all key_cmp x es) l)) (below_more k x es h (and_second (is_lt (key_cmp x e.0)) (below_all key_cmp x es) l))

abbrev pub inside : Span → Key × List Pair → Bool
inside span e = in_span span e.0

abbrev pub rows_if : Span → Bool → Key × List Pair → List (Key × List Pair) → List Record
rows_if span b e es = map record_of (cond b (e ∷ filter (inside span) es) (filter (inside span) es))

-- entries above the key have no record of the span, where all of these are below it
none_above : (span : Span) (k : Key) (es : List (Key × List Pair)) → below_all key_cmp k es ≡ true → are_below k (rows_among span es) ≡ true → rows_among span es ≡ []
none_above span k [] h l = refl
none_above span k (e ∷ es) h l =
    elim (in_span span e.0) as (λ b. are_below k (rows_if span b e es) ≡ true → rows_if span b e es ≡ []) [
      | true ↦ λ q. not_below k (below_trans k e.0 k (and_first (is_lt (key_cmp k e.0)) (below_all key_cmp k es) h) (and_first (is_lt (key_cmp e.0 k)) (are_below k (rows_among span es)) q))
      | false ↦ λ q. none_above span k es (and_second (is_lt (key_cmp k e.0)) (below_all key_cmp k es) h) q
    ] l

-- no entry of the span has the key
not_there : {X : Type 0} (span : Span) (k : Key) (e : Key × List Pair) (es : List (Key × List Pair)) → in_span span k ≡ true → are_below k (rows_among span (e ∷ es)) ≡ true → key_cmp k e.0 ≡ Equal → X
not_there span k e es i l q =
    let same : k ≡ e.0 = key_exact k e.0 q in
    let here : in_span span e.0 ≡ true = ap (in_span span) (sym same) ∙ i in
    let low : are_below k (rows_if span true e es) ≡ true = subst (λ (b : Bool). are_below k (rows_if span b e es) ≡ true) here l in
    not_below k (ap (λ (x : Key). is_lt (key_cmp x k)) same ∙ and_first (is_lt (key_cmp e.0 k)) (are_below k (rows_among span es)) low)

rest_below : (span : Span) (k : Key) (e : Key × List Pair) (es : List (Key × List Pair)) → are_below k (rows_among span (e ∷ es)) ≡ true → are_below k (rows_among span es) ≡ true
rest_below span k e es l =
    elim (in_span span e.0) as (λ b. are_below k (rows_if span b e es) ≡ true → are_below k (rows_among span es) ≡ true) [
      | true ↦ λ q. and_second (is_lt (key_cmp e.0 k)) (are_below k (rows_among span es)) q
      | false ↦ λ q. q
    ] l

put_last : (span : Span) (k : Key) (v : List Pair) (es : List (Key × List Pair)) → is_sorted key_cmp es ≡ true → in_span span k ≡ true → are_below k (rows_among span es) ≡ true
    → rows_among span (put key_cmp k v es) ≡ rows_among span es ++ record_of (k, v) ∷ []
put_last span k v [] s i l = ap (λ (b : Bool). rows_if span b (k, v) []) i
put_last span k v (e ∷ es) s i l =
    elim (key_cmp k e.0) as (λ r. key_cmp k e.0 ≡ r → rows_among span (by_order r ((k, v) ∷ e ∷ es) ((e.0, v) ∷ es) (e ∷ put key_cmp k v es)) ≡ rows_among span (e ∷ es) ++ record_of (k, v) ∷ []) [
      | Less ↦ λ q.
          let above = and_both (is_lt (key_cmp k e.0)) (below_all key_cmp k es) (ap is_lt q) (below_more k e.0 es (ap is_lt q) (and_first (below_all key_cmp e.0 es) (is_sorted key_cmp es) s)) in
          let none = none_above span k (e ∷ es) above l in
          ap (λ (b : Bool). rows_if span b (k, v) (e ∷ es)) i ∙ ap (λ (rs : List Record). record_of (k, v) ∷ rs) none ∙ ap (λ (rs : List Record). rs ++ record_of (k, v) ∷ []) (sym none)
      | Equal ↦ λ q. not_there span k e es i l q
      | Greater ↦ λ q. later (put_last span k v es (and_second (below_all key_cmp e.0 es) (is_sorted key_cmp es) s) i (rest_below span k e es l))
    ] refl
  where
    later : rows_among span (put key_cmp k v es) ≡ rows_among span es ++ record_of (k, v) ∷ [] → rows_among span (e ∷ put key_cmp k v es) ≡ rows_among span (e ∷ es) ++ record_of (k, v) ∷ []
    later h =
        elim (in_span span e.0) as (λ b. rows_if span b e (put key_cmp k v es) ≡ rows_if span b e es ++ record_of (k, v) ∷ []) [
          | true ↦ ap (λ (rs : List Record). record_of e ∷ rs) h
          | false ↦ h
        ]

find_none : (span : Span) (k : Key) (es : List (Key × List Pair)) → in_span span k ≡ true → are_below k (rows_among span es) ≡ true → find key_cmp k es ≡ None
find_none span k [] i l = refl
find_none span k (e ∷ es) i l =
    elim (eq_by_cmp key_cmp k e.0) as (λ b. eq_by_cmp key_cmp k e.0 ≡ b → cond b (Some e.1) (find key_cmp k es) ≡ None) [
      | true ↦ λ q. not_there span k e es i l (equal_of (key_cmp k e.0) q)
      | false ↦ λ q. find_none span k es i (rest_below span k e es l)
    ] refl

---- a key of the span above all of its records

pub rows_pushed : (span : Span) (m : Contents) (k : Key) (v : List Pair) → in_span span k ≡ true → are_below k (rows_in span m) ≡ true → rows_in span (insert m k v) ≡ rows_in span m ++ record_of (k, v) ∷ []
rows_pushed span m k v i l =
    ap (rows_among span) (entries-insert key_total m k v) ∙ put_last span k v (entries m) (truth (is_sorted key_cmp (entries m)) (entries_sorted m)) i l

pub none_at : (span : Span) (m : Contents) (k : Key) → in_span span k ≡ true → are_below k (rows_in span m) ≡ true → record_at m k ≡ None
none_at span m k i l = ap (option_map (λ (v : List Pair). record_of (k, v))) (get-entries m k ∙ find_none span k (entries m) i l)
