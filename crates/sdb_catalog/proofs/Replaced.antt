-- The records of a span after a record was put over one of them.
use Rattle.std.proofs.Common.{◌≡◌, List, [], ◌∷◌, ◌++◌, Bool, true, false, cond, Some, refl, sym, ap, ◌∙◌}
use Rattle.std.specs.declared.cmp.Ordering.TheVariants.{Less, Equal, Greater}
use Rattle.std.specs.Ordering.{eq_by_cmp, is_eq, is_lt}
use Rattle.std.specs.Cmp.{tied_itself}
use Rattle.std.specs.Option.{option_map}
use Rattle.std.specs.FinMap.{entries, entries_sorted, entries-insert, find, get-entries, insert, put}
use Rattle.std.specs.FinMap.Entries.{below_all, by_order, is_sorted}
use Rattle.sdb_catalog.specs.Types.{Key, Pair, Record, Span}
use Rattle.sdb_types.specs.Contents.{Contents, in_span, record_at, record_of, rows_among, rows_in}
use Rattle.sdb_types.specs.Exact.{equal_of}
use Rattle.sdb_types.specs.Order.{key_cmp}
use Rattle.sdb_types.proofs.Public.{and_both, and_first, and_second, false_true, key_exact, key_total, truth}
use Rattle.sdb_catalog.proofs.LastRows.{below_more, not_below, rows_if}
use Rattle.sdb_catalog.proofs.OneReading.{head_is, tail_is}

abbrev Entries : Type 0
Entries = List (Key × List Pair)

none_there : {X : Type 0} (front : List Record) (r : Record) (back : List Record) → [] ≡ front ++ r ∷ back → X
none_there [] r back h = absurd (let e : [] ≡ r ∷ back = h in cc)
none_there (f ∷ fs) r back h = absurd (let e : [] ≡ f ∷ (fs ++ r ∷ back) = h in cc)

-- the first record is the one that is looked for, or is before it
first_or_later : {X : Type 0} (x : Record) (xs : List Record) (front : List Record) (r : Record) (back : List Record) → x ∷ xs ≡ front ++ r ∷ back
    → (front ≡ [] → x ≡ r → xs ≡ back → X) → ((fs : List Record) → front ≡ x ∷ fs → xs ≡ fs ++ r ∷ back → X) → X
first_or_later x xs [] r back h here later = here refl (head_is x r xs back h) (tail_is x r xs back h)
first_or_later x xs (f ∷ fs) r back h here later =
    later fs (ap (λ (y : Record). y ∷ fs) (sym (head_is x f xs (fs ++ r ∷ back) h))) (tail_is x f xs (fs ++ r ∷ back) h)

own_key : (k : Key) (e : Key × List Pair) (r : Record) → record_of e ≡ r → r.key ≡ k → e.0 ≡ k
own_key k e r is own = ap (λ (x : Record). x.key) is ∙ own

---- entries above the key have no record of it

absent : {X : Type 0} (span : Span) (k : Key) (es : Entries) (front : List Record) (r : Record) (back : List Record) → below_all key_cmp k es ≡ true → rows_among span es ≡ front ++ r ∷ back → r.key ≡ k → X
absent span k [] front r back low is own = none_there front r back is
absent {X} span k (e ∷ es) front r back low is own =
    elim (in_span span e.0) as (λ b. rows_if span b e es ≡ front ++ r ∷ back → X) [
      | true ↦ λ q. first_or_later (record_of e) (rows_among span es) front r back q
          (λ none here rest. not_below k (ap (λ (x : Key). is_lt (key_cmp k x)) (sym (own_key k e r here own)) ∙ and_first (is_lt (key_cmp k e.0)) (below_all key_cmp k es) low))
          (λ fs front_is rest. absent span k es fs r back (and_second (is_lt (key_cmp k e.0)) (below_all key_cmp k es) low) rest own)
      | false ↦ λ q. absent span k es front r back (and_second (is_lt (key_cmp k e.0)) (below_all key_cmp k es) low) q own
    ] is

above_all : (k : Key) (e : Key × List Pair) (es : Entries) → is_lt (key_cmp k e.0) ≡ true → is_sorted key_cmp (e ∷ es) ≡ true → below_all key_cmp k (e ∷ es) ≡ true
above_all k e es h s = and_both (is_lt (key_cmp k e.0)) (below_all key_cmp k es) h (below_more k e.0 es h (and_first (below_all key_cmp e.0 es) (is_sorted key_cmp es) s))

-- an entry of the span that has the key is the record of it
is_own : (span : Span) (k : Key) (e : Key × List Pair) (es : Entries) (front : List Record) (r : Record) (back : List Record) → in_span span k ≡ true → is_sorted key_cmp (e ∷ es) ≡ true → rows_among span (e ∷ es) ≡ front ++ r ∷ back → r.key ≡ k → e.0 ≡ k
    → (in_span span e.0 ≡ true) × (front ≡ []) × (record_of e ≡ r) × (rows_among span es ≡ back)
is_own span k e es front r back inside s is own same =
    let here : in_span span e.0 ≡ true = ap (in_span span) same ∙ inside in
    first_or_later (record_of e) (rows_among span es) front r back (sym (ap (λ (b : Bool). rows_if span b e es) here) ∙ is)
    (λ none first rest. (here, none, first, rest))
    (λ fs front_is rest. absent span e.0 es fs r back (and_first (below_all key_cmp e.0 es) (is_sorted key_cmp es) s) rest (own ∙ sym same))

never_own : {X : Type 0} (k : Key) (e : Key × List Pair) → key_cmp k e.0 ≡ Greater → e.0 ≡ k → X
never_own k e q same = absurd (let f : Equal ≡ Greater = sym (tied_itself key_total k) ∙ ap (key_cmp k) (sym same) ∙ q in cc)

---- the put

put_at : (span : Span) (k : Key) (v : List Pair) (es : Entries) (front : List Record) (r : Record) (back : List Record) → is_sorted key_cmp es ≡ true → in_span span k ≡ true → rows_among span es ≡ front ++ r ∷ back → r.key ≡ k
    → rows_among span (put key_cmp k v es) ≡ front ++ record_of (k, v) ∷ back
put_at span k v [] front r back s inside is own = none_there front r back is
put_at span k v (e ∷ es) front r back s inside is own =
    elim (key_cmp k e.0) as (λ o. key_cmp k e.0 ≡ o → rows_among span (by_order o ((k, v) ∷ e ∷ es) ((e.0, v) ∷ es) (e ∷ put key_cmp k v es)) ≡ front ++ record_of (k, v) ∷ back) [
      | Less ↦ λ q. absent span k (e ∷ es) front r back (above_all k e es (ap is_lt q) s) is own
      | Equal ↦ λ q.
          let same = sym (key_exact k e.0 q) in
          let all = is_own span k e es front r back inside s is own same in
          ap (λ (b : Bool). rows_if span b (e.0, v) es) all.0 ∙ ap (λ (x : Key). record_of (x, v) ∷ rows_among span es) same ∙ ap (λ (l : List Record). record_of (k, v) ∷ l) all.3 ∙ ap (λ (l : List Record). l ++ record_of (k, v) ∷ back) (sym all.1)
      | Greater ↦ λ q. elim (in_span span e.0) as (λ b. rows_if span b e es ≡ front ++ r ∷ back → rows_if span b e (put key_cmp k v es) ≡ front ++ record_of (k, v) ∷ back) [
        | true ↦ λ p. first_or_later (record_of e) (rows_among span es) front r back p
            (λ none here rest. never_own k e q (own_key k e r here own))
            (λ fs front_is rest. ap (λ (l : List Record). record_of e ∷ l) (put_at span k v es fs r back (and_second (below_all key_cmp e.0 es) (is_sorted key_cmp es) s) inside rest own) ∙ ap (λ (l : List Record). l ++ record_of (k, v) ∷ back) (sym front_is))
        | false ↦ λ p. put_at span k v es front r back (and_second (below_all key_cmp e.0 es) (is_sorted key_cmp es) s) inside p own
      ] is
    ] refl

---- what is there before

columns_of : (e : Key × List Pair) (r : Record) → record_of e ≡ r → Some e.1 ≡ Some r.columns
columns_of e r h = ap (λ (x : Record). Some x.columns) h

find_at : (span : Span) (k : Key) (es : Entries) (front : List Record) (r : Record) (back : List Record) → is_sorted key_cmp es ≡ true → in_span span k ≡ true → rows_among span es ≡ front ++ r ∷ back → r.key ≡ k → find key_cmp k es ≡ Some r.columns
find_at span k [] front r back s inside is own = none_there front r back is
find_at span k (e ∷ es) front r back s inside is own =
    elim (eq_by_cmp key_cmp k e.0) as (λ t. eq_by_cmp key_cmp k e.0 ≡ t → cond t (Some e.1) (find key_cmp k es) ≡ Some r.columns) [
      | true ↦ λ q. columns_of e r (is_own span k e es front r back inside s is own (sym (key_exact k e.0 (equal_of (key_cmp k e.0) q)))).2
      | false ↦ λ q. elim (in_span span e.0) as (λ b. rows_if span b e es ≡ front ++ r ∷ back → find key_cmp k es ≡ Some r.columns) [
        | true ↦ λ p. first_or_later (record_of e) (rows_among span es) front r back p
            (λ none here rest. false_true (sym q ∙ ap (λ (x : Key). is_eq (key_cmp k x)) (own_key k e r here own) ∙ ap is_eq (tied_itself key_total k)))
            (λ fs front_is rest. find_at span k es fs r back (and_second (below_all key_cmp e.0 es) (is_sorted key_cmp es) s) inside rest own)
        | false ↦ λ p. find_at span k es front r back (and_second (below_all key_cmp e.0 es) (is_sorted key_cmp es) s) inside p own
      ] is
    ] refl

---- contents

sorted : (m : Contents) → is_sorted key_cmp (entries m) ≡ true
sorted m = truth (is_sorted key_cmp (entries m)) (entries_sorted m)

-- a record put over one of the span is in its place
pub row_replaced : (span : Span) (m : Contents) (k : Key) (v : List Pair) (front : List Record) (r : Record) (back : List Record) → in_span span k ≡ true → rows_in span m ≡ front ++ r ∷ back → r.key ≡ k → rows_in span (insert m k v) ≡ front ++ record_of (k, v) ∷ back
row_replaced span m k v front r back inside is own = ap (rows_among span) (entries-insert key_total m k v) ∙ put_at span k v (entries m) front r back (sorted m) inside is own

-- a record of the span is at its key
pub row_at : (span : Span) (m : Contents) (k : Key) (front : List Record) (r : Record) (back : List Record) → in_span span k ≡ true → rows_in span m ≡ front ++ r ∷ back → r.key ≡ k → record_at m k ≡ Some r
row_at span m k front r back inside is own =
    ap (option_map (λ (v : List Pair). record_of (k, v))) (get-entries m k ∙ find_at span k (entries m) front r back (sorted m) inside is own) ∙ ap (λ (x : Key). Some (record_of (x, r.columns))) (sym own)
