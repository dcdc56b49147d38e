-- The records of a span come together, from its least key on.
use Rattle.std.proofs.Common.{◌≡◌, List, [], ◌∷◌, ◌++◌, Bool, true, false, cond, Option, Some, None, refl, sym, ap, subst, ◌∙◌, map, append_assoc}
use Rattle.std.proofs.lemmas.List.{append-nil}
use Rattle.std.specs.Prelude.{T, ◌&&◌}
use Rattle.std.specs.Ordering.{is_gt, is_le, is_lt, is_eq, ordering_then, ordering_reverse}
use Rattle.std.specs.declared.cmp.Ordering.{Ordering}
use Rattle.std.specs.declared.cmp.Ordering.TheVariants.{Less, Equal, Greater}
use Rattle.std.specs.Cmp.{IsTotalOrder}
use Rattle.std.specs.Cmp.Lexicographic.{slice_cmp, lists_total}
use Rattle.std.specs.List.{filter, AllByRecursion}
use Rattle.std.specs.List.Sorted.{IsStrictlySortedBy}
use Rattle.std.specs.Map.{keys_of}
use Rattle.std.specs.FinMap.{IsAntisymmetric, slice_cmp-IsAntisymmetric}
use Rattle.std.specs.FinMap.Entries.{below_all, is_sorted, is_sorted-where_key}
use Rattle.std.specs.BTreeMap.Range.{range_contains}
use Rattle.std.specs.declared.ops.Bound.TheVariants.{Included, Unbounded}
use Rattle.sdb_types.specs.declared.key.Key.{Key}
use Rattle.sdb_types.specs.declared.key.TableName.{TableName}
use Rattle.sdb_types.specs.declared.pair.Pair.{Pair}
use Rattle.sdb_types.specs.declared.value.Value.{Value}
use Rattle.sdb_types.specs.declared.record.Record.{Record}
use Rattle.sdb_types.specs.declared.record.Span.{Span}
use Rattle.sdb_types.specs.Order.{key_cmp, table_cmp, value_cmp}
use Rattle.sdb_types.specs.Exact.{equal_of}
use Rattle.sdb_types.specs.ValueLaws.{value_exact, value_total}
use Rattle.sdb_types.specs.Contents.{in_span, is_partition, record_of, rows_among}
use Rattle.sdb_types.proofs.Public.{and_both, and_first, and_second, first_t, key_total, second_t, table_exact, table_total}
use Rattle.std.specs.Prelude.{Result, Ok, Err, IfOk, OnOk}
use Rattle.std.specs.FinMap.{from_entries}
use Rattle.sdb_types.specs.Contents.{Contents, rows_in}
use Rattle.sdb_ordered.proofs.TreeLemmas.{in_order as entries_in_order}
use Rattle.sdb_ordered.specs.Start.{span_start, partition_or_none}

---- orders

not_past : (r s : Ordering) → is_gt (ordering_then r s) ≡ false → is_gt r ≡ false
not_past Less s h = refl
not_past Equal s h = refl
not_past Greater s h = h

not_past_then : (r s t : Ordering) → r ≡ Equal → is_gt (ordering_then r (ordering_then s t)) ≡ false → is_gt s ≡ false
not_past_then r s t e h = not_past s t (subst (λ (o : Ordering). is_gt (ordering_then o (ordering_then s t)) ≡ false) e h)

le_is : (r : Ordering) → is_le r ≡ true → is_gt r ≡ false
le_is Less h = refl
le_is Equal h = refl
le_is Greater h = cc

le_then : (r s : Ordering) → is_le r ≡ true → is_le s ≡ true → is_le (ordering_then r s) ≡ true
le_then Less s h k = refl
le_then Equal s h k = k
le_then Greater s h k = h

eq_le : (r : Ordering) → is_eq r ≡ true → is_le r ≡ true
eq_le Less h = cc
eq_le Equal h = refl
eq_le Greater h = cc

front_le : (ys : List Value) → is_le (slice_cmp value_cmp [] ys) ≡ true
front_le [] = refl
front_le (y ∷ ys) = refl

not_both : (r s : Ordering) → r ≡ ordering_reverse s → is_gt r ≡ false → is_gt s ≡ false → r ≡ Equal
not_both r Less e h k = let g : true ≡ false = sym (ap is_gt e) ∙ h in cc
not_both r Equal e h k = e
not_both r Greater e h k = cc

-- what is neither below nor above is equal
squeezed : {K : Type 0} {R : K → K → Ordering} → IsTotalOrder R → IsAntisymmetric R → (x y : K) → is_gt (R x y) ≡ false → is_gt (R y x) ≡ false → x ≡ y
squeezed {R = R} total exact x y h k = exact x y (not_both (R x y) (R y x) (total.antisymm x y) h k)

table_tie : (a b : TableName) → a ≡ b → table_cmp a b ≡ Equal
table_tie a b e = not_both (table_cmp a b) (table_cmp b a) (table_total.antisymm a b) (subst (λ (t : TableName). is_gt (table_cmp a t) ≡ false) e (own a)) (subst (λ (t : TableName). is_gt (table_cmp t a) ≡ false) e (own a))
  where
    own : (t : TableName) → is_gt (table_cmp t t) ≡ false
    own t = self (table_cmp t t) (table_total.antisymm t t)
      where
        self : (r : Ordering) → r ≡ ordering_reverse r → is_gt r ≡ false
        self Less e = refl
        self Equal e = refl
        self Greater e = let g : true ≡ false = ap is_gt e in g

---- the keys of a span

table_of_span : (span : Span) (q : Key) → in_span span q ≡ true → is_eq (table_cmp span.table q.table) ≡ true
table_of_span span q h = and_first (is_eq (table_cmp span.table q.table)) (is_partition span.partition q) h

part_from : (part : Option (List Value)) (q : Key) → is_partition part q ≡ true → is_le (ordering_then (slice_cmp value_cmp (partition_or_none part) q.partition) (slice_cmp value_cmp [] q.clustering)) ≡ true
part_from None q h = le_then (slice_cmp value_cmp [] q.partition) (slice_cmp value_cmp [] q.clustering) (front_le q.partition) (front_le q.clustering)
part_from (Some part) q h = le_then (slice_cmp value_cmp part q.partition) (slice_cmp value_cmp [] q.clustering) (eq_le (slice_cmp value_cmp part q.partition) h) (front_le q.clustering)

-- each key of a span is at its least key or after it
pub from_start : (span : Span) (q : Key) → in_span span q ≡ true → is_le (key_cmp (span_start span) q) ≡ true
from_start span q h =
    le_then (table_cmp span.table q.table) (ordering_then (slice_cmp value_cmp (partition_or_none span.partition) q.partition) (slice_cmp value_cmp [] q.clustering))
    (eq_le (table_cmp span.table q.table) (table_of_span span q h))
    (part_from span.partition q (and_second (is_eq (table_cmp span.table q.table)) (is_partition span.partition q) h))

part_closed : (part : Option (List Value)) (a b : Key) → is_gt (slice_cmp value_cmp (partition_or_none part) a.partition) ≡ false → is_gt (slice_cmp value_cmp a.partition b.partition) ≡ false → is_partition part b ≡ true → is_partition part a ≡ true
part_closed None a b low high h = refl
part_closed (Some part) a b low high h =
    let same : part ≡ b.partition = slice_cmp-IsAntisymmetric value_exact part b.partition (equal_of (slice_cmp value_cmp part b.partition) h) in
    let up : is_gt (slice_cmp value_cmp a.partition part) ≡ false = subst (λ (p : List Value). is_gt (slice_cmp value_cmp a.partition p) ≡ false) (sym same) high in
    let here : part ≡ a.partition = squeezed (lists_total value_total) (slice_cmp-IsAntisymmetric value_exact) part a.partition low up in
    subst (λ (p : List Value). is_eq (slice_cmp value_cmp part p) ≡ true) (sym same ∙ here) h

-- a key from the least one on that is before a key of the span is one of the span
pub between : (span : Span) (a b : Key) → is_le (key_cmp (span_start span) a) ≡ true → key_cmp a b ≡ Less → in_span span b ≡ true → in_span span a ≡ true
between span a b low less h =
    let from : is_gt (key_cmp (span_start span) a) ≡ false = le_is (key_cmp (span_start span) a) low in
    let upto : is_gt (key_cmp a b) ≡ false = ap is_gt less in
    let table_b : span.table ≡ b.table = table_exact span.table b.table (equal_of (table_cmp span.table b.table) (table_of_span span b h)) in
    let low_table : is_gt (table_cmp span.table a.table) ≡ false = not_past (table_cmp span.table a.table) _ from in
    let high_table : is_gt (table_cmp a.table span.table) ≡ false = subst (λ (t : TableName). is_gt (table_cmp a.table t) ≡ false) (sym table_b) (not_past (table_cmp a.table b.table) _ upto) in
    let table_a : span.table ≡ a.table = squeezed table_total table_exact span.table a.table low_table high_table in
    let low_part : is_gt (slice_cmp value_cmp (partition_or_none span.partition) a.partition) ≡ false = not_past_then (table_cmp span.table a.table) (slice_cmp value_cmp (partition_or_none span.partition) a.partition) _ (table_tie span.table a.table table_a) from in
    let high_part : is_gt (slice_cmp value_cmp a.partition b.partition) ≡ false = not_past_then (table_cmp a.table b.table) (slice_cmp value_cmp a.partition b.partition) _ (table_tie a.table b.table (sym table_a ∙ table_b)) upto in
    and_both (is_eq (table_cmp span.table a.table)) (is_partition span.partition a) (ap is_eq (table_tie span.table a.table table_a))
    (part_closed span.partition a b low_part high_part (and_second (is_eq (table_cmp span.table b.table)) (is_partition span.partition b) h))

---- the entries from the least key on

-- whether a key is at the least key of a span or after it
abbrev pub is_from : Span → Key → Bool
is_from span key = range_contains key_cmp (Included (span_start span)) Unbounded key

nested : {A : Type 0} (p s : A → Bool) → ((x : A) → p x ≡ true → s x ≡ true) → (xs : List A) → filter p (filter s xs) ≡ filter p xs
nested p s h [] = refl
nested p s h (x ∷ xs) =
    elim (s x) as (λ b. s x ≡ b → filter p (cond b (x ∷ filter s xs) (filter s xs)) ≡ cond (p x) (x ∷ filter p xs) (filter p xs)) [
      | true ↦ λ e. ap (λ ys. cond (p x) (x ∷ ys) ys) (nested p s h xs)
      | false ↦ λ e. nested p s h xs ∙ elim (p x) as (λ b. p x ≡ b → filter p xs ≡ cond b (x ∷ filter p xs) (filter p xs)) [
        | true ↦ λ f. let g : true ≡ false = sym (h x f) ∙ e in cc
        | false ↦ λ f. refl
      ] refl
    ] refl

-- the rows of a span are among the entries from its least key on
pub rows_from : (span : Span) (es : List (Key × List Pair)) → rows_among span (filter (λ e. is_from span e.0) es) ≡ rows_among span es
rows_from span es = ap (map record_of) (nested (λ (e : Key × List Pair). in_span span e.0) (λ e. is_from span e.0) (λ e h. and_both (is_le (key_cmp (span_start span) e.0)) true (from_start span e.0 h) refl) es)

-- Entries in order, all from the least key of a span on.
pub record LiesFrom {X : Type 0} (span : Span) (es : List (Key × X)) : Type 0 where
  pub sorted : T (is_sorted key_cmp es)
  pub from : AllByRecursion (λ e. is_from span e.0 ≡ true) es

kept_all : {A : Type 0} (s : A → Bool) (xs : List A) → AllByRecursion (λ x. s x ≡ true) (filter s xs)
kept_all s [] = tt
kept_all s (x ∷ xs) = elim (s x) as (λ b. s x ≡ b → AllByRecursion (λ y. s y ≡ true) (cond b (x ∷ filter s xs) (filter s xs))) [ true ↦ λ e. (e, kept_all s xs) | false ↦ λ e. kept_all s xs ] refl

both_t : (a b : Bool) → T a → T b → T (a && b)
both_t true b p q = q
both_t false b p q = p

below : {X : Type 0} (x : Key) (es : List (Key × X)) → AllByRecursion (λ y. key_cmp x y ≡ Less) (keys_of es) → T (below_all key_cmp x es)
below x [] h = tt
below x (e ∷ es) h = both_t _ _ (subst (λ o. T (is_lt o)) (sym h.0) tt) (below x es h.1)

in_order : {X : Type 0} (es : List (Key × X)) → IsStrictlySortedBy key_cmp (keys_of es) → T (is_sorted key_cmp es)
unfolding IsStrictlySortedBy
in_order [] h = tt
in_order (e ∷ es) h = both_t _ _ (below e.0 es h.0) (in_order es h.1)

pub lies_from : {X : Type 0} (span : Span) (es : List (Key × X)) → IsStrictlySortedBy key_cmp (keys_of es) → LiesFrom span (filter (λ e. is_from span e.0) es)
lies_from span es h = record { sorted = is_sorted-where_key key_cmp (is_from span) es (in_order es h); from = kept_all (λ e. is_from span e.0) es }

pub lies_later : {X : Type 0} (span : Span) (e : Key × X) (es : List (Key × X)) → LiesFrom span (e ∷ es) → LiesFrom span es
lies_later span e es h = record { sorted = second_t _ _ h.sorted; from = h.from.1 }

is_less : (r : Ordering) → T (is_lt r) → r ≡ Less
is_less Less h = refl
is_less Equal h = absurd h
is_less Greater h = absurd h

outside : (span : Span) (a b : Key) → is_le (key_cmp (span_start span) a) ≡ true → in_span span a ≡ false → key_cmp a b ≡ Less → in_span span b ≡ false
outside span a b low out less =
    elim (in_span span b) as (λ v. in_span span b ≡ v → v ≡ false) [
      | true ↦ λ e. sym (between span a b low less e) ∙ out
      | false ↦ λ e. refl
    ] refl

none_above : {X : Type 0} (span : Span) (a : Key) (es : List (Key × X)) → is_le (key_cmp (span_start span) a) ≡ true → in_span span a ≡ false → T (below_all key_cmp a es) → filter (λ e. in_span span e.0) es ≡ []
none_above span a [] low out h = refl
none_above span a (e ∷ es) low out h =
    ap (λ b. cond b (e ∷ filter (λ x. in_span span x.0) es) (filter (λ x. in_span span x.0) es)) (outside span a e.0 low out (is_less (key_cmp a e.0) (first_t (is_lt (key_cmp a e.0)) (below_all key_cmp a es) h)))
    ∙ none_above span a es low out (second_t (is_lt (key_cmp a e.0)) (below_all key_cmp a es) h)

-- after the first key outside, there are no more keys of the span
pub past_end : {X : Type 0} (span : Span) (e : Key × X) (es : List (Key × X)) → LiesFrom span (e ∷ es) → in_span span e.0 ≡ false → filter (λ x. in_span span x.0) (e ∷ es) ≡ []
past_end span e es h out =
    ap (λ b. cond b (e ∷ filter (λ x. in_span span x.0) es) (filter (λ x. in_span span x.0) es)) out
    ∙ none_above span e.0 es (and_first (is_le (key_cmp (span_start span) e.0)) true h.from.0) out (first_t (below_all key_cmp e.0 es) (is_sorted key_cmp es) h.sorted)

-- one more row
pub one_row : (span : Span) (found : List Record) (e : Key × List Pair) (es : List (Key × List Pair)) → in_span span e.0 ≡ true → found ++ rows_among span (e ∷ es) ≡ (found ++ record_of e ∷ []) ++ rows_among span es
one_row span found e es h =
    ap (λ b. found ++ map record_of (cond b (e ∷ filter (λ x. in_span span x.0) es) (filter (λ x. in_span span x.0) es))) h
    ∙ sym (append_assoc found (record_of e ∷ []) (rows_among span es))

-- The rows among the entries of a tree are those of the map that it is seen as.
pub rows_of_view : {E : Type 0} (r : Result (List Record) E) (span : Span) (es : List (Key × List Pair)) (m : Contents) → from_entries {R = key_cmp} es ≡ m → IfOk r (λ found. found ≡ rows_among span es) → OnOk r (IsStrictlySortedBy key_cmp (keys_of es)) → IfOk r (λ rows. rows ≡ rows_in span m)
rows_of_view (Ok rows) span es m view is ordered = is ∙ ap (rows_among span) (sym (entries_in_order key_total es ordered)) ∙ ap (rows_in span) view
rows_of_view (Err e) span es m view is ordered = tt

-- all rows are found where no entry is left
pub all_found : (span : Span) (found all : List Record) (left : List (Key × List Pair)) → left ≡ [] → found ++ rows_among span left ≡ all → found ≡ all
all_found span found all left none answered = sym (append-nil found) ∙ ap (λ es. found ++ rows_among span es) (sym none) ∙ answered

-- and where the next one is outside
pub all_passed : (span : Span) (found all : List Record) (left : List (Key × List Pair)) (e : Key × List Pair) (es : List (Key × List Pair)) → left ≡ e ∷ es → LiesFrom span left → in_span span e.0 ≡ false → found ++ rows_among span left ≡ all → found ≡ all
all_passed span found all left e es next agrees out answered =
    sym (append-nil found)
    ∙ ap (λ rs. found ++ rs) (sym (ap (rows_among span) next ∙ ap (map record_of) (past_end span e es (subst (LiesFrom span) next agrees) out))) ∙ answered
