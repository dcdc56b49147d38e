-- The rows of a span: the records that lie in it, each of which is what the contents have at its key.
use Rattle.std.proofs.Common.{◌≡◌, ℕ, ◌<◌, inl, inr, true, false, cond, List, [], ◌∷◌, length, map, get_or, zero, suc, Some, None, refl, sym, ap, subst, ◌∙◌, arith}
use Rattle.std.specs.Prelude.{◌||◌, All, T}
use Rattle.std.specs.Cmp.{tied_itself}
use Rattle.std.specs.FinMap.{entries, entries_sorted, find, get, get-entries}
use Rattle.std.specs.FinMap.Entries.{below_all, is_sorted}
use Rattle.std.specs.List.{AllByRecursion, filter}
use Rattle.std.specs.Ordering.{eq_by_cmp, is_eq, is_lt}
use Rattle.std.proofs.lemmas.Option.{slice_get-get_or}
use Rattle.std.proofs.lemmas.List.Elements.{All-from_recursion, recursion_from_All}
use Rattle.sdb_types.specs.declared.key.Key.{Key}
use Rattle.sdb_types.specs.declared.pair.Pair.{Pair}
use Rattle.sdb_types.specs.declared.record.Record.{Record}
use Rattle.sdb_types.specs.declared.record.Span.{Span}
use Rattle.sdb_types.specs.Exact.{equal_of}
use Rattle.sdb_types.specs.Order.{has_key, key_cmp, same_key}
use Rattle.sdb_types.specs.Contents.{Contents, in_span, record_of, rows_among, rows_in}
use Rattle.sdb_types.proofs.Public.{clash, either, false_by, find_span, first_t, key_exact, key_total, none_some, or_neither, same_key_exact, same_key_self, second_t, some_is}
use Rattle.sdb_shards.specs.Moves.{keys_of}

---- entries in order

-- an entry that is above another has another key
apart : (k q : Key) → T (is_lt (key_cmp k q)) → eq_by_cmp key_cmp q k ≡ false
apart k q less = false_by (eq_by_cmp key_cmp q k) (λ e.
    subst (λ (x : Key). T (is_lt (key_cmp k x)) → ⊥) (sym (key_exact q k (equal_of (key_cmp q k) e))) (λ h. subst (λ o. T (is_lt o)) (tied_itself key_total k) h) less)

later_finds : (e : Key × List Pair) (es xs : List (Key × List Pair)) → T (below_all key_cmp e.0 xs) → AllByRecursion (λ x. find key_cmp x.0 es ≡ Some x.1) xs → AllByRecursion (λ x. find key_cmp x.0 (e ∷ es) ≡ Some x.1) xs
later_finds e es [] h all = tt
later_finds e es (x ∷ xs) h all = (
  ap (λ b. cond b (Some e.1) (find key_cmp x.0 es)) (apart e.0 x.0 (first_t (is_lt (key_cmp e.0 x.0)) (below_all key_cmp e.0 xs) h)) ∙ all.0,
  later_finds e es xs (second_t (is_lt (key_cmp e.0 x.0)) (below_all key_cmp e.0 xs) h) all.1,
)

-- each is found by its key
finds_each : (es : List (Key × List Pair)) → T (is_sorted key_cmp es) → AllByRecursion (λ x. find key_cmp x.0 es ≡ Some x.1) es
finds_each [] h = tt
finds_each (e ∷ es) h = (
  ap (λ b. cond b (Some e.1) (find key_cmp e.0 es)) (ap is_eq (tied_itself key_total e.0)),
  later_finds e es es (first_t (below_all key_cmp e.0 es) (is_sorted key_cmp es) h) (finds_each es (second_t (below_all key_cmp e.0 es) (is_sorted key_cmp es) h)),
)

---- rows

rows_each : (span : Span) (P : Record → Type 0) (es : List (Key × List Pair)) → AllByRecursion (λ e. P (record_of e)) es → AllByRecursion P (rows_among span es)
rows_each span P [] h = tt
rows_each span P (e ∷ es) h =
    let rest = rows_each span P es h.1 in
    elim (in_span span e.0) as (λ b. AllByRecursion P (map record_of (cond b (e ∷ filter (λ x. in_span span x.0) es) (filter (λ x. in_span span x.0) es)))) [ true ↦ (h.0, rest) | false ↦ rest ]

rows_within : (span : Span) (es : List (Key × List Pair)) → AllByRecursion (λ r. in_span span r.key ≡ true) (rows_among span es)
rows_within span [] = tt
rows_within span (e ∷ es) =
    let rest = rows_within span es in
    elim (in_span span e.0) as (λ b. in_span span e.0 ≡ b → AllByRecursion (λ r. in_span span r.key ≡ true) (map record_of (cond b (e ∷ filter (λ x. in_span span x.0) es) (filter (λ x. in_span span x.0) es)))) [ true ↦ λ t. (t, rest) | false ↦ λ f. rest ] refl

each_held : (m : Contents) (xs : List (Key × List Pair)) → AllByRecursion (λ x. find key_cmp x.0 (entries m) ≡ Some x.1) xs → AllByRecursion (λ x. get m x.0 ≡ Some x.1) xs
each_held m [] h = tt
each_held m (x ∷ xs) h = (get-entries m x.0 ∙ h.0, each_held m xs h.1)

-- each row is what is at its key
pub rows_hold : (span : Span) (m : Contents) → All (λ r. get m r.key ≡ Some r.columns) (rows_in span m)
rows_hold span m = All-from_recursion (λ (r : Record). get m r.key ≡ Some r.columns) (rows_in span m) (rows_each span (λ r. get m r.key ≡ Some r.columns) (entries m) (each_held m (entries m) (finds_each (entries m) (entries_sorted m))))

at_found : (P : Record → Type 0) (es : List (Key × List Pair)) (k : Key) (v : List Pair) → AllByRecursion P (map record_of es) → find key_cmp k es ≡ Some v → P (record_of (k, v))
at_found P [] k v h e = none_some v e
at_found P (x ∷ xs) k v h e =
    elim (eq_by_cmp key_cmp k x.0) as (λ b. eq_by_cmp key_cmp k x.0 ≡ b → cond b (Some x.1) (find key_cmp k xs) ≡ Some v → P (record_of (k, v))) [
      | true ↦ λ t s.
          let key : k ≡ x.0 = key_exact k x.0 (equal_of (key_cmp k x.0) t) in
          let columns : x.1 ≡ v = some_is x.1 v s in
          subst P (λ i. record_of (sym key i, columns i)) h.0
      | false ↦ λ t s. at_found P xs k v h.1 s
    ] refl e

-- what holds of each row holds of what is at a key of the span
pub at_row : (span : Span) (m : Contents) (P : Record → Type 0) (k : Key) (v : List Pair) → All P (rows_in span m) → in_span span k ≡ true → get m k ≡ Some v → P (record_of (k, v))
at_row span m P k v h inside e =
    at_found P (filter (λ x. in_span span x.0) (entries m)) k v (recursion_from_All P (rows_in span m) h) (find_span span m k ∙ ap (λ b. cond b (get m k) None) inside ∙ e)

outside_all : (span : Span) (rs : List Record) (k : Key) → AllByRecursion (λ r. in_span span r.key ≡ true) rs → in_span span k ≡ false → has_key (keys_of rs) k ≡ false
outside_all span [] k h out = refl
outside_all span (r ∷ rs) k h out =
    ap (λ b. b || same_key k r.key) (outside_all span rs k h.1 out)
    ∙ false_by (same_key k r.key) (λ t. clash (sym h.0 ∙ sym (ap (in_span span) (same_key_exact k r.key t)) ∙ out))

-- no row has a key outside
pub rows_outside : (span : Span) (m : Contents) (k : Key) → in_span span k ≡ false → has_key (keys_of (rows_in span m)) k ≡ false
rows_outside span m k out = outside_all span (rows_in span m) k (rows_within span (entries m)) out

-- and where a key of the span has no row, nothing is there
pub no_row : (span : Span) (m : Contents) (k : Key) → in_span span k ≡ true → has_key (keys_of (rows_in span m)) k ≡ false → get m k ≡ None
no_row span m k inside out =
    elim (get m k) as (λ o. get m k ≡ o → o ≡ None) [
      | None ↦ λ e. refl
      | Some v ↦ λ e. absurd (at_row span m (λ r. (same_key k r.key ≡ true) → ⊥) k v (All-from_recursion (λ (r : Record). (same_key k r.key ≡ true) → ⊥) (rows_in span m) (other (rows_in span m) out)) inside e (same_key_self k))
    ] refl
  where
    other : (rs : List Record) → has_key (keys_of rs) k ≡ false → AllByRecursion (λ r. (same_key k r.key ≡ true) → ⊥) rs
    other [] h = tt
    other (r ∷ rs) h =
        let parts = or_neither (has_key (keys_of rs) k) (same_key k r.key) h in
        (λ t. clash (sym t ∙ parts.1), other rs parts.0)

---- keys of rows by their places

pub key_at : (rs : List Record) (i : ℕ) (k : Key) (d : Record) → i < length rs → has_key (keys_of rs) k ≡ false → same_key k (get_or rs i d).key ≡ false
key_at [] i k d less out = absurd (omega (arith, less))
key_at (r ∷ rs) zero k d less out = (or_neither (has_key (keys_of rs) k) (same_key k r.key) out).1
key_at (r ∷ rs) (suc i) k d less out = key_at rs i k d (omega (arith, less)) (or_neither (has_key (keys_of rs) k) (same_key k r.key) out).0

pub place_of_key : (rs : List Record) (k : Key) (d : Record) → has_key (keys_of rs) k ≡ true → (i : ℕ) × (i < length rs) × (same_key k (get_or rs i d).key ≡ true)
place_of_key [] k d h = absurd (clash (sym h))
place_of_key (r ∷ rs) k d h =
    elim (either (has_key (keys_of rs) k) (same_key k r.key) h) [
      | inl rest ↦ let p = place_of_key rs k d rest in (suc p.0, omega (arith, p.1), p.2)
      | inr here ↦ (0, omega arith, here)
    ]

-- an item is the same whatever is taken where there is none
pub same_item : (rs : List Record) (i : ℕ) (r d : Record) → i < length rs → r ≡ get_or rs i r → get_or rs i d ≡ r
same_item rs i r d less is = some_is (get_or rs i d) r (sym (slice_get-get_or rs i d less) ∙ slice_get-get_or rs i r less ∙ ap Some (sym is))
