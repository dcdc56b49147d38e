-- Edits of a list of records in the order of their keys, and the map that it makes.
use Rattle.std.proofs.Common.{◌≡◌, ℕ, zero, suc, ◌+◌, ◌<◌, List, [], ◌∷◌, map, filter, length, get_or, slice_set, Bool, true, false, cond, not, Option, Some, None, Result, Ok, Err, IfOk, IfErr, Bor, refl, sym, ap, subst, ◌∙◌, arith}
use Rattle.std.specs.Prelude.{T, OnOk, OnErr, is_some}
use Rattle.std.specs.Option.{option_copied, option_map}
use Rattle.std.specs.Slice.{IsItemAt}
use Rattle.std.specs.List.{insert as insert_at, remove as remove_at}
use Rattle.std.specs.List.Sorted.{IsSearchInRange, IsBinarySearchResult}
use Rattle.std.specs.Ordering.{is_lt, is_eq, eq_by_cmp, ordering_reverse}
use Rattle.std.specs.declared.cmp.Ordering.TheVariants.{Less, Equal, Greater}
use Rattle.std.specs.Cmp.{eq_by_cmp_equiv, tied_itself}
use Rattle.std.specs.FinMap.{find, put, is_sorted, from_entries, insert, remove, entries, entries_sorted, get-entries, get-from_entries, get-insert, get-remove, same_map}
use Rattle.std.specs.FinMap.Entries.{by_order, below_all, where_key, is_sorted-put, is_sorted-where_key, find-put, find-where_key, same_entries}
use Rattle.std.proofs.lemmas.List.Sorted.{searchable_from_sorted}
use Rattle.sdb_hashed.specs.Types.{Key, Pair, Record, Span}
use Rattle.sdb_types.specs.Order.{key_cmp}
use Rattle.sdb_types.specs.Contents.{record_of, record_at, in_span, rows_in, rise, starts_after}
use Rattle.sdb_types.proofs.Public.{and_first, and_second, both_t, key_exact, key_total, less_of, starts_trans, t_both}
use Rattle.sdb_store.specs.Batches.{replaced as replaced_by}
use Rattle.sdb_store.proofs.Public.{rises}
use Rattle.sdb_hashed.specs.Bucket.{IsAt, IsGapFor, entries_of, contents_of_bucket}
use Rattle.sdb_hashed.proofs.Changes.{remove_absent}

---- records and their entries

pub unpaired : (rs : List Record) → map record_of (entries_of rs) ≡ rs
unpaired [] = refl
unpaired (r ∷ rs) = ap (λ xs. r ∷ xs) (unpaired rs)

below : (k : Key) (rs : List Record) → starts_after k rs ≡ true → rise rs ≡ true → T (below_all key_cmp k (entries_of rs))
below k [] h g = tt
below k (r ∷ rs) h g =
    t_both (is_lt (key_cmp k r.key)) _ h
    (below k rs (starts_trans k r.key rs (less_of (key_cmp k r.key) h) (and_first (starts_after r.key rs) (rise rs) g)) (and_second (starts_after r.key rs) (rise rs) g))

sorted : (rs : List Record) → rise rs ≡ true → T (is_sorted key_cmp (entries_of rs))
sorted [] h = tt
sorted (r ∷ rs) h =
    let first = and_first (starts_after r.key rs) (rise rs) h in
    let rest = and_second (starts_after r.key rs) (rise rs) h in
    both_t (below_all key_cmp r.key (entries_of rs)) _ (below r.key rs first rest) (sorted rs rest)

risen : (rs : List Record) → T (is_sorted key_cmp (entries_of rs)) → rise rs ≡ true
risen rs h = ap rise (sym (unpaired rs)) ∙ rises (entries_of rs) h

-- the map of records in order has their entries
pub in_order : (rs : List Record) → rise rs ≡ true → entries (contents_of_bucket rs) ≡ entries_of rs
in_order rs h =
    same_entries key_cmp key_total key_exact (entries (contents_of_bucket rs)) (entries_of rs) (entries_sorted (contents_of_bucket rs)) (sorted rs h)
    (λ q. sym (get-entries (contents_of_bucket rs) q) ∙ get-from_entries key_total (entries_of rs) q)

---- the order of places

-- each record comes after a key that the first comes after
later : (k : Key) (rs : List Record) (i : ℕ) (d : Record) → starts_after k rs ≡ true → rise rs ≡ true → i < length rs → key_cmp k (get_or rs i d).key ≡ Less
later k [] i d h g inside = absurd (omega arith)
later k (r ∷ rs) zero d h g inside = less_of (key_cmp k r.key) h
later k (r ∷ rs) (suc i) d h g inside =
    later k rs i d (starts_trans k r.key rs (less_of (key_cmp k r.key) h) (and_first (starts_after r.key rs) (rise rs) g)) (and_second (starts_after r.key rs) (rise rs) g) (omega arith)

adjacent : (rs : List Record) → rise rs ≡ true → (i : ℕ) (d : Record) → suc i < length rs → is_lt (key_cmp (get_or rs (suc i) d).key (get_or rs i d).key) ≡ false
adjacent [] h i d inside = absurd (omega arith)
adjacent (r ∷ rs) h zero d inside =
    ap is_lt (key_total.antisymm (get_or rs 0 d).key r.key ∙ ap ordering_reverse (later r.key rs 0 d (and_first (starts_after r.key rs) (rise rs) h) (and_second (starts_after r.key rs) (rise rs) h) (omega arith)))
adjacent (r ∷ rs) h (suc i) d inside = adjacent rs (and_second (starts_after r.key rs) (rise rs) h) i d (omega arith)

-- what a binary search of the records finds
pub searched : (rs : List Record) (k : Key) (found : Result ℕ ℕ) → rise rs ≡ true → IsSearchInRange found (length rs) → IsBinarySearchResult (λ r. key_cmp r.key k) rs found → IfOk found (IsAt rs k) × IfErr found (IsGapFor rs k)
searched rs k (Ok i) h inside equal = (record { inside = inside; own = λ d. key_exact (get_or rs i d).key k (equal d) }, tt)
searched rs k (Err i) h inside parted =
    let parts = parted (searchable_from_sorted key_total (λ (r : Record). r.key) rs k (λ j d low high. subst (λ (n : ℕ). is_lt (key_cmp (get_or rs n d).key (get_or rs j d).key) ≡ false) {x = suc j} {y = j + 1} (omega arith) (adjacent rs h j d (omega (arith, high))))) in
    (tt, record { inside = inside; before = λ j d less. parts.0 j d (omega arith) less; after = λ j d least less. parts.1 j d least less })

---- edits

after_put : (es : List (Key × List Pair)) (k : Key) (v : List Pair) → from_entries {R = key_cmp} (put key_cmp k v es) ≡ insert (from_entries es) k v
after_put es k v = same_map key_total key_exact _ _ (λ q.
    get-from_entries key_total (put key_cmp k v es) q ∙ find-put key_cmp key_total q k v es
    ∙ sym (get-insert key_total (from_entries es) k v q ∙ ap (cond (eq_by_cmp key_cmp q k) (Some v)) (get-from_entries key_total es q)))

turned : {A : Type 0} (b : Bool) (x y : A) → cond (not b) x y ≡ cond b y x
turned true x y = refl
turned false x y = refl

abbrev other : Key → Key → Bool
other k q = not (eq_by_cmp key_cmp k q)

after_cut : (es : List (Key × List Pair)) (k : Key) → from_entries {R = key_cmp} (where_key key_cmp (other k) es) ≡ remove (from_entries es) k
after_cut es k = same_map key_total key_exact _ _ (λ q.
    get-from_entries key_total (where_key key_cmp (other k) es) q
    ∙ find-where_key key_cmp (other k) q (λ x e. ap (other k) (sym (key_exact q x e))) es
    ∙ turned (eq_by_cmp key_cmp k q) (find key_cmp q es) None
    ∙ ap (λ b. cond b None (find key_cmp q es)) ((eq_by_cmp_equiv key_total).symm k q)
    ∙ sym (get-remove key_total (from_entries es) k q ∙ ap (cond (eq_by_cmp key_cmp q k) None) (get-from_entries key_total es q)))

-- a record at the place of its key
inserted : (rs : List Record) (i : ℕ) (r : Record) → IsGapFor rs r.key i → entries_of (insert_at rs i r) ≡ put key_cmp r.key r.columns (entries_of rs)
inserted [] zero r gap = refl
inserted [] (suc i) r gap = refl
inserted (x ∷ rs) zero r gap =
    let less : key_cmp r.key x.key ≡ Less = key_total.antisymm r.key x.key ∙ ap ordering_reverse (gap.after 0 x (omega arith) (omega arith)) in
    sym (ap (λ o. by_order o ((r.key, r.columns) ∷ (x.key, x.columns) ∷ entries_of rs) ((x.key, r.columns) ∷ entries_of rs) ((x.key, x.columns) ∷ put key_cmp r.key r.columns (entries_of rs))) less)
inserted (x ∷ rs) (suc i) r gap =
    let more : key_cmp r.key x.key ≡ Greater = key_total.antisymm r.key x.key ∙ ap ordering_reverse (gap.before 0 x (omega arith)) in
    let rest : IsGapFor rs r.key i = record { inside = omega (arith, gap.inside); before = λ k d less. gap.before (suc k) d (omega arith); after = λ k d least less. gap.after (suc k) d (omega arith) (omega arith) } in
    ap (λ es. (x.key, x.columns) ∷ es) (inserted rs i r rest)
    ∙ sym (ap (λ o. by_order o ((r.key, r.columns) ∷ (x.key, x.columns) ∷ entries_of rs) ((x.key, r.columns) ∷ entries_of rs) ((x.key, x.columns) ∷ put key_cmp r.key r.columns (entries_of rs))) more)

at_rest : (x : Record) (rs : List Record) (k : Key) (i : ℕ) → IsAt (x ∷ rs) k (suc i) → IsAt rs k i
at_rest x rs k i at = record { inside = omega (arith, at.inside); own = at.own }

-- the records before the place of a key are less than it
first_less : (x : Record) (rs : List Record) (k : Key) (i : ℕ) → rise (x ∷ rs) ≡ true → IsAt (x ∷ rs) k (suc i) → key_cmp x.key k ≡ Less
first_less x rs k i h at =
    subst (λ (q : Key). key_cmp x.key q ≡ Less) (at.own x) (later x.key rs i x (and_first (starts_after x.key rs) (rise rs) h) (and_second (starts_after x.key rs) (rise rs) h) (omega (arith, at.inside)))

replaced : (rs : List Record) (i : ℕ) (r : Record) → rise rs ≡ true → IsAt rs r.key i → entries_of (slice_set rs i r) ≡ put key_cmp r.key r.columns (entries_of rs)
replaced [] i r h at = absurd (omega (arith, at.inside))
replaced (x ∷ rs) zero r h at =
    let tie : key_cmp r.key x.key ≡ Equal = ap (key_cmp r.key) (at.own x) ∙ tied_itself key_total r.key in
    ap (λ k. (k, r.columns) ∷ entries_of rs) (sym (at.own x))
    ∙ sym (ap (λ o. by_order o ((r.key, r.columns) ∷ (x.key, x.columns) ∷ entries_of rs) ((x.key, r.columns) ∷ entries_of rs) ((x.key, x.columns) ∷ put key_cmp r.key r.columns (entries_of rs))) tie)
replaced (x ∷ rs) (suc i) r h at =
    let more : key_cmp r.key x.key ≡ Greater = key_total.antisymm r.key x.key ∙ ap ordering_reverse (first_less x rs r.key i h at) in
    ap (λ es. (x.key, x.columns) ∷ es) (replaced rs i r (and_second (starts_after x.key rs) (rise rs) h) (at_rest x rs r.key i at))
    ∙ sym (ap (λ o. by_order o ((r.key, r.columns) ∷ (x.key, x.columns) ∷ entries_of rs) ((x.key, r.columns) ∷ entries_of rs) ((x.key, x.columns) ∷ put key_cmp r.key r.columns (entries_of rs))) more)

-- nothing is cut out of records after a key
none_cut : (k : Key) (rs : List Record) → starts_after k rs ≡ true → rise rs ≡ true → where_key key_cmp (other k) (entries_of rs) ≡ entries_of rs
none_cut k [] h g = refl
none_cut k (r ∷ rs) h g =
    let less = less_of (key_cmp k r.key) h in
    ap (λ o. cond (not (is_eq o)) ((r.key, r.columns) ∷ where_key key_cmp (other k) (entries_of rs)) (where_key key_cmp (other k) (entries_of rs))) less
    ∙ ap (λ es. (r.key, r.columns) ∷ es) (none_cut k rs (starts_trans k r.key rs less (and_first (starts_after r.key rs) (rise rs) g)) (and_second (starts_after r.key rs) (rise rs) g))

cut : (rs : List Record) (i : ℕ) (k : Key) → rise rs ≡ true → IsAt rs k i → entries_of (remove_at rs i) ≡ where_key key_cmp (other k) (entries_of rs)
cut [] i k h at = absurd (omega (arith, at.inside))
cut (x ∷ rs) zero k h at =
    let tie : key_cmp k x.key ≡ Equal = ap (key_cmp k) (at.own x) ∙ tied_itself key_total k in
    let after : starts_after k rs ≡ true = subst (λ (q : Key). starts_after q rs ≡ true) (at.own x) (and_first (starts_after x.key rs) (rise rs) h) in
    sym (ap (λ o. cond (not (is_eq o)) ((x.key, x.columns) ∷ where_key key_cmp (other k) (entries_of rs)) (where_key key_cmp (other k) (entries_of rs))) tie ∙ none_cut k rs after (and_second (starts_after x.key rs) (rise rs) h))
cut (x ∷ rs) (suc i) k h at =
    let more : key_cmp k x.key ≡ Greater = key_total.antisymm k x.key ∙ ap ordering_reverse (first_less x rs k i h at) in
    ap (λ es. (x.key, x.columns) ∷ es) (cut rs i k (and_second (starts_after x.key rs) (rise rs) h) (at_rest x rs k i at))
    ∙ sym (ap (λ o. cond (not (is_eq o)) ((x.key, x.columns) ∷ where_key key_cmp (other k) (entries_of rs)) (where_key key_cmp (other k) (entries_of rs))) more)

---- what an edit leaves

module _ (rs : List Record) (h : rise rs ≡ true) where
  pub inserted_rises : (i : ℕ) (r : Record) → IsGapFor rs r.key i → rise (insert_at rs i r) ≡ true
  inserted_rises i r gap = risen (insert_at rs i r) (subst (λ (es : List (Key × List Pair)). T (is_sorted key_cmp es)) (sym (inserted rs i r gap)) (is_sorted-put key_cmp key_total r.key r.columns (entries_of rs) (sorted rs h)))

  pub inserted_holds : (i : ℕ) (r : Record) → IsGapFor rs r.key i → contents_of_bucket (insert_at rs i r) ≡ insert (contents_of_bucket rs) r.key r.columns
  inserted_holds i r gap = ap (λ (es : List (Key × List Pair)). from_entries es) (inserted rs i r gap) ∙ after_put (entries_of rs) r.key r.columns

  pub replaced_rises : (i : ℕ) (r : Record) → IsAt rs r.key i → rise (slice_set rs i r) ≡ true
  replaced_rises i r at = risen (slice_set rs i r) (subst (λ (es : List (Key × List Pair)). T (is_sorted key_cmp es)) (sym (replaced rs i r h at)) (is_sorted-put key_cmp key_total r.key r.columns (entries_of rs) (sorted rs h)))

  pub replaced_holds : (i : ℕ) (r : Record) → IsAt rs r.key i → contents_of_bucket (slice_set rs i r) ≡ insert (contents_of_bucket rs) r.key r.columns
  replaced_holds i r at = ap (λ (es : List (Key × List Pair)). from_entries es) (replaced rs i r h at) ∙ after_put (entries_of rs) r.key r.columns

  pub cut_rises : (i : ℕ) (k : Key) → IsAt rs k i → rise (remove_at rs i) ≡ true
  cut_rises i k at = risen (remove_at rs i) (subst (λ (es : List (Key × List Pair)). T (is_sorted key_cmp es)) (sym (cut rs i k h at)) (is_sorted-where_key key_cmp (other k) (entries_of rs) (sorted rs h)))

  pub cut_holds : (i : ℕ) (k : Key) → IsAt rs k i → contents_of_bucket (remove_at rs i) ≡ remove (contents_of_bucket rs) k
  cut_holds i k at = ap (λ (es : List (Key × List Pair)). from_entries es) (cut rs i k h at) ∙ after_cut (entries_of rs) k

---- what is at a key, and in a span

missed : (rs : List Record) (k : Key) (i : ℕ) → IsGapFor rs k i → find key_cmp k (entries_of rs) ≡ None
missed [] k i gap = refl
missed (x ∷ rs) k zero gap =
    let less : key_cmp k x.key ≡ Less = key_total.antisymm k x.key ∙ ap ordering_reverse (gap.after 0 x (omega arith) (omega arith)) in
    ap (λ o. cond (is_eq o) (Some x.columns) (find key_cmp k (entries_of rs))) less
    ∙ missed rs k zero (record { inside = omega arith; before = λ j d l. absurd (omega (arith, l)); after = λ j d least l. gap.after (suc j) d (omega arith) (omega (arith, l)) })
missed (x ∷ rs) k (suc i) gap =
    let more : key_cmp k x.key ≡ Greater = key_total.antisymm k x.key ∙ ap ordering_reverse (gap.before 0 x (omega arith)) in
    ap (λ o. cond (is_eq o) (Some x.columns) (find key_cmp k (entries_of rs))) more
    ∙ missed rs k i (record { inside = omega (arith, gap.inside); before = λ j d l. gap.before (suc j) d (omega (arith, l)); after = λ j d least l. gap.after (suc j) d (omega (arith, least)) (omega (arith, l)) })

met : (rs : List Record) (k : Key) (i : ℕ) (d : Record) → rise rs ≡ true → IsAt rs k i → find key_cmp k (entries_of rs) ≡ Some (get_or rs i d).columns
met [] k i d h at = absurd (omega (arith, at.inside))
met (x ∷ rs) k zero d h at =
    let tie : key_cmp k x.key ≡ Equal = ap (key_cmp k) (at.own x) ∙ tied_itself key_total k in
    ap (λ o. cond (is_eq o) (Some x.columns) (find key_cmp k (entries_of rs))) tie
met (x ∷ rs) k (suc i) d h at =
    let more : key_cmp k x.key ≡ Greater = key_total.antisymm k x.key ∙ ap ordering_reverse (first_less x rs k i h at) in
    ap (λ o. cond (is_eq o) (Some x.columns) (find key_cmp k (entries_of rs))) more
    ∙ met rs k i d (and_second (starts_after x.key rs) (rise rs) h) (at_rest x rs k i at)

pub no_record : (rs : List Record) (k : Key) (i : ℕ) → IsGapFor rs k i → None ≡ record_at (contents_of_bucket rs) k
no_record rs k i gap = sym (ap (λ (o : Option (List Pair)). option_map (λ columns. record_of (k, columns)) o) (get-from_entries key_total (entries_of rs) k ∙ missed rs k i gap))

pub own_record : (rs : List Record) (k : Key) (i : ℕ) (d : Record) → rise rs ≡ true → IsAt rs k i → Some (get_or rs i d) ≡ record_at (contents_of_bucket rs) k
own_record rs k i d h at =
    sym (ap (λ (o : Option (List Pair)). option_map (λ columns. record_of (k, columns)) o) (get-from_entries key_total (entries_of rs) k ∙ met rs k i d h at)
    ∙ ap (λ (q : Key). Some (record_of (q, (get_or rs i d).columns))) (sym (at.own d)))

inside_span : (span : Span) (rs : List Record) → map record_of (where_key key_cmp (in_span span) (entries_of rs)) ≡ filter (λ r. in_span span r.key) rs
inside_span span [] = refl
inside_span span (r ∷ rs) =
    let rest = inside_span span rs in
    elim (in_span span r.key) as (λ b. map record_of (cond b ((r.key, r.columns) ∷ where_key key_cmp (in_span span) (entries_of rs)) (where_key key_cmp (in_span span) (entries_of rs))) ≡ cond b (r ∷ filter (λ x. in_span span x.key) rs) (filter (λ x. in_span span x.key) rs))
    [ true ↦ ap (λ xs. r ∷ xs) rest | false ↦ rest ]

-- the records of a span are those that pass its test
pub rows_are : (span : Span) (rs : List Record) → rise rs ≡ true → rows_in span (contents_of_bucket rs) ≡ filter (λ r. in_span span r.key) rs
rows_are span rs h = ap (λ es. map record_of (where_key key_cmp (in_span span) es)) (in_order rs h) ∙ inside_span span rs

-- the record that is lent at the place of a key
pub at_record : (rs : List Record) (k : Key) (i : ℕ) (r : Option (Bor Record)) → rise rs ≡ true → IsAt rs k i → IsItemAt rs i r → option_copied r ≡ record_at (contents_of_bucket rs) k
at_record rs k i None h at item = absurd (let e : false ≡ true = item.2 at.inside in cc)
at_record rs k i (Some x) h at item = ap Some item.1 ∙ own_record rs k i x.now h at

pub nothing_at : (rs : List Record) (k : Key) (i : ℕ) → IsGapFor rs k i → contents_of_bucket rs ≡ remove (contents_of_bucket rs) k
nothing_at rs k i gap = sym (remove_absent (contents_of_bucket rs) k (get-from_entries key_total (entries_of rs) k ∙ missed rs k i gap))

-- a record over the one at its key
pub replaced_there : (rs : List Record) (i : ℕ) (r : Record) → rise rs ≡ true → IsAt rs r.key i → contents_of_bucket (slice_set rs i r) ≡ replaced_by r (contents_of_bucket rs)
replaced_there rs i r h at =
    replaced_holds rs h i r at
    ∙ sym (ap (λ (o : Option (List Pair)). cond (is_some o) (insert (contents_of_bucket rs) r.key r.columns) (contents_of_bucket rs)) (get-from_entries key_total (entries_of rs) r.key ∙ met rs r.key i r h at))

pub nothing_replaced : (rs : List Record) (r : Record) (i : ℕ) → IsGapFor rs r.key i → contents_of_bucket rs ≡ replaced_by r (contents_of_bucket rs)
nothing_replaced rs r i gap =
    sym (ap (λ (o : Option (List Pair)). cond (is_some o) (insert (contents_of_bucket rs) r.key r.columns) (contents_of_bucket rs)) (get-from_entries key_total (entries_of rs) r.key ∙ missed rs r.key i gap))

---- an edit that may find no memory

pub either_way : {A E : Type 0} (P : List Record → Type 0) (r : Result A E) (old done new : List Record) → OnOk r (new ≡ done) → OnErr r (new ≡ old) → P done → P old → P new
either_way P (Ok x) old done new ok err d o = subst P (sym ok) d
either_way P (Err e) old done new ok err d o = subst P (sym err) o

pub on_ok : {A E P Q : Type 0} (r : Result A E) → (P → Q) → OnOk r P → OnOk r Q
on_ok (Ok x) f p = f p
on_ok (Err e) f p = tt
