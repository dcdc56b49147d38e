-- The keys of a span, among those of a tree.
use Rattle.std.proofs.Common.{◌≡◌, ℕ, Bool, true, false, cond, List, [], ◌∷◌, ◌++◌, map, append_assoc, Some, refl, sym, ap, subst, ◌∙◌}
use Rattle.std.specs.Prelude.{filter, is_some, position, ◌||◌, Result, Ok, Err, IfOk, OnOk}
use Rattle.std.specs.BTreeMap.{is_at}
use Rattle.std.specs.FinMap.{from_entries}
use Rattle.std.specs.List.Sorted.{IsStrictlySortedBy}
use Rattle.std.specs.Map.{keys_of, lookup}
use Rattle.std.specs.Ordering.{is_eq, is_le}
use Rattle.std.proofs.lemmas.List.{append-nil}
use Rattle.sdb_snapshot.specs.Types.{Key, Pair, Record, Span}
use Rattle.sdb_types.specs.Contents.{in_span, are_rows_of, record_of, rows_among, rows_in}
use Rattle.sdb_types.specs.Exact.{equal_of}
use Rattle.sdb_types.specs.Order.{key_cmp, same_key}
use Rattle.sdb_types.proofs.Public.{and_both, by_option, by_test, clash, key_exact, key_total, rows_in-are_rows_of}
use Rattle.sdb_ordered.specs.Start.{span_start}
use Rattle.sdb_ordered.proofs.Public.{from_start, in_order, is_from, past_end, LiesFrom}
use Rattle.sdb_snapshot.specs.Entries.{value_at}
use Rattle.sdb_snapshot.specs.Places.{key_alone, keys_among, AreKeysIn, HaveFirstIndexes}
use Rattle.sdb_snapshot.specs.Reads.{has_key}
use Rattle.sdb_snapshot.proofs.Firsts.{no_value}

abbrev Places : Type 0
Places = List (Key × ℕ)

---- the loop through a range

nested : {A : Type 0} (p s : A → Bool) → ((x : A) → p x ≡ true → s x ≡ true) → (xs : List A) → filter p (filter s xs) ≡ filter p xs
nested p s h [] = refl
nested p s h (x ∷ xs) =
    by_test (s x)
    (λ t. ap (λ b. filter p (cond b (x ∷ filter s xs) (filter s xs))) t ∙ ap (λ ys. cond (p x) (x ∷ ys) ys) (nested p s h xs))
    (λ f. ap (λ b. filter p (cond b (x ∷ filter s xs) (filter s xs))) f ∙ nested p s h xs
    ∙ by_test (p x) (λ t. clash (sym (h x t) ∙ f)) (λ g. sym (ap (λ b. cond b (x ∷ filter p xs) (filter p xs)) g)))

-- the keys of a span are among those from its least key on
pub keys_from : (span : Span) (es : Places) → keys_among span (filter (λ e. is_from span e.0) es) ≡ keys_among span es
keys_from span es = ap (map key_alone) (nested (λ (e : Key × ℕ). in_span span e.0) (λ e. is_from span e.0) (λ e h. and_both (is_le (key_cmp (span_start span) e.0)) true (from_start span e.0 h) refl) es)

-- one more key
pub one_key : (span : Span) (found : List Record) (e : Key × ℕ) (es : Places) → in_span span e.0 ≡ true → (found ++ key_alone e ∷ []) ++ keys_among span es ≡ found ++ keys_among span (e ∷ es)
one_key span found e es h =
    append_assoc found (key_alone e ∷ []) (keys_among span es)
    ∙ ap (λ b. found ++ map key_alone (cond b (e ∷ filter (λ x. in_span span x.0) es) (filter (λ x. in_span span x.0) es))) (sym h)

-- all keys are found where no entry is left
pub all_found : (span : Span) (found all : List Record) (left : Places) → left ≡ [] → found ++ keys_among span left ≡ all → found ≡ all
all_found span found all left none answered = sym (append-nil found) ∙ ap (λ es. found ++ keys_among span es) (sym none) ∙ answered

-- and where the next one is outside
pub all_passed : (span : Span) (found all : List Record) (left : Places) (e : Key × ℕ) (es : Places) → left ≡ e ∷ es → LiesFrom span left → in_span span e.0 ≡ false → found ++ keys_among span left ≡ all → found ≡ all
all_passed span found all left e es next agrees out answered =
    sym (append-nil found)
    ∙ ap (λ rs. found ++ rs) (sym (ap (keys_among span) next ∙ ap (map key_alone) (past_end span e es (subst (LiesFrom span) next agrees) out))) ∙ answered

---- what they are

bare : Key × ℕ → Key × List Pair
bare e = (e.0, [])

as_rows : (span : Span) (es : Places) → keys_among span es ≡ rows_among span (map bare es)
unfolding bare
as_rows span [] = refl
as_rows span (e ∷ es) =
    by_test (in_span span e.0)
    (λ t. ap (λ b. map key_alone (cond b (e ∷ filter (λ x. in_span span x.0) es) (filter (λ x. in_span span x.0) es))) t ∙ ap (λ rs. key_alone e ∷ rs) (as_rows span es)
    ∙ sym (ap (λ b. map record_of (cond b (bare e ∷ filter (λ x. in_span span x.0) (map bare es)) (filter (λ x. in_span span x.0) (map bare es)))) t))
    (λ f. ap (λ b. map key_alone (cond b (e ∷ filter (λ x. in_span span x.0) es) (filter (λ x. in_span span x.0) es))) f ∙ as_rows span es
    ∙ sym (ap (λ b. map record_of (cond b (bare e ∷ filter (λ x. in_span span x.0) (map bare es)) (filter (λ x. in_span span x.0) (map bare es)))) f))

bare_keys : (es : Places) → keys_of (map bare es) ≡ keys_of es
unfolding bare
bare_keys [] = refl
bare_keys (e ∷ es) = ap (λ ks. e.0 ∷ ks) (bare_keys es)

-- they are rows of the span
are_rows : (span : Span) (es : Places) → IsStrictlySortedBy key_cmp (keys_of es) → are_rows_of span (keys_among span es) ≡ true
are_rows span es up =
    let sorted : IsStrictlySortedBy key_cmp (keys_of (map bare es)) = subst (λ (ks : List Key). IsStrictlySortedBy key_cmp ks) (sym (bare_keys es)) up in
    let same : keys_among span es ≡ rows_in span (from_entries {R = key_cmp} (map bare es)) = as_rows span es ∙ ap (rows_among span) (sym (in_order key_total (map bare es) sorted)) in
    ap (are_rows_of span) same ∙ rows_in-are_rows_of span (from_entries {R = key_cmp} (map bare es))

-- each key of the span that the tree has is among them
any_key : (span : Span) (q : Key) (es : Places) → in_span span q ≡ true → is_some (lookup (is_at (key_cmp q)) es) ≡ true → has_key (keys_among span es) q ≡ true
any_key span q [] inside h = absurd (cc)
any_key span q (e ∷ es) inside h =
    by_test (is_eq (key_cmp q e.0))
    (λ t. let here : in_span span e.0 ≡ true = subst (λ (k : Key). in_span span k ≡ true) (key_exact q e.0 (equal_of (key_cmp q e.0) t)) inside in
    ap (λ (b : Bool). has_key (map key_alone (cond b (e ∷ filter (λ x. in_span span x.0) es) (filter (λ x. in_span span x.0) es))) q) here ∙ ap (λ (b : Bool). b || has_key (keys_among span es) q) t)
    (λ t. let more : has_key (keys_among span es) q ≡ true = any_key span q es inside (sym (ap (λ (b : Bool). is_some (cond b (Some e.1) (lookup (is_at (key_cmp q)) es))) t) ∙ h) in
    by_test (in_span span e.0)
    (λ u. ap (λ (b : Bool). has_key (map key_alone (cond b (e ∷ filter (λ x. in_span span x.0) es) (filter (λ x. in_span span x.0) es))) q) u ∙ ap (λ (b : Bool). b || has_key (keys_among span es) q) t ∙ more)
    (λ u. ap (λ (b : Bool). has_key (map key_alone (cond b (e ∷ filter (λ x. in_span span x.0) es) (filter (λ x. in_span span x.0) es))) q) u ∙ more))

module _ {V : Type 0} (es : List (Key × V)) (places : Places) where
  placed : (q : Key) → HaveFirstIndexes (keys_of es) (λ k. lookup (is_at (key_cmp k)) places) → is_some (value_at es q) ≡ true → is_some (lookup (is_at (key_cmp q)) places) ≡ true
  placed q have h =
      by_option (position (same_key q) (keys_of es))
      (λ i e. ap is_some (have q i e))
      (λ none. clash (sym h ∙ ap is_some (no_value (same_key q) es none)))

  pub keys_told : {E : Type 0} (r : Result (List Record) E) (span : Span) → HaveFirstIndexes (keys_of es) (λ k. lookup (is_at (key_cmp k)) places) → IfOk r (λ rs. rs ≡ keys_among span places) → OnOk r (IsStrictlySortedBy key_cmp (keys_of places)) → IfOk r (λ rs. AreKeysIn es span rs)
  keys_told (Ok rs) span have is up =
      subst (AreKeysIn es span) (sym is) (record {
        rows = are_rows span places up;
        as_read = λ q inside h. any_key span q places inside (placed q have h);
      })
  keys_told (Err e) span have is up = tt
