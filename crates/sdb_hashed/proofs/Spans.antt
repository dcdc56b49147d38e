-- Records of a span.
use Rattle.std.proofs.Common.{◌≡◌, List, [], ◌∷◌, ◌++◌, Bool, true, false, cond, Option, Some, None, refl, sym, ap, subst, ◌∙◌, map}
use Rattle.std.specs.Ordering.{eq_by_cmp}
use Rattle.std.specs.List.{filter}
use Rattle.std.specs.FinMap.{find, get, insert, entries, get-entries, get-insert}
use Rattle.std.specs.FinMap.Entries.{where_key}
use Rattle.sdb_hashed.specs.Types.{Key, Pair, Record, Span}
use Rattle.sdb_types.specs.Order.{key_cmp}
use Rattle.sdb_types.specs.Contents.{Contents, record_of, in_span, rows_in}
use Rattle.sdb_types.proofs.Public.{find_span, key_total, or_else, same_rows}
use Rattle.sdb_hashed.specs.Put.{with_rows}
use Rattle.std.specs.Prelude.{IfOk, Result}
use Rattle.std.specs.Map.{lookup, keys_of}
use Rattle.std.specs.List.{IsDistinct}
use Rattle.std.specs.FinMap.{empty, len-entries, len-empty, get-empty}
use Rattle.std.proofs.Common.{length, append_assoc, arith}
use Rattle.std.specs.Option.{option_map}
use Rattle.std.specs.FinMap.{get-from_entries}
use Rattle.sdb_hashed.specs.Gathered.{gathered, contents_of_all, in_part, HasOwnKeys}
use Rattle.sdb_hashed.proofs.Gather.{find_append, held_get}
use Rattle.std.proofs.lemmas.List.{append-nil as append_nil}

put_get : (es : List (Key × List Pair)) (m : Contents) (q : Key) → get (with_rows (map record_of es) m) q ≡ or_else (find key_cmp q es) (get m q)
put_get [] m q = refl
put_get (e ∷ es) m q =
    get-insert key_total (with_rows (map record_of es) m) e.0 e.1 q ∙ ap (cond (eq_by_cmp key_cmp q e.0) (Some e.1)) (put_get es m q)
    ∙ elim (eq_by_cmp key_cmp q e.0) as (λ b. cond b (Some e.1) (or_else (find key_cmp q es) (get m q)) ≡ or_else (cond b (Some e.1) (find key_cmp q es)) (get m q)) [ true ↦ refl | false ↦ refl ]

-- what is in a span after the rows of a bucket are put
pub put_rows : (span : Span) (bucket m : Contents) (q : Key) → in_span span q ≡ true → get (with_rows (rows_in span bucket) m) q ≡ or_else (get bucket q) (get m q)
put_rows span bucket m q h =
    put_get (where_key key_cmp (in_span span) (entries bucket)) m q
    ∙ ap (λ o. or_else o (get m q)) (find_span span bucket q ∙ ap (λ b. cond b (get bucket q) None) h)

-- the last row is put first
pub with_last : (rs : List Record) (r : Record) (m : Contents) → with_rows (rs ++ r ∷ []) m ≡ with_rows rs (insert m r.key r.columns)
with_last [] r m = refl
with_last (s ∷ rs) r m = ap (λ n. insert n s.key s.columns) (with_last rs r m)

---- one part

none : {A : Type 0} (es : List A) → length es ≡ 0 → es ≡ []
none [] e = refl
none (e ∷ es) h = absurd (omega arith)

pub no_rows : (span : Span) → rows_in span empty ≡ []
no_rows span = ap (λ es. map record_of (filter (λ e. in_span span e.0) es)) (none (entries empty) (sym (len-entries empty) ∙ len-empty key_cmp (List Pair)))

module _ {K V : Type 0} (same : K → K → Bool) (is_known : (a b : K) → (same a b ≡ true → a ≡ b) × (a ≡ b → same a b ≡ true)) (part : Key → K) (f : V → Contents) (es : List (K × V)) (distinct : IsDistinct same (keys_of es)) (own : HasOwnKeys same part f es) (span : Span) where
  -- inside one part all parts have what it has
  inside : (x : K) (o : Option V) → ((q : Key) → in_span span q ≡ true → part q ≡ x) → o ≡ lookup (same x) es → (q : Key) → in_span span q ≡ true → in_part (option_map f o) q ≡ get (contents_of_all f es) q
  inside x o within found q h =
      ap (λ p. in_part (option_map f p) q) (found ∙ ap (λ s. lookup (same s) es) (sym (within q h))) ∙ sym (held_get same is_known part f es distinct own q)

  pub part_rows : (x : K) (v : V) → ((q : Key) → in_span span q ≡ true → part q ≡ x) → Some v ≡ lookup (same x) es → rows_in span (f v) ≡ rows_in span (contents_of_all f es)
  part_rows x v within found = same_rows span (f v) (contents_of_all f es) (inside x (Some v) within found)

  pub no_part : (x : K) → ((q : Key) → in_span span q ≡ true → part q ≡ x) → None ≡ lookup (same x) es → [] ≡ rows_in span (contents_of_all f es)
  no_part x within found = sym (no_rows span) ∙ same_rows span empty (contents_of_all f es) (λ q h. get-empty key_cmp q ∙ inside x None within found q h)

pub rows_along : {E : Type 0} (r : Result (List Record) E) (a b : List Record) → a ≡ b → IfOk r (λ rows. rows ≡ a) → IfOk r (λ rows. rows ≡ b)
rows_along r a b e h = subst (λ (rs : List Record). IfOk r (λ rows. rows ≡ rs)) e h

---- all parts

module _ {K V : Type 0} (f : V → Contents) where
  gathered_more : (xs : List (K × V)) (e : K × V) → gathered f (xs ++ e ∷ []) ≡ entries (f e.1) ++ gathered f xs
  gathered_more [] e = sym (append_nil (entries (f e.1)))
  gathered_more (x ∷ xs) e = ap (λ ys. ys ++ entries (f x.1)) (gathered_more xs e) ∙ append_assoc (entries (f e.1)) (gathered f xs) (entries (f x.1))

  find_more : (xs : List (K × V)) (e : K × V) (q : Key) → find key_cmp q (gathered f (xs ++ e ∷ [])) ≡ or_else (get (f e.1) q) (find key_cmp q (gathered f xs))
  find_more xs e q = ap (find key_cmp q) (gathered_more xs e) ∙ find_append q (entries (f e.1)) (gathered f xs) ∙ ap (λ o. or_else o (find key_cmp q (gathered f xs))) (sym (get-entries (f e.1) q))

  -- m has inside the span what the entries of these parts are
  abbrev pub HasGathered : Span → Contents → List (K × V) → Type 0
  HasGathered span m es = (q : Key) → in_span span q ≡ true → get m q ≡ find key_cmp q (gathered f es)

  pub gather_more : (span : Span) (m n : Contents) (xs : List (K × V)) (e : K × V) → HasGathered span m xs → n ≡ with_rows (rows_in span (f e.1)) m → HasGathered span n (xs ++ e ∷ [])
  gather_more span m n xs e so is q h =
      ap (λ o. get o q) is ∙ put_rows span (f e.1) m q h ∙ ap (or_else (get (f e.1) q)) (so q h) ∙ sym (find_more xs e q)

  pub gathered_all : (span : Span) (m : Contents) (xs es : List (K × V)) → xs ≡ es → HasGathered span m xs → (q : Key) → in_span span q ≡ true → get m q ≡ get (contents_of_all f es) q
  gathered_all span m xs es all so q h =
      so q h ∙ ap (λ ys. find key_cmp q (gathered f ys)) all ∙ sym (get-from_entries key_total (gathered f es) q)
