-- The rows of a table, gathered from the boxes.
use Rattle.std.proofs.Common.{◌≡◌, ℕ, ◌+◌, ◌<◌, ◌≤◌, ◌%◌, ◌⊎◌, inl, inr, Bool, true, false, cond, List, [], ◌∷◌, ◌++◌, length, map, Option, Some, None, refl, sym, ap, subst, ◌∙◌, arith}
use Rattle.std.specs.Prelude.{◌==◌, nat_lt, unwrap_or}
use Rattle.std.specs.BTreeMap.{BTreeMap}
use Rattle.std.specs.BTreeMap as tree
use Rattle.std.specs.FinMap.{empty, entries, find, get, get-empty, get-insert, insert}
use Rattle.std.specs.List.{filter}
use Rattle.std.specs.Ordering.{eq_by_cmp}
use Rattle.std.proofs.lemmas.Bool.{cases_order, eq-eqb, eqb-true, le-ltb, lt-ltb, ne_eqb}
use Rattle.std.proofs.lemmas.List.{append-nil as append_nil, length-map}
use Rattle.std.proofs.lemmas.List.Elements.{filter-append}
use Rattle.std.proofs.lemmas.Nat.{mod_below}
use Rattle.sdb_types.specs.declared.key.Key.{Key}
use Rattle.sdb_types.specs.declared.pair.Pair.{Pair}
use Rattle.sdb_types.specs.declared.record.Record.{Record}
use Rattle.sdb_types.specs.declared.record.Span.{Span}
use Rattle.sdb_types.specs.Exact.{equal_of}
use Rattle.sdb_types.specs.Order.{key_cmp}
use Rattle.sdb_types.specs.Contents.{Contents, in_span, record_of, rows_in}
use Rattle.sdb_types.proofs.Public.{by_option, find_span, key_exact, key_total, or_else, or_none, same_rows}
use Rattle.sdb_hashed.specs.Put.{with_rows}
use Rattle.sdb_shards.specs.declared.part.Part.{Part}
use Rattle.sdb_shards.specs.Boxes.{contents_of, held_at, held_in, sharded}
use Rattle.sdb_shards.specs.Homes.{AreHomes, home_of, number_of, partition_of}
use Rattle.sdb_shards.specs.Whole.{whole}
use Rattle.sdb_shards.proofs.Gather.{sharded_get}

---- records put among others

-- the last row is put first
with_last : (rs : List Record) (r : Record) (m : Contents) → with_rows (rs ++ r ∷ []) m ≡ with_rows rs (insert m r.key r.columns)
with_last [] r m = refl
with_last (s ∷ rs) r m = ap (λ n. insert n s.key s.columns) (with_last rs r m)

module _ (own : Record → Bool) where
  pub put_own : (xs ys : List Record) (r : Record) (m : Contents) → ys ≡ xs ++ r ∷ [] → own r ≡ true → with_rows (filter own xs) (insert m r.key r.columns) ≡ with_rows (filter own ys) m
  put_own xs ys r m is mine =
      sym (ap (λ zs. with_rows (filter own zs) m) is ∙ ap (λ zs. with_rows zs m) (filter-append own xs (r ∷ [])) ∙ ap (λ b. with_rows (filter own xs ++ cond b (r ∷ []) []) m) mine
      ∙ with_last (filter own xs) r m)

  pub left_out : (xs ys : List Record) (r : Record) (m : Contents) → ys ≡ xs ++ r ∷ [] → own r ≡ false → with_rows (filter own xs) m ≡ with_rows (filter own ys) m
  left_out xs ys r m is other =
      sym (ap (λ zs. with_rows (filter own zs) m) is ∙ ap (λ zs. with_rows zs m) (filter-append own xs (r ∷ [])) ∙ ap (λ b. with_rows (filter own xs ++ cond b (r ∷ []) []) m) other
      ∙ ap (λ zs. with_rows zs m) (append_nil (filter own xs)))

  -- none are left to be put
  pub all_put : (xs ys : List Record) (m n : Contents) → xs ≡ [] → with_rows (filter own xs) m ≡ with_rows (filter own ys) n → m ≡ with_rows (filter own ys) n
  all_put xs ys m n none is = sym (ap (λ zs. with_rows (filter own zs) m) none) ∙ is

-- one entry more
one_own : (own : Key → Bool) (e : Key × List Pair) (rest : List Record) (o : Option (List Pair)) (m : Contents) (q : Key) → get (with_rows rest m) q ≡ or_else (cond (own q) o None) (get m q)
    → get (with_rows (cond (own e.0) (record_of e ∷ rest) rest) m) q ≡ or_else (cond (own q) (cond (eq_by_cmp key_cmp q e.0) (Some e.1) o) None) (get m q)
one_own own e rest o m q later = elim (own e.0) as (λ b. own e.0 ≡ b → get (with_rows (cond b (record_of e ∷ rest) rest) m) q ≡ or_else (cond (own q) (cond (eq_by_cmp key_cmp q e.0) (Some e.1) o) None) (get m q)) [
  | true ↦ λ t.
      get-insert key_total (with_rows rest m) e.0 e.1 q ∙ ap (cond (eq_by_cmp key_cmp q e.0) (Some e.1)) later
      ∙ elim (eq_by_cmp key_cmp q e.0) as (λ b. eq_by_cmp key_cmp q e.0 ≡ b → cond b (Some e.1) (or_else (cond (own q) o None) (get m q)) ≡ or_else (cond (own q) (cond b (Some e.1) o) None) (get m q)) [
        | true ↦ λ s. sym (ap (λ b. or_else (cond b (Some e.1) None) (get m q)) (same_own s ∙ t))
        | false ↦ λ s. refl
      ] refl
  | false ↦ λ f.
      later
      ∙ elim (eq_by_cmp key_cmp q e.0) as (λ b. eq_by_cmp key_cmp q e.0 ≡ b → or_else (cond (own q) o None) (get m q) ≡ or_else (cond (own q) (cond b (Some e.1) o) None) (get m q)) [
        | true ↦ λ s. ap (λ b. or_else (cond b o None) (get m q)) (same_own s ∙ f) ∙ sym (ap (λ b. or_else (cond b (Some e.1) None) (get m q)) (same_own s ∙ f))
        | false ↦ λ s. refl
      ] refl
] refl
  where
    same_own : eq_by_cmp key_cmp q e.0 ≡ true → own q ≡ own e.0
    same_own s = ap own (key_exact q e.0 (equal_of (key_cmp q e.0) s))

-- what is at a key after the records of entries whose keys pass a test are put
own_get : (own : Key → Bool) (es : List (Key × List Pair)) (m : Contents) (q : Key) → get (with_rows (filter (λ r. own r.key) (map record_of es)) m) q ≡ or_else (cond (own q) (find key_cmp q es) None) (get m q)
own_get own [] m q = elim (own q) as (λ b. get m q ≡ or_else (cond b None None) (get m q)) [ true ↦ refl | false ↦ refl ]
own_get own (e ∷ es) m q = one_own own e (filter (λ r. own r.key) (map record_of es)) (find key_cmp q es) m q (own_get own es m q)

---- the boxes one after another

-- m has in the span what the boxes before one show there
abbrev pub HasGathered : Span → (Key → ℕ) → List Contents → ℕ → Contents → Type 0
HasGathered span home ms at m = (q : Key) → in_span span q ≡ true → get m q ≡ cond (nat_lt (home q) at) (get (held_at ms (home q)) q) None

pub none_gathered : (span : Span) (home : Key → ℕ) (ms : List Contents) (m : Contents) → m ≡ empty → HasGathered span home ms 0 m
none_gathered span home ms m is q h = ap (λ n. get n q) is ∙ get-empty key_cmp q ∙ sym (ap (λ b. cond b (get (held_at ms (home q)) q) None) (le-ltb (home q) 0 (omega arith)))

pub one_gathered : (span : Span) (home : Key → ℕ) (ms : List Contents) (at : ℕ) (m n : Contents) (rows : List Record) → rows ≡ rows_in span (held_at ms at) → n ≡ with_rows (filter (λ r. home r.key == at) rows) m → HasGathered span home ms at m → HasGathered span home ms (at + 1) n
one_gathered span home ms at m n rows are is before q h = now ∙ elim (cases_order (home q) at) [
  | inl same ↦
      ap (λ b. or_else (cond b (get (held_at ms at) q) None) (get m q)) (eq-eqb (home q) at same)
      ∙ ap (or_else (get (held_at ms at) q)) (before q h ∙ ap (λ b. cond b (get (held_at ms (home q)) q) None) (le-ltb (home q) at (omega (arith, same)))) ∙ or_none (get (held_at ms at) q)
      ∙ ap (λ i. get (held_at ms i) q) (sym same) ∙ sym (ap (λ b. cond b (get (held_at ms (home q)) q) None) (lt-ltb (home q) (at + 1) (omega (arith, same))))
  | inr other ↦ elim other [
    | inl less ↦
        ap (λ b. or_else (cond b (get (held_at ms at) q) None) (get m q)) (ne_eqb (home q) at (λ e. omega (arith, e, less)))
        ∙ before q h ∙ ap (λ b. cond b (get (held_at ms (home q)) q) None) (lt-ltb (home q) at less) ∙ sym (ap (λ b. cond b (get (held_at ms (home q)) q) None) (lt-ltb (home q) (at + 1) (omega (arith, less))))
    | inr more ↦
        ap (λ b. or_else (cond b (get (held_at ms at) q) None) (get m q)) (ne_eqb (home q) at (λ e. omega (arith, e, more)))
        ∙ before q h ∙ ap (λ b. cond b (get (held_at ms (home q)) q) None) (le-ltb (home q) at (omega (arith, more))) ∙ sym (ap (λ b. cond b (get (held_at ms (home q)) q) None) (le-ltb (home q) (at + 1) (omega (arith, more))))
  ]
]
  where
    now : get n q ≡ or_else (cond (home q == at) (get (held_at ms at) q) None) (get m q)
    now =
        ap (λ x. get x q) (is ∙ ap (λ rs. with_rows (filter (λ r. home r.key == at) rs) m) are)
        ∙ own_get (λ k. home k == at) (filter (λ e. in_span span e.0) (entries (held_at ms at))) m q
        ∙ ap (λ o. or_else (cond (home q == at) o None) (get m q)) (find_span span (held_at ms at) q ∙ ap (λ b. cond b (get (held_at ms at) q) None) h)

-- each home is the number of a box
pub home_below : (boxes : ℕ) (moved : BTreeMap Key ℕ) → AreHomes boxes moved → (k : Key) → home_of (tree.get key_cmp moved) boxes k < boxes
home_below boxes moved are k = by_option (tree.get key_cmp moved (partition_of k))
    (λ at e. subst (λ (o : Option ℕ). unwrap_or o (number_of (partition_of k) % boxes) < boxes) (sym e) (are.inside (partition_of k) at e))
    (λ e. subst (λ (o : Option ℕ). unwrap_or o (number_of (partition_of k) % boxes) < boxes) (sym e) (mod_below (number_of (partition_of k)) boxes are.some))

pub all_gathered : (span : Span) (moved : BTreeMap Key ℕ) (boxes : List Part) (count at : ℕ) (m : Contents) → AreHomes (length boxes) moved → count ≡ length boxes → at ≡ count → HasGathered span (home_of (tree.get key_cmp moved) count) (held_in boxes) at m
    → rows_in span m ≡ rows_in span (whole moved boxes)
all_gathered span moved boxes count at m are all end gathered = same_rows span m (whole moved boxes) (λ q h.
    subst (λ (n : ℕ). HasGathered span (home_of (tree.get key_cmp moved) n) (held_in boxes) at m) all gathered q h
    ∙ ap (λ b. cond b (get (held_at (held_in boxes) (home_of (tree.get key_cmp moved) (length boxes) q)) q) None) (lt-ltb (home_of (tree.get key_cmp moved) (length boxes) q) at (omega (arith, all, end, home_below (length boxes) moved are q)))
    ∙ sym (sharded_get (home_of (tree.get key_cmp moved) (length boxes)) (held_in boxes) q))

-- boxes that hold what they held
pub as_many : (old new : List Part) → held_in new ≡ held_in old → length new ≡ length old
as_many old new e = sym (length-map new contents_of) ∙ ap length e ∙ length-map old contents_of

pub same_held : (moved : BTreeMap Key ℕ) (old new : List Part) → held_in new ≡ held_in old → whole moved new ≡ whole moved old
same_held moved old new e = λ i. sharded (home_of (tree.get key_cmp moved) (as_many old new e i)) (e i)

pub homes_kept : (moved : BTreeMap Key ℕ) (old new : List Part) → length new ≡ length old → AreHomes (length old) moved → AreHomes (length new) moved
homes_kept moved old new e are = subst (λ (n : ℕ). AreHomes n moved) (sym e) are
