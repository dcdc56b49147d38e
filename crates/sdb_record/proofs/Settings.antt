-- What is read of columns in which others were set.
use Rattle.std.proofs.Common.{◌≡◌, ℕ, List, [], ◌∷◌, Bool, true, false, not, ◌&&◌, cond, refl, sym, ap, ◌∙◌, map, Some, None}
use Rattle.std.specs.Prelude.{find, filter, is_some}
use Rattle.std.specs.List.{list_all, cons_option}
use Rattle.std.specs.Option.{option_map}
use Rattle.sdb_types.specs.declared.pair.Pair.{Pair}
use Rattle.sdb_types.specs.Order.{name_cmp}
use Rattle.sdb_types.specs.Columns.{column, is_named, is_null, put_pair, with_column}
use Rattle.sdb_types.proofs.Public.{and_both, and_first, and_second, by_order, name_exact}
use Rattle.sdb_record.specs.Names.{same_name, base_name}
use Rattle.sdb_record.specs.Parts.{with_columns, before_pair, base_pair, before_part}
use Rattle.sdb_record.proofs.NameLemmas.{same_name-itself, same_name-true, base_name-before_name}
use Rattle.sdb_record.proofs.Within.{chosen}
use Rattle.sdb_record.proofs.Checked.{none-first, none-rest, none-make}
use Rattle.sdb_record.proofs.ColumnLaws.{stays, leaves, not_before}
use Rattle.std.proofs.lemmas.Bool.{not-true}

---- one column

pub column-put-same : (p : Pair) (es : List Pair) → column (put_pair p es) p.name ≡ Some p.value
column-put-same p [] = simp (same_name-itself p.name) refl
column-put-same p (e ∷ es) =
    by_order (name_cmp e.name p.name)
    (λ q. simp q (column-put-same p es))
    (λ q. simp (q, same_name-itself p.name) refl)
    (λ q. simp (q, same_name-itself p.name) refl)

pub column-put-other : (p : Pair) (es : List Pair) (name : List ℕ) → same_name p.name name ≡ false → column (put_pair p es) name ≡ column es name
column-put-other p [] name h = simp h refl
column-put-other p (e ∷ es) name h =
    by_order (name_cmp e.name p.name)
    (λ q. simp q (chosen (same_name e.name name) e e _ _ refl (column-put-other p es name h)))
    (λ q. let k : same_name e.name name ≡ false = ap (λ x. same_name x name) (name_exact e.name p.name q) ∙ h in simp (q, h, k) refl)
    (λ q. simp (q, h) refl)

---- tests that find nothing

pub none-put : (t : Pair → Bool) (p : Pair) (es : List Pair) → t p ≡ false → find t es ≡ None → find t (put_pair p es) ≡ None
none-put t p [] h k = none-make t p [] h refl
none-put t p (e ∷ es) h k =
    by_order (name_cmp e.name p.name)
    (λ q. simp q (none-make t e (put_pair p es) (none-first t e es k) (none-put t p es h (none-rest t e es k))))
    (λ q. simp q (none-make t p es h (none-rest t e es k)))
    (λ q. simp q (none-make t p (e ∷ es) h k))

pub none-filter : (t keep : Pair → Bool) (es : List Pair) → find t es ≡ None → find t (filter keep es) ≡ None
none-filter t keep [] k = refl
none-filter t keep (e ∷ es) k =
    let rest = none-filter t keep es (none-rest t e es k) in
    elim (keep e) as (λ b. find t (cond b (e ∷ filter keep es) (filter keep es)) ≡ None) [
      | true ↦ none-make t e (filter keep es) (none-first t e es k) rest
      | false ↦ rest
    ]

-- where each column that has a value fails a test
abbrev pub misses : (Pair → Bool) → Pair → Bool
misses t p = not (is_null p.value) && not (t p)

pub none-with_columns : (t : Pair → Bool) (xs es : List Pair) → list_all (misses t) xs ≡ true → find t es ≡ None → find t (with_columns xs es) ≡ None
none-with_columns t [] es h k = k
none-with_columns t (x ∷ xs) es h k =
    let here = and_first (misses t x) (list_all (misses t) xs) h in
    let full : is_null x.value ≡ false = not-true (is_null x.value) (and_first (not (is_null x.value)) (not (t x)) here) in
    let no : t x ≡ false = not-true (t x) (and_second (not (is_null x.value)) (not (t x)) here) in
    let put : find t (with_column x es) ≡ None = simp full (none-put t x es no k) in
    none-with_columns t xs (with_column x es) (and_second (misses t x) (list_all (misses t) xs) h) put

---- all columns

pub all-put : (t : Pair → Bool) (p : Pair) (es : List Pair) → t p ≡ true → list_all t es ≡ true → list_all t (put_pair p es) ≡ true
all-put t p [] h k = and_both (t p) true h refl
all-put t p (e ∷ es) h k =
    let here = and_first (t e) (list_all t es) k in
    let rest = and_second (t e) (list_all t es) k in
    by_order (name_cmp e.name p.name)
    (λ q. simp q (and_both (t e) _ here (all-put t p es h rest)))
    (λ q. simp q (and_both (t p) _ h rest))
    (λ q. simp q (and_both (t p) _ h k))

pub all-filter : (t keep : Pair → Bool) (es : List Pair) → list_all t es ≡ true → list_all t (filter keep es) ≡ true
all-filter t keep [] k = refl
all-filter t keep (e ∷ es) k =
    let rest = all-filter t keep es (and_second (t e) (list_all t es) k) in
    elim (keep e) as (λ b. list_all t (cond b (e ∷ filter keep es) (filter keep es)) ≡ true) [
      | true ↦ and_both (t e) _ (and_first (t e) (list_all t es) k) rest
      | false ↦ rest
    ]

abbrev pub has_both : (Pair → Bool) → Pair → Bool
has_both t p = not (is_null p.value) && t p

pub all-with_columns : (t : Pair → Bool) (xs es : List Pair) → list_all (has_both t) xs ≡ true → list_all t es ≡ true → list_all t (with_columns xs es) ≡ true
all-with_columns t [] es h k = k
all-with_columns t (x ∷ xs) es h k =
    let here = and_first (has_both t x) (list_all (has_both t) xs) h in
    let full : is_null x.value ≡ false = not-true (is_null x.value) (and_first (not (is_null x.value)) (t x) here) in
    let put : list_all t (with_column x es) ≡ true = simp full (all-put t x es (and_second (not (is_null x.value)) (t x) here) k) in
    all-with_columns t xs (with_column x es) (and_second (has_both t x) (list_all (has_both t) xs) h) put

---- parts

pub filter-put : (keep : List ℕ → Bool) (p : Pair) (es : List Pair) → keep p.name ≡ false → filter (λ x. keep x.name) (put_pair p es) ≡ filter (λ x. keep x.name) es
filter-put keep p [] h = simp h refl
filter-put keep p (e ∷ es) h =
    by_order (name_cmp e.name p.name)
    (λ q. simp q (ap (λ l. cond (keep e.name) (e ∷ l) l) (filter-put keep p es h)))
    (λ q. let k : keep e.name ≡ false = ap keep (name_exact e.name p.name q) ∙ h in simp (q, h, k) refl)
    (λ q. simp (q, h) refl)

pub filter-with_columns : (keep : List ℕ → Bool) (xs es : List Pair) → list_all (leaves keep) xs ≡ true → filter (λ x. keep x.name) (with_columns xs es) ≡ filter (λ x. keep x.name) es
filter-with_columns keep [] es h = refl
filter-with_columns keep (x ∷ xs) es h =
    let here = and_first (leaves keep x) (list_all (leaves keep) xs) h in
    let full : is_null x.value ≡ false = not-true (is_null x.value) (and_first (not (is_null x.value)) (not (keep x.name)) here) in
    let no : keep x.name ≡ false = not-true (keep x.name) (and_second (not (is_null x.value)) (not (keep x.name)) here) in
    let put : filter (λ y. keep y.name) (with_column x es) ≡ filter (λ y. keep y.name) es = simp full (filter-put keep x es no) in
    filter-with_columns keep xs (with_column x es) (and_second (leaves keep x) (list_all (leaves keep) xs) h) ∙ put

pub filter-all : (t : Pair → Bool) (es : List Pair) → list_all t es ≡ true → filter t es ≡ es
filter-all t [] h = refl
filter-all t (e ∷ es) h = simp (and_first (t e) (list_all t es) h) (ap (λ l. e ∷ l) (filter-all t es (and_second (t e) (list_all t es) h)))

pub no_before : (name : List ℕ) → not_before name ≡ true → base_name name ≡ None
no_before name h =
    elim (base_name name) as (λ o. not (is_some o) ≡ true → o ≡ None) [
      | None ↦ λ k. refl
      | Some n ↦ λ k. absurd (cc)
    ] h

pub before_part-put : (p : Pair) (es : List Pair) → base_name p.name ≡ None → before_part (put_pair p es) ≡ before_part es
before_part-put p [] h = simp h refl
before_part-put p (e ∷ es) h =
    by_order (name_cmp e.name p.name)
    (λ q. simp q (ap (cons_option (base_pair e)) (before_part-put p es h)))
    (λ q. let k : base_name e.name ≡ None = ap base_name (name_exact e.name p.name q) ∙ h in simp (q, h, k) refl)
    (λ q. simp (q, h) refl)

pub before_part-with_columns : (xs es : List Pair) → list_all (stays not_before) xs ≡ true → before_part (with_columns xs es) ≡ before_part es
before_part-with_columns [] es h = refl
before_part-with_columns (x ∷ xs) es h =
    let here = and_first (stays not_before x) (list_all (stays not_before) xs) h in
    let full : is_null x.value ≡ false = not-true (is_null x.value) (and_first (not (is_null x.value)) (not_before x.name) here) in
    let no : base_name x.name ≡ None = no_before x.name (and_second (not (is_null x.value)) (not_before x.name) here) in
    let put : before_part (with_column x es) ≡ before_part es = simp full (before_part-put x es no) in
    before_part-with_columns xs (with_column x es) (and_second (stays not_before x) (list_all (stays not_before) xs) h) ∙ put

pub before_part-kept : (ps : List Pair) → before_part (map before_pair ps) ≡ ps
before_part-kept [] = refl
before_part-kept (p ∷ ps) = simp (base_name-before_name p.name) (ap (λ l. p ∷ l) (before_part-kept ps))

pub other_name : (keep : List ℕ → Bool) (a b : List ℕ) → keep a ≡ false → keep b ≡ true → same_name a b ≡ false
other_name keep a b h k =
    elim (same_name a b) as (λ c. same_name a b ≡ c → c ≡ false) [
      | true ↦ λ q. let e : keep a ≡ keep b = ap keep (same_name-true a b q) in absurd (cc)
      | false ↦ λ q. refl
    ] refl

-- a column that a filter by names keeps
pub column-filter : (keep : List ℕ → Bool) (es : List Pair) (name : List ℕ) → keep name ≡ true → column (filter (λ x. keep x.name) es) name ≡ column es name
column-filter keep [] name h = refl
column-filter keep (e ∷ es) name h =
    elim (keep e.name) as (λ b. keep e.name ≡ b → column (filter (λ x. keep x.name) (e ∷ es)) name ≡ column (e ∷ es) name) [
      | true ↦ λ q. simp q (chosen (same_name e.name name) e e _ _ refl (column-filter keep es name h))
      | false ↦ λ q. simp q (column-filter keep es name h ∙ sym (ap (λ b. option_map (λ (x : Pair). x.value) (cond b (Some e) (find (is_named name) es))) (other_name keep e.name name q h)))
    ] refl
