-- Even rows, printed, have no uneven pair.
use Rattle.std.proofs.Common.{◌≡◌, ℕ, zero, suc, ◌+◌, Bool, true, false, not, ◌&&◌, cond, List, [], ◌∷◌, take, drop, filter, Option, Some, None, refl, sym, ap, subst, ◌∙◌}
use Rattle.std.specs.Prelude.{count_by, fold, length, slice_get, take_while, unwrap_or, pos}
use Rattle.std.specs.List.{AllByRecursion, list_any}
use Rattle.std.specs.Cmp.{tied_itself}
use Rattle.std.specs.FinMap.{entries}
use Rattle.std.specs.Ordering.{is_eq, is_lt}
use Rattle.std.proofs.lemmas.List.Sums.{sum_by-cons}
use Rattle.sdb_bench.specs.Types.{Image, Pair, Table, TableName, Value}
use Rattle.sdb_types.specs.declared.value.Value.TheVariants as value
use Rattle.sdb_types.specs.Columns.{column}
use Rattle.sdb_types.specs.Exact.{equal_of}
use Rattle.sdb_types.specs.Order.{table_cmp, value_cmp}
use Rattle.sdb_types.specs.ValueLaws.{value_exact, value_total}
use Rattle.sdb_types.proofs.Public.{all_each, append_all, by_test, table_exact}
use Rattle.sdb_schema.specs.Order.{row_key_cmp}
use Rattle.sdb_model.specs.Exec.{Tables, all_rows, is_row_of, placed, row_of_entry, projected, sorted}
use Rattle.sdb_model.specs.Serial.{dump_of, dumps_of}
use Rattle.sdb_bench.specs.declared.side.Side.{Side}
use Rattle.sdb_bench.specs.declared.side.Side.TheVariants.{Left, Right}
use Rattle.sdb_bench.specs.Counts.{differ, is_at, is_uneven, same_found, uneven_in, uneven_of}
use Rattle.sdb_bench.specs.Draws.{numbers_below}
use Rattle.sdb_bench.specs.Setup.{bench_catalog, bench_table, v_name}
use Rattle.law_clients.proofs.Public.{take_all}
use Rattle.sdb_bench.proofs.Even.{AreCells, Chosen, IsCell, IsEven, IsOne, all_map}
use Rattle.law_clients.proofs.Public.{drop_all, take_all}

---- lists

all_filter : {A : Type 0} (P : A → Type 0) (p : A → Bool) (xs : List A) → AllByRecursion P xs → AllByRecursion (λ x. P x × (p x ≡ true)) (filter p xs)
all_filter P p [] h = tt
all_filter P p (x ∷ xs) h =
    by_test (p x)
    (λ e. rw e ((h.0, e), all_filter P p xs h.1))
    (λ e. rw e (all_filter P p xs h.1))

all_placed : (P : Image → Type 0) (t : Table) (xs : List Image) (r : Image) → P r → AllByRecursion P xs → AllByRecursion P (placed t xs r)
all_placed P t xs r one h =
    let k = length (take_while (λ (x : Image). is_lt (row_key_cmp t x.key r.key)) xs) in
    append_all P (take k xs) (r ∷ drop k xs) (take_all P k xs h) (one, drop_all P k xs h)

all_sorted : (P : Image → Type 0) (t : Table) (xs rs : List Image) → AllByRecursion P xs → AllByRecursion P rs → AllByRecursion P (fold (placed t) xs rs)
all_sorted P t xs [] h hs = h
all_sorted P t xs (r ∷ rs) h hs = all_sorted P t (placed t xs r) rs (all_placed P t xs r hs.0 h) hs.1

none_any : {A : Type 0} (p : A → Bool) (xs : List A) → AllByRecursion (λ x. p x ≡ false) xs → list_any p xs ≡ false
none_any p [] h = refl
none_any p (x ∷ xs) h = rw (h.0) (none_any p xs h.1)

none_counted : {A : Type 0} (p : A → Bool) (xs : List A) → ((x : A) → p x ≡ false) → count_by p xs ≡ 0
none_counted p [] h = refl
none_counted p (x ∷ xs) h = sum_by-cons (λ y. cond (p y) 1 0) x xs ∙ ap (λ (b : Bool). cond b 1 0 + count_by p xs) (h x) ∙ ap (λ (n : ℕ). 0 + n) (none_counted p xs h)

---- rows that are printed

-- a printed row's v is chosen by its p
pub record IsPrinted (g : Value → Value) (cells : List Value) : Type 0 where
  pub p : Value
  pub at_p : slice_get cells 1 ≡ Some p
  pub at_v : slice_get cells 2 ≡ Some (g p)

own_table : (side : Side) (table : TableName) → is_eq (table_cmp table (bench_table side).name) ≡ true → table ≡ (bench_table side).name
own_table side table own = table_exact table (bench_table side).name (equal_of (table_cmp table (bench_table side).name) own)

printed_row : (side : Side) (f : Chosen) (table : TableName) (ps cs : List Value) (columns : List Pair) → is_row_of (bench_table side) (record { key = record { table = table; partition = ps; clustering = cs }; columns = columns }) ≡ true
    → IsOne ps → column columns v_name ≡ Some (f table ps)
    → IsPrinted (λ x. f (bench_table side).name (x ∷ [])) (projected (bench_table side) None (record { key = record { table = table; partition = ps; clustering = cs }; columns = columns }))
printed_row side f table [] cs columns own one h = absurd one
printed_row side f table (x ∷ y ∷ xs) cs columns own one h = absurd one
printed_row side f table (x ∷ []) [] columns own one h =
    record { p = x; at_p = refl; at_v = ap (λ (o : Option Value). Some (unwrap_or o value.Null)) h ∙ ap (λ (name : TableName). Some (f name (x ∷ []))) (own_table side table own) }
printed_row side f table (x ∷ []) (c ∷ cs) columns own one h =
    record { p = x; at_p = refl; at_v = ap (λ (o : Option Value). Some (unwrap_or o value.Null)) h ∙ ap (λ (name : TableName). Some (f name (x ∷ []))) (own_table side table own) }

abbrev pub chosen_in : Side → Chosen → Value → Value
chosen_in side f x = f (bench_table side).name (x ∷ [])

abbrev pub IsCellRow : Chosen → Image → Type 0
IsCellRow f r = IsOne r.key.partition × (column r.columns v_name ≡ Some (f r.key.table r.key.partition))

rows_printed : (side : Side) (f : Chosen) (d : Tables) → AreCells f d → AllByRecursion (IsPrinted (chosen_in side f)) (dump_of d (bench_table side)).rows
rows_printed side f d h =
    let t = bench_table side in
    let images : AllByRecursion (IsCellRow f) (all_rows d) = all_map (IsCell f) (IsCellRow f) row_of_entry (λ e c. c) (entries d) h in
    let own = all_filter (IsCellRow f) (is_row_of t) (all_rows d) images in
    let Own : Image → Type 0 = λ r. IsCellRow f r × (is_row_of t r ≡ true) in
    all_map Own (IsPrinted (chosen_in side f)) (projected t None)
    (λ r c. printed_row side f r.key.table r.key.partition r.key.clustering r.columns c.1 c.0.0 c.0.1)
    (sorted t (filter (is_row_of t) (all_rows d)))
    (all_sorted Own t [] (filter (is_row_of t) (all_rows d)) tt own)

---- no two of them differ

itself : (x : Value) → is_eq (value_cmp x x) ≡ true
itself x = ap is_eq (tied_itself value_total x)

same_p : (p x y : Value) → is_eq (value_cmp x p) ≡ true → is_eq (value_cmp y p) ≡ true → x ≡ y
same_p p x y a b = value_exact x p (equal_of (value_cmp x p) a) ∙ sym (value_exact y p (equal_of (value_cmp y p) b))

apart : (g : Value → Value) (p x y : Value) (a b : Bool) → is_eq (value_cmp x p) ≡ a → is_eq (value_cmp y p) ≡ b → (a && b && not (is_eq (value_cmp (g x) (g y)))) ≡ false
apart g p x y true true ex ey =
    let one : x ≡ y = same_p p x y ex ey in
    ap not (subst (λ (z : Value). is_eq (value_cmp (g x) (g z)) ≡ true) one (itself (g x)))
apart g p x y true false ex ey = refl
apart g p x y false true ex ey = refl
apart g p x y false false ex ey = refl

no_difference : (g : Value → Value) (p : Value) (cells other : List Value) → IsPrinted g cells → IsPrinted g other → differ p cells other ≡ false
unfolding differ
no_difference g p cells other a b =
    ap (λ (o : Option Value). same_found o (Some p) && is_at p other && not (same_found (slice_get cells 2) (slice_get other 2))) a.at_p
    ∙ ap (λ (o : Option Value). same_found (Some a.p) (Some p) && same_found o (Some p) && not (same_found (slice_get cells 2) (slice_get other 2))) b.at_p
    ∙ ap (λ (o : Option Value). same_found (Some a.p) (Some p) && same_found (Some b.p) (Some p) && not (same_found o (slice_get other 2))) a.at_v
    ∙ ap (λ (o : Option Value). same_found (Some a.p) (Some p) && same_found (Some b.p) (Some p) && not (same_found (Some (g a.p)) o)) b.at_v
    ∙ apart g p a.p b.p (is_eq (value_cmp a.p p)) (is_eq (value_cmp b.p p)) refl refl

even_rows : (g : Value → Value) (rows : List (List Value)) → AllByRecursion (IsPrinted g) rows → (p : ℕ) → is_uneven rows p ≡ false
unfolding is_uneven
even_rows g rows h p =
    none_any (λ cells. list_any (differ (value.Int (pos p)) cells) rows) rows
    (all_each (IsPrinted g) (λ cells. list_any (differ (value.Int (pos p)) cells) rows ≡ false) rows
    (λ cells r. none_any (differ (value.Int (pos p)) cells) rows (all_each (IsPrinted g) (λ other. differ (value.Int (pos p)) cells other ≡ false) rows (λ other o. no_difference g (value.Int (pos p)) cells other r o) h))
    h)

even_dump : (side : Side) (f : Chosen) (d : Tables) → AreCells f d → uneven_in (dump_of d (bench_table side)) ≡ 0
unfolding uneven_in
even_dump side f d h = none_counted (is_uneven (dump_of d (bench_table side)).rows) (numbers_below 8) (even_rows (chosen_in side f) (dump_of d (bench_table side)).rows (rows_printed side f d h))

pub even_dumps : (d : Tables) → IsEven d → uneven_of (dumps_of bench_catalog d) ≡ 0
even_dumps d (f, h) =
    let left = even_dump Left f d h in
    let right = even_dump Right f d h in
    rw left (rw right refl)
