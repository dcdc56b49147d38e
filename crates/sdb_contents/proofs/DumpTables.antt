-- The rows of records are those of plain tables.
use Rattle.std.proofs.Common.{◌≡◌, ◌∙◌, Bool, true, false, cond, List, [], ◌∷◌, Option, Some, None, refl, sym, ap, subst}
use Rattle.std.specs.Prelude.{T, filter, map}
use Rattle.std.specs.FinMap.{entries, entries_sorted, find, get, get-entries}
use Rattle.std.specs.FinMap.Entries.{below_all, find-where_key, is_sorted, is_sorted-where_key, same_entries, where_key}
use Rattle.std.specs.List.{cons_option, filter_map}
use Rattle.std.specs.Option.{option_map, option_and_then}
use Rattle.std.specs.Ordering.{eq_by_cmp, is_eq, is_lt}
use Rattle.std.specs.Cmp.{tied_itself}
use Rattle.sdb_contents.specs.Types.{Image, Key, Ordering, Pair, Record, Table, TableName}
use Rattle.std.specs.declared.cmp.Ordering.TheVariants.{Less, Equal, Greater}
use Rattle.sdb_types.specs.Contents.{Contents, in_span, record_at, record_of, rows_in}
use Rattle.sdb_types.specs.Exact.{equal_of}
use Rattle.sdb_types.specs.Order.{key_cmp, table_cmp}
use Rattle.sdb_types.proofs.Public.{and_true as inside_is, both_t, by_test, clash as true_false, first_t, key_exact, key_total, second_t, table_exact, table_total}
use Rattle.sdb_model.specs.Exec.{Tables, all_rows, is_row_of, row_of_entry}
use Rattle.sdb_contents.specs.Opening.{whole}

abbrev pub Entry : Type 0
Entry = Key × List Pair

-- a key of the table
abbrev pub of_table : Table → Key → Bool
of_table t key = in_span (whole t.name) key

same_key : (a b : Key) → eq_by_cmp key_cmp a b ≡ true → a ≡ b
same_key a b t = key_exact a b (equal_of (key_cmp a b) t)

not_equal : (o : Ordering) → T (is_lt o) → is_eq o ≡ false
not_equal Less h = refl
not_equal Equal h = absurd h
not_equal Greater h = absurd h

none_below : (k : Key) (es : List Entry) → T (below_all key_cmp k es) → find key_cmp k es ≡ None
none_below k [] h = refl
none_below k (e ∷ es) h = ap (λ (b : Bool). cond b (Some e.1) (find key_cmp k es)) (not_equal (key_cmp k e.0) (first_t _ _ h)) ∙ none_below k es (second_t _ _ h)

-- the entries of the table
abbrev entries_of : Table → List Entry → List Entry
entries_of t es = where_key key_cmp (of_table t) es

found_of : (t : Table) (q : Key) (es : List Entry) → find key_cmp q (entries_of t es) ≡ cond (of_table t q) (find key_cmp q es) None
found_of t q es = find-where_key key_cmp (of_table t) q (λ x same. ap (of_table t) (sym (key_exact q x same))) es

turned : (a b : TableName) → is_eq (table_cmp a b) ≡ is_eq (table_cmp b a)
turned a b =
    by_test (is_eq (table_cmp a b))
    (λ t. let same = table_exact a b (equal_of (table_cmp a b) t) in t ∙ sym (ap (λ (x : TableName). is_eq (table_cmp b x)) same ∙ ap is_eq (tied_itself table_total b)))
    (λ t. t ∙ sym (by_test (is_eq (table_cmp b a)) (λ u. true_false (sym (sym (ap (λ (x : TableName). is_eq (table_cmp x b)) (table_exact b a (equal_of (table_cmp b a) u)) ∙ t) ∙ ap is_eq (tied_itself table_total b)))) (λ u. u)))

rows_of_table : (t : Table) (es : List Entry) → filter (is_row_of t) (map row_of_entry es) ≡ map row_of_entry (entries_of t es)
rows_of_table t [] = refl
rows_of_table t (e ∷ es) =
    let here : is_row_of t (row_of_entry e) ≡ of_table t e.0 = turned e.0.table t.name ∙ sym (inside_is (is_eq (table_cmp t.name e.0.table))) in
    ap (λ (b : Bool). cond b (row_of_entry e ∷ filter (is_row_of t) (map row_of_entry es)) (filter (is_row_of t) (map row_of_entry es))) here
    ∙ by_one (of_table t e.0) (rows_of_table t es)
  where
    by_one : (b : Bool) → filter (is_row_of t) (map row_of_entry es) ≡ map row_of_entry (entries_of t es) → cond b (row_of_entry e ∷ filter (is_row_of t) (map row_of_entry es)) (filter (is_row_of t) (map row_of_entry es)) ≡ map row_of_entry (cond b (e ∷ entries_of t es) (entries_of t es))
    by_one true rest = ap (λ rs. row_of_entry e ∷ rs) rest
    by_one false rest = rest

---- the rows that records have

-- the row of an entry's record, where it has one
abbrev row_entry : (Record → Option (List Pair)) → Entry → Option Entry
row_entry row e = option_map (λ columns. (e.0, columns)) (row (record_of e))

below_rows : (row : Record → Option (List Pair)) (k : Key) (es : List Entry) → T (below_all key_cmp k es) → T (below_all key_cmp k (filter_map (row_entry row) es))
below_rows row k [] h = tt
below_rows row k (e ∷ es) h = with_row (below_rows row k es (second_t _ _ h)) (row (record_of e))
  where
    with_row : T (below_all key_cmp k (filter_map (row_entry row) es)) → (o : Option (List Pair)) → T (below_all key_cmp k (cons_option (option_map (λ columns. (e.0, columns)) o) (filter_map (row_entry row) es)))
    with_row rest None = rest
    with_row rest (Some columns) = both_t _ _ (first_t _ _ h) rest

sorted_rows : (row : Record → Option (List Pair)) (es : List Entry) → T (is_sorted key_cmp es) → T (is_sorted key_cmp (filter_map (row_entry row) es))
sorted_rows row [] h = tt
sorted_rows row (e ∷ es) h = with_row (sorted_rows row es (second_t _ _ h)) (row (record_of e))
  where
    with_row : T (is_sorted key_cmp (filter_map (row_entry row) es)) → (o : Option (List Pair)) → T (is_sorted key_cmp (cons_option (option_map (λ columns. (e.0, columns)) o) (filter_map (row_entry row) es)))
    with_row rest None = rest
    with_row rest (Some columns) = both_t _ _ (below_rows row e.0 es (first_t _ _ h)) rest

abbrev row_at_key : (Record → Option (List Pair)) → Key → Option (List Pair) → Option (List Pair)
row_at_key row q found = option_and_then (λ columns. row (record_of (q, columns))) found

find_rows : (row : Record → Option (List Pair)) (q : Key) (es : List Entry) → T (is_sorted key_cmp es) → find key_cmp q (filter_map (row_entry row) es) ≡ row_at_key row q (find key_cmp q es)
find_rows row q [] h = refl
find_rows row q (e ∷ es) h =
    let rest = find_rows row q es (second_t _ _ h) in
    by_test (eq_by_cmp key_cmp q e.0)
    (λ t. let none : find key_cmp q es ≡ None = none_below q es (subst (λ (k : Key). T (below_all key_cmp k es)) (sym (same_key q e.0 t)) (first_t _ _ h)) in
    here t (rest ∙ ap (row_at_key row q) none) (row (record_of e)) ∙ ap (λ (k : Key). row (record_of (k, e.1))) (sym (same_key q e.0 t)) ∙ sym (ap (λ (b : Bool). row_at_key row q (cond b (Some e.1) (find key_cmp q es))) t))
    (λ t. passed t (row (record_of e)) ∙ rest ∙ sym (ap (λ (b : Bool). row_at_key row q (cond b (Some e.1) (find key_cmp q es))) t))
  where
    here : eq_by_cmp key_cmp q e.0 ≡ true → find key_cmp q (filter_map (row_entry row) es) ≡ None → (o : Option (List Pair)) → find key_cmp q (cons_option (option_map (λ columns. (e.0, columns)) o) (filter_map (row_entry row) es)) ≡ o
    here t none None = none
    here t none (Some columns) = ap (λ (b : Bool). cond b (Some columns) (find key_cmp q (filter_map (row_entry row) es))) t

    passed : eq_by_cmp key_cmp q e.0 ≡ false → (o : Option (List Pair)) → find key_cmp q (cons_option (option_map (λ columns. (e.0, columns)) o) (filter_map (row_entry row) es)) ≡ find key_cmp q (filter_map (row_entry row) es)
    passed t None = refl
    passed t (Some columns) = ap (λ (b : Bool). cond b (Some columns) (find key_cmp q (filter_map (row_entry row) es))) t

-- the tables have at each key of a table the row of the record there, and no other
pub record AgreeOn (row : Record → Option (List Pair)) (t : Table) (m : Contents) (d : Tables) : Type 0 where
  pub at : (key : Key) → of_table t key ≡ true → get d key ≡ option_and_then row (record_at m key)

same_row : (row : Record → Option (List Pair)) (q : Key) (b : Bool) (found : Option (List Pair)) → row_at_key row q (cond b found None) ≡ cond b (option_and_then row (option_map (λ columns. record_of (q, columns)) found)) None
same_row row q true None = refl
same_row row q true (Some columns) = refl
same_row row q false found = refl

entries_are : (row : Record → Option (List Pair)) (t : Table) (m : Contents) (d : Tables) → AgreeOn row t m d → entries_of t (entries d) ≡ filter_map (row_entry row) (entries_of t (entries m))
entries_are row t m d agree =
    let ordered = is_sorted-where_key key_cmp (of_table t) (entries m) (entries_sorted m) in
    same_entries key_cmp key_total key_exact (entries_of t (entries d)) (filter_map (row_entry row) (entries_of t (entries m)))
    (is_sorted-where_key key_cmp (of_table t) (entries d) (entries_sorted d)) (sorted_rows row (entries_of t (entries m)) ordered)
    (λ q. found_of t q (entries d) ∙ ap (λ (found : Option (List Pair)). cond (of_table t q) found None) (sym (get-entries d q))
    ∙ by_test (of_table t q)
    (λ inside. ap (λ (b : Bool). cond b (get d q) None) inside ∙ agree.at q inside ∙ sym (ap (λ (b : Bool). cond b (option_and_then row (record_at m q)) None) inside))
    (λ out. ap (λ (b : Bool). cond b (get d q) None) out ∙ sym (ap (λ (b : Bool). cond b (option_and_then row (record_at m q)) None) out))
    ∙ sym (
    find_rows row q (entries_of t (entries m)) ordered ∙ ap (row_at_key row q) (found_of t q (entries m))
    ∙ ap (λ (found : Option (List Pair)). row_at_key row q (cond (of_table t q) found None)) (sym (get-entries m q))
    ∙ same_row row q (of_table t q) (get m q)))

rows_are : (row : Record → Option (List Pair)) (es : List Entry) → map row_of_entry (filter_map (row_entry row) es) ≡ filter_map (λ r. option_map (λ columns. record { key = r.key; columns = columns }) (row r)) (map record_of es)
rows_are row [] = refl
rows_are row (e ∷ es) = with_row (rows_are row es) (row (record_of e))
  where
    with_row : map row_of_entry (filter_map (row_entry row) es) ≡ filter_map (λ r. option_map (λ columns. record { key = r.key; columns = columns }) (row r)) (map record_of es) → (o : Option (List Pair))
        → map row_of_entry (cons_option (option_map (λ columns. (e.0, columns)) o) (filter_map (row_entry row) es)) ≡ cons_option (option_map (λ columns. record { key = e.0; columns = columns }) o) (filter_map (λ r. option_map (λ columns. record { key = r.key; columns = columns }) (row r)) (map record_of es))
    with_row rest None = rest
    with_row rest (Some columns) = ap (λ (rs : List Image). record { key = e.0; columns = columns } ∷ rs) rest

-- the rows of a table are those that its records have, in the order of their keys
pub table_rows : (row : Record → Option (List Pair)) (t : Table) (m : Contents) (d : Tables) → AgreeOn row t m d → filter (is_row_of t) (all_rows d) ≡ filter_map (λ r. option_map (λ columns. record { key = r.key; columns = columns }) (row r)) (rows_in (whole t.name) m)
table_rows row t m d agree = rows_of_table t (entries d) ∙ ap (map row_of_entry) (entries_are row t m d agree) ∙ rows_are row (entries_of t (entries m))
