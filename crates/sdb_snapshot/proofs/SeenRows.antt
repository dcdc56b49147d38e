-- The rows that a transaction sees are the rows of tables.
use Rattle.std.proofs.Common.{◌≡◌, Bool, true, false, ◌||◌, cond, List, [], ◌∷◌, ◌++◌, map, Option, Some, None, refl, sym, ap, subst, ◌∙◌}
use Rattle.std.specs.Prelude.{is_some, filter, T}
use Rattle.std.specs.List.{list_all}
use Rattle.std.specs.Option.{option_and_then}
use Rattle.std.specs.Ordering.{is_eq, is_lt}
use Rattle.std.specs.Cmp.{eq_by_cmp_equiv}
use Rattle.std.specs.FinMap.{get, entries, entries_sorted, find, is_sorted, get-entries, get-empty, get-insert, get-remove, same_map}
use Rattle.std.specs.FinMap.Entries.{below_all, where_key, is_sorted-where_key, find-where_key, same_entries}
use Rattle.sdb_snapshot.specs.Types.{Access, Image, Key, Keyed, Pair, Record, Span, Write}
use Rattle.sdb_types.specs.Order.{key_cmp, same_key}
use Rattle.sdb_types.specs.Exact.{equal_of}
use Rattle.sdb_types.specs.Contents.{in_span, starts_after, rise, are_rows_of}
use Rattle.sdb_types.proofs.Public.{and_first, and_second, both_t as t_two, by_test, cond_some as each, key_exact, key_total, less_of, same_key_exact, same_key_is, starts_trans, t_both}
use Rattle.sdb_snapshot.specs.Entries.{value_at}
use Rattle.sdb_record.specs.declared.access.Access.TheVariants as access
use Rattle.sdb_record.specs.Rolls.{row_of_change}
use Rattle.sdb_record.specs.Among.{write_among}
use Rattle.sdb_model.specs.Exec.{Tables, all_rows, row_of_entry}
use Rattle.sdb_snapshot.specs.Reads.{ReadRecord, is_key_read, base_at, has_key, AreKeysOf}
use Rattle.sdb_snapshot.specs.Written.{with_write, with_writes, with_change_of, write_of}
use Rattle.sdb_model.specs.Access.{in_access, rows_at, with_row, with_changes}
use Rattle.sdb_snapshot.specs.Rows.{with_own, row_found, tables_of_reads}
use Rattle.sdb_snapshot.specs.Sets.{WereRead}
use Rattle.sdb_snapshot.specs.Seen.{Seen, tables_seen, overlay, Agrees, row_with, row_seen, images_with, images_at}
use Rattle.sdb_model.proofs.Public.{where_rows}

---- what tables have at a key

get-with_row : (d : Tables) (k : Key) (o : Option (List Pair)) (q : Key) → get (with_row d k o) q ≡ cond (is_eq (key_cmp q k)) o (get d q)
get-with_row d k None q = get-remove key_total d k q
get-with_row d k (Some c) q = get-insert key_total d k c q

found_step : (b : Bool) (f : Option Record) (o : Option (Option Record)) → cond b (row_found f) (row_found (option_and_then (λ x. x) o)) ≡ row_found (option_and_then (λ x. x) (cond b (Some f) o))
found_step true f o = refl
found_step false f o = refl

pub get_notes : (read_set : List ReadRecord) (q : Key) → get (tables_of_reads read_set) q ≡ row_found (base_at read_set q)
get_notes [] q = get-empty key_cmp q
get_notes (e ∷ es) q =
    get-with_row (tables_of_reads es) e.0 (row_found e.1) q
    ∙ ap (λ b. cond b (row_found e.1) (get (tables_of_reads es) q)) (sym (same_key_is q e.0))
    ∙ ap (λ o. cond (same_key q e.0) (row_found e.1) o) (get_notes es q)
    ∙ found_step (same_key q e.0) e.1 (value_at es q)

abbrev pub own_row : Option Write → Option (List Pair) → Option (List Pair)
own_row None o = o
own_row (Some w) o = row_of_change w.change

own_step : (b : Bool) (w : Write) (x : Option Write) (o : Option (List Pair)) → cond b (row_of_change w.change) (own_row x o) ≡ own_row (cond b (Some w) x) o
own_step true w x o = refl
own_step false w x o = refl

pub get_own : (d : Tables) (ws : List Write) (q : Key) → get (with_own d ws) q ≡ own_row (write_among ws q) (get d q)
get_own d [] q = refl
get_own d (w ∷ ws) q =
    get-with_row (with_own d ws) w.key (row_of_change w.change) q
    ∙ ap (λ b. cond b (row_of_change w.change) (get (with_own d ws) q)) (sym (same_key_is q w.key))
    ∙ ap (λ o. cond (same_key q w.key) (row_of_change w.change) o) (get_own d ws q)
    ∙ own_step (same_key q w.key) w (write_among ws q) (get d q)

row_is : (x : Option Write) (found : Option Record) → own_row x (row_found found) ≡ row_with x found
row_is None found = refl
row_is (Some w) found = refl

pub get_seen : (read_set : List ReadRecord) (ws : List Write) (q : Key) → get (with_own (tables_of_reads read_set) ws) q ≡ row_seen read_set ws q
get_seen read_set ws q = get_own (tables_of_reads read_set) ws q ∙ ap (own_row (write_among ws q)) (get_notes read_set q) ∙ row_is (write_among ws q) (base_at read_set q)

---- rows at the keys of an access

find_at : (p : Key → Bool) (d : Tables) (q : Key) → find key_cmp q (where_key key_cmp p (entries d)) ≡ cond (p q) (get d q) None
find_at p d q = find-where_key key_cmp p q (λ x e. ap p (sym (key_exact q x e))) (entries d) ∙ ap (λ o. cond (p q) o None) (sym (get-entries d q))

-- entries in order, found as the tables have them at the keys of an access, are its rows
entries_at : (p : Key → Bool) (d : Tables) (es : List (Key × List Pair)) → T (is_sorted key_cmp es) → ((q : Key) → find key_cmp q es ≡ cond (p q) (get d q) None) → map row_of_entry es ≡ filter (λ r. p r.key) (all_rows d)
entries_at p d es sorted h =
    ap (map row_of_entry) (same_entries key_cmp key_total key_exact es (where_key key_cmp p (entries d)) sorted (is_sorted-where_key key_cmp p (entries d) (entries_sorted d)) (λ q. h q ∙ sym (find_at p d q)))
    ∙ sym (where_rows p (entries d))

-- tables that agree at the keys of an access have the same rows there
pub agree_rows : (a : Access) (d e : Tables) → ((q : Key) → in_access a q ≡ true → get d q ≡ get e q) → rows_at a d ≡ rows_at a e
agree_rows a d e h =
    where_rows (in_access a) (entries d)
    ∙ entries_at (in_access a) e (where_key key_cmp (in_access a) (entries d)) (is_sorted-where_key key_cmp (in_access a) (entries d) (entries_sorted d))
    (λ q. find_at (in_access a) d q ∙ each (in_access a q) (get d q) (get e q) (h q))

---- images of keys in order

abbrev pub pairs_with : Key → Option (List Pair) → List (Key × List Pair)
pairs_with key None = []
pairs_with key (Some columns) = (key, columns) ∷ []

abbrev pub pairs_at : (Key → Option (List Pair)) → List Record → List (Key × List Pair)
pairs_at f [] = []
pairs_at f (r ∷ rs) = pairs_with r.key (f r.key) ++ pairs_at f rs

images_step : (k : Key) (o : Option (List Pair)) (xs : List Image) (ps : List (Key × List Pair)) → xs ≡ map row_of_entry ps → images_with k o ++ xs ≡ map row_of_entry (pairs_with k o ++ ps)
images_step k None xs ps e = e
images_step k (Some c) xs ps e = ap (λ ys. record { key = k; columns = c } ∷ ys) e

images_are : (f : Key → Option (List Pair)) (rs : List Record) → images_at f rs ≡ map row_of_entry (pairs_at f rs)
images_are f [] = refl
images_are f (r ∷ rs) = images_step r.key (f r.key) (images_at f rs) (pairs_at f rs) (images_are f rs)

none_of : {X : Type 0} (b : Bool) → ◌≡◌ {A = Option X} (cond b None None) None
none_of true = refl
none_of false = refl

find_step : (t : Bool) (o : Option (List Pair)) (k q : Key) (ps : List (Key × List Pair)) (has : Bool) (fq : Option (List Pair)) → is_eq (key_cmp q k) ≡ t → (t ≡ true → fq ≡ o) → find key_cmp q ps ≡ cond has fq None
    → find key_cmp q (pairs_with k o ++ ps) ≡ cond (t || has) fq None
find_step true (Some c) k q ps has fq e is rest = ap (λ b. cond b (Some c) (find key_cmp q ps)) e ∙ sym (is refl)
find_step true None k q ps has fq e is rest = rest ∙ ap (λ o. cond has o None) (is refl) ∙ none_of has ∙ sym (is refl)
find_step false (Some c) k q ps has fq e is rest = ap (λ b. cond b (Some c) (find key_cmp q ps)) e ∙ rest
find_step false None k q ps has fq e is rest = rest

find_pairs : (f : Key → Option (List Pair)) (rs : List Record) (q : Key) → find key_cmp q (pairs_at f rs) ≡ cond (has_key rs q) (f q) None
find_pairs f [] q = refl
find_pairs f (r ∷ rs) q =
    find_step (is_eq (key_cmp q r.key)) (f r.key) r.key q (pairs_at f rs) (has_key rs q) (f q) refl (λ t. ap f (key_exact q r.key (equal_of (key_cmp q r.key) t))) (find_pairs f rs q)

below_step : (x k : Key) (o : Option (List Pair)) (ps : List (Key × List Pair)) → is_lt (key_cmp x k) ≡ true → T (below_all key_cmp x ps) → T (below_all key_cmp x (pairs_with k o ++ ps))
below_step x k None ps h g = g
below_step x k (Some c) ps h g = t_both (is_lt (key_cmp x k)) (below_all key_cmp x ps) h g

below_pairs : (f : Key → Option (List Pair)) (x : Key) (rs : List Record) → starts_after x rs ≡ true → rise rs ≡ true → T (below_all key_cmp x (pairs_at f rs))
below_pairs f x [] h g = tt
below_pairs f x (r ∷ rs) h g =
    below_step x r.key (f r.key) (pairs_at f rs) h
    (below_pairs f x rs (starts_trans x r.key rs (less_of (key_cmp x r.key) h) (and_first (starts_after r.key rs) (rise rs) g)) (and_second (starts_after r.key rs) (rise rs) g))

sorted_step : (k : Key) (o : Option (List Pair)) (ps : List (Key × List Pair)) → T (below_all key_cmp k ps) → T (is_sorted key_cmp ps) → T (is_sorted key_cmp (pairs_with k o ++ ps))
sorted_step k None ps h g = g
sorted_step k (Some c) ps h g = t_two (below_all key_cmp k ps) (is_sorted key_cmp ps) h g

sorted_pairs : (f : Key → Option (List Pair)) (rs : List Record) → rise rs ≡ true → T (is_sorted key_cmp (pairs_at f rs))
sorted_pairs f [] h = tt
sorted_pairs f (r ∷ rs) h =
    let first = and_first (starts_after r.key rs) (rise rs) h in
    let second = and_second (starts_after r.key rs) (rise rs) h in
    sorted_step r.key (f r.key) (pairs_at f rs) (below_pairs f r.key rs first second) (sorted_pairs f rs second)

---- the overlay

has_inside : (span : Span) (rs : List Record) (q : Key) → list_all (λ r. in_span span r.key) rs ≡ true → has_key rs q ≡ true → in_span span q ≡ true
has_inside span [] q all h = absurd (cc)
has_inside span (r ∷ rs) q all h =
    by_test (is_eq (key_cmp q r.key))
    (λ t. subst (λ (k : Key). in_span span k ≡ true) (sym (key_exact q r.key (equal_of (key_cmp q r.key) t))) (and_first (in_span span r.key) (list_all (λ s. in_span span s.key) rs) all))
    (λ t. has_inside span rs q (and_second (in_span span r.key) (list_all (λ s. in_span span s.key) rs) all) (sym (ap (λ b. b || has_key rs q) t) ∙ h))

same_found : (inside has : Bool) (o : Option (List Pair)) → (has ≡ true → inside ≡ true) → (inside ≡ true → is_some o ≡ true → has ≡ true) → cond has o None ≡ cond inside o None
same_found true true o h g = refl
same_found false false o h g = refl
same_found true false None h g = refl
same_found true false (Some c) h g = let no : false ≡ true = g refl refl in absurd (cc)
same_found false true o h g = let no : false ≡ true = h refl in absurd (cc)

pub shown_span : (f : Key → Option (List Pair)) (d : Tables) (span : Span) (ks : List Record) → are_rows_of span ks ≡ true → ((q : Key) → get d q ≡ f q) → ((q : Key) → in_span span q ≡ true → is_some (f q) ≡ true → has_key ks q ≡ true)
    → images_at f ks ≡ rows_at (access.Scan span) d
shown_span f d span ks rows is all =
    let rising = and_first (rise ks) (list_all (λ r. in_span span r.key) ks) rows in
    let inside = and_second (rise ks) (list_all (λ r. in_span span r.key) ks) rows in
    images_are f ks ∙ entries_at (in_span span) d (pairs_at f ks) (sorted_pairs f ks rising) (λ q.
    find_pairs f ks q ∙ same_found (in_span span q) (has_key ks q) (f q) (has_inside span ks q inside) (all q) ∙ ap (λ o. cond (in_span span q) o None) (sym (is q)))

one_sorted : (k : Key) (o : Option (List Pair)) → T (is_sorted key_cmp (pairs_with k o))
one_sorted k None = tt
one_sorted k (Some c) = tt

one_found : (k q : Key) (o : Option (List Pair)) → find key_cmp q (pairs_with k o) ≡ cond (is_eq (key_cmp q k)) o None
one_found k q None = sym (none_of (is_eq (key_cmp q k)))
one_found k q (Some c) = refl

one_image : (k : Key) (o : Option (List Pair)) → images_with k o ≡ map row_of_entry (pairs_with k o)
one_image k None = refl
one_image k (Some c) = refl

pub shown_key : (f : Key → Option (List Pair)) (d : Tables) (k : Key) → ((q : Key) → get d q ≡ f q) → images_with k (f k) ≡ rows_at (access.Get k) d
shown_key f d k is =
    one_image k (f k) ∙ entries_at (λ q. is_eq (key_cmp k q)) d (pairs_with k (f k)) (one_sorted k (f k)) (λ q.
    one_found k q (f k)
    ∙ ap (λ b. cond b (f k) None) ((eq_by_cmp_equiv key_total).symm q k)
    ∙ each (is_eq (key_cmp k q)) (f k) (get d q) (λ t. ap f (key_exact k q (equal_of (key_cmp k q) t)) ∙ sym (is q)))

pub no_row : (read_set : List ReadRecord) (ws : List Write) (q : Key) → WereRead read_set ws → is_some (row_seen read_set ws q) ≡ true → is_key_read read_set q ≡ true
no_row read_set ws q read h = by_write (write_among ws q) (value_at read_set q) (read q) h
  where
    by_write : (x : Option Write) (o : Option (Option Record)) → (is_some x ≡ true → is_some o ≡ true) → is_some (row_with x (option_and_then (λ y. y) o)) ≡ true → is_some o ≡ true
    by_write (Some w) o g h = g refl
    by_write None (Some f) g h = refl
    by_write None None g h = absurd (cc)

-- the rows seen at the keys of a span
pub span_shown : (read_set : List ReadRecord) (ws : List Write) (span : Span) (ks : List Record) → WereRead read_set ws → AreKeysOf read_set span ks → images_at (row_seen read_set ws) ks ≡ rows_at (access.Scan span) (with_own (tables_of_reads read_set) ws)
span_shown read_set ws span ks read keys =
    shown_span (row_seen read_set ws) (with_own (tables_of_reads read_set) ws) span ks keys.rows (get_seen read_set ws) (λ q inside some. keys.as_read q inside (no_row read_set ws q read some))

pub key_shown : (read_set : List ReadRecord) (ws : List Write) (k : Key) → images_with k (row_seen read_set ws k) ≡ rows_at (access.Get k) (with_own (tables_of_reads read_set) ws)
key_shown read_set ws k = shown_key (row_seen read_set ws) (with_own (tables_of_reads read_set) ws) k (get_seen read_set ws)

-- where the notes agree with tables, the overlay is their rows with the transaction's own writes
pub overlay_is : (s : Seen) (a : Access) (d : Tables) → Agrees s a d → overlay a s ≡ rows_at a (with_own d s.writes)
overlay_is s a d h =
    agree_rows a (tables_seen s) (with_own d s.writes) (λ q inside.
    get_own (tables_of_reads s.read_set) s.writes q ∙ ap (own_row (write_among s.writes q)) (get_notes s.read_set q ∙ h q inside) ∙ sym (get_own d s.writes q))

---- own writes are changes

own_written : (ws : List Write) (w : Write) (q : Key) (o : Option (List Pair)) → own_row (write_among (with_write ws w) q) o ≡ cond (same_key q w.key) (row_of_change w.change) (own_row (write_among ws q) o)
own_written [] w q o = sym (own_step (same_key q w.key) w None o)
own_written (x ∷ xs) w q o =
    by_test (same_key w.key x.key)
    (λ t. ap (λ b. own_row (write_among (cond b (with_change_of x w ∷ xs) (x ∷ with_write xs w)) q) o) t
    ∙ by_test (same_key q x.key)
    (λ u. ap (λ b. own_row (cond b (Some (with_change_of x w)) (write_among xs q)) o) u
    ∙ sym (ap (λ b. cond b (row_of_change w.change) (own_row (write_among (x ∷ xs) q) o)) (ap (same_key q) (same_key_exact w.key x.key t) ∙ u)))
    (λ u. ap (λ b. own_row (cond b (Some (with_change_of x w)) (write_among xs q)) o) u
    ∙ sym (ap (λ b. cond b (row_of_change w.change) (own_row (write_among (x ∷ xs) q) o)) (ap (same_key q) (same_key_exact w.key x.key t) ∙ u) ∙ ap (λ b. own_row (cond b (Some x) (write_among xs q)) o) u)))
    (λ t. ap (λ b. own_row (write_among (cond b (with_change_of x w ∷ xs) (x ∷ with_write xs w)) q) o) t
    ∙ by_test (same_key q x.key)
    (λ u. let other : same_key q w.key ≡ false = by_test (same_key q w.key)
    (λ v. let both : same_key w.key x.key ≡ true = subst (λ (k : Key). same_key k x.key ≡ true) (same_key_exact q w.key v) u in v ∙ sym both ∙ t)
    (λ v. v) in
    ap (λ b. own_row (cond b (Some x) (write_among (with_write xs w) q)) o) u
    ∙ sym (ap (λ b. cond b (row_of_change w.change) (own_row (write_among (x ∷ xs) q) o)) other ∙ ap (λ b. own_row (cond b (Some x) (write_among xs q)) o) u))
    (λ u. ap (λ b. own_row (cond b (Some x) (write_among (with_write xs w) q)) o) u ∙ own_written xs w q o
    ∙ ap (λ p. cond (same_key q w.key) (row_of_change w.change) p) (sym (ap (λ b. own_row (cond b (Some x) (write_among xs q)) o) u))))

own_one : (d : Tables) (ws : List Write) (w : Write) → with_own d (with_write ws w) ≡ with_row (with_own d ws) w.key (row_of_change w.change)
own_one d ws w = same_map key_total key_exact _ _ (λ q.
    get_own d (with_write ws w) q ∙ own_written ws w q (get d q)
    ∙ ap (λ b. cond b (row_of_change w.change) (own_row (write_among ws q) (get d q))) (same_key_is q w.key)
    ∙ ap (λ o. cond (is_eq (key_cmp q w.key)) (row_of_change w.change) o) (sym (get_own d ws q))
    ∙ sym (get-with_row (with_own d ws) w.key (row_of_change w.change) q))

pub own_is : (d : Tables) (read_set : List ReadRecord) (ws : List Write) (ks : List Keyed) → with_own d (with_writes read_set ws ks) ≡ with_changes (with_own d ws) ks
own_is d read_set ws [] = refl
own_is d read_set ws (k ∷ ks) = own_is d read_set (with_write ws (write_of read_set k)) ks ∙ ap (λ e. with_changes e ks) (own_one d ws (write_of read_set k))
