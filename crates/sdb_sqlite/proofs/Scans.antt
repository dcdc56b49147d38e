-- A scan answers as the map that the rows hold.
use Rattle.std.proofs.Common.{◌≡◌, inl, inr, ℕ, ◌≤◌, List, [], ◌∷◌, map, filter, length, Bool, true, false, cond, None, Some, Option, option_map, slice_get, Ok, Err, Result, IfOk, refl, sym, ap, subst, ◌∙◌, IsPermutation, is_eq, arith}
use Rattle.std.specs.Prelude.{◌&&◌, T, MatchResult}
use Rattle.std.specs.List.{AllByRecursion}
use Rattle.std.specs.declared.cmp.Ordering.TheVariants.{Equal}
use Rattle.std.specs.Ordering.{is_lt}
use Rattle.std.specs.FinMap.{find, entries, entries_sorted, is_sorted, get-entries, get-from_entries}
use Rattle.std.specs.FinMap.Entries.{below_all, where_key, is_sorted-where_key, find-where_key, same_entries}
use Rattle.std.proofs.lemmas.List.{length-map}
use Rattle.std.proofs.lemmas.List.Elements.{All-from_recursion, recursion_from_All}
use Rattle.std.proofs.lemmas.List.Sorted.{All-permutation, IsPermutation-map, IsPermutation-trans}
use Rattle.sqlite.specs.declared.types.Value.TheVariants.{Text, Blob}
use Rattle.sdb_sqlite.specs.Types.{Error, Key, Pair, Record, Span, TableName}
use Rattle.sqlite.specs.Order.{Row, column}
use Rattle.sqlite.specs.Store.{Ghosts}
use Rattle.sqlite.specs.Held.{Held as Connected, state}
use Rattle.sqlite.specs.State.{State, Shown, FailsToQuery}
use Rattle.sqlite.specs.Effect.{Database}
use Rattle.sqlite.specs.Listing.{understood}
use Rattle.sqlite.proofs.Callers.{reads_as, IsPlain}
use Rattle.sqlite_trees.proofs.ListLemmas.{map-map, filter-map, IsPermutation-filter}
use Rattle.sdb_types.specs.declared.value.Value.{Value as Cell}
use Rattle.sdb_types.specs.declared.record.Request.TheVariants.{Scan}
use Rattle.sdb_types.specs.declared.record.Reply.TheVariants as reply
use Rattle.sdb_types.specs.Order.{key_cmp, table_text}
use Rattle.sdb_types.specs.Contents.{record_of, rows_in, in_span, rise, starts_after}
use Rattle.sdb_types.proofs.Public.{and_first, and_second, and_true, both_t as t_two, key_exact, key_total, less_of, starts_trans, t_both}
use Rattle.sdb_codec.specs.Spelling.{key_bytes, KeyIsEncodable}
use Rattle.sdb_codec.specs.Reading.{key_in}
use Rattle.sdb_codec.proofs.Public.{key_round_trip}
use Rattle.sdb_store.specs.Store.{Performs}
use Rattle.sdb_sqlite.specs.declared.refused.Stopped.{Stopped}
use Rattle.sdb_sqlite.specs.declared.refused.Stopped.TheVariants as stopped
use Rattle.sdb_sqlite.specs.Stopping.{stopped_by}
use Rattle.sdb_sqlite.specs.Spans.{partition_key, span_is_encodable, PartitionIsEncodable, SpanIsEncodable}
use Rattle.sdb_sqlite.specs.Table.{records_schema}
use Rattle.sdb_sqlite.specs.Rows.{IsRowOfStore, row_key, entry_of, key_or_none, has_key, rows_at, contents_of_rows, record_of_body, record_of_row}
use Rattle.sdb_sqlite.specs.Database.{HasTable, IsAnswered, contents_of_state}
use Rattle.sdb_sqlite.specs.Asked.{span_text, span_params, row_keyed, row_record, then_records, rows_records, IsInOrder, IsListedBy, IsListedIn, IsListed, IsScanned, Scans, rows_reply}
use Rattle.sdb_sqlite.proofs.Texts.{by_t, by_p, row_shown, table_is, table_plain, partition_is, partition_plain}
use Rattle.sdb_sqlite.proofs.Keys.{same_table, same_span}
use Rattle.sdb_sqlite.proofs.Lists.{filter_same, weaker, passed, few_permutation, fewer_passed}
use Rattle.sdb_sqlite.proofs.Queries.{passes, blobs_test, texts_test, answered, query_keeps}
use Rattle.sdb_sqlite.proofs.Gets.{IsSure, tied_key, stopped_performs}
use Rattle.sdb_sqlite.proofs.Lawful.{due_stops}

---- the rows that the query of a span passes

abbrev span_of : TableName → Option (List Cell) → Span
span_of table part = record { table = table; partition = part }

abbrev projected : Row → Row
projected r = column r 1 ∷ column r 4 ∷ []

passes_table : (t : TableName) → span_is_encodable (span_of t None) → (row : Row) → IsRowOfStore row → passes by_t (Text (table_text t) ∷ []) row ≡ in_span (span_of t None) (row_key row)
passes_table t known row it =
    ap (passes by_t (Text (table_text t) ∷ [])) it.is
    ∙ ap (λ b. b && true) (texts_test (table_text t) (table_text it.key.table) ∙ same_table t it.key.table known.table (it.known.ns, it.known.table))
    ∙ ap (in_span (span_of t None)) (sym (tied_key row it))

passes_partition : (t : TableName) (part : List Cell) → span_is_encodable (span_of t (Some part)) → KeyIsEncodable (partition_key t part) → (row : Row) → IsRowOfStore row
    → passes by_p (Text (table_text t) ∷ Blob (key_bytes (partition_key t part)) ∷ []) row ≡ in_span (span_of t (Some part)) (row_key row)
passes_partition t part known fits row it =
    let p : List ℕ = key_bytes (partition_key it.key.table it.key.partition) in
    let q : List ℕ = key_bytes (partition_key t part) in
    ap (passes by_p (Text (table_text t) ∷ Blob q ∷ [])) it.is
    ∙ (λ i. texts_test (table_text t) (table_text it.key.table) i && (and_true _ ∙ blobs_test q p) i)
    ∙ same_span t part it.key known.table known.partition fits it.known it.fits
    ∙ ap (in_span (span_of t (Some part))) (sym (tied_key row it))

abbrev inside : Span → List Row → List Row
inside span rows = filter (λ r. in_span span (row_key r)) rows

scanned : (old new : State) (t : TableName) (o : Option (List Cell)) (rows : List Row) → span_is_encodable (span_of t o) → PartitionIsEncodable t o → HasTable old → Shown (span_text o) (span_params t o) old new rows
    → IsPermutation (map projected (inside (span_of t o) (old.now.trees 0))) rows
scanned old new t None rows known fits it h =
    let params = span_params t None in
    let read = reads_as (span_text None) params old new records_schema it.schema _ table_is.0 table_plain table_is.1 rows h in
    let passing : filter (passes by_t params) (old.now.trees 0) ≡ inside (span_of t None) (old.now.trees 0) =
    filter_same _ _ (old.now.trees 0) (weaker IsRowOfStore (λ r. passes by_t params r ≡ in_span (span_of t None) (row_key r)) (passes_table t known) (old.now.trees 0) it.rows) in
    subst (λ (xs : List Row). IsPermutation (map projected xs) rows) passing (answered old.now.trees by_t row_shown params rows read.answer)
scanned old new t (Some part) rows known fits it h =
    let params = span_params t (Some part) in
    let read = reads_as (span_text (Some part)) params old new records_schema it.schema _ partition_is.0 partition_plain partition_is.1 rows h in
    let passing : filter (passes by_p params) (old.now.trees 0) ≡ inside (span_of t (Some part)) (old.now.trees 0) =
    filter_same _ _ (old.now.trees 0) (weaker IsRowOfStore (λ r. passes by_p params r ≡ in_span (span_of t (Some part)) (row_key r)) (passes_partition t part known fits) (old.now.trees 0) it.rows) in
    subst (λ (xs : List Row). IsPermutation (map projected xs) rows) passing (answered old.now.trees by_p row_shown params rows read.answer)

---- what the rows give

keyed_record : (span : Span) (k : Result Key ℕ) (key : Key) (body : List ℕ) → k ≡ Ok key → in_span span key ≡ true → row_keyed span k (Some body) ≡ Ok (record_of_body (key_or_none k) body)
keyed_record span k key body is h =
    subst (λ (x : Result Key ℕ). row_keyed span x (Some body) ≡ Ok (record_of_body (key_or_none x) body)) (sym is)
    (ap (λ b. cond {A = Result Record Stopped} b (Ok (record_of_body key body)) (Err stopped.Foreign)) h)

given_record : (span : Span) (row : Row) → IsRowOfStore row × (in_span span (row_key row) ≡ true) → row_record span (projected row) ≡ Ok (record_of_row (projected row))
given_record span row (it, h) =
    subst (λ (r : Row). row_record span (projected r) ≡ Ok (record_of_row (projected r))) (sym it.is)
    (keyed_record span (key_in (key_bytes it.key)) it.key it.body (key_round_trip it.key it.known it.fits) (ap (in_span span) (sym (tied_key row it)) ∙ h))

mapped : {X Y : Type 0} (P : Y → Type 0) (f : X → Y) (xs : List X) → AllByRecursion (λ x. P (f x)) xs → AllByRecursion P (map f xs)
mapped P f [] all = tt
mapped P f (x ∷ xs) (one, all) = (one, mapped P f xs all)

all_given : (span : Span) (rows : List Row) → AllByRecursion (λ row. row_record span row ≡ Ok (record_of_row row)) rows → rows_records span rows ≡ Ok (map record_of_row rows)
all_given span [] all = refl
all_given span (row ∷ rows) (one, all) = λ i. then_records (one i) (all_given span rows all i)

---- the order of the records

abbrev pair_of : Record → Key × List Pair
pair_of r = (r.key, r.columns)

below_pairs : (x : Key) (rs : List Record) → starts_after x rs ≡ true → rise rs ≡ true → T (below_all key_cmp x (map pair_of rs))
below_pairs x [] h g = tt
below_pairs x (r ∷ rs) h g =
    t_both (is_lt (key_cmp x r.key)) _ h
    (below_pairs x rs (starts_trans x r.key rs (less_of (key_cmp x r.key) h) (and_first (starts_after r.key rs) (rise rs) g)) (and_second (starts_after r.key rs) (rise rs) g))

sorted_pairs : (rs : List Record) → rise rs ≡ true → T (is_sorted key_cmp (map pair_of rs))
sorted_pairs [] h = tt
sorted_pairs (r ∷ rs) h =
    let first = and_first (starts_after r.key rs) (rise rs) h in
    let second = and_second (starts_after r.key rs) (rise rs) h in
    t_two (below_all key_cmp r.key (map pair_of rs)) _ (below_pairs r.key rs first second) (sorted_pairs rs second)

---- the map's rows

abbrev at_key : Key → Key × List Pair → Bool
at_key q e = is_eq (key_cmp q e.0)

find_first : (q : Key) (es : List (Key × List Pair)) → find key_cmp q es ≡ option_map (λ (e : Key × List Pair). e.1) (slice_get (filter (at_key q) es) 0)
find_first q [] = refl
find_first q (e ∷ es) =
    elim (at_key q e) as (λ b. cond b (Some e.1) (find key_cmp q es) ≡ option_map (λ (x : Key × List Pair). x.1) (slice_get (cond b (e ∷ filter (at_key q) es) (filter (at_key q) es)) 0))
    [ true ↦ refl | false ↦ find_first q es ]

-- entries of which no two have one key are found alike in any order
find_shuffled : (q : Key) (es fs : List (Key × List Pair)) → length (filter (at_key q) es) ≤ 1 → IsPermutation es fs → find key_cmp q fs ≡ find key_cmp q es
find_shuffled q es fs few h =
    find_first q fs
    ∙ ap (λ xs. option_map (λ (e : Key × List Pair). e.1) (slice_get xs 0)) (few_permutation (filter (at_key q) es) (filter (at_key q) fs) few (IsPermutation-filter (at_key q) es fs h))
    ∙ sym (find_first q es)

same_list : (rs : List Record) → map (λ (r : Record). record_of (pair_of r)) rs ≡ rs
same_list [] = refl
same_list (r ∷ rs) = ap (λ xs. r ∷ xs) (same_list rs)

module _ (span : Span) (rows : List Row) (once : (key : Key) → length (rows_at key rows) ≤ 1) where
  few_inside : (q : Key) → length (filter (at_key q) (map entry_of (inside span rows))) ≤ 1
  few_inside q =
      let is : length (filter (at_key q) (map entry_of (inside span rows))) ≡ length (filter (has_key q) (inside span rows)) = ap length (filter-map (at_key q) entry_of (inside span rows)) ∙ length-map _ entry_of in
      omega (arith, is, fewer_passed (has_key q) (λ r. in_span span (row_key r)) rows, once q)

  alike : (q x : Key) → key_cmp q x ≡ Equal → in_span span x ≡ in_span span q
  alike q x e = ap (in_span span) (sym (key_exact q x e))

  held_inside : (q : Key) → find key_cmp q (where_key key_cmp (in_span span) (entries (contents_of_rows rows))) ≡ find key_cmp q (map entry_of (inside span rows))
  held_inside q =
      find-where_key key_cmp (in_span span) q (alike q) (entries (contents_of_rows rows))
      ∙ ap (λ o. cond (in_span span q) o None) (sym (get-entries (contents_of_rows rows) q) ∙ get-from_entries key_total (map entry_of rows) q)
      ∙ sym (find-where_key key_cmp (in_span span) q (alike q) (map entry_of rows))
      ∙ ap (find key_cmp q) (filter-map (λ (e : Key × List Pair). in_span span e.0) entry_of rows)

  -- records that rise and are those of the rows inside, in some order, are the rows of the map
  pub rows_are : (list : List Record) → IsPermutation (map (λ r. record_of (entry_of r)) (inside span rows)) list → rise list ≡ true → list ≡ rows_in span (contents_of_rows rows)
  rows_are list h up =
      let pairs = map pair_of list in
      let shuffled : IsPermutation (map entry_of (inside span rows)) pairs = subst (λ (xs : List (Key × List Pair)). IsPermutation xs pairs) (map-map pair_of (λ r. record_of (entry_of r)) (inside span rows)) (IsPermutation-map pair_of _ list h) in
      let kept = where_key key_cmp (in_span span) (entries (contents_of_rows rows)) in
      let same : kept ≡ pairs = same_entries key_cmp key_total key_exact kept pairs (is_sorted-where_key key_cmp (in_span span) (entries (contents_of_rows rows)) (entries_sorted (contents_of_rows rows))) (sorted_pairs list up)
      (λ q. held_inside q ∙ sym (find_shuffled q _ pairs (few_inside q) shuffled)) in
      sym (same_list list) ∙ sym (map-map record_of pair_of list) ∙ ap (map record_of) (sym same)

---- a scan

-- what a scan lists is what the map has
listed_ok : (all : List Record) (result : Result (List Record) Stopped) → IsInOrder all result → IfOk result (λ rows. IsPermutation all rows × (rise rows ≡ true))
listed_ok all (Ok rows) h = h
listed_ok all (Err s) h = tt

list_in : (span : Span) (rows answer : List Row) (result : Result (List Record) Stopped) → AllByRecursion IsRowOfStore rows → ((key : Key) → length (rows_at key rows) ≤ 1) → IsPermutation (map projected (inside span rows)) answer
    → IsListedIn span answer result → IfOk result (λ list. list ≡ rows_in span (contents_of_rows rows))
list_in span rows answer result tied once shuffled (inl e) = subst (λ (r : Result (List Record) Stopped). IfOk r (λ list. list ≡ rows_in span (contents_of_rows rows))) (sym e) tt
list_in span rows answer result tied once shuffled (inr h) =
    let each : AllByRecursion (λ row. row_record span row ≡ Ok (record_of_row row)) (map projected (inside span rows)) =
    mapped (λ row. row_record span row ≡ Ok (record_of_row row)) projected (inside span rows)
    (weaker (λ r. IsRowOfStore r × (in_span span (row_key r) ≡ true)) (λ r. row_record span (projected r) ≡ Ok (record_of_row (projected r))) (given_record span) (inside span rows) (passed IsRowOfStore (λ r. in_span span (row_key r)) rows tied)) in
    let Given : Row → Type 0 = λ row. row_record span row ≡ Ok (record_of_row row) in
    let given : AllByRecursion Given answer = recursion_from_All Given answer (All-permutation Given _ answer shuffled (All-from_recursion Given _ each)) in
    let read : rows_records span answer ≡ Ok (map record_of_row answer) = all_given span answer given in
    let sorted = listed_ok (map record_of_row answer) result (subst (λ (r : Result (List Record) Stopped). IsListedBy r result) read h) in
    let shown : IsPermutation (map (λ r. record_of (entry_of r)) (inside span rows)) (map record_of_row answer) =
    subst (λ (xs : List Record). IsPermutation xs (map record_of_row answer)) (map-map record_of_row projected (inside span rows)) (IsPermutation-map record_of_row _ answer shuffled) in
    by_result result sorted shown
  where
    by_result : (r : Result (List Record) Stopped) → IfOk r (λ list. IsPermutation (map record_of_row answer) list × (rise list ≡ true)) → IsPermutation (map (λ r. record_of (entry_of r)) (inside span rows)) (map record_of_row answer)
        → IfOk r (λ list. list ≡ rows_in span (contents_of_rows rows))
    by_result (Ok list) s shown = rows_are span rows once list (IsPermutation-trans _ _ list shown s.0) s.1
    by_result (Err e) s shown = tt

rows_performs : (span : Span) (old new : State) (result : Result (List Record) Stopped) → new.now ≡ old.now → IfOk result (λ list. list ≡ rows_in span (contents_of_state old)) → Performs (Scan span) (rows_reply result) (contents_of_state old) (contents_of_state new)
rows_performs span old new (Ok rows) same is = (ap reply.Rows is, ap (λ (d : Database). contents_of_rows (d.trees 0)) same)
rows_performs span old new (Err s) same is = stopped_performs (Scan span) s (contents_of_state old) (contents_of_state new) (ap (λ (d : Database). contents_of_rows (d.trees 0)) same)

scan_is : {S : Type 0} (g : Ghosts S) (span : Span) (old new : Connected S) (result : Result (List Record) Stopped) → IsSure g new → span_is_encodable span → SpanIsEncodable span → HasTable (state g old) → IsScanned g span old new result
    → IsAnswered (Scan span) (rows_reply result) (state g old) (state g new)
scan_is g span old new result sure known fits it got =
    let shown = got.asked.reported sure.1 in
    let keeps = query_keeps (span_text span.partition) (plain span.partition) (span_params span.table span.partition) (state g old) (state g new) it got.asked.limit got.answer sure.0 shown in
    record { kept = keeps.0; performed = rows_performs span (state g old) (state g new) result keeps.1 (by_answer got.answer shown got.listed) }
  where
    plain : (o : Option (List Cell)) → IsPlain (understood records_schema (span_text o))
    plain None = table_plain
    plain (Some part) = partition_plain

    by_answer : (answer : Result (List Row) Error)
        → MatchResult answer (Shown (span_text span.partition) (span_params span.table span.partition) (state g old) (state g new)) (FailsToQuery (span_text span.partition) (span_params span.table span.partition) (state g old) (state g new))
        → IsListed span answer result → IfOk result (λ list. list ≡ rows_in span (contents_of_state (state g old)))
    by_answer (Ok rows) h listed = list_in span ((state g old).now.trees 0) rows result it.rows it.once (scanned (state g old) (state g new) span.table span.partition rows known fits it h) listed
    by_answer (Err e) h listed = due_stops (stopped_by e) result _ listed

pub scan_told : {S : Type 0} (g : Ghosts S) (span : Span) (old new : Connected S) (result : Result (List Record) Stopped) → IsSure g new → span_is_encodable span → HasTable (state g old) → Scans g span old new result
    → IsAnswered (Scan span) (rows_reply result) (state g old) (state g new)
scan_told g span old new result sure known it (inl unfit) =
    subst (λ (c : Connected _). IsAnswered (Scan span) (rows_reply result) (state g old) (state g c)) (sym unfit.1)
    (record { kept = it; performed = subst (λ (r : Result (List Record) Stopped). Performs (Scan span) (rows_reply r) (contents_of_state (state g old)) (contents_of_state (state g old))) (sym unfit.2) (inl refl) })
scan_told g span old new result sure known it (inr (inl out_of_memory)) =
    subst (λ (c : Connected _). IsAnswered (Scan span) (rows_reply result) (state g old) (state g c)) (sym out_of_memory.0)
    (record { kept = it; performed = subst (λ (r : Result (List Record) Stopped). Performs (Scan span) (rows_reply r) (contents_of_state (state g old)) (contents_of_state (state g old))) (sym out_of_memory.1) refl })
scan_told g span old new result sure known it (inr (inr (fits, got))) = scan_is g span old new result sure known fits it got
