-- The rows that a transaction sees were read, and have their columns in order.
use Rattle.std.proofs.Common.{◌≡◌, Bool, true, false, cond, List, [], ◌∷◌, map, Option, Some, None, refl, sym, ap, subst, ◌∙◌}
use Rattle.std.specs.Prelude.{filter, is_some, IfSome}
use Rattle.std.specs.Option.{option_and_then}
use Rattle.std.specs.List.{AllByRecursion}
use Rattle.std.specs.Ordering.{is_lt}
use Rattle.std.specs.Cmp.{tied_itself}
use Rattle.std.specs.FinMap.{entries, entries_sorted, find, get, get-entries, is_sorted}
use Rattle.std.specs.FinMap.Entries.{below_all}
use Rattle.std.proofs.lemmas.Bool.{and_parts}
use Rattle.sdb_client.specs.Types.{Access, Change, Image, Key, Pair, Record, Write}
use Rattle.sdb_types.specs.Order.{key_cmp, same_key}
use Rattle.sdb_types.specs.Columns.{are_columns}
use Rattle.sdb_types.proofs.Public.{and_first, key_total, less_of, truth as true_from_T}
use Rattle.sdb_record.proofs.Public.{are_columns-filter}
use Rattle.sdb_record.specs.Parts.{are_stored, is_user_pair, user_columns}
use Rattle.sdb_record.specs.Rolls.{IsBaseOf, is_change, is_tombstone, row_of_change, row_of_image}
use Rattle.sdb_record.specs.declared.write.Change.TheVariants as change
use Rattle.sdb_record.specs.Among.{write_among}
use Rattle.sdb_model.specs.Exec.{Tables, row_of_entry}
use Rattle.sdb_model.specs.Access.{in_access, rows_at}
use Rattle.sdb_exec.proofs.Public.{by_key}
use Rattle.sdb_snapshot.specs.Reads.{ReadRecord, AreBases, base_at, is_key_read, record_read_at}
use Rattle.sdb_snapshot.specs.Sets.{IsSetInvariant}
use Rattle.sdb_snapshot.specs.Rows.{row_found}
use Rattle.sdb_snapshot.specs.Seen.{Seen, overlay, row_seen, row_with, tables_seen}
use Rattle.sdb_snapshot.specs.Written.{AreWrites}
use Rattle.sdb_snapshot.proofs.Public.{get_seen, no_row}

-- a row of a key that was read, with its columns in order
abbrev pub IsSeenRow : List ReadRecord → Image → Type 0
IsSeenRow read_set r = (is_key_read read_set r.key ≡ true) × (are_columns r.columns ≡ true)

---- rows of tables

-- a key below those of all entries has none
pub none_below : (x : Key) (es : List (Key × List Pair)) → below_all key_cmp x es ≡ true → find key_cmp x es ≡ None
none_below x [] h = refl
none_below x (e ∷ es) h =
    let parts = and_parts (is_lt (key_cmp x e.0)) (below_all key_cmp x es) h in
    rw (less_of (key_cmp x e.0) parts.0, none_below x es parts.1) refl

behind : (e : Key × List Pair) (es : List (Key × List Pair)) (q : Key) (cs : List Pair) → below_all key_cmp e.0 es ≡ true → find key_cmp q es ≡ Some cs → find key_cmp q (e ∷ es) ≡ Some cs
behind e es q cs below found =
    by_key q e (λ b. cond b (Some e.1) (find key_cmp q es) ≡ Some cs)
    (λ t i. absurd (let none : find key_cmp q es ≡ None = ap (λ k. find key_cmp k es) i ∙ none_below e.0 es below in cc))
    (λ t. found)

all_entries : (P : Key → List Pair → Type 0) (es : List (Key × List Pair)) → is_sorted key_cmp es ≡ true → ((q : Key) (cs : List Pair) → find key_cmp q es ≡ Some cs → P q cs) → AllByRecursion (λ r. P r.key r.columns) (map row_of_entry es)
all_entries P [] h each = tt
all_entries P (e ∷ es) h each =
    let parts = and_parts (below_all key_cmp e.0 es) (is_sorted key_cmp es) h in
    (each e.0 e.1 (rw (tied_itself key_total e.0) refl), all_entries P es parts.1 (λ q cs found. each q cs (behind e es q cs parts.0 found)))

all_filter : (P : Image → Type 0) (p : Image → Bool) (rs : List Image) → AllByRecursion P rs → AllByRecursion P (filter p rs)
all_filter P p [] h = tt
all_filter P p (r ∷ rs) h =
    let rest = all_filter P p rs h.1 in
    elim (p r) as (λ b. AllByRecursion P (cond b (r ∷ filter p rs) (filter p rs))) [ true ↦ (h.0, rest) | false ↦ rest ]

all_rows_at : (P : Key → List Pair → Type 0) (a : Access) (d : Tables) → ((q : Key) (cs : List Pair) → get d q ≡ Some cs → P q cs) → AllByRecursion (λ r. P r.key r.columns) (rows_at a d)
all_rows_at P a d each = all_filter (λ r. P r.key r.columns) (λ r. in_access a r.key) (map row_of_entry (entries d)) (all_entries P (entries d) (true_from_T _ (entries_sorted d)) (λ q cs found. each q cs (get-entries d q ∙ found)))

---- columns

change_ordered : (c : Change) (cs : List Pair) → is_change c ≡ true → row_of_change c ≡ Some cs → are_columns cs ≡ true
change_ordered (change.Row columns) cs h e = let same : columns ≡ cs = cc in subst (λ ps. are_columns ps ≡ true) same (and_first (are_columns columns) _ h)
change_ordered change.Delete cs h e = absurd (cc)

image_ordered : (b : Record) (cs : List Pair) → are_columns b.columns ≡ true → row_of_image b ≡ Some cs → are_columns cs ≡ true
image_ordered b cs h e =
    elim (is_tombstone b) as (λ t. cond t None (Some (user_columns b.columns)) ≡ Some cs → are_columns cs ≡ true) [
      | true ↦ λ k. absurd (cc)
      | false ↦ λ k. let same : user_columns b.columns ≡ cs = cc in subst (λ ps. are_columns ps ≡ true) same (are_columns-filter is_user_pair b.columns h)
    ] e

write_fine : (ws : List Write) (q : Key) (w : Write) → AreWrites ws → write_among ws q ≡ Some w → is_change w.change ≡ true
write_fine [] q w h e = absurd (cc)
write_fine (x ∷ xs) q w h e =
    elim (same_key q x.key) as (λ b. cond b (Some x) (write_among xs q) ≡ Some w → is_change w.change ≡ true) [
      | true ↦ λ k. let same : x ≡ w = cc in subst (λ y. is_change y.change ≡ true) same h.0.change
      | false ↦ λ k. write_fine xs q w h.1 k
    ] e

note_base : (read_set : List ReadRecord) (q : Key) → AreBases read_set → IfSome (base_at read_set q) (λ b. are_columns b.columns ≡ true)
note_base [] q h = tt
note_base (e ∷ es) q h =
    elim (same_key q e.0) as (λ b. IfSome (option_and_then (λ found. found) (cond b (Some e.1) (record_read_at es q))) (λ r. are_columns r.columns ≡ true)) [
      | true ↦ of_note e.1 h.0
      | false ↦ note_base es q h.1
    ]
  where
    of_note : (o : Option Record) → IfSome o (IsBaseOf e.0) → IfSome o (λ r. are_columns r.columns ≡ true)
    of_note None k = tt
    of_note (Some b) k = and_first (are_columns b.columns) _ (and_first (are_stored b.columns) _ k.1)

found_ordered : (o : Option Record) (cs : List Pair) → IfSome o (λ b. are_columns b.columns ≡ true) → row_found o ≡ Some cs → are_columns cs ≡ true
found_ordered None cs h e = absurd (cc)
found_ordered (Some b) cs h e = image_ordered b cs h e

row_ordered : (x : Option Write) (o : Option Record) (cs : List Pair) → ((w : Write) → x ≡ Some w → is_change w.change ≡ true) → IfSome o (λ b. are_columns b.columns ≡ true) → row_with x o ≡ Some cs → are_columns cs ≡ true
row_ordered None o cs valid base e = found_ordered o cs base e
row_ordered (Some w) o cs valid base e = change_ordered w.change cs (valid w refl) e

---- what a transaction sees

pub seen_rows : (s : Seen) (a : Access) → IsSetInvariant s.read_set s.writes → AllByRecursion (IsSeenRow s.read_set) (overlay a s)
seen_rows s a kept =
    all_rows_at (λ q cs. (is_key_read s.read_set q ≡ true) × (are_columns cs ≡ true)) a (tables_seen s) (λ q cs found.
    let here : row_seen s.read_set s.writes q ≡ Some cs = sym (get_seen s.read_set s.writes q) ∙ found in
    (no_row s.read_set s.writes q kept.read (ap is_some here), row_ordered (write_among s.writes q) (base_at s.read_set q) cs (λ w e. write_fine s.writes q w kept.valid e) (note_base s.read_set q kept.bases) here))
