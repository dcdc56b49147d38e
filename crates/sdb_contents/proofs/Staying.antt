-- The images of a catalog's tables once a store was retired.
use Rattle.std.proofs.Common.{◌≡◌, ◌≢◌, ◌==◌, inl, inr, ℕ, zero, suc, ◌<◌, List, [], ◌∷◌, ◌++◌, length, map, get_or, Bool, true, false, not, ◌&&◌, ◌||◌, cond, Option, Some, None, refl, sym, ap, subst, ◌∙◌, append_assoc, arith}
use Rattle.std.specs.Prelude.{codes, filter, find, remove, slice_get, unwrap_or, IsSome, if◌then◌else◌}
use Rattle.std.specs.List.{AllByRecursion, list_all}
use Rattle.std.specs.Option.{option_and_then, option_map, option_map_or}
use Rattle.std.specs.Ordering.{is_eq}
use Rattle.std.specs.Result.{result_ok}
use Rattle.std.specs.Str.{bytes_eq}
use Rattle.std.specs.Cmp.{tied_itself}
use Rattle.std.proofs.lemmas.List.{length-map}
use Rattle.std.proofs.lemmas.List.Quantifiers.{position-Some}
use Rattle.std.proofs.lemmas.Slice.Eq.{bytes_eq-Decides}
use Rattle.sdb_contents.specs.Types.{Entry, Key, Record, Table, TableName, TxId}
use Rattle.sdb_types.specs.Contents.{in_span, record_at, rows_in}
use Rattle.sdb_types.specs.Order.{table_cmp}
use Rattle.sdb_types.proofs.Public.{and_both, and_first, and_second, by_test, either, eq_of, false_by, false_true, none_some, or_first, or_second, some_is, table_total}
use Rattle.sdb_record.specs.Coordinator.{coordinator_key_of, coordinator_table, decision_in}
use Rattle.sdb_record.specs.Meta.{id_in}
use Rattle.sdb_record.specs.Parts.{is_column_name}
use Rattle.sdb_record.specs.Rolls.{image_of}
use Rattle.sdb_stores.specs.Views.{Attached, StoreView, index_at, index_in, names_of, place_of}
use Rattle.sdb_catalog.specs.Calls.{first_contents, metadata_span}
use Rattle.sdb_catalog.specs.Opened.{Opens, is_attached, store_in}
use Rattle.sdb_catalog.specs.Rows.{MayHaveRow, coordinators, metadata_table}
use Rattle.sdb_catalog.proofs.Public.{attached_placed}
use Rattle.sdb_contents.specs.Copying.{requests_of}
use Rattle.sdb_contents.specs.Imaged.{image_by, record_in_store, record_before}
use Rattle.sdb_contents.specs.Joined.{is_among, settle}
use Rattle.sdb_contents.specs.Moving.{FollowMoving, OpensMoving, agrees_moving, is_moving, is_in_store, moving_tables, renewals, settled}
use Rattle.sdb_contents.specs.Dropped.{AllKnown, ImagesArePreserved, IsRetired, MayRetire, OpensTheSame}
use Rattle.sdb_contents.specs.Retired.{AreKnown, Sides}
use Rattle.sdb_contents.specs.Writes.{after_writes, contents_at, contents_of, span_of, writes_at}
use Rattle.sdb_contents.proofs.Apart.{elsewhere}
use Rattle.sdb_contents.proofs.RetireCalls.{after_more}
use Rattle.sdb_contents.proofs.Dropping.{attached_of, first_at, first_stays, found_at, later_of, left_there, named_at, names_left, not_same, place_is, still_attached}
use Rattle.sdb_contents.proofs.Joins.{table_of_key}
use Rattle.sdb_contents.proofs.Known.{at_other, nothing_here}
use Rattle.sdb_contents.proofs.Passing.{not_catalogs}
use Rattle.sdb_contents.proofs.Settled.{follow_settled, settle_store, settle_table, tables_settled}

---- images

pub same_images : (at by : Key → Option Record) (key : Key) → at key ≡ by key → ((id : TxId) → at (coordinator_key_of id) ≡ by (coordinator_key_of id)) → image_by at key ≡ image_by by key
same_images at by key here there = ap (option_and_then (λ r. image_of r (option_and_then (λ id. option_and_then (λ row. result_ok (decision_in row)) (at (coordinator_key_of id))) (id_in r.columns)))) here ∙ found (by key)
  where
    decided : (o : Option TxId) → option_and_then (λ id. option_and_then (λ row. result_ok (decision_in row)) (at (coordinator_key_of id))) o ≡ option_and_then (λ id. option_and_then (λ row. result_ok (decision_in row)) (by (coordinator_key_of id))) o
    decided None = refl
    decided (Some id) = ap (option_and_then (λ row. result_ok (decision_in row))) (there id)

    found : (o : Option Record) → option_and_then (λ r. image_of r (option_and_then (λ id. option_and_then (λ row. result_ok (decision_in row)) (at (coordinator_key_of id))) (id_in r.columns))) o
        ≡ option_and_then (λ r. image_of r (option_and_then (λ id. option_and_then (λ row. result_ok (decision_in row)) (by (coordinator_key_of id))) (id_in r.columns))) o
    found None = refl
    found (Some r) = ap (image_of r) (decided (id_in r.columns))

---- the store of a name, once another is gone

found_there : (xs : List StoreView) (name : List ℕ) (at : ℕ) → at < length (names_of xs) → bytes_eq (get_or (names_of xs) at []) name ≡ true → ((k : ℕ) → k < at → bytes_eq (get_or (names_of xs) k []) name ≡ false) → slice_get xs at ≡ find (λ s. bytes_eq s.name name) xs
found_there [] name at inside own before = absurd (omega arith)
found_there (x ∷ xs) name zero inside own before = sym (ap (λ (b : Bool). cond b (Some x) (find (λ s. bytes_eq s.name name) xs)) own)
found_there (x ∷ xs) name (suc at) inside own before =
    found_there xs name at (omega arith) own (λ k less. before (suc k) (omega arith)) ∙ sym (ap (λ (b : Bool). cond b (Some x) (find (λ s. bytes_eq s.name name) xs)) (before 0 (omega arith)))

left_found : (xs : List StoreView) (at : ℕ) (name : List ℕ) → bytes_eq (get_or (names_of xs) at []) name ≡ false → find (λ s. bytes_eq s.name name) (remove xs at) ≡ find (λ s. bytes_eq s.name name) xs
left_found [] zero name n = refl
left_found [] (suc at) name n = refl
left_found (x ∷ xs) zero name n = sym (ap (λ (b : Bool). cond b (Some x) (find (λ s. bytes_eq s.name name) xs)) n)
left_found (x ∷ xs) (suc at) name n = ap (cond (bytes_eq x.name name) (Some x)) (left_found xs at name n)

found_of : (xs : List StoreView) (name : List ℕ) (at : ℕ) → place_of name (names_of xs) ≡ Some at → slice_get xs at ≡ find (λ s. bytes_eq s.name name) xs
found_of xs name at h =
    let p = position-Some (λ n. bytes_eq n name) (names_of xs) at [] h in
    found_there xs name at p.0 p.1 p.2

index_from : (xs : List StoreView) (name : List ℕ) → IsSome (place_of name (names_of xs)) → contents_at xs (unwrap_or (place_of name (names_of xs)) 0) ≡ contents_of (find (λ s. bytes_eq s.name name) xs)
index_from xs name h = ap contents_of (found_of xs name (unwrap_or (place_of name (names_of xs)) 0) (place_is (place_of name (names_of xs)) h))

-- a store that has a place keeps its contents where another is gone
pub contents_left : (xs ys : List StoreView) (at : ℕ) (from name : List ℕ) → place_of from (names_of xs) ≡ Some at → ys ≡ remove xs at → from ≢ name → IsSome (place_of name (names_of xs)) → IsSome (place_of name (names_of ys))
    → contents_at ys (unwrap_or (place_of name (names_of ys)) 0) ≡ contents_at xs (unwrap_or (place_of name (names_of xs)) 0)
contents_left xs ys at from name found is apart there here =
    index_from ys name here
    ∙ ap contents_of (ap (find (λ s. bytes_eq s.name name)) is ∙ left_found xs at name (ap (λ (n : List ℕ). bytes_eq n name) (named_at (names_of xs) from at found).1 ∙ not_same from name apart))
    ∙ sym (index_from xs name there)

---- where a namespace is kept

entry_store : (from to ns : List ℕ) (es : List Entry) → store_in (map (settle from to) es) ns ≡ option_map (settled from to) (store_in es ns)
entry_store from to ns [] = refl
entry_store from to ns (e ∷ es) =
    ap (λ (t : Table). option_map (λ (x : Entry). x.store) (cond (bytes_eq t.name.ns ns) (Some (settle from to e)) (find (λ (x : Entry). bytes_eq x.table.name.ns ns) (map (settle from to) es)))) (settle_table from to e)
    ∙ elim (bytes_eq e.table.name.ns ns) as (λ b. option_map (λ (x : Entry). x.store) (cond b (Some (settle from to e)) (find (λ (x : Entry). bytes_eq x.table.name.ns ns) (map (settle from to) es))) ≡ option_map (settled from to) (option_map (λ (x : Entry). x.store) (cond b (Some e) (find (λ (x : Entry). bytes_eq x.table.name.ns ns) es)))) [
      | true ↦ ap Some (settle_store from to e)
      | false ↦ entry_store from to ns es
    ]

all_at : (p : Entry → Bool) (front : List Entry) (a : Entry) (back : List Entry) → list_all p (front ++ a ∷ back) ≡ true → p a ≡ true
all_at p [] a back h = and_first (p a) (list_all p back) h
all_at p (x ∷ xs) a back h = all_at p xs a back (and_second (p x) (list_all p (xs ++ a ∷ back)) h)

agreed_stores : (from to : List ℕ) (e a : Entry) → bytes_eq a.table.name.ns e.table.name.ns ≡ true → agrees_moving from to e a ≡ true → settled from to e.store ≡ settled from to a.store
agreed_stores from to e a same h =
    sym ((bytes_eq-Decides (settled from to a.store) (settled from to e.store)).0 (sym (ap (λ (b : Bool). not b || bytes_eq (settled from to a.store) (settled from to e.store)) same) ∙ h))

same_ns : (a b ns : List ℕ) → bytes_eq a ns ≡ true → bytes_eq b ns ≡ true → bytes_eq a b ≡ true
same_ns a b ns h k = (bytes_eq-Decides a b).1 ((bytes_eq-Decides a ns).0 h ∙ sym ((bytes_eq-Decides b ns).0 k))

-- every later entry of a namespace is kept where an earlier one is
same_later : (names : List (List ℕ)) (from to ns : List ℕ) (front : List Entry) (a : Entry) (back es : List Entry) → bytes_eq a.table.name.ns ns ≡ true → FollowMoving names from to (front ++ a ∷ back) es → AllByRecursion (λ e. bytes_eq e.table.name.ns ns ≡ true → settled from to e.store ≡ settled from to a.store) es
same_later names from to ns front a back [] own h = tt
same_later names from to ns front a back (e ∷ es) own h = (
  λ k. agreed_stores from to e a (same_ns a.table.name.ns e.table.name.ns ns own k) (all_at (agrees_moving from to e) front a back (and_first (list_all (agrees_moving from to e) (front ++ a ∷ back)) _ h.0.1)),
  same_later names from to ns front a (back ++ e ∷ []) es own (subst (λ (l : List Entry). FollowMoving names from to l es) (append_assoc front (a ∷ back) (e ∷ [])) h.1),
)

from_settled : (from to store : List ℕ) → bytes_eq store from ≡ true → settled from to store ≡ to
from_settled from to store h = ap (λ (b : Bool). if b then to else store) h

moving_later : (from to ns x : List ℕ) (es : List Entry) → AllByRecursion (λ e. bytes_eq e.table.name.ns ns ≡ true → settled from to e.store ≡ x) es → is_moving from es ns ≡ true → x ≡ to
moving_later from to ns x [] h m = false_true m
moving_later from to ns x (e ∷ es) h m = elim (either (is_in_store from ns e) (is_moving from es ns) m) [
  | inl own ↦ sym (h.0 (and_second (bytes_eq e.store from) (bytes_eq e.table.name.ns ns) own)) ∙ from_settled from to e.store (and_first (bytes_eq e.store from) (bytes_eq e.table.name.ns ns) own)
  | inr rest ↦ moving_later from to ns x es h.1 rest
]

-- a moving namespace is then kept in `to`
moved_store : (names : List (List ℕ)) (from to ns : List ℕ) (passed es : List Entry) → FollowMoving names from to passed es → is_moving from es ns ≡ true → option_map (settled from to) (store_in es ns) ≡ Some to
moved_store names from to ns passed [] h m = false_true m
moved_store names from to ns passed (e ∷ es) h m = by (λ k. moved_store names from to ns (passed ++ e ∷ []) es h.1 k) (bytes_eq e.table.name.ns ns) refl
  where
    own : bytes_eq e.table.name.ns ns ≡ true → settled from to e.store ≡ to
    own q = elim (either (is_in_store from ns e) (is_moving from es ns) m) [
      | inl first ↦ from_settled from to e.store (and_first (bytes_eq e.store from) (bytes_eq e.table.name.ns ns) first)
      | inr rest ↦ moving_later from to ns (settled from to e.store) es (same_later names from to ns passed e [] es q h.1) rest
    ]

    later : bytes_eq e.table.name.ns ns ≡ false → is_moving from es ns ≡ true
    later q = elim (either (is_in_store from ns e) (is_moving from es ns) m) [
      | inl first ↦ false_true (sym q ∙ and_second (bytes_eq e.store from) (bytes_eq e.table.name.ns ns) first)
      | inr rest ↦ rest
    ]

    by : (is_moving from es ns ≡ true → option_map (settled from to) (store_in es ns) ≡ Some to) → (b : Bool) → bytes_eq e.table.name.ns ns ≡ b → option_map (settled from to) (option_map (λ (x : Entry). x.store) (cond b (Some e) (find (λ (x : Entry). bytes_eq x.table.name.ns ns) es))) ≡ Some to
    by rest true q = ap Some (own q)
    by rest false q = rest (later q)

-- another stays where it is
stayed_store : (from to ns : List ℕ) (es : List Entry) → is_moving from es ns ≡ false → option_map (settled from to) (store_in es ns) ≡ store_in es ns
stayed_store from to ns [] m = refl
stayed_store from to ns (e ∷ es) m = by (λ k. stayed_store from to ns es k) (bytes_eq e.table.name.ns ns) refl
  where
    rest_of : is_moving from es ns ≡ false
    rest_of = false_by (is_moving from es ns) (λ k. false_true (sym m ∙ or_second (is_in_store from ns e) (is_moving from es ns) k))

    other : bytes_eq e.table.name.ns ns ≡ true → bytes_eq e.store from ≡ false
    other q = false_by (bytes_eq e.store from) (λ k. false_true (sym m ∙ or_first (is_in_store from ns e) (is_moving from es ns) (and_both (bytes_eq e.store from) (bytes_eq e.table.name.ns ns) k q)))

    by : (is_moving from es ns ≡ false → option_map (settled from to) (store_in es ns) ≡ store_in es ns) → (b : Bool) → bytes_eq e.table.name.ns ns ≡ b
        → option_map (settled from to) (option_map (λ (x : Entry). x.store) (cond b (Some e) (find (λ (x : Entry). bytes_eq x.table.name.ns ns) es))) ≡ option_map (λ (x : Entry). x.store) (cond b (Some e) (find (λ (x : Entry). bytes_eq x.table.name.ns ns) es))
    by rest true q = ap (λ (b : Bool). Some (if b then to else e.store)) (other q)
    by rest false q = rest rest_of

-- and is another store than the one given up, and attached
abbrev pub IsElsewhere : List (List ℕ) → List ℕ → List ℕ → Type 0
IsElsewhere names from store = (from ≢ store) × (is_attached names store ≡ true)

other_store : (names : List (List ℕ)) (from to ns store : List ℕ) (passed es : List Entry) → FollowMoving names from to passed es → is_moving from es ns ≡ false → store_in es ns ≡ Some store → IsElsewhere names from store
other_store names from to ns store passed [] h m e = none_some store e
other_store names from to ns store passed (x ∷ xs) h m e = by (λ k l. other_store names from to ns store (passed ++ x ∷ []) xs h.1 k l) (bytes_eq x.table.name.ns ns) refl e
  where
    by : (is_moving from xs ns ≡ false → store_in xs ns ≡ Some store → IsElsewhere names from store) → (b : Bool) → bytes_eq x.table.name.ns ns ≡ b → option_map (λ (y : Entry). y.store) (cond b (Some x) (find (λ (y : Entry). bytes_eq y.table.name.ns ns) xs)) ≡ Some store → IsElsewhere names from store
    by rest true q k =
        let is : x.store ≡ store = some_is x.store store k in
        (λ same. false_true (sym m ∙ or_first (is_in_store from ns x) (is_moving from xs ns) (and_both (bytes_eq x.store from) (bytes_eq x.table.name.ns ns) ((bytes_eq-Decides x.store from).1 (is ∙ sym same)) q)), ap (is_attached names) (sym is) ∙ h.0.0.attached)
    by rest false q k = rest (false_by (is_moving from xs ns) (λ l. false_true (sym m ∙ or_second (is_in_store from ns x) (is_moving from xs ns) l))) k

---- which keys move

among_moving : (from : List ℕ) (full es : List Entry) (key : Key) → is_among (map (λ (e : Entry). e.table.name) (filter (λ e. is_moving from full e.table.name.ns) es)) key ≡ true → is_moving from full key.table.ns ≡ true
among_moving from full [] key h = false_true h
among_moving from full (e ∷ es) key h = by (λ k. among_moving from full es key k) (is_moving from full e.table.name.ns) refl h
  where
    by : (is_among (map (λ (x : Entry). x.table.name) (filter (λ x. is_moving from full x.table.name.ns) es)) key ≡ true → is_moving from full key.table.ns ≡ true) → (b : Bool) → is_moving from full e.table.name.ns ≡ b
        → is_among (map (λ (x : Entry). x.table.name) (cond b (e ∷ filter (λ x. is_moving from full x.table.name.ns) es) (filter (λ x. is_moving from full x.table.name.ns) es))) key ≡ true → is_moving from full key.table.ns ≡ true
    by rest true q k = elim (either (in_span (span_of e.table.name) key) (is_among (map (λ (x : Entry). x.table.name) (filter (λ x. is_moving from full x.table.name.ns) es)) key) k) [
      | inl own ↦ ap (λ (t : TableName). is_moving from full t.ns) (sym (table_of_key e.table.name key own)) ∙ q
      | inr later ↦ rest later
    ]
    by rest false q k = rest k

-- a key of a catalog's table moves with its namespace
moves_with : (from : List ℕ) (full es : List Entry) (key : Key) → is_among (map (λ (e : Entry). e.table.name) es) key ≡ true → is_moving from full key.table.ns ≡ true → is_among (map (λ (e : Entry). e.table.name) (filter (λ e. is_moving from full e.table.name.ns) es)) key ≡ true
moves_with from full [] key h m = h
moves_with from full (e ∷ es) key h m = elim (either (in_span (span_of e.table.name) key) (is_among (map (λ (x : Entry). x.table.name) es) key) h) [
  | inl own ↦ ap (λ (b : Bool). is_among (map (λ (x : Entry). x.table.name) (cond b (e ∷ filter (λ x. is_moving from full x.table.name.ns) es) (filter (λ x. is_moving from full x.table.name.ns) es))) key)
      (ap (λ (t : TableName). is_moving from full t.ns) (table_of_key e.table.name key own) ∙ m)
      ∙ or_first (in_span (span_of e.table.name) key) (is_among (map (λ (x : Entry). x.table.name) (filter (λ x. is_moving from full x.table.name.ns) es)) key) own
  | inr later ↦ longer (is_moving from full e.table.name.ns) (moves_with from full es key later m)
]
  where
    longer : (b : Bool) → is_among (map (λ (x : Entry). x.table.name) (filter (λ x. is_moving from full x.table.name.ns) es)) key ≡ true
        → is_among (map (λ (x : Entry). x.table.name) (cond b (e ∷ filter (λ x. is_moving from full x.table.name.ns) es) (filter (λ x. is_moving from full x.table.name.ns) es))) key ≡ true
    longer true k = or_second (in_span (span_of e.table.name) key) (is_among (map (λ (x : Entry). x.table.name) (filter (λ x. is_moving from full x.table.name.ns) es)) key) k
    longer false k = k

own_span : (key : Key) → in_span (span_of key.table) key ≡ true
own_span key = and_both (is_eq (table_cmp key.table key.table)) true (ap is_eq (tied_itself table_total key.table)) refl

coordinators_name : coordinators.name ≡ coordinator_table
unfolding coordinators
coordinators_name = refl

-- a table of the coordinator's namespace is its own
coordinators_own : (t : Table) → MayHaveRow t → bytes_eq t.name.ns (codes "coordinator") ≡ true → t.name ≡ coordinator_table
coordinators_own t (inl own) h = ap (λ (u : Table). u.name) own ∙ coordinators_name
coordinators_own t (inr may) h =
    false_true (sym (ap not h)
    ∙ and_first (not (bytes_eq t.name.ns (codes "coordinator"))) (not (bytes_eq t.name.ns (codes "scalardb")))
    (and_first (not (bytes_eq t.name.ns (codes "coordinator")) && not (bytes_eq t.name.ns (codes "scalardb"))) (is_column_name t.name.table)
    (and_second (is_column_name t.name.ns) ((not (bytes_eq t.name.ns (codes "coordinator")) && not (bytes_eq t.name.ns (codes "scalardb"))) && is_column_name t.name.table) may.1)))

-- where the coordinator's namespace moves, its table is one of the catalog's
coordinators_there : (names : List (List ℕ)) (from to : List ℕ) (passed es : List Entry) (key : Key) → key.table ≡ coordinator_table → FollowMoving names from to passed es → is_moving from es (codes "coordinator") ≡ true → is_among (map (λ (e : Entry). e.table.name) es) key ≡ true
coordinators_there names from to passed [] key is h m = m
coordinators_there names from to passed (e ∷ es) key is h m = elim (either (is_in_store from (codes "coordinator") e) (is_moving from es (codes "coordinator")) m) [
  | inl own ↦ or_first (in_span (span_of e.table.name) key) (is_among (map (λ (x : Entry). x.table.name) es) key)
      (ap (λ (t : TableName). in_span (span_of t) key) (coordinators_own e.table h.0.0.table (and_second (bytes_eq e.store from) (bytes_eq e.table.name.ns (codes "coordinator")) own) ∙ sym is) ∙ own_span key)
  | inr later ↦ or_second (in_span (span_of e.table.name) key) (is_among (map (λ (x : Entry). x.table.name) es) key) (coordinators_there names from to (passed ++ e ∷ []) es key is h.1 later)
]

---- what is at a key

-- Elsewhere than in the catalog's rows and in moving tables, each store holds what it held.
kept_elsewhere : (s : Sides) (n : ℕ) (old new : Attached) (r : IsRetired s n old new) (i : ℕ) (key : Key) → AreKnown s old → old.known i → key.table ≢ metadata_table → is_among (moving_tables s.from r.moved.survey.entries) key ≡ false → record_at (contents_at r.mid i) key ≡ record_at (contents_at old.views i) key
kept_elsewhere s n old new r i key known tell far out = by_test (i == index_at old s.to) at_to (λ a. by_test (i == 0) (at_first a) (at_others a))
  where
    at_to : (i == index_at old s.to) ≡ true → record_at (contents_at r.mid i) key ≡ record_at (contents_at old.views i) key
    at_to e = subst (λ (j : ℕ). record_at (contents_at r.mid j) key ≡ record_at (contents_at old.views j) key) (sym (eq_of i (index_at old s.to) e))
        (r.moved.tables known.from known.to key far
        ∙ ap (λ (b : Bool). if b then record_at (contents_at old.views (index_at old s.from)) key else record_at (contents_at old.views (index_at old s.to)) key) out)

    at_first : (i == index_at old s.to) ≡ false → (i == 0) ≡ true → record_at (contents_at r.mid i) key ≡ record_at (contents_at old.views i) key
    at_first a e =
        let to = index_at old s.to in
        let c = contents_at old.views 0 in
        let is : i ≡ 0 = eq_of i 0 e in
        let apart : (to == 0) ≡ false = false_by (to == 0) (λ k. false_true (sym a ∙ ap (λ (j : ℕ). j == to) (is ∙ sym (eq_of to 0 k)) ∙ itself_test to)) in
        subst (λ (j : ℕ). record_at (contents_at r.mid j) key ≡ record_at (contents_at old.views j) key) (sym is)
        (ap (λ m. record_at m key) (r.moved.held 0 known.first ∙ after_more 0 (writes_at to (requests_of r.moved.survey.seen)) (writes_at 0 (renewals s.from s.to r.moved.survey.entries)) c)
        ∙ elsewhere 0 0 s.from s.to r.moved.survey.entries (after_writes 0 (writes_at to (requests_of r.moved.survey.seen)) c) key far
        ∙ ap (λ m. record_at m key) (nothing_here 0 (writes_at to (requests_of r.moved.survey.seen)) c (at_other 0 to (requests_of r.moved.survey.seen) apart)))
      where
        itself_test : (j : ℕ) → (j == j) ≡ true
        itself_test j = grind arith

    at_others : (i == index_at old s.to) ≡ false → (i == 0) ≡ false → record_at (contents_at r.mid i) key ≡ record_at (contents_at old.views i) key
    at_others a b = ap (λ m. record_at m key) (r.others i (λ e. differs i (index_at old s.to) a e) (λ e. differs i 0 b e) tell)
      where
        differs : (j k : ℕ) → (j == k) ≡ false → j ≡ k → ⊥
        differs j k h e = false_true (sym h ∙ ap (λ (x : ℕ). j == x) (sym e) ∙ same j)
          where
            same : (j : ℕ) → (j == j) ≡ true
            same j = grind arith

attached_place : (names : List (List ℕ)) (store : List ℕ) → is_attached names store ≡ true → IsSome (place_of store names)
attached_place names store h = by (place_of store names) refl
  where
    by : (o : Option ℕ) → place_of store names ≡ o → IsSome o
    by None e = attached_placed names store h e
    by (Some i) e = refl

---- a key of the catalog's tables

-- a store other than the one given up holds what it held between
left_contents : (s : Sides) (n : ℕ) (old new : Attached) (r : IsRetired s n old new) (store : List ℕ) → s.from ≢ store → is_attached (names_of old.views) store ≡ true → contents_at new.views (index_at new store) ≡ contents_at r.mid (index_at old store)
left_contents s n old new r store apart there =
    let at = r.dropped.at in
    let names = names_of r.mid in
    let own : is_attached names store ≡ true = subst (λ (l : List (List ℕ)). is_attached l store ≡ true) (sym r.goes.names) there in
    let far : bytes_eq (get_or names at []) store ≡ false = ap (λ (l : List ℕ). bytes_eq l store) (named_at names s.from at r.dropped.found).1 ∙ not_same s.from store apart in
    let left : names_of new.views ≡ remove names at = ap names_of r.dropped.rest ∙ names_left r.mid at in
    contents_left r.mid new.views at s.from store r.dropped.found r.dropped.rest apart (attached_place names store own)
    (subst (λ (l : List (List ℕ)). IsSome (place_of store l)) (sym left) (attached_place (remove names at) store (left_there names at store far own)))
    ∙ ap (λ (l : List (List ℕ)). contents_at r.mid (unwrap_or (place_of store l) 0)) r.goes.names

attached_in : (names : List (List ℕ)) (store : List ℕ) → IsSome (place_of store names) → is_attached names store ≡ true
attached_in names store h =
    let p = named_at names store (unwrap_or (place_of store names) 0) (place_is (place_of store names) h) in
    found_at names (unwrap_or (place_of store names) 0) store p.0 ((bytes_eq-Decides (get_or names (unwrap_or (place_of store names) 0) []) store).1 p.1)

at_moved : (s : Sides) (n : ℕ) (old new : Attached) (r : IsRetired s n old new) (key : Key) → MayRetire (names_of old.views) s → AreKnown s old → key.table ≢ metadata_table → is_among (moving_tables s.from r.moved.survey.entries) key ≡ true
    → record_in_store new (map (settle s.from s.to) r.moved.survey.entries) key ≡ record_before s old r.moved.survey.entries key
at_moved s n old new r key may known far inside =
    let es = r.moved.survey.entries in
    let ns = key.table.ns in
    ap (λ (o : Option (List ℕ)). record_at (contents_at new.views (option_map_or (index_at new) o 0)) key)
    (entry_store s.from s.to ns es ∙ moved_store (names_of old.views) s.from s.to ns [] es r.moved.observed.opened.opens.follow (among_moving s.from es es key inside))
    ∙ ap (λ m. record_at m key) (left_contents s n old new r s.to may.apart (attached_in (names_of old.views) s.to (attached_of old s.to may.to)))
    ∙ r.moved.tables known.from known.to key far
    ∙ ap (λ (b : Bool). if b then record_at (contents_at old.views (index_at old s.from)) key else record_at (contents_at old.views (index_at old s.to)) key) inside
    ∙ sym (ap (λ (b : Bool). if b then record_at (contents_at old.views (index_at old s.from)) key else record_in_store old es key) inside)

place_within : (old : Attached) (store : List ℕ) → is_attached (names_of old.views) store ≡ true → index_at old store < length old.views
place_within old store h =
    let p = named_at (names_of old.views) store (index_at old store) (place_is (place_of store (names_of old.views)) (attached_place (names_of old.views) store h)) in
    omega (arith, p.0, length-map old.views (λ (x : StoreView). x.name))

at_home : (s : Sides) (n : ℕ) (old new : Attached) (r : IsRetired s n old new) (key : Key) → MayRetire (names_of old.views) s → AreKnown s old → AllKnown old → key.table ≢ metadata_table → is_among (moving_tables s.from r.moved.survey.entries) key ≡ false → is_moving s.from r.moved.survey.entries key.table.ns ≡ false
    → (o : Option (List ℕ)) → store_in r.moved.survey.entries key.table.ns ≡ o → record_at (contents_at new.views (option_map_or (index_at new) o 0)) key ≡ record_at (contents_at old.views (option_map_or (index_at old) o 0)) key
at_home s n old new r key may known all far out still None e =
    let later : r.dropped.at ≢ 0 = λ q. later_of old s.from may.from may.stays (ap (λ (o : Option ℕ). unwrap_or o 0) (ap (place_of s.from) (sym r.goes.names) ∙ r.dropped.found) ∙ q) in
    ap (λ m. record_at m key) (first_stays r.mid new.views r.dropped.at later r.dropped.rest) ∙ kept_elsewhere s n old new r 0 key known known.first far out
at_home s n old new r key may known all far out still (Some store) e =
    let own = other_store (names_of old.views) s.from s.to key.table.ns store [] r.moved.survey.entries r.moved.observed.opened.opens.follow still e in
    ap (λ m. record_at m key) (left_contents s n old new r store own.0 own.1) ∙ kept_elsewhere s n old new r (index_at old store) key known (all (index_at old store) (place_within old store own.1)) far out

at_stayed : (s : Sides) (n : ℕ) (old new : Attached) (r : IsRetired s n old new) (key : Key) → MayRetire (names_of old.views) s → AreKnown s old → AllKnown old → key.table ≢ metadata_table → is_among (moving_tables s.from r.moved.survey.entries) key ≡ false → is_moving s.from r.moved.survey.entries key.table.ns ≡ false
    → record_in_store new (map (settle s.from s.to) r.moved.survey.entries) key ≡ record_before s old r.moved.survey.entries key
at_stayed s n old new r key may known all far out still =
    let es = r.moved.survey.entries in
    ap (λ (o : Option (List ℕ)). record_at (contents_at new.views (option_map_or (index_at new) o 0)) key) (entry_store s.from s.to key.table.ns es ∙ stayed_store s.from s.to key.table.ns es still)
    ∙ at_home s n old new r key may known all far out still (store_in es key.table.ns) refl
    ∙ sym (ap (λ (b : Bool). if b then record_at (contents_at old.views (index_at old s.from)) key else record_in_store old es key) out)

at_either : (s : Sides) (n : ℕ) (old new : Attached) (r : IsRetired s n old new) (key : Key) → MayRetire (names_of old.views) s → AreKnown s old → AllKnown old → key.table ≢ metadata_table
    → (is_moving s.from r.moved.survey.entries key.table.ns ≡ true → is_among (moving_tables s.from r.moved.survey.entries) key ≡ true) → record_in_store new (map (settle s.from s.to) r.moved.survey.entries) key ≡ record_before s old r.moved.survey.entries key
at_either s n old new r key may known all far moves = by_test (is_among (moving_tables s.from r.moved.survey.entries) key)
    (at_moved s n old new r key may known far)
    (λ out. at_stayed s n old new r key may known all far out (false_by (is_moving s.from r.moved.survey.entries key.table.ns) (λ m. false_true (sym out ∙ moves m))))

tables_far : (names : List (List ℕ)) (from to : List ℕ) (passed es : List Entry) (key : Key) → FollowMoving names from to passed es → is_among (map (λ (e : Entry). e.table.name) es) key ≡ true → key.table ≢ metadata_table
tables_far names from to passed [] key h m = false_true m
tables_far names from to passed (e ∷ es) key h m = elim (either (in_span (span_of e.table.name) key) (is_among (map (λ (x : Entry). x.table.name) es) key) m) [
  | inl own ↦ λ q. not_catalogs e.table h.0.0.table (table_of_key e.table.name key own ∙ q)
  | inr later ↦ tables_far names from to (passed ++ e ∷ []) es key h.1 later
]

coordinators_table : (id : TxId) → (coordinator_key_of id).table ≡ coordinator_table
unfolding coordinator_key_of
coordinators_table id = refl

coordinators_far : (id : TxId) → (coordinator_key_of id).table ≢ metadata_table
coordinators_far id e = false_true (ap (λ (t : TableName). bytes_eq t.ns (codes "scalardb")) (sym (coordinators_table id) ∙ e))

pub images_stay : (s : Sides) (n : ℕ) (old new : Attached) (r : IsRetired s n old new) → MayRetire (names_of old.views) s → AreKnown s old → AllKnown old → ImagesArePreserved s old new r.moved.survey.entries (map (settle s.from s.to) r.moved.survey.entries)
images_stay s n old new r may known all = λ key own.
    let es = r.moved.survey.entries in
    let follow = r.moved.observed.opened.opens.follow in
    same_images (record_in_store new (map (settle s.from s.to) es)) (record_before s old es) key
    (at_either s n old new r key may known all (tables_far (names_of old.views) s.from s.to [] es key follow own) (moves_with s.from es es key own))
    (λ id. at_either s n old new r (coordinator_key_of id) may known all (coordinators_far id)
    (λ m. moves_with s.from es es (coordinator_key_of id) (coordinators_there (names_of old.views) s.from s.to [] es (coordinator_key_of id) (coordinators_table id) follow (ap (λ (t : TableName). is_moving s.from es t.ns) (sym (coordinators_table id)) ∙ m)) m))

---- the catalog again

pub opens_same : (s : Sides) (n : ℕ) (old new : Attached) → IsRetired s n old new → MayRetire (names_of old.views) s → AreKnown s old → OpensTheSame s old new
opens_same s n old new r may known =
    let names = names_of old.views in
    let es = r.moved.survey.entries in
    let at : place_of s.from names ≡ Some r.dropped.at = ap (place_of s.from) (sym r.goes.names) ∙ r.dropped.found in
    let to = named_at names s.to (index_at old s.to) (place_is (index_in old s.to) (attached_of old s.to may.to)) in
    let left : names_of new.views ≡ remove names r.dropped.at = ap names_of r.dropped.rest ∙ names_left r.mid r.dropped.at ∙ ap (λ (l : List (List ℕ)). remove l r.dropped.at) r.goes.names in
    let still = still_attached names s.from s.to r.dropped.at at may.apart (found_at names (index_at old s.to) s.to to.0 ((bytes_eq-Decides (get_or names (index_at old s.to) []) s.to).1 to.1)) in
    let far : r.dropped.at ≢ 0 = λ e. later_of old s.from may.from may.stays (ap (λ (o : Option ℕ). unwrap_or o 0) at ∙ e) in
    record {
      before = es;
      now = map (settle s.from s.to) es;
      opened = subst (λ rs. OpensMoving names s.from s.to rs es) (r.moved.observed.opened.observed.known known.first ∙ ap (rows_in metadata_span) (first_at old.views)) r.moved.observed.opened.opens;
      opens = subst (λ (l : List (List ℕ)). Opens l (rows_in metadata_span (first_contents new.views)) (map (settle s.from s.to) es)) (sym left) (record {
        rows = ap (rows_in metadata_span) (sym (first_at new.views) ∙ first_stays r.mid new.views r.dropped.at far r.dropped.rest) ∙ r.moved.rows known;
        follow = follow_settled names (remove names r.dropped.at) s.from s.to [] es still r.moved.observed.opened.opens.follow;
      });
      tables = tables_settled s.from s.to es;
      images = images_stay s n old new r may known;
    }
