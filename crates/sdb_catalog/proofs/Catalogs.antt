-- The tables of entries make a catalog.
use Rattle.std.proofs.Common.{◌≡◌, ℕ, ◌+◌, ◌≤◌, List, [], ◌∷◌, ◌++◌, length, map, Bool, true, false, not, ◌&&◌, ◌||◌, cond, inl, inr, refl, sym, ap, subst, ◌∙◌, arith, append_assoc, append-nil, length-append}
use Rattle.std.specs.Prelude.{filter, nat_lt, codes}
use Rattle.std.specs.List.{list_all}
use Rattle.std.specs.Str.{bytes_eq}
use Rattle.sdb_catalog.specs.Types.{Ordering, Record, Table, TableName}
use Rattle.std.specs.declared.cmp.Ordering.TheVariants.{Less, Equal, Greater}
use Rattle.std.specs.Ordering.{is_lt, ordering_then}
use Rattle.std.proofs.lemmas.Bool.Decides.{nat_tests}
use Rattle.std.proofs.lemmas.List.{length-map}
use Rattle.std.proofs.lemmas.List.Elements.{filter-append}
use Rattle.std.proofs.lemmas.List.Sums.{length-filter}
use Rattle.sdb_types.specs.Contents.{in_span, rise, starts_after}
use Rattle.sdb_types.specs.Identifier.{is_name}
use Rattle.sdb_types.specs.Order.{key_cmp, name_cmp, table_cmp, table_text}
use Rattle.sdb_types.proofs.Public.{and_both, and_first, and_second, by_text, less_of, table_total}
use Rattle.sdb_record.specs.Parts.{is_column_name}
use Rattle.sdb_schema.specs.Catalog.{rises, is_above_name}
use Rattle.sdb_schema.specs.Table.{is_table}
use Rattle.sdb_loader.specs.Words.{is_open}
use Rattle.sdb_record.proofs.Public.{name_of_column}
use Rattle.sdb_stores.specs.Views.{Attached, StoreView, names_of}
use Rattle.sdb_catalog.specs.declared.entry.Entry.{Entry}
use Rattle.sdb_catalog.specs.Calls.{IsRead, metadata_span}
use Rattle.sdb_catalog.specs.Opened.{Follow, agrees, are_attached, is_attached, is_coordinators, open_count, open_entries, tables_of}
use Rattle.sdb_catalog.specs.Rows.{MayHaveRow, coordinators, metadata_key_of, row_of}

---- each entry

pub all_attached : (names : List (List ℕ)) (passed es : List Entry) → Follow names passed es → are_attached names es ≡ true
all_attached names passed [] h = refl
all_attached names passed (e ∷ es) h = and_both (is_attached names e.store) (are_attached names es) h.0.0.attached (all_attached names (passed ++ e ∷ []) es h.1)

pub own_ns : bytes_eq coordinators.name.ns (codes "coordinator") ≡ true
unfolding coordinators
own_ns = refl

own_named : is_name coordinators.name.ns ≡ true
unfolding coordinators
own_named = refl

-- a table that isn't the coordinator's
pub open_is : (e : Entry) → MayHaveRow e.table → is_coordinators e ≡ false → is_table e.table ≡ true
open_is e h other =
    elim h [
      | inl own ↦ absurd (let f : true ≡ false = sym own_ns ∙ ap (λ (t : Table). bytes_eq t.name.ns (codes "coordinator")) (sym own) ∙ other in cc)
      | inr may ↦ may.0
    ]

pub ns_is : (t : Table) → MayHaveRow t → is_name t.name.ns ≡ true
ns_is t h =
    elim h [
      | inl own ↦ ap (λ (u : Table). is_name u.name.ns) own ∙ own_named
      | inr may ↦ name_of_column t.name.ns (and_first (is_column_name t.name.ns) (is_open t.name.ns && is_column_name t.name.table) may.1)
    ]

abbrev pub one_more : Entry → Bool → List Entry → List Table
one_more e own es = map (λ (a : Entry). a.table) (cond (not own) (e ∷ open_entries es) (open_entries es))

pub all_tables : (names : List (List ℕ)) (passed es : List Entry) → Follow names passed es → list_all is_table (tables_of es) ≡ true
all_tables names passed [] h = refl
all_tables names passed (e ∷ es) h =
    elim (is_coordinators e) as (λ b. is_coordinators e ≡ b → list_all is_table (one_more e b es) ≡ true) [
      | true ↦ λ q. all_tables names (passed ++ e ∷ []) es h.1
      | false ↦ λ q. and_both (is_table e.table) (list_all is_table (tables_of es)) (open_is e h.0.0.table q) (all_tables names (passed ++ e ∷ []) es h.1)
    ] refl

---- how many they are

pub count_more : (es fs : List Entry) → open_count (es ++ fs) ≡ open_count es + open_count fs
count_more es fs =
    let p : Entry → Bool = λ a. not (is_coordinators a) in
    sym (length-filter p (es ++ fs)) ∙ ap length (filter-append p es fs) ∙ length-append (filter p es) (filter p fs)
    ∙ ap (λ (n : ℕ). n + length (filter p fs)) (length-filter p es) ∙ ap (λ (n : ℕ). open_count es + n) (length-filter p fs)

pub one_count : (e : Entry) (b : Bool) → is_coordinators e ≡ b → open_count (e ∷ []) ≡ cond b 0 1
one_count e true q = sym (length-filter (λ (a : Entry). not (is_coordinators a)) (e ∷ [])) ∙ simp q refl
one_count e false q = sym (length-filter (λ (a : Entry). not (is_coordinators a)) (e ∷ [])) ∙ simp q refl

below : (n : ℕ) → nat_lt n 64 ≡ true → n + 1 ≤ 64
below n h = grind (arith, nat_tests)

few_after : (es : List Entry) (e : Entry) (b : Bool) → is_coordinators e ≡ b → open_count es ≤ 64 → (b || nat_lt (open_count es) 64) ≡ true → open_count (es ++ e ∷ []) ≤ 64
few_after es e true q few h = omega (arith, count_more es (e ∷ []), one_count e true q, few)
few_after es e false q few h = omega (arith, count_more es (e ∷ []), one_count e false q, below (open_count es) h)

pub few : (names : List (List ℕ)) (passed es : List Entry) → Follow names passed es → open_count passed ≤ 64 → open_count (passed ++ es) ≤ 64
few names passed [] h k = subst (λ (l : List Entry). open_count l ≤ 64) (sym (append-nil passed)) k
few names passed (e ∷ es) h k =
    let fit = and_second (list_all (agrees e) passed) (is_coordinators e || nat_lt (open_count passed) 64) h.0.1 in
    subst (λ (l : List Entry). open_count l ≤ 64) (append_assoc passed (e ∷ []) es) (few names (passed ++ e ∷ []) es h.1 (few_after passed e (is_coordinators e) refl k fit))

pub few_tables : (names : List (List ℕ)) (es : List Entry) → Follow names [] es → length (tables_of es) ≤ 64
few_tables names es h =
    omega (arith, few names [] es h (omega arith), length-map (open_entries es) (λ (a : Entry). a.table), length-filter (λ (a : Entry). not (is_coordinators a)) es)

---- their order

then_equal : (r : Ordering) → ordering_then r Equal ≡ r
then_equal Less = refl
then_equal Equal = refl
then_equal Greater = refl

pub key_is : (a b : TableName) → key_cmp (metadata_key_of a) (metadata_key_of b) ≡ name_cmp (table_text a) (table_text b)
unfolding metadata_key_of
key_is a b = then_equal _ ∙ then_equal _

abbrev lower_than : TableName → List Table → Bool
lower_than name ts = list_all (λ (t : Table). is_lt (table_cmp name t.name)) ts

pub key_of_row : (e : Entry) → (row_of e).key ≡ metadata_key_of e.table.name
unfolding row_of
key_of_row e = refl

-- the keys of rows are in the order of the tables' names
pub key_order : (a b : Entry) → is_name a.table.name.ns ≡ true → is_name b.table.name.ns ≡ true → key_cmp (row_of a).key (row_of b).key ≡ table_cmp a.table.name b.table.name
key_order a b h k =
    ap (λ x. key_cmp x (row_of b).key) (key_of_row a) ∙ ap (key_cmp (metadata_key_of a.table.name)) (key_of_row b) ∙ key_is a.table.name b.table.name ∙ by_text a.table.name b.table.name h k

next_lower : (a b : Entry) → MayHaveRow a.table → MayHaveRow b.table → is_lt (key_cmp (row_of a).key (row_of b).key) ≡ true → is_lt (table_cmp a.table.name b.table.name) ≡ true
next_lower a b h k less = ap is_lt (sym (key_order a b (ns_is a.table h) (ns_is b.table k))) ∙ less

all_lower : (a b : TableName) (ts : List Table) → is_lt (table_cmp a b) ≡ true → lower_than b ts ≡ true → lower_than a ts ≡ true
all_lower a b [] h k = refl
all_lower a b (t ∷ ts) h k =
    and_both (is_lt (table_cmp a t.name)) (lower_than a ts)
    (ap is_lt (table_total.trans a b t.name (less_of _ h) (less_of _ (and_first (is_lt (table_cmp b t.name)) (lower_than b ts) k))))
    (all_lower a b ts h (and_second (is_lt (table_cmp b t.name)) (lower_than b ts) k))

pub later_lower : (names : List (List ℕ)) (passed : List Entry) (e : Entry) (es : List Entry) → Follow names passed (e ∷ es) → rise (map row_of (e ∷ es)) ≡ true → lower_than e.table.name (tables_of es) ≡ true
later_lower names passed e [] h r = refl
later_lower names passed e (f ∷ fs) h r =
    let first = and_first (starts_after (row_of e).key (map row_of (f ∷ fs))) (rise (map row_of (f ∷ fs))) r in
    let rest = and_second (starts_after (row_of e).key (map row_of (f ∷ fs))) (rise (map row_of (f ∷ fs))) r in
    let next = next_lower e f h.0.0.table h.1.0.0.table first in
    let later = all_lower e.table.name f.table.name (tables_of fs) next (later_lower names (passed ++ e ∷ []) f fs h.1 rest) in
    elim (is_coordinators f) as (λ b. lower_than e.table.name (one_more f b fs) ≡ true) [
      | true ↦ later
      | false ↦ and_both (is_lt (table_cmp e.table.name f.table.name)) (lower_than e.table.name (tables_of fs)) next later
    ]

above_first : (name : TableName) (ts : List Table) → lower_than name ts ≡ true → is_above_name name ts ≡ true
above_first name [] h = refl
above_first name (t ∷ ts) h = and_first (is_lt (table_cmp name t.name)) (lower_than name ts) h

pub tables_rise : (names : List (List ℕ)) (passed es : List Entry) → Follow names passed es → rise (map row_of es) ≡ true → rises (tables_of es) ≡ true
tables_rise names passed [] h r = refl
tables_rise names passed (e ∷ es) h r =
    let later = tables_rise names (passed ++ e ∷ []) es h.1 (and_second (starts_after (row_of e).key (map row_of es)) (rise (map row_of es)) r) in
    elim (is_coordinators e) as (λ b. rises (one_more e b es) ≡ true) [
      | true ↦ later
      | false ↦ and_both (is_above_name e.table.name (tables_of es)) (rises (tables_of es)) (above_first e.table.name (tables_of es) (later_lower names passed e es h r)) later
    ]

pub read_rises : (old : Attached) (new : List StoreView) (es : List Entry) → IsRead old new es → rises (tables_of es) ≡ true
read_rises old new es read =
    tables_rise (names_of old.views) [] es read.opens.follow (ap rise (sym read.opens.rows) ∙ and_first (rise read.rows) (list_all (λ (r : Record). in_span metadata_span r.key) read.rows) read.scanned.lawful)
