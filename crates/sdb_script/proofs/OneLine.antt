-- No LF is in the JSON of a catalog.
use Rattle.std.proofs.Common.{◌≡◌, ℕ, ◌+◌, ◌/◌, ◌%◌, ◌==◌, Bool, true, false, not, ◌&&◌, ◌||◌, List, [], ◌∷◌, ◌++◌, length, map, flat_map, Option, Some, None, Result, Ok, Err, refl, sym, subst, ◌∙◌, arith, codes}
use Rattle.std.specs.Prelude.{nat_lt, nat_le}
use Rattle.std.specs.Char.{digit_char}
use Rattle.std.specs.List.{list_all}
use Rattle.std.specs.Option.{option_map_or}
use Rattle.std.proofs.lemmas.Bool.Decides.{nat_tests}
use Rattle.std.proofs.lemmas.List.Folds.{list_all-append}
use Rattle.json.specs.Print.{escape_letter, escape_byte, escape, quoted}
use Rattle.serde_json.specs.Data.{Data, string, object, Members, no_members, member}
use Rattle.serde_json.specs.Find.{as_object}
use Rattle.serde_json.specs.View.{items_of}
use Rattle.serde_json.specs.Written.{comma_if, compact_text, items_text, members_text}
use Rattle.sdb_script.specs.Types.{Column, SchemaFault, Table, TableName}
use Rattle.sdb_types.specs.Identifier.{is_start, is_part, is_identifier}
use Rattle.sdb_types.specs.Order.{table_text}
use Rattle.sdb_types.proofs.Public.{and_both, and_first, and_second, by_test}
use Rattle.sdb_record.specs.Parts.{is_column_name}
use Rattle.sdb_loader.specs.Words.{is_open, names_table, table_named}
use Rattle.sdb_loader.specs.Fields.{clustering_key, columns, partition_key, secondary_index}
use Rattle.sdb_loader.specs.declared.fault.SchemaFault.TheVariants as schema
use Rattle.sdb_loader.specs.Described.{bad_name, named, table_of, untransactional, bad_field, unknown_type, bad_table, first_given, refuse, within_limit, described_tables, described_members, described, json_of, catalog_in}
use Rattle.sdb_loader.proofs.Public.{text_of}
use Rattle.sdb_catalog.specs.Definition.{order_text, columns_data, names_data, orders_data, definition_text}
use Rattle.sdb_schema.specs.Kinds.{kind_text}
use Rattle.sdb_script.specs.Printed.{member_text, catalog_text}
use Rattle.sdb_script.specs.Printed as printed

-- no LF is in a text
abbrev pub is_single : List ℕ → Bool
is_single text = list_all (λ b. not (b == 10)) text

both : (xs ys : List ℕ) → is_single xs ≡ true → is_single ys ≡ true → is_single (xs ++ ys) ≡ true
both xs ys h k = list_all-append (λ b. not (b == 10)) xs ys ∙ and_both (is_single xs) (is_single ys) h k

---- strings

letter_other : (x : ℕ) → (x == 10) ≡ false → (escape_letter x == 10) ≡ false
letter_other x h =
    by_test ((x == 34) || (x == 92)) (λ t. rw t h) (λ t.
    by_test (x == 8) (λ u. rw (t, u) refl) (λ u.
    by_test (x == 12) (λ v. rw (t, u, v) refl) (λ v.
    by_test (x == 13) (λ w. rw (t, u, v, h, w) refl) (λ w.
    by_test (x == 9) (λ y. rw (t, u, v, h, w, y) refl) (λ y. rw (t, u, v, h, w, y) refl)))))

digit_other : (d : ℕ) → (digit_char d == 10) ≡ false
digit_other d = by_test (nat_lt d 10) (λ t. rw t (low d)) (λ t. rw t (high d))
  where
    low : (d : ℕ) → (48 + d == 10) ≡ false
    low d = grind (arith, nat_tests)

    high : (d : ℕ) → (87 + d == 10) ≡ false
    high d = grind (arith, nat_tests)

other_single : (x : ℕ) → (x == 10) ≡ false → is_single (escape_byte x) ≡ true
unfolding escape_byte
other_single x h =
    by_test (nat_lt 0 (escape_letter x)) (λ t. rw (t, letter_other x h) refl) (λ t.
    by_test (nat_lt x 32) (λ u. rw (t, u, digit_other (x / 16), digit_other (x % 16)) refl) (λ u. rw (t, u, h) refl))

lf_single : is_single (escape_byte 10) ≡ true
unfolding escape_byte
lf_single = refl

byte_single : (x : ℕ) → is_single (escape_byte x) ≡ true
byte_single x =
    by_test (x == 10)
    (λ t. let same : x ≡ 10 = grind (arith, nat_tests) in subst (λ (b : ℕ). is_single (escape_byte b) ≡ true) (sym same) lf_single)
    (λ t. other_single x t)

escape_single : (s : List ℕ) → is_single (escape s) ≡ true
escape_single [] = refl
escape_single (b ∷ bs) = both (escape_byte b) (escape bs) (byte_single b) (escape_single bs)

quoted_single : (s : List ℕ) → is_single (quoted s) ≡ true
quoted_single s = both (escape s) (34 ∷ []) (escape_single s) refl

comma_single : (later : Bool) → is_single (comma_if later) ≡ true
comma_single true = refl
comma_single false = refl

items_single : {A : Type 0} (later : Bool) (f : A → List ℕ) (xs : List A) → is_single (items_text later (items_of (map (λ x. string (f x)) xs))) ≡ true
items_single later f [] = refl
items_single later f (x ∷ xs) = both (comma_if later) _ (comma_single later) (both (quoted (f x)) _ (quoted_single (f x)) (items_single true f xs))

member_single : (later : Bool) (k : List ℕ) (d : Data) (ms : Members) → is_single (compact_text d) ≡ true → is_single (members_text true ms) ≡ true → is_single (members_text later (member k d ms)) ≡ true
member_single later k d ms h r = both (comma_if later) _ (comma_single later) (both (quoted k) _ (quoted_single k) (both (compact_text d) (members_text true ms) h r))

columns_single : (later : Bool) (cs : List Column) → is_single (members_text later (columns_data cs)) ≡ true
columns_single later [] = refl
columns_single later (c ∷ cs) = member_single later c.name (string (kind_text c.kind)) (columns_data cs) (quoted_single (kind_text c.kind)) (columns_single true cs)

definition_single : (t : Table) → is_single (definition_text t) ≡ true
unfolding definition_text
definition_single t =
    let indexed : Members = member secondary_index (names_data t.indexed) no_members in
    let keyed : Members = member partition_key (names_data t.partition) indexed in
    let all : Members = member columns (object (columns_data t.columns)) keyed in
    member_single false clustering_key (orders_data t.clustering) all (items_single false order_text t.clustering)
    (member_single true columns (object (columns_data t.columns)) keyed (columns_single false t.columns)
    (member_single true partition_key (names_data t.partition) indexed (items_single false (λ (n : List ℕ). n) t.partition)
    (member_single true secondary_index (names_data t.indexed) no_members (items_single false (λ (n : List ℕ). n) t.indexed) refl)))

---- names of tables

part_other : (b : ℕ) → is_part b ≡ true → not (b == 10) ≡ true
part_other b h = grind (arith, nat_tests)

start_other : (b : ℕ) → is_start b ≡ true → not (b == 10) ≡ true
start_other b h = grind (arith, nat_tests)

parts_single : (bs : List ℕ) → list_all is_part bs ≡ true → is_single bs ≡ true
parts_single [] h = refl
parts_single (b ∷ bs) h = and_both (not (b == 10)) (is_single bs) (part_other b (and_first (is_part b) _ h)) (parts_single bs (and_second (is_part b) _ h))

identifier_single : (bs : List ℕ) → is_identifier bs ≡ true → is_single bs ≡ true
identifier_single [] h = refl
identifier_single (b ∷ bs) h = and_both (not (b == 10)) (is_single bs) (start_other b (and_first (is_start b) _ h)) (parts_single bs (and_second (is_start b) _ h))

pub column_single : (name : List ℕ) → is_column_name name ≡ true → is_single name ≡ true
column_single name h = identifier_single name (and_second (nat_le (length name) 64) (is_identifier name) h)

-- a schema may name the table
abbrev pub may_name : Table → Bool
may_name t = names_table t.name.ns t.name.table

name_single : (n : TableName) → names_table n.ns n.table ≡ true → is_single (table_text n) ≡ true
name_single n h =
    both n.ns (46 ∷ n.table) (column_single n.ns (and_first (is_column_name n.ns) (is_open n.ns && is_column_name n.table) h))
    (column_single n.table (and_second (is_open n.ns) (is_column_name n.table) (and_second (is_column_name n.ns) (is_open n.ns && is_column_name n.table) h)))

---- the whole

table_single : (t : Table) → may_name t ≡ true → is_single (member_text t) ≡ true
table_single t h =
    let defined = codes "\":" ++ definition_text t in
    both (codes "\"") (table_text t.name ++ defined) refl (both (table_text t.name) defined (name_single t.name h) (both (codes "\":") (definition_text t) refl (definition_single t)))

others_single : (ts : List Table) → list_all may_name ts ≡ true → is_single (flat_map (λ u. codes "," ++ member_text u) ts) ≡ true
others_single [] h = refl
others_single (t ∷ ts) h =
    both (codes "," ++ member_text t) (flat_map (λ u. codes "," ++ member_text u) ts) (both (codes ",") (member_text t) refl (table_single t (and_first (may_name t) _ h))) (others_single ts (and_second (may_name t) _ h))

members_single : (ts : List Table) → list_all may_name ts ≡ true → is_single (printed.members_text ts) ≡ true
members_single [] h = refl
members_single (t ∷ ts) h =
    both (member_text t) (flat_map (λ u. codes "," ++ member_text u) ts) (table_single t (and_first (may_name t) _ h)) (others_single ts (and_second (may_name t) _ h))

pub json_single : (ts : List Table) → list_all may_name ts ≡ true → is_single (catalog_text ts) ≡ true
json_single ts h = both (codes "{") (printed.members_text ts ++ codes "}") refl (both (printed.members_text ts) (codes "}") (members_single ts h) refl)

---- the tables of JSON have names that a schema may have

refuse_ok : {A : Type 0} (o : Option A) (f : A → SchemaFault) (next : Result (List Table) SchemaFault) (ts : List Table) → refuse o f next ≡ Ok ts → next ≡ Ok ts
refuse_ok None f next ts h = h
refuse_ok (Some a) f next ts h = absurd cc

ok_tables : (us ts : List Table) → ◌≡◌ {A = Result (List Table) SchemaFault} (Ok us) (Ok ts) → us ≡ ts
ok_tables us ts h = cc

tables_are : (tds : List (TableName × Data)) (ts : List Table) → described_tables tds ≡ Ok ts → map table_of tds ≡ ts
unfolding described_tables
tables_are tds ts h =
    let limit = within_limit (map table_of tds) in
    let tables = refuse (first_given bad_table tds) (λ f. schema.BadTable f.0 f.1) limit in
    let kinds = refuse (first_given unknown_type tds) (λ f. schema.UnknownType f.0 f.1) tables in
    let fields = refuse (first_given bad_field tds) (λ f. schema.BadField f.0 f.1) kinds in
    let first : fields ≡ Ok ts = refuse_ok (first_given untransactional tds) schema.NonTransactional fields ts h in
    let second : kinds ≡ Ok ts = refuse_ok (first_given bad_field tds) (λ f. schema.BadField f.0 f.1) kinds ts first in
    let third : tables ≡ Ok ts = refuse_ok (first_given unknown_type tds) (λ f. schema.UnknownType f.0 f.1) tables ts second in
    limited (map table_of tds) ts (refuse_ok (first_given bad_table tds) (λ f. schema.BadTable f.0 f.1) limit ts third)
  where
    limited : (us ts : List Table) → within_limit us ≡ Ok ts → us ≡ ts
    limited us ts k = by_test (nat_le (length us) 64) (λ t. ok_tables us ts (rw t at k)) (λ t. absurd (let q = rw t at k in cc))

named_may : (ms : Members) → list_all may_name (map table_of (named ms)) ≡ true
named_may no_members = refl
named_may (member k d ms) =
    elim (table_named k) as (λ o. table_named k ≡ o → list_all may_name (map table_of (named (member k d ms))) ≡ true) [
      | Some n ↦ λ q. rw q (and_both (names_table n.ns n.table) (list_all may_name (map table_of (named ms))) (text_of k n q).names_are (named_may ms))
      | None ↦ λ q. rw q (named_may ms)
    ] refl

members_may : (ms : Members) (ts : List Table) → described_members ms ≡ Ok ts → list_all may_name ts ≡ true
unfolding described_members
members_may ms ts h = subst (λ (x : List Table). list_all may_name x ≡ true) (tables_are (named ms) ts (refuse_ok (bad_name ms) schema.BadTableName (described_tables (named ms)) ts h)) (named_may ms)

pub json_may : (json : List ℕ) (ts : List Table) → catalog_in json ≡ Ok ts → list_all may_name ts ≡ true
json_may json ts h = by_value (json_of json) h
  where
    by_members : (o : Option Members) → option_map_or described_members o (Err schema.NotAnObject) ≡ Ok ts → list_all may_name ts ≡ true
    by_members (Some ms) k = members_may ms ts k
    by_members None k = absurd cc

    by_value : (o : Option Data) → option_map_or described o (Err schema.NotJson) ≡ Ok ts → list_all may_name ts ≡ true
    by_value (Some d) k = by_members (as_object d) k
    by_value None k = absurd cc
