-- The tables of a schema that was read are a catalog.
use Rattle.std.proofs.Common.{◌≡◌, ℕ, true, false, List, [], ◌∷◌, length, map, Option, Some, None, Result, Ok, Err, refl, sym, ap, subst, ◌∙◌}
use Rattle.std.specs.Prelude.{nat_le, if◌then◌else◌}
use Rattle.std.specs.List.{list_all, cons_option}
use Rattle.std.specs.Option.{option_map, option_map_or, option_and_then}
use Rattle.sdb_app.specs.Types.{Column, Kind, Ordering, SchemaFault, Table, TableName, TableRefused}
use Rattle.std.specs.declared.cmp.Ordering.TheVariants.{Less, Equal, Greater}
use Rattle.std.specs.Ordering.{nat_cmp, match_ordering, ordering_reverse}
use Rattle.std.specs.Cmp.Lexicographic.{slice_cmp}
use Rattle.std.specs.Str.{is_utf8}
use Rattle.std.proofs.lemmas.Cmp.{nat_list_cmp_total}
use Rattle.json.specs.Json as json
use Rattle.json.specs.Lex.{tokens}
use Rattle.serde_json.specs.Data.{Data, null, boolean, number, string, array, object, Members, no_members, member, put}
use Rattle.serde_json.specs.Find.{as_object, get}
use Rattle.serde_json.specs.Read.{max_depth, number_of, of_items, of_json, of_members}
use Rattle.sdb_types.specs.Identifier.{is_name}
use Rattle.sdb_types.proofs.Public.{and_both, by_test, some_is}
use Rattle.sdb_record.specs.Parts.{is_column_name}
use Rattle.sdb_schema.specs.Table as table
use Rattle.sdb_schema.specs.Catalog.{is_catalog, rises, is_above_name}
use Rattle.sdb_schema.proofs.Public.{made}
use Rattle.sdb_loader.specs.declared.fault.SchemaFault.TheVariants as fault
use Rattle.sdb_loader.specs.Fields.{columns, columns_among, columns_in, kind_given}
use Rattle.sdb_loader.specs.Words.{table_named}
use Rattle.sdb_loader.specs.Described.{bad_field, bad_name, bad_table, catalog_in, described, described_members, described_tables, first_given, json_of, named, refusal_in, refuse, table_of, unknown_type, untransactional, within_limit}
use Rattle.sdb_loader.proofs.Public.{are_short-columns_in, good_first, in_order_of, named_is}
use Rattle.sdb_record.proofs.Public.{name_of_column}
use Rattle.sdb_script.proofs.Public.{bind_is, map_is, no_some}

---- members that are read are in the order of their names, each once

abbrev IsUnder : List ℕ → Members → Type 0
IsUnder k no_members = Unit {0}
IsUnder k (member l d ms) = slice_cmp nat_cmp k l ≡ Less

abbrev AreRising : Members → Type 0
AreRising no_members = Unit {0}
AreRising (member k d ms) = IsUnder k ms × AreRising ms

put_under : (j k : List ℕ) (d : Data) (ms : Members) → slice_cmp nat_cmp j k ≡ Less → IsUnder j ms → IsUnder j (put k d ms)
put_under j k d no_members h u = h
put_under j k d (member l e ms) h u = by (slice_cmp nat_cmp k l)
  where
    by : (o : Ordering) → IsUnder j (match_ordering o (member k d (member l e ms)) (member l d ms) (member l e (put k d ms)))
    by Less = h
    by Equal = u
    by Greater = u

put_rises : (k : List ℕ) (d : Data) (ms : Members) → AreRising ms → AreRising (put k d ms)
put_rises k d no_members r = (tt, tt)
put_rises k d (member l e ms) r = by (slice_cmp nat_cmp k l) refl (put_rises k d ms r.1)
  where
    by : (o : Ordering) → slice_cmp nat_cmp k l ≡ o → AreRising (put k d ms) → AreRising (match_ordering o (member k d (member l e ms)) (member l d ms) (member l e (put k d ms)))
    by Less q rest = (q, r)
    by Equal q rest = r
    by Greater q rest = (put_under l k d ms (nat_list_cmp_total.antisymm l k ∙ ap ordering_reverse q) r.0, rest)

members_rise : (js : json.Members) (found ms : Members) → AreRising found → of_members js found ≡ Some ms → AreRising ms
members_rise json.no_members found ms r h = subst AreRising (some_is found ms h) r
members_rise (json.member k j js) found ms r h =
    let b = bind_is (λ (d : Data). of_members js (put k d found)) (of_json j) ms h in
    members_rise js (put k b.0 found) ms (put_rises k b.0 found r) b.2

no_object : {G : Type 0} (e d : Data) (ms : Members) → as_object e ≡ None → e ≡ d → as_object d ≡ Some ms → G
no_object e d ms none same h = no_some ms (sym none ∙ ap as_object same ∙ h)

object_rises : (j : json.Json) (d : Data) (ms : Members) → of_json j ≡ Some d → as_object d ≡ Some ms → AreRising ms
object_rises json.null d ms h k = no_object null d ms refl (some_is _ d h) k
object_rises (json.boolean b) d ms h k = no_object (boolean b) d ms refl (some_is _ d h) k
object_rises (json.number s) d ms h k = let m = map_is number (number_of s) d h in no_object (number m.0) d ms refl m.2 k
object_rises (json.string s) d ms h k = no_object (string s) d ms refl (some_is _ d h) k
object_rises (json.array js) d ms h k = let m = map_is array (of_items js) d h in no_object (array m.0) d ms refl m.2 k
object_rises (json.object js) d ms h k =
    let m = map_is object (of_members js no_members) d h in
    let same : m.0 ≡ ms = some_is m.0 ms (ap as_object m.2 ∙ k) in
    subst AreRising same (members_rise js no_members m.0 tt m.1)

parsed_rises : (o : Option json.Json) (d : Data) (ms : Members) → option_and_then of_json o ≡ Some d → as_object d ≡ Some ms → AreRising ms
parsed_rises (Some j) d ms h k = object_rises j d ms h k
parsed_rises None d ms h k = no_some d h

read_rises : (text : List ℕ) (d : Data) (ms : Members) → json_of text ≡ Some d → as_object d ≡ Some ms → AreRising ms
read_rises text d ms h k =
    by_test (is_utf8 text)
    (λ t. parsed_rises (option_and_then (λ p. json.if_last p.0 p.1) (json.value max_depth (tokens text))) d ms (rw t at h) k)
    (λ t. no_some d (rw t at h))

---- and so do the names of their tables

above_next : (a : List ℕ) (t : TableName) (ms : Members) → table_named a ≡ Some t → IsUnder a ms → bad_name ms ≡ None → is_above_name t (map table_of (named ms)) ≡ true
above_next a t no_members h l g = refl
above_next a t (member k d ms) h l g =
    let first = good_first k d ms g in
    ap (λ ts. is_above_name t (map table_of ts)) (named_is k d ms first.name first.is) ∙ in_order_of a k t first.name h first.is l

tables_rise : (ms : Members) → AreRising ms → bad_name ms ≡ None → rises (map table_of (named ms)) ≡ true
tables_rise no_members r g = refl
tables_rise (member k d ms) r g =
    let first = good_first k d ms g in
    ap (λ ts. rises (map table_of ts)) (named_is k d ms first.name first.is)
    ∙ and_both (is_above_name first.name (map table_of (named ms))) _ (above_next k first.name ms first.is r.0 first.rest) (tables_rise ms r.1 first.rest)

---- each is a table

names_kept : (name : List ℕ) (k : Option Kind) (rest : List Column) → is_name name ≡ true → list_all (λ (c : Column). is_name c.name) rest ≡ true → list_all (λ (c : Column). is_name c.name) (cons_option (option_map (λ (kd : Kind). record { name = name; kind = kd }) k) rest) ≡ true
names_kept name None rest h r = r
names_kept name (Some k) rest h r = and_both (is_name name) (list_all (λ (c : Column). is_name c.name) rest) h r

columns_named : (ms : Members) → list_all (λ (c : Column). is_name c.name) (columns_among ms) ≡ true
columns_named no_members = refl
columns_named (member k d ms) =
    elim (is_column_name k) as (λ b. is_column_name k ≡ b → list_all (λ (c : Column). is_name c.name) (cons_option (if b then option_map (λ (kd : Kind). record { name = k; kind = kd }) (kind_given d) else None) (columns_among ms)) ≡ true) [
      | true ↦ λ q. names_kept k (kind_given d) (columns_among ms) (name_of_column k q) (columns_named ms)
      | false ↦ λ q. columns_named ms
    ] refl

some_named : (ms : Option Members) → list_all (λ (c : Column). is_name c.name) (option_map_or columns_among ms []) ≡ true
some_named None = refl
some_named (Some ms) = columns_named ms

passed : {A B : Type 0} (o : Option A) (f : A → TableRefused) (next : Result B TableRefused) (y : B) → table.refuse o f next ≡ Ok y → next ≡ Ok y
passed None f next y h = h
passed (Some a) f next y h = absurd (cc)

ok_is : (t u : Table) → ◌≡◌ {A = Result Table TableRefused} (Ok t) (Ok u) → t ≡ u
ok_is t u h = cc

checked_is : (t u : Table) → table.checked_table t ≡ Ok u → t ≡ u
unfolding table.checked_table
checked_is t u h =
    let a = passed (table.none_of t.partition) _ _ u h in
    let b = passed (table.first_unknown t.columns (table.key_names t)) _ _ u a in
    let c = passed (table.first_unknown t.columns t.indexed) _ _ u b in
    let d = passed (table.first_listed_twice t.columns) _ _ u c in
    let e = passed (table.first_repeated [] (table.key_names t)) _ _ u d in
    let f = passed (table.first_reserved t.columns) _ _ u e in
    ok_is t u (passed (table.limit_passed t) _ _ u f)

accepted : (name : TableName) (t : Table) (r : Result Table TableRefused) → table.checked_table t ≡ r → option_map {U = TableName × TableRefused} (λ (x : TableRefused). (name, x)) (refusal_in r) ≡ None → table.checked_table t ≡ Ok t
accepted name t (Ok u) q h = q ∙ ap (λ (x : Table). Ok x) (sym (checked_is t u q))
accepted name t (Err r) q h = no_some (name, r) (sym h)

table_read : (t : TableName × Data) → bad_table t ≡ None → table.is_table (table_of t) ≡ true
table_read t h =
    made (table_of t) (columns_in t.1) refl (are_short-columns_in t.1) (some_named (option_and_then as_object (get columns t.1))) (accepted t.0 (table_of t) (table.checked_table (table_of t)) refl h)

none_said : {A B : Type 0} (said : A → Option B) (x : A) (xs : List A) → first_given said (x ∷ xs) ≡ None → (said x ≡ None) × (first_given said xs ≡ None)
none_said {A} {B} said x xs h = by (said x) refl
  where
    by : (o : Option B) → said x ≡ o → (said x ≡ None) × (first_given said xs ≡ None)
    by None q = (q, rw q at h)
    by (Some b) q = no_some b (sym (rw q at h))

tables_read : (ts : List (TableName × Data)) → first_given bad_table ts ≡ None → list_all table.is_table (map table_of ts) ≡ true
tables_read [] h = refl
tables_read (t ∷ ts) h =
    let n = none_said bad_table t ts h in
    and_both (table.is_table (table_of t)) (list_all table.is_table (map table_of ts)) (table_read t n.0) (tables_read ts n.1)

---- the whole

past_fault : {A B : Type 0} (o : Option A) (f : A → SchemaFault) (next : Result B SchemaFault) (y : B) → refuse o f next ≡ Ok y → (o ≡ None) × (next ≡ Ok y)
past_fault None f next y h = (refl, h)
past_fault (Some a) f next y h = absurd (cc)

limited : (us ts : List Table) → within_limit us ≡ Ok ts → (us ≡ ts) × (nat_le (length us) 64 ≡ true)
limited us ts h = by_test (nat_le (length us) 64) (λ t. (oks (rw t at h), t)) (λ t. absurd (let q = rw t at h in cc))
  where
    oks : ◌≡◌ {A = Result (List Table) SchemaFault} (Ok us) (Ok ts) → us ≡ ts
    oks e = cc

tables_are : (tds : List (TableName × Data)) (ts : List Table) → described_tables tds ≡ Ok ts → rises (map table_of tds) ≡ true → is_catalog ts ≡ true
unfolding described_tables
tables_are tds ts h r =
    let a = past_fault (first_given untransactional tds) fault.NonTransactional _ ts h in
    let b = past_fault (first_given bad_field tds) (λ f. fault.BadField f.0 f.1) _ ts a.1 in
    let c = past_fault (first_given unknown_type tds) (λ f. fault.UnknownType f.0 f.1) _ ts b.1 in
    let d = past_fault (first_given bad_table tds) (λ f. fault.BadTable f.0 f.1) _ ts c.1 in
    let e = limited (map table_of tds) ts d.1 in
    let us = map table_of tds in
    subst (λ (x : List Table). is_catalog x ≡ true) e.0 (and_both (rises us) _ r (and_both (nat_le (length us) 64) (list_all table.is_table us) e.1 (tables_read tds d.0)))

members_are : (ms : Members) (ts : List Table) → AreRising ms → described_members ms ≡ Ok ts → is_catalog ts ≡ true
unfolding described_members
members_are ms ts r h =
    let a = past_fault (bad_name ms) fault.BadTableName _ ts h in
    tables_are (named ms) ts a.1 (tables_rise ms r a.0)

-- the tables that a text describes are a catalog
pub catalog_read : (json : List ℕ) (ts : List Table) → catalog_in json ≡ Ok ts → is_catalog ts ≡ true
catalog_read json ts h = by_value (json_of json) refl h
  where
    by_members : (d : Data) → json_of json ≡ Some d → (o : Option Members) → as_object d ≡ o → option_map_or described_members o (Err fault.NotAnObject) ≡ Ok ts → is_catalog ts ≡ true
    by_members d q (Some ms) s k = members_are ms ts (read_rises json d ms q s) k
    by_members d q None s k = absurd (cc)

    by_value : (o : Option Data) → json_of json ≡ o → option_map_or described o (Err fault.NotJson) ≡ Ok ts → is_catalog ts ≡ true
    by_value (Some d) q k = by_members d q (as_object d) refl k
    by_value None q k = absurd (cc)
