-- The JSON that is printed of a catalog describes the catalog.
use Rattle.std.proofs.Common.{◌≡◌, ℕ, ◌+◌, ◌≤◌, Bool, true, not, ◌&&◌, ◌==◌, List, [], ◌∷◌, ◌++◌, length, map, flat_map, Option, Some, None, Ok, refl, sym, ap, subst, ◌∙◌, append_assoc, arith, codes, IsUtf8}
use Rattle.std.specs.Prelude.{nat_le, max}
use Rattle.std.specs.List.{list_all}
use Rattle.std.specs.Option.{option_map}
use Rattle.std.specs.Ordering.{is_lt}
use Rattle.std.specs.Str.{is_utf8}
use Rattle.std.proofs.lemmas.Bool.Decides.{nat_tests}
use Rattle.std.proofs.lemmas.List.Folds.{list_all-append}
use Rattle.std.proofs.lemmas.Str.{IsUtf8-append, is_utf8-from_IsUtf8}
use Rattle.json.specs.Print.{escape, escape_byte, quoted}
use Rattle.json.specs.Tree as tree
use Rattle.json.proofs.Printed.Strings.{escape_byte_plain}
use Rattle.json.proofs.Printed.Utf8.{IsUtf8-are_ascii}
use Rattle.serde_json.specs.Data.{Data, string, object, Members}
use Rattle.serde_json.specs.Read.{read, max_depth}
use Rattle.serde_json.specs.View.{items_of}
use Rattle.serde_json.specs.Written.{outline, members_outline, compact_text, members_text}
use Rattle.serde_json.proofs.Texts.{print-outline}
use Rattle.sdb_script.specs.Types.{Column, Direction, Kind, Order, Table, TableName}
use Rattle.sdb_types.specs.Identifier.{is_start, is_part, is_identifier, is_name}
use Rattle.sdb_types.specs.Order.{name_cmp, table_cmp, table_text}
use Rattle.sdb_types.proofs.Public.{and_both, and_first, and_second, by_text}
use Rattle.sdb_codec.proofs.Public.{name_utf8}
use Rattle.sdb_record.specs.Parts.{is_column_name}
use Rattle.sdb_schema.specs.declared.table.Direction.TheVariants.{Asc, Desc}
use Rattle.sdb_schema.specs.declared.table.Kind.TheVariants as kind
use Rattle.sdb_schema.specs.Table.{is_table}
use Rattle.sdb_schema.specs.Catalog.{is_catalog, rises}
use Rattle.sdb_loader.specs.Words.{is_open, names_table, table_named}
use Rattle.sdb_loader.specs.Described.{bad_name, bad_field, bad_table, unknown_type, untransactional, first_given, named, table_of, described_members, described_tables, catalog_in}
use Rattle.sdb_record.proofs.Public.{name_of_column}
use Rattle.sdb_loader.proofs.Public.{table_named-text}
use Rattle.sdb_catalog.specs.Definition.{columns_data, definition_of, definition_text, direction_text, order_text}
use Rattle.sdb_schema.specs.Kinds.{kind_text}
use Rattle.sdb_catalog.proofs.Public.{all_numbered, AreRead, defined, fields_again, keys_rise, kinds_again, members_of, members_read, outline_read, printed_read, refused_none, rising_columns, shallow, sound, table_again}
use Rattle.sdb_script.specs.Printed.{catalog_text, member_text}
use Rattle.sdb_script.proofs.JsonUtf8.{AreTexts, ItemsAreTexts, MembersAreTexts, compact_utf8}
use Rattle.sdb_script.proofs.OneLine.{may_name}

-- the members of a schema: each table's definition under its name
abbrev key_of : Table → List ℕ
key_of t = table_text t.name

abbrev members : List Table → Members
members ts = members_of key_of definition_of ts

abbrev value : List Table → Data
value ts = object (members ts)

---- names

-- a byte that has no escape
abbrev is_plain : ℕ → Bool
is_plain b = nat_le 46 b && not (b == 92)

part_plain : (b : ℕ) → is_part b ≡ true → is_plain b ≡ true
part_plain b h = grind (arith, nat_tests)

start_plain : (b : ℕ) → is_start b ≡ true → is_plain b ≡ true
start_plain b h = grind (arith, nat_tests)

parts_plain : (bs : List ℕ) → list_all is_part bs ≡ true → list_all is_plain bs ≡ true
parts_plain [] h = refl
parts_plain (b ∷ bs) h = and_both (is_plain b) (list_all is_plain bs) (part_plain b (and_first (is_part b) _ h)) (parts_plain bs (and_second (is_part b) _ h))

column_plain : (bs : List ℕ) → is_identifier bs ≡ true → list_all is_plain bs ≡ true
column_plain [] h = refl
column_plain (b ∷ bs) h = and_both (is_plain b) (list_all is_plain bs) (start_plain b (and_first (is_start b) _ h)) (parts_plain bs (and_second (is_start b) _ h))

byte_plain : (b : ℕ) → is_plain b ≡ true → escape_byte b ≡ b ∷ []
byte_plain b h = escape_byte_plain b (not_quote b h) (not_slash b h) (high b h)
  where
    not_quote : (b : ℕ) → is_plain b ≡ true → b ≡ 34 → ⊥
    not_quote b h e = grind (arith, nat_tests)

    not_slash : (b : ℕ) → is_plain b ≡ true → b ≡ 92 → ⊥
    not_slash b h e = grind (arith, nat_tests)

    high : (b : ℕ) → is_plain b ≡ true → 32 ≤ b
    high b h = grind (arith, nat_tests)

escape_plain : (bs : List ℕ) → list_all is_plain bs ≡ true → escape bs ≡ bs
escape_plain [] h = refl
escape_plain (b ∷ bs) h =
    ap (λ (l : List ℕ). l ++ escape bs) (byte_plain b (and_first (is_plain b) _ h)) ∙ ap (λ (l : List ℕ). b ∷ l) (escape_plain bs (and_second (is_plain b) _ h))

-- what is known of a name that a schema may have
record IsNamed (n : TableName) : Type 0 where
  ns : is_column_name n.ns ≡ true
  table : is_column_name n.table ≡ true

named_so : (n : TableName) → names_table n.ns n.table ≡ true → IsNamed n
named_so n h = record {
  ns = and_first (is_column_name n.ns) (is_open n.ns && is_column_name n.table) h;
  table = and_second (is_open n.ns) (is_column_name n.table) (and_second (is_column_name n.ns) (is_open n.ns && is_column_name n.table) h);
}

identifier_of : (name : List ℕ) → is_column_name name ≡ true → is_identifier name ≡ true
identifier_of name h = and_second (nat_le (length name) 64) (is_identifier name) h

text_plain : (n : TableName) → IsNamed n → escape (table_text n) ≡ table_text n
text_plain n h =
    escape_plain (table_text n)
    (list_all-append is_plain n.ns (46 ∷ n.table) ∙ and_both (list_all is_plain n.ns) (list_all is_plain n.table) (column_plain n.ns (identifier_of n.ns h.ns)) (column_plain n.table (identifier_of n.table h.table)))

---- the printed text is that of the value

member_is : (t : Table) (rest : List ℕ) → may_name t ≡ true → quoted (key_of t) ++ 58 ∷ (compact_text (definition_of t) ++ rest) ≡ member_text t ++ rest
unfolding definition_text
member_is t rest h =
    let k = key_of t in
    let d = definition_text t in
    ap (λ (e : List ℕ). 34 ∷ ((e ++ 34 ∷ []) ++ 58 ∷ (d ++ rest))) (text_plain t.name (named_so t.name h))
    ∙ ap (λ (l : List ℕ). 34 ∷ l) (append_assoc k (34 ∷ []) (58 ∷ (d ++ rest)) ∙ sym (append_assoc k (34 ∷ 58 ∷ d) rest))

others_are : (ts : List Table) → list_all may_name ts ≡ true → members_text true (members ts) ≡ flat_map (λ (u : Table). codes "," ++ member_text u) ts ++ codes "}"
others_are [] h = refl
others_are (t ∷ ts) h =
    let more = flat_map (λ (u : Table). codes "," ++ member_text u) ts in
    ap (λ (l : List ℕ). 44 ∷ l)
    (member_is t (members_text true (members ts)) (and_first (may_name t) _ h)
    ∙ ap (λ (l : List ℕ). member_text t ++ l) (others_are ts (and_second (may_name t) _ h)) ∙ sym (append_assoc (member_text t) more (codes "}")))

text_is : (ts : List Table) → list_all may_name ts ≡ true → compact_text (value ts) ≡ catalog_text ts
text_is [] h = refl
text_is (t ∷ ts) h =
    let more = flat_map (λ (u : Table). codes "," ++ member_text u) ts in
    ap (λ (l : List ℕ). 123 ∷ l)
    (member_is t (members_text true (members ts)) (and_first (may_name t) _ h)
    ∙ ap (λ (l : List ℕ). member_text t ++ l) (others_are ts (and_second (may_name t) _ h)) ∙ sym (append_assoc (member_text t) more (codes "}")))

---- it is UTF-8

column_utf8 : (name : List ℕ) → is_column_name name ≡ true → IsUtf8 name
column_utf8 name h = name_utf8 name (name_of_column name h)

names_utf8 : (ns : List (List ℕ)) → list_all is_column_name ns ≡ true → ItemsAreTexts (items_of (map string ns))
names_utf8 [] h = tt
names_utf8 (n ∷ ns) h = (column_utf8 n (and_first (is_column_name n) _ h), names_utf8 ns (and_second (is_column_name n) _ h))

direction_utf8 : (d : Direction) → IsUtf8 (direction_text d)
direction_utf8 Asc = IsUtf8-are_ascii (codes "ASC") refl
direction_utf8 Desc = IsUtf8-are_ascii (codes "DESC") refl

order_utf8 : (o : Order) → is_column_name o.name ≡ true → IsUtf8 (order_text o)
order_utf8 o h =
    IsUtf8-append (o.name ++ codes " ") (direction_text o.direction) (IsUtf8-append o.name (codes " ") (column_utf8 o.name h) (IsUtf8-are_ascii (codes " ") refl)) (direction_utf8 o.direction)

orders_utf8 : (os : List Order) → list_all (λ (o : Order). is_column_name o.name) os ≡ true → ItemsAreTexts (items_of (map (λ (o : Order). string (order_text o)) os))
orders_utf8 [] h = tt
orders_utf8 (o ∷ os) h = (order_utf8 o (and_first (is_column_name o.name) _ h), orders_utf8 os (and_second (is_column_name o.name) _ h))

pub kind_utf8 : (k : Kind) → IsUtf8 (kind_text k)
kind_utf8 kind.Boolean = IsUtf8-are_ascii (codes "BOOLEAN") refl
kind_utf8 kind.Int = IsUtf8-are_ascii (codes "INT") refl
kind_utf8 kind.BigInt = IsUtf8-are_ascii (codes "BIGINT") refl
kind_utf8 kind.Text = IsUtf8-are_ascii (codes "TEXT") refl
kind_utf8 kind.Blob = IsUtf8-are_ascii (codes "BLOB") refl

columns_utf8 : (cs : List Column) → list_all (λ (c : Column). is_column_name c.name) cs ≡ true → MembersAreTexts (columns_data cs)
columns_utf8 [] h = tt
columns_utf8 (c ∷ cs) h = (column_utf8 c.name (and_first (is_column_name c.name) _ h), (kind_utf8 c.kind, columns_utf8 cs (and_second (is_column_name c.name) _ h)))

definition_utf8 : (t : Table) → is_table t ≡ true → AreTexts (definition_of t)
definition_utf8 t h =
    let s = sound t h in (
      IsUtf8-are_ascii (codes "clustering-key") refl,
      (
        orders_utf8 t.clustering s.clustering,
        (
          IsUtf8-are_ascii (codes "columns") refl,
          (
            columns_utf8 t.columns s.columns,
            (
              IsUtf8-are_ascii (codes "partition-key") refl,
              (
                names_utf8 t.partition s.partition,
                (IsUtf8-are_ascii (codes "secondary-index") refl, (names_utf8 t.indexed s.indexed, tt)),
              ),
            ),
          ),
        ),
      ),
    )

name_text_utf8 : (n : TableName) → IsNamed n → IsUtf8 (table_text n)
name_text_utf8 n h = IsUtf8-append n.ns (46 ∷ n.table) (column_utf8 n.ns h.ns) (IsUtf8-append (46 ∷ []) n.table (IsUtf8-are_ascii (46 ∷ []) refl) (column_utf8 n.table h.table))

members_utf8 : (ts : List Table) → list_all may_name ts ≡ true → list_all is_table ts ≡ true → MembersAreTexts (members ts)
members_utf8 [] h k = tt
members_utf8 (t ∷ ts) h k = (
  name_text_utf8 t.name (named_so t.name (and_first (may_name t) _ h)),
  (definition_utf8 t (and_first (is_table t) _ k), members_utf8 ts (and_second (may_name t) _ h) (and_second (is_table t) _ k)),
)

text_utf8 : (ts : List Table) → list_all may_name ts ≡ true → list_all is_table ts ≡ true → is_utf8 (catalog_text ts) ≡ true
text_utf8 ts h k = is_utf8-from_IsUtf8 (catalog_text ts) (subst IsUtf8 (text_is ts h) (compact_utf8 (value ts) (members_utf8 ts h k)))

---- it is read as the value

key_name : (t : Table) → may_name t ≡ true → is_name t.name.ns ≡ true
key_name t h = name_of_column t.name.ns (named_so t.name h).ns

names_rise : (ts : List Table) → list_all may_name ts ≡ true → rises ts ≡ true → keys_rise key_of ts ≡ true
names_rise [] h r = refl
names_rise (t ∷ []) h r = refl
names_rise (t ∷ u ∷ ts) h r =
    let rest = and_second (may_name t) (list_all may_name (u ∷ ts)) h in
    let less : is_lt (table_cmp t.name u.name) ≡ true = and_first (is_lt (table_cmp t.name u.name)) (rises (u ∷ ts)) r in
    and_both (is_lt (name_cmp (key_of t) (key_of u))) (keys_rise key_of (u ∷ ts))
    (ap is_lt (by_text t.name u.name (key_name t (and_first (may_name t) _ h)) (key_name u (and_first (may_name u) (list_all may_name ts) rest))) ∙ less)
    (names_rise (u ∷ ts) rest (and_second (is_lt (table_cmp t.name u.name)) (rises (u ∷ ts)) r))

values_read : (ts : List Table) → list_all is_table ts ≡ true → AreRead definition_of ts
values_read [] h = tt
values_read (t ∷ ts) h = (outline_read t (rising_columns t (and_first (is_table t) _ h)), values_read ts (and_second (is_table t) _ h))

numbered : (ts : List Table) → tree.MembersHaveNumbers (members_outline (members ts))
numbered [] = tt
numbered (t ∷ ts) = (all_numbered t, numbered ts)

two_deep : (t : Table) (ts : List Table) → tree.members_depth (members_outline (members (t ∷ ts))) ≡ 2
two_deep t [] = ap (λ (n : ℕ). max n 0) (shallow t)
two_deep t (u ∷ us) = ap (λ (n : ℕ). max n (tree.members_depth (members_outline (members (u ∷ us))))) (shallow t) ∙ ap (max 2) (two_deep u us)

low : (ts : List Table) → tree.depth (outline (value ts)) ≤ max_depth
low [] = omega arith
low (t ∷ ts) = omega (arith, two_deep t ts)

value_read : (ts : List Table) → list_all may_name ts ≡ true → list_all is_table ts ≡ true → rises ts ≡ true → read (catalog_text ts) ≡ Some (value ts)
value_read ts h k r =
    ap read (sym (text_is ts h) ∙ sym (print-outline (value ts))) ∙ printed_read (outline (value ts)) (numbered ts) (low ts)
    ∙ ap (option_map object) (members_read key_of definition_of [] ts (names_rise ts h r) (values_read ts k))

---- the value describes the catalog

none_said : {B : Type 0} (said : TableName × Data → Option B) → ((t : Table) → is_table t ≡ true → said (defined t) ≡ None) → (ts : List Table) → list_all is_table ts ≡ true → first_given said (map defined ts) ≡ None
none_said said none [] h = refl
none_said said none (t ∷ ts) h = rw (none t (and_first (is_table t) _ h)) (none_said said none ts (and_second (is_table t) _ h))

tables_again : (ts : List Table) → list_all is_table ts ≡ true → map table_of (map defined ts) ≡ ts
tables_again [] h = refl
tables_again (t ∷ ts) h = ap (λ (u : Table). u ∷ map table_of (map defined ts)) (table_again t (and_first (is_table t) _ h)) ∙ ap (λ (us : List Table). t ∷ us) (tables_again ts (and_second (is_table t) _ h))

kept : (t : Table) → is_table t ≡ true → untransactional (defined t) ≡ None
kept t h = refl

no_field : (t : Table) → is_table t ≡ true → bad_field (defined t) ≡ None
no_field t h = rw (fields_again t h) refl

no_kind : (t : Table) → is_table t ≡ true → unknown_type (defined t) ≡ None
no_kind t h = rw (kinds_again t h) refl

no_refusal : (t : Table) → is_table t ≡ true → bad_table (defined t) ≡ None
no_refusal t h = rw (table_again t h, refused_none t h) refl

described_all : (ts : List Table) → list_all is_table ts ≡ true → nat_le (length ts) 64 ≡ true → described_tables (map defined ts) ≡ Ok ts
unfolding described_tables
described_all ts h few =
    rw (none_said untransactional kept ts h, none_said bad_field no_field ts h, none_said unknown_type no_kind ts h, none_said bad_table no_refusal ts h, tables_again ts h, few) refl

named_again : (ts : List Table) → list_all may_name ts ≡ true → named (members ts) ≡ map defined ts
named_again [] h = refl
named_again (t ∷ ts) h =
    rw (table_named-text t.name (and_first (may_name t) _ h)) (ap (λ (l : List (TableName × Data)). defined t ∷ l) (named_again ts (and_second (may_name t) _ h)))

no_bad_name : (ts : List Table) → list_all may_name ts ≡ true → bad_name (members ts) ≡ None
no_bad_name [] h = refl
no_bad_name (t ∷ ts) h = rw (table_named-text t.name (and_first (may_name t) _ h)) (no_bad_name ts (and_second (may_name t) _ h))

members_again : (ts : List Table) → list_all may_name ts ≡ true → list_all is_table ts ≡ true → nat_le (length ts) 64 ≡ true → described_members (members ts) ≡ Ok ts
unfolding described_members
members_again ts h k few = rw (no_bad_name ts h, named_again ts h) (described_all ts k few)

-- what is printed of a catalog describes it
pub catalog_again : (ts : List Table) → list_all may_name ts ≡ true → is_catalog ts ≡ true → catalog_in (catalog_text ts) ≡ Ok ts
catalog_again ts h c =
    let rest = and_second (rises ts) (nat_le (length ts) 64 && list_all is_table ts) c in
    let tables = and_second (nat_le (length ts) 64) (list_all is_table ts) rest in
    rw (text_utf8 ts h tables, value_read ts h tables (and_first (rises ts) _ c)) (members_again ts h tables (and_first (nat_le (length ts) 64) _ rest))
