-- The entries of a catalog of which a table has a column more.
use Rattle.std.proofs.Common.{◌≡◌, ◌≢◌, ◌<◌, ◌^◌, ℕ, ◌+◌, List, [], ◌∷◌, ◌++◌, map, Bool, true, false, not, ◌&&◌, ◌||◌, cond, inl, inr, Option, Some, None, refl, sym, ap, subst, ◌∙◌, lit<}
use Rattle.std.specs.Prelude.{codes, find, nat_lt, pos, if◌then◌else◌}
use Rattle.std.specs.List.{list_all}
use Rattle.std.specs.Option.{option_map, option_map_or}
use Rattle.std.specs.Ordering.{is_eq}
use Rattle.std.specs.Str.{bytes_eq}
use Rattle.std.specs.Cmp.{tied_itself}
use Rattle.std.specs.FinMap.{insert}
use Rattle.std.proofs.lemmas.List.{map-append}
use Rattle.sdb_catalog.specs.Types.{Column, Place, Table, TableName, TxId}
use Rattle.sdb_types.specs.declared.record.Condition.TheVariants.{Version}
use Rattle.sdb_types.specs.declared.record.State.TheVariants.{Committed}
use Rattle.sdb_types.specs.declared.value.Value.TheVariants as value
use Rattle.sdb_types.specs.Contents.{Contents, after, has_value, holds, in_span, record_at, rows_in}
use Rattle.sdb_types.specs.TxId.{id_text}
use Rattle.sdb_types.specs.ValueLaws.{value_total}
use Rattle.sdb_types.proofs.Public.{and_both, and_first, and_second, by_test, lt_of, none_some, not_true, some_is}
use Rattle.sdb_schema.specs.Added.{column_refused, column_refused_by, grown, with_column}
use Rattle.sdb_schema.specs.Catalog.{is_above_name, is_called, rises, table_named}
use Rattle.sdb_schema.specs.Table.{is_table}
use Rattle.sdb_schema.proofs.Public.{only_first, others_same}
use Rattle.sdb_catalog.specs.declared.entry.Entry.{Entry}
use Rattle.sdb_catalog.specs.Altered.{IsGrownIn, alteration_of, altered, altered_entries, entry_named, is_entry_of, next_revision}
use Rattle.sdb_catalog.specs.Calls.{metadata_span}
use Rattle.sdb_catalog.specs.Opened.{Follow, IsEntry, Opens, agrees, is_coordinators, open_count, open_entries, store_in, tables_of}
use Rattle.sdb_catalog.specs.Known.{IsCatalogIn}
use Rattle.sdb_stores.specs.Views.{route_of}
use Rattle.sdb_catalog.proofs.OneReading.{one_reading}
use Rattle.sdb_catalog.specs.Rows.{metadata_key_of, row_of}
use Rattle.sdb_catalog.proofs.Catalogs.{count_more, key_of_row, one_count, one_more, open_is, own_ns}
use Rattle.sdb_catalog.proofs.Replaced.{row_at, row_replaced}
use Rattle.sdb_catalog.proofs.Kept.{in_metadata}

---- the table of an entry

-- the catalog has the table of the entry
pub named_table : (es : List Entry) (name : TableName) → table_named (tables_of es) name ≡ option_map (λ (e : Entry). e.table) (entry_named es name)
named_table [] name = refl
named_table (e ∷ es) name =
    elim (is_coordinators e) as (λ a. table_named (one_more e a es) name ≡ option_map (λ (x : Entry). x.table) (cond (not a && is_called name e.table) (Some e) (entry_named es name))) [
      | true ↦ named_table es name
      | false ↦ elim (is_called name e.table) as (λ b. cond b (Some e.table) (table_named (tables_of es) name) ≡ option_map (λ (x : Entry). x.table) (cond b (Some e) (entry_named es name))) [
        | true ↦ refl
        | false ↦ named_table es name
      ]
    ]

pub refused_same : (es : List Entry) (name : TableName) (c : Column) (e : Entry) → entry_named es name ≡ Some e → column_refused (tables_of es) name c ≡ column_refused_by e.table c
refused_same es name c e h = ap (λ (o : Option Table). option_map_or (λ (t : Table). column_refused_by t c) o (Some 1)) (named_table es name ∙ ap (option_map (λ (x : Entry). x.table)) h)

pub table_there : (es : List Entry) (name : TableName) (e : Entry) → entry_named es name ≡ Some e → table_named (tables_of es) name ≢ None
table_there es name e h none = none_some e.table (sym none ∙ named_table es name ∙ ap (option_map (λ (x : Entry). x.table)) h)

pub table_none : (es : List Entry) (name : TableName) → entry_named es name ≡ None → table_named (tables_of es) name ≡ None
table_none es name h = named_table es name ∙ ap (option_map (λ (x : Entry). x.table)) h

-- the tables of the entries, of which one was altered
pub tables_altered : (es : List Entry) (name : TableName) (c : Column) → rises (tables_of es) ≡ true → tables_of (altered_entries es name c) ≡ with_column (tables_of es) name c
tables_altered [] name c r = refl
tables_altered (e ∷ es) name c r =
    elim (is_coordinators e) as (λ a. is_coordinators e ≡ a → rises (one_more e a es) ≡ true → tables_of (cond (not a && is_called name e.table) (altered c e ∷ es) (e ∷ altered_entries es name c)) ≡ with_column (one_more e a es) name c) [
      | true ↦ λ q up. ap (λ (b : Bool). one_more e b (altered_entries es name c)) q ∙ tables_altered es name c up
      | false ↦ λ q up. elim (is_called name e.table) as (λ b. is_called name e.table ≡ b → tables_of (cond b (altered c e ∷ es) (e ∷ altered_entries es name c)) ≡ cond b (grown e.table c) e.table ∷ with_column (tables_of es) name c) [
        | true ↦ λ p. ap (λ (b : Bool). one_more (altered c e) b es) q ∙ ap (λ (l : List Table). grown e.table c ∷ l) (sym (others_same name c (tables_of es) (only_first name e.table (tables_of es) p up)))
        | false ↦ λ p. ap (λ (b : Bool). one_more e b (altered_entries es name c)) q ∙ ap (λ (l : List Table). e.table ∷ l) (tables_altered es name c (and_second (is_above_name e.table.name (tables_of es)) (rises (tables_of es)) up))
      ] refl
    ] refl r

---- the entry among the others

pub record IsSplit (es : List Entry) (name : TableName) (c : Column) (e : Entry) : Type 0 where
  pub front : List Entry
  pub back : List Entry
  pub before : es ≡ front ++ e ∷ back
  pub after : altered_entries es name c ≡ front ++ altered c e ∷ back
  pub own : is_entry_of name e ≡ true

split : (es : List Entry) (name : TableName) (c : Column) (e : Entry) → entry_named es name ≡ Some e → IsSplit es name c e
split [] name c e h = none_some e h
split (x ∷ xs) name c e h = by (λ k. split xs name c e k) (is_entry_of name x) refl h
  where
    by : (entry_named xs name ≡ Some e → IsSplit xs name c e) → (b : Bool) → is_entry_of name x ≡ b → cond b (Some x) (entry_named xs name) ≡ Some e → IsSplit (x ∷ xs) name c e
    by rest true q k = let same : x ≡ e = some_is x e k in record {
      front = [];
      back = xs;
      before = ap (λ (y : Entry). y ∷ xs) same;
      after = ap (λ (b : Bool). cond b (altered c x ∷ xs) (x ∷ altered_entries xs name c)) q ∙ ap (λ (y : Entry). altered c y ∷ xs) same;
      own = ap (is_entry_of name) (sym same) ∙ q;
    }
    by rest false q k = let s = rest k in record {
      front = x ∷ s.front;
      back = s.back;
      before = ap (λ (l : List Entry). x ∷ l) s.before;
      after = ap (λ (b : Bool). cond b (altered c x ∷ xs) (x ∷ altered_entries xs name c)) q ∙ ap (λ (l : List Entry). x ∷ l) s.after;
      own = s.own;
    }

-- the table of the entry is one
pub entry_is_table : (names : List (List ℕ)) (passed es : List Entry) (name : TableName) (e : Entry) → Follow names passed es → entry_named es name ≡ Some e → is_table e.table ≡ true
entry_is_table names passed [] name e h found = none_some e found
entry_is_table names passed (x ∷ xs) name e h found =
    elim (is_entry_of name x) as (λ b. is_entry_of name x ≡ b → cond b (Some x) (entry_named xs name) ≡ Some e → is_table e.table ≡ true) [
      | true ↦ λ q k. ap (λ (y : Entry). is_table y.table) (sym (some_is x e k)) ∙ open_is x h.0.0.table (not_true (is_coordinators x) (and_first (not (is_coordinators x)) (is_called name x.table) q))
      | false ↦ λ q k. entry_is_table names (passed ++ x ∷ []) xs name e h.1 k
    ] refl found

---- entries that follow

-- two lists that leave the same room to what follows
record AreAlike (a b : List Entry) : Type 0 where
  agree : (x : Entry) → list_all (agrees x) a ≡ list_all (agrees x) b
  count : open_count a ≡ open_count b

all_more : (p : Entry → Bool) (xs ys : List Entry) → list_all p (xs ++ ys) ≡ (list_all p xs && list_all p ys)
all_more p [] ys = refl
all_more p (x ∷ xs) ys = elim (p x) as (λ b. (b && list_all p (xs ++ ys)) ≡ ((b && list_all p xs) && list_all p ys)) [
  | true ↦ all_more p xs ys
  | false ↦ refl
]

alike_more : (a b : List Entry) (e : Entry) → AreAlike a b → AreAlike (a ++ e ∷ []) (b ++ e ∷ [])
alike_more a b e h = record {
  agree = λ x. all_more (agrees x) a (e ∷ []) ∙ ap (λ (t : Bool). t && list_all (agrees x) (e ∷ [])) (h.agree x) ∙ sym (all_more (agrees x) b (e ∷ []));
  count = count_more a (e ∷ []) ∙ ap (λ (n : ℕ). n + open_count (e ∷ [])) h.count ∙ sym (count_more b (e ∷ []));
}

alike_altered : (passed : List Entry) (c : Column) (e : Entry) → AreAlike (passed ++ e ∷ []) (passed ++ altered c e ∷ [])
alike_altered passed c e = record {
  agree = λ x. all_more (agrees x) passed (e ∷ []) ∙ sym (all_more (agrees x) passed (altered c e ∷ []));
  count = count_more passed (e ∷ []) ∙ ap (λ (n : ℕ). open_count passed + n) (one_count e (is_coordinators e) refl ∙ sym (one_count (altered c e) (is_coordinators e) refl)) ∙ sym (count_more passed (altered c e ∷ []));
}

follow_alike : (names : List (List ℕ)) (a b es : List Entry) → AreAlike a b → Follow names a es → Follow names b es
follow_alike names a b [] same h = tt
follow_alike names a b (e ∷ es) same h = (
  (h.0.0, ap (λ (t : Bool). t && (is_coordinators e || nat_lt (open_count b) 64)) (sym (same.agree e)) ∙ ap (λ (n : ℕ). list_all (agrees e) a && (is_coordinators e || nat_lt n 64)) (sym same.count) ∙ h.0.1),
  follow_alike names (a ++ e ∷ []) (b ++ e ∷ []) es (alike_more a b e same) h.1,
)

pub next_fits : (id : TxId) → (next_revision id).0 < 2 ^ 128
next_fits id = by_test (nat_lt (id.0 + 1) (2 ^ 128)) (λ e. subst (λ (r : TxId). r.0 < 2 ^ 128) (sym (chosen true e)) (lt_of (id.0 + 1) (2 ^ 128) e)) (λ e. subst (λ (r : TxId). r.0 < 2 ^ 128) (sym (chosen false e)) one)
  where
    chosen : (b : Bool) → nat_lt (id.0 + 1) (2 ^ 128) ≡ b → next_revision id ≡ (if b then record { 0 = id.0 + 1 } else record { 0 = 1 })
    chosen b e = ap (λ (t : Bool). if t then record { 0 = id.0 + 1 } else record { 0 = 1 }) e

    one : 1 < 2 ^ 128
    one = lit< tt

entry_altered : (names : List (List ℕ)) (c : Column) (e : Entry) → IsEntry names e → is_coordinators e ≡ false → is_table (grown e.table c) ≡ true → IsEntry names (altered c e)
entry_altered names c e h other own = record {
  table = elim h.table [
    | inl is ↦ absurd (let f : true ≡ false = sym own_ns ∙ ap (λ (t : Table). bytes_eq t.name.ns (codes "coordinator")) (sym is) ∙ other in cc)
    | inr may ↦ inr (own, may.1)
  ];
  attached = h.attached;
  revision = next_fits e.revision;
}

-- an entry takes the place of another that it is like
follow_altered : (names : List (List ℕ)) (passed front back : List Entry) (c : Column) (e : Entry) → is_coordinators e ≡ false → (is_table e.table ≡ true → is_table (grown e.table c) ≡ true) → Follow names passed (front ++ e ∷ back) → Follow names passed (front ++ altered c e ∷ back)
follow_altered names passed [] back c e other own h =
    ((entry_altered names c e h.0.0 other (own (open_is e h.0.0.table other)), h.0.1), follow_alike names (passed ++ e ∷ []) (passed ++ altered c e ∷ []) back (alike_altered passed c e) h.1)
follow_altered names passed (x ∷ xs) back c e other own h = (h.0, follow_altered names (passed ++ x ∷ []) xs back c e other own h.1)

---- the rows

pub version_there : (e : Entry) → holds (Version e.revision Committed) (Some (row_of e)) ≡ true
unfolding row_of
version_there e =
    and_both (has_value (Some (value.Text (id_text e.revision.0))) (value.Text (id_text e.revision.0))) (has_value (Some (value.Int (pos 3))) (value.Int (pos 3)))
    (ap is_eq (tied_itself value_total (value.Text (id_text e.revision.0)))) (ap is_eq (tied_itself value_total (value.Int (pos 3))))

same_key : (c : Column) (e : Entry) → (row_of e).key ≡ (row_of (altered c e)).key
same_key c e = key_of_row e ∙ sym (key_of_row (altered c e))

rows_of_split : (front back : List Entry) (e : Entry) → map row_of (front ++ e ∷ back) ≡ map row_of front ++ row_of e ∷ map row_of back
rows_of_split front back e = map-append row_of front (e ∷ back)

module _ (names : List (List ℕ)) (name : TableName) (c : Column) (es : List Entry) (e : Entry) (m : Contents) where
  rows_split : Opens names (rows_in metadata_span m) es → (s : IsSplit es name c e) → rows_in metadata_span m ≡ map row_of s.front ++ row_of e ∷ map row_of s.back
  rows_split opens s = opens.rows ∙ ap (map row_of) s.before ∙ rows_of_split s.front s.back e

  -- the condition of the put holds
  pub holds_there : Opens names (rows_in metadata_span m) es → entry_named es name ≡ Some e → holds (Version e.revision Committed) (record_at m (row_of (altered c e)).key) ≡ true
  holds_there opens found =
      let s = split es name c e found in
      ap (holds (Version e.revision Committed))
      (row_at metadata_span m (row_of (altered c e)).key (map row_of s.front) (row_of e) (map row_of s.back) (in_metadata (altered c e)) (rows_split opens s) (same_key c e))
      ∙ version_there e

  -- and what it makes of the contents
  pub after_is : Opens names (rows_in metadata_span m) es → entry_named es name ≡ Some e → after (alteration_of c e) m ≡ insert m (row_of (altered c e)).key (row_of (altered c e)).columns
  after_is opens found = ap (λ (b : Bool). cond b (insert m (row_of (altered c e)).key (row_of (altered c e)).columns) m) (holds_there opens found)

  opens_now : Opens names (rows_in metadata_span m) es → entry_named es name ≡ Some e → (is_table e.table ≡ true → is_table (grown e.table c) ≡ true)
      → Opens names (rows_in metadata_span (insert m (row_of (altered c e)).key (row_of (altered c e)).columns)) (altered_entries es name c)
  opens_now opens found own =
      let s = split es name c e found in
      record {
        rows = row_replaced metadata_span m (row_of (altered c e)).key (row_of (altered c e)).columns (map row_of s.front) (row_of e) (map row_of s.back) (in_metadata (altered c e)) (rows_split opens s) (same_key c e)
            ∙ sym (rows_of_split s.front s.back (altered c e)) ∙ sym (ap (map row_of) s.after);
        follow = subst (Follow names []) (sym s.after)
            (follow_altered names [] s.front s.back c e (not_true (is_coordinators e) (and_first (not (is_coordinators e)) (is_called name e.table) s.own)) own (subst (Follow names []) s.before opens.follow));
      }

  -- the put leaves contents whose rows make the catalog with a column more
  pub grown_in : Opens names (rows_in metadata_span m) es → rises (tables_of es) ≡ true → entry_named es name ≡ Some e → column_refused_by e.table c ≡ None → (is_table e.table ≡ true → is_table (grown e.table c) ≡ true) → (new : Contents) → new ≡ after (alteration_of c e) m → IsGrownIn names name c m new
  grown_in opens up found allowed own new is = record {
    entries = es;
    opens = opens;
    entry = e;
    found = found;
    allowed = refused_same es name c e found ∙ allowed;
    contents = is ∙ after_is opens found;
    now = subst (λ (n : Contents). Opens names (rows_in metadata_span n) (altered_entries es name c)) (sym (is ∙ after_is opens found)) (opens_now opens found own);
    tables = tables_altered es name c up;
  }

---- the catalog that is opened then

store_altered : (es : List Entry) (name : TableName) (c : Column) (ns : List ℕ) → store_in (altered_entries es name c) ns ≡ store_in es ns
store_altered [] name c ns = refl
store_altered (e ∷ es) name c ns =
    elim (is_entry_of name e) as (λ b. store_in (cond b (altered c e ∷ es) (e ∷ altered_entries es name c)) ns ≡ store_in (e ∷ es) ns) [
      | true ↦ elim (bytes_eq e.table.name.ns ns) as (λ b. option_map (λ (x : Entry). x.store) (cond b (Some (altered c e)) (find (λ (x : Entry). bytes_eq x.table.name.ns ns) es)) ≡ option_map (λ (x : Entry). x.store) (cond b (Some e) (find (λ (x : Entry). bytes_eq x.table.name.ns ns) es))) [
        | true ↦ refl
        | false ↦ refl
      ]
      | false ↦ elim (bytes_eq e.table.name.ns ns) as (λ b. option_map (λ (x : Entry). x.store) (cond b (Some e) (find (λ (x : Entry). bytes_eq x.table.name.ns ns) (altered_entries es name c))) ≡ option_map (λ (x : Entry). x.store) (cond b (Some e) (find (λ (x : Entry). bytes_eq x.table.name.ns ns) es))) [
        | true ↦ refl
        | false ↦ store_altered es name c ns
      ]
    ]

same_entries : (names : List (List ℕ)) (name : TableName) (c : Column) (old new : Contents) (g : IsGrownIn names name c old new) (catalog : List Table) (places : List Place) (k : IsCatalogIn names new catalog places) → k.entries ≡ altered_entries g.entries name c
same_entries names name c old new g catalog places k = one_reading names (rows_in metadata_span new) k.entries (altered_entries g.entries name c) k.opens g.now

pub opened_grown : (names : List (List ℕ)) (name : TableName) (c : Column) (old new : Contents) (g : IsGrownIn names name c old new) (catalog : List Table) (places : List Place) → IsCatalogIn names new catalog places → catalog ≡ with_column (tables_of g.entries) name c
opened_grown names name c old new g catalog places k = k.tables ∙ ap tables_of (same_entries names name c old new g catalog places k) ∙ g.tables

pub placed_grown : (names : List (List ℕ)) (name : TableName) (c : Column) (old new : Contents) (g : IsGrownIn names name c old new) (catalog : List Table) (places : List Place) → IsCatalogIn names new catalog places → (ns : List ℕ) → route_of ns places ≡ store_in g.entries ns
placed_grown names name c old new g catalog places k ns =
    k.placed ns ∙ ap (λ (es : List Entry). store_in es ns) (same_entries names name c old new g catalog places k) ∙ store_altered g.entries name c ns
