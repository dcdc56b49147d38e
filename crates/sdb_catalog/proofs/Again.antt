-- What is read of a table's definition is the table.
use Rattle.std.proofs.Common.{◌≡◌, ℕ, List, [], ◌∷◌, ◌++◌, map, Bool, true, false, not, ◌&&◌, ◌||◌, cond, refl, sym, ap, ◌∙◌, append_assoc, codes, Option, Some, None, Result, Ok, Err, is_some}
use Rattle.std.specs.Prelude.{is_ok}
use Rattle.std.specs.List.{list_all, filter_map}
use Rattle.std.specs.Option.{option_map_or}
use Rattle.serde_json.specs.Data.{Data, string}
use Rattle.serde_json.specs.View.{items_of}
use Rattle.sdb_catalog.specs.Types.{Column, Direction, Kind, Order, Table, TableName, TableRefused}
use Rattle.sdb_types.proofs.Public.{and_both, and_first, and_second, false_true}
use Rattle.sdb_record.specs.Names.{same_name}
use Rattle.sdb_record.specs.Parts.{is_column_name}
use Rattle.sdb_record.proofs.Public.{same_name-true}
use Rattle.sdb_schema.specs.declared.table.Kind.TheVariants as kind
use Rattle.sdb_schema.specs.declared.table.Direction.TheVariants.{Asc, Desc}
use Rattle.sdb_schema.specs.Table.{refuse, none_of, first_unknown, key_names, order_names, has_column, checked_table, in_order, rises, is_table}
use Rattle.sdb_schema.proofs.Public.{in_order-rising}
use Rattle.sdb_loader.specs.Words.{direction_named, kind_named, order_named}
use Rattle.sdb_loader.specs.Fields.{bad_member, each_item, each_named, list_of, name_given, order_given, columns_among, unknown_among, unknown_column}
use Rattle.sdb_loader.specs.declared.fault.SchemaFault.TheVariants as fault
use Rattle.sdb_loader.specs.Described.{described_table, described_tables, refusal_in, table_of}
use Rattle.sdb_loader.proofs.Public.{order_named-behind}
use Rattle.sdb_catalog.proofs.Texts.{read_again}
use Rattle.sdb_catalog.specs.Definition.{columns_data, definition_of, definition_text, direction_text, order_text}
use Rattle.sdb_schema.specs.Kinds.{kind_text}

---- single texts

direction_again : (d : Direction) → direction_named (direction_text d) ≡ Some d
unfolding direction_named
direction_again Asc = refl
direction_again Desc = refl

pub kind_again : (k : Kind) → kind_named (kind_text k) ≡ Some k
unfolding kind_named
kind_again kind.Boolean = refl
kind_again kind.Int = refl
kind_again kind.BigInt = refl
kind_again kind.Text = refl
kind_again kind.Blob = refl

order_again : (o : Order) → is_column_name o.name ≡ true → order_named (order_text o) ≡ Some o
order_again o h =
    ap order_named (append_assoc o.name (codes " ") (direction_text o.direction)) ∙ order_named-behind o.name (direction_text o.direction) o.direction h (direction_again o.direction)

---- names

names_again : (ns : List (List ℕ)) → list_all is_column_name ns ≡ true → filter_map name_given (list_of (items_of (map string ns))) ≡ ns
names_again [] h = refl
names_again (n ∷ ns) h =
    simp (and_first (is_column_name n) (list_all is_column_name ns) h) (ap (λ (l : List (List ℕ)). n ∷ l) (names_again ns (and_second (is_column_name n) (list_all is_column_name ns) h)))

each_name : (ns : List (List ℕ)) → list_all is_column_name ns ≡ true → each_item (λ e. is_some (name_given e)) (items_of (map string ns)) ≡ true
each_name [] h = refl
each_name (n ∷ ns) h =
    simp (and_first (is_column_name n) (list_all is_column_name ns) h) (each_name ns (and_second (is_column_name n) (list_all is_column_name ns) h))

---- clustering columns

abbrev are_orders : List Order → Bool
are_orders os = list_all (λ (o : Order). is_column_name o.name) os

orders_again : (os : List Order) → are_orders os ≡ true → filter_map order_given (list_of (items_of (map (λ (o : Order). string (order_text o)) os))) ≡ os
orders_again [] h = refl
orders_again (o ∷ os) h =
    simp (order_again o (and_first (is_column_name o.name) (are_orders os) h)) (ap (λ (l : List Order). o ∷ l) (orders_again os (and_second (is_column_name o.name) (are_orders os) h)))

each_order : (os : List Order) → are_orders os ≡ true → each_item (λ e. is_some (order_given e)) (items_of (map (λ (o : Order). string (order_text o)) os)) ≡ true
each_order [] h = refl
each_order (o ∷ os) h =
    simp (order_again o (and_first (is_column_name o.name) (are_orders os) h)) (each_order os (and_second (is_column_name o.name) (are_orders os) h))

---- columns

abbrev are_columns : List Column → Bool
are_columns cs = list_all (λ (c : Column). is_column_name c.name) cs

columns_again : (cs : List Column) → are_columns cs ≡ true → columns_among (columns_data cs) ≡ cs
columns_again [] h = refl
columns_again (c ∷ cs) h =
    simp (and_first (is_column_name c.name) (are_columns cs) h, kind_again c.kind) (ap (λ (l : List Column). c ∷ l) (columns_again cs (and_second (is_column_name c.name) (are_columns cs) h)))

each_column : (cs : List Column) → are_columns cs ≡ true → each_named (columns_data cs) ≡ true
each_column [] h = refl
each_column (c ∷ cs) h =
    simp (and_first (is_column_name c.name) (are_columns cs) h) (each_column cs (and_second (is_column_name c.name) (are_columns cs) h))

none_unknown : (cs : List Column) → are_columns cs ≡ true → unknown_among (columns_data cs) ≡ None
none_unknown [] h = refl
none_unknown (c ∷ cs) h =
    simp (and_first (is_column_name c.name) (are_columns cs) h, kind_again c.kind) (none_unknown cs (and_second (is_column_name c.name) (are_columns cs) h))

---- the names of a key are those of columns

column_of : (cs : List Column) (name : List ℕ) → are_columns cs ≡ true → has_column cs name ≡ true → is_column_name name ≡ true
column_of [] name h k = false_true k
column_of (c ∷ cs) name h k =
    elim (same_name c.name name) as (λ b. same_name c.name name ≡ b → (b || has_column cs name) ≡ true → is_column_name name ≡ true) [
      | true ↦ λ q l. ap is_column_name (sym (same_name-true c.name name q)) ∙ and_first (is_column_name c.name) (are_columns cs) h
      | false ↦ λ q l. column_of cs name (and_second (is_column_name c.name) (are_columns cs) h) l
    ] refl k

all_known : (cs : List Column) (names : List (List ℕ)) → are_columns cs ≡ true → first_unknown cs names ≡ None → list_all is_column_name names ≡ true
all_known cs [] h k = refl
all_known cs (n ∷ ns) h k =
    elim (has_column cs n) as (λ b. has_column cs n ≡ b → cond (not b) (Some n) (first_unknown cs ns) ≡ None → (is_column_name n && list_all is_column_name ns) ≡ true) [
      | true ↦ λ q l. and_both (is_column_name n) (list_all is_column_name ns) (column_of cs n h q) (all_known cs ns h l)
      | false ↦ λ q l. absurd (let e : Some n ≡ None = l in cc)
    ] refl k

front_names : (ns ms : List (List ℕ)) → list_all is_column_name (ns ++ ms) ≡ true → list_all is_column_name ns ≡ true
front_names [] ms h = refl
front_names (n ∷ ns) ms h =
    and_both (is_column_name n) (list_all is_column_name ns) (and_first (is_column_name n) (list_all is_column_name (ns ++ ms)) h) (front_names ns ms (and_second (is_column_name n) (list_all is_column_name (ns ++ ms)) h))

back_names : (ns ms : List (List ℕ)) → list_all is_column_name (ns ++ ms) ≡ true → list_all is_column_name ms ≡ true
back_names [] ms h = h
back_names (n ∷ ns) ms h = back_names ns ms (and_second (is_column_name n) (list_all is_column_name (ns ++ ms)) h)

named_orders : (os : List Order) → list_all is_column_name (order_names os) ≡ true → are_orders os ≡ true
named_orders [] h = refl
named_orders (o ∷ os) h =
    and_both (is_column_name o.name) (are_orders os) (and_first (is_column_name o.name) (list_all is_column_name (order_names os)) h) (named_orders os (and_second (is_column_name o.name) (list_all is_column_name (order_names os)) h))

passed : {A B : Type 0} (o : Option A) (f : A → TableRefused) (next : Result B TableRefused) → is_ok (refuse o f next) ≡ true → (o ≡ None) × (is_ok next ≡ true)
passed None f next h = (refl, h)
passed (Some a) f next h = false_true h

-- What a table that is one has.
pub record IsSound (t : Table) : Type 0 where
  pub rising : rises t.columns ≡ true
  pub columns : are_columns t.columns ≡ true
  pub partition : list_all is_column_name t.partition ≡ true
  pub clustering : are_orders t.clustering ≡ true
  pub indexed : list_all is_column_name t.indexed ≡ true
  pub checked : is_ok (checked_table t) ≡ true

known_keys : (t : Table) → is_ok (checked_table t) ≡ true → (first_unknown t.columns (key_names t) ≡ None) × (first_unknown t.columns t.indexed ≡ None)
unfolding checked_table
known_keys t h =
    let a = passed (none_of t.partition) _ _ h in
    let b = passed (first_unknown t.columns (key_names t)) _ _ a.1 in
    let c = passed (first_unknown t.columns t.indexed) _ _ b.1 in
    (b.0, c.0)

pub sound : (t : Table) → is_table t ≡ true → IsSound t
sound t h =
    let rest = and_second (rises t.columns) (are_columns t.columns && is_ok (checked_table t)) h in
    let cols = and_first (are_columns t.columns) (is_ok (checked_table t)) rest in
    let valid = and_second (are_columns t.columns) (is_ok (checked_table t)) rest in
    let known = known_keys t valid in
    let keys = all_known t.columns (key_names t) cols known.0 in
    record {
      rising = and_first (rises t.columns) (are_columns t.columns && is_ok (checked_table t)) h;
      columns = cols;
      partition = front_names t.partition (order_names t.clustering) keys;
      clustering = named_orders t.clustering (back_names t.partition (order_names t.clustering) keys);
      indexed = all_known t.columns t.indexed cols known.1;
      checked = valid;
    }

---- the whole

abbrev pub defined : Table → TableName × Data
defined t = (t.name, definition_of t)

abbrev made : TableName → List Column → List (List ℕ) → List Order → List (List ℕ) → Table
made name columns partition clustering indexed = record { name = name; columns = columns; partition = partition; clustering = clustering; indexed = indexed }

pub table_again : (t : Table) → is_table t ≡ true → table_of (defined t) ≡ t
table_again t h =
    let s = sound t h in
    let read = columns_among (columns_data t.columns) in
    let partition = filter_map name_given (list_of (items_of (map string t.partition))) in
    let clustering = filter_map order_given (list_of (items_of (map (λ (o : Order). string (order_text o)) t.clustering))) in
    let indexed = filter_map name_given (list_of (items_of (map string t.indexed))) in
    ap (λ (cs : List Column). made t.name (in_order cs) partition clustering indexed) (columns_again t.columns s.columns)
    ∙ ap (λ (cs : List Column). made t.name cs partition clustering indexed) (in_order-rising t.columns s.rising)
    ∙ ap (λ (ns : List (List ℕ)). made t.name t.columns ns clustering indexed) (names_again t.partition s.partition)
    ∙ ap (λ (os : List Order). made t.name t.columns t.partition os indexed) (orders_again t.clustering s.clustering)
    ∙ ap (λ (ns : List (List ℕ)). made t.name t.columns t.partition t.clustering ns) (names_again t.indexed s.indexed)

pub fields_again : (t : Table) → is_table t ≡ true → bad_member (definition_of t) ≡ None
unfolding bad_member
fields_again t h =
    let s = sound t h in
    simp (each_order t.clustering s.clustering, each_column t.columns s.columns, each_name t.partition s.partition, each_name t.indexed s.indexed) refl

pub kinds_again : (t : Table) → is_table t ≡ true → unknown_column (definition_of t) ≡ None
kinds_again t h = none_unknown t.columns (sound t h).columns

refusal_none : {A : Type 0} (r : Result A TableRefused) → is_ok r ≡ true → refusal_in r ≡ None
refusal_none (Ok a) h = refl
refusal_none (Err e) h = false_true h

pub refused_none : (t : Table) → is_table t ≡ true → refusal_in (checked_table t) ≡ None
refused_none t h = refusal_none (checked_table t) (sound t h).checked

pub described_again : (t : Table) → is_table t ≡ true → described_tables (defined t ∷ []) ≡ Ok (t ∷ [])
unfolding described_tables
described_again t h = simp (fields_again t h, kinds_again t h, table_again t h, refused_none t h) refl

pub rising_columns : (t : Table) → is_table t ≡ true → rises t.columns ≡ true
rising_columns t h = (sound t h).rising

-- what a definition describes under its table's name is the table
pub definition_again : (t : Table) → is_table t ≡ true → described_table t.name (definition_text t) ≡ Ok (t ∷ [])
definition_again t h =
    ap (λ (o : Option Data). option_map_or (λ (d : Data). described_tables ((t.name, d) ∷ [])) o (Err fault.NotJson)) (read_again t (rising_columns t h)) ∙ described_again t h
