-- The rows that a statement writes fit its table, where it isn't refused and the rows that it read fit.
use Rattle.std.proofs.Common.{◌≡◌, ℕ, ◌+◌, List, [], ◌∷◌, ◌++◌, Bool, true, false, not, ◌&&◌, ◌||◌, cond, map, length, Option, Some, None, refl, sym, ap, ◌∙◌, arith, append_assoc}
use Rattle.std.specs.Prelude.{filter, find, is_some, nat_lt, unwrap_or}
use Rattle.std.specs.Option.{option_map, option_map_or}
use Rattle.std.specs.List.{list_all, list_any, position_or_len}
use Rattle.std.specs.Ordering.{is_eq}
use Rattle.std.specs.Cmp.{eq_by_cmp_equiv, tied_itself}
use Rattle.sdb_exec.specs.Types.{Column, Image, Insert, Key, Kind, Mention, Order, Ordering, Pair, Refusal, Statement, Table, Value}
use Rattle.std.specs.declared.cmp.Ordering.TheVariants.{Less, Equal, Greater}
use Rattle.std.proofs.lemmas.Bool.{and_parts, and_from, not-true, eqb-true, or_right}
use Rattle.std.proofs.lemmas.List.Folds.{list_any-append, list_all-append}
use Rattle.std.proofs.lemmas.Bool.Decides.{nat_tests}
use Rattle.sdb_types.specs.declared.value.Value.TheVariants as value
use Rattle.sdb_types.specs.Order.{name_cmp, key_cmp}
use Rattle.sdb_types.specs.Columns.{is_null, with_column, put_pair, take_out, choose_by}
use Rattle.sdb_types.proofs.Public.{name_exact, name_total}
use Rattle.sdb_schema.specs.declared.table.Kind.TheVariants as kind
use Rattle.sdb_schema.specs.Table.{has_column, key_names, is_key_column as is_listed_key}
use Rattle.sdb_schema.specs.Rows.{is_of_kind, is_in_range, is_value_of, are_values_of, is_stored_in, fits_table}
use Rattle.sdb_model.specs.Rows.{Name, same_name, at_kind, kind_of_column, literal_at, is_key_column, order_names, value_in}
use Rattle.sdb_record.specs.declared.write.Change.TheVariants as change
use Rattle.sdb_model.specs.declared.statement.Statement.TheVariants as statement
use Rattle.sdb_model.specs.Exec.{with_sets, with_named, passes, key_of}
use Rattle.sdb_model.specs.Refused.{suits, is_within, first_place, is_unknown, names_key, is_of_other_kind, is_null_in_key, is_out_of_range, mention_of_set, listed, written, looked_at, mentions, set_by, lacking, missing_place, refusal, or_next, column_refusal, key_refusal, literal_refusal, refusal_on}
use Rattle.sdb_exec.specs.Plans.{columns_at, put_row, changes_on, change_is_well_typed, has_all_literals}
use Rattle.sdb_exec.proofs.Laid.{keyed}
use Rattle.sdb_types.specs.Fits.{fits_int}

---- what isn't found

short : {X : Type 0} (p : X → Bool) (xs : List X) → nat_lt (position_or_len p xs) (length xs) ≡ false → list_all (λ x. not (p x)) xs ≡ true
short p [] h = refl
short p (x ∷ xs) h =
    elim (p x) as (λ b. nat_lt (cond (not b) (1 + position_or_len p xs) 0) (length (x ∷ xs)) ≡ false → (not b && list_all (λ y. not (p y)) xs) ≡ true) [
      | true ↦ λ k. absurd (grind (arith, nat_tests, k))
      | false ↦ λ k. short p xs (grind (arith, nat_tests, k))
    ] h

unplaced : (b : Bool) (n : ℕ) → ◌≡◌ {A = Option ℕ} (option_map (λ i. i + 1) (cond b (Some n) None)) None → b ≡ false
unplaced true n h = absurd (cc)
unplaced false n h = refl

pub none_passes : {X : Type 0} (p : X → Bool) (xs : List X) → first_place p xs ≡ None → list_all (λ x. not (p x)) xs ≡ true
none_passes p xs h = short p xs (unplaced _ _ h)

---- literals that suit

fine_value : (k : Kind) (v : Value) → suits k v ≡ true → is_within k v ≡ true → is_null v ≡ false → (is_of_kind k (at_kind k v) && is_in_range (at_kind k v)) ≡ true
fine_value k value.Null s w n = absurd (cc)
fine_value kind.Boolean (value.Bool b) s w n = refl
fine_value kind.Int (value.Int i) s w n = refl
fine_value kind.Int (value.BigInt i) s w n = rw w refl
fine_value kind.BigInt (value.BigInt i) s w n = w
fine_value kind.Text (value.Text t) s w n = refl
fine_value kind.Blob (value.Blob b) s w n = refl
fine_value kind.Boolean (value.Int i) s w n = absurd (cc)
fine_value kind.Boolean (value.BigInt i) s w n = absurd (cc)
fine_value kind.Boolean (value.Text t) s w n = absurd (cc)
fine_value kind.Boolean (value.Blob b) s w n = absurd (cc)
fine_value kind.Int (value.Bool b) s w n = absurd (cc)
fine_value kind.Int (value.Text t) s w n = absurd (cc)
fine_value kind.Int (value.Blob b) s w n = absurd (cc)
fine_value kind.BigInt (value.Bool b) s w n = absurd (cc)
fine_value kind.BigInt (value.Int i) s w n = absurd (cc)
fine_value kind.BigInt (value.Text t) s w n = absurd (cc)
fine_value kind.BigInt (value.Blob b) s w n = absurd (cc)
fine_value kind.Text (value.Bool b) s w n = absurd (cc)
fine_value kind.Text (value.Int i) s w n = absurd (cc)
fine_value kind.Text (value.BigInt i) s w n = absurd (cc)
fine_value kind.Text (value.Blob b) s w n = absurd (cc)
fine_value kind.Blob (value.Bool b) s w n = absurd (cc)
fine_value kind.Blob (value.Int i) s w n = absurd (cc)
fine_value kind.Blob (value.BigInt i) s w n = absurd (cc)
fine_value kind.Blob (value.Text t) s w n = absurd (cc)

is_there : {X : Type 0} (p : X → Bool) (xs : List X) → list_any p xs ≡ true → is_some (find p xs) ≡ true
is_there p [] h = cc
is_there p (x ∷ xs) h = elim (p x) as (λ b. (b || list_any p xs) ≡ true → is_some (cond b (Some x) (find p xs)) ≡ true) [ true ↦ λ k. refl | false ↦ λ k. is_there p xs k ] h

of_found : (o : Option Column) (v : Value) → is_some o ≡ true → suits (option_map_or (λ c. c.kind) o kind.Text) v ≡ true → is_within (option_map_or (λ c. c.kind) o kind.Text) v ≡ true → is_null v ≡ false
    → (option_map_or (λ k. is_of_kind k (at_kind (option_map_or (λ c. c.kind) o kind.Text) v)) (option_map (λ c. c.kind) o) false && is_in_range (at_kind (option_map_or (λ c. c.kind) o kind.Text) v)) ≡ true
of_found None v h s w n = absurd (cc)
of_found (Some c) v h s w n = fine_value c.kind v s w n

pub fine_literal : (t : Table) (name : Name) (v : Value) → has_column t.columns name ≡ true → suits (kind_of_column t name) v ≡ true → is_within (kind_of_column t name) v ≡ true → is_null v ≡ false → is_value_of t.columns name (literal_at t name v) ≡ true
fine_literal t name v h s w n = of_found (find (λ c. same_name c.name name) t.columns) v (is_there (λ c. same_name c.name name) t.columns h) s w n

---- columns that stay stored

put_all : (ok : Pair → Bool) (p : Pair) (ps : List Pair) → ok p ≡ true → list_all ok ps ≡ true → list_all ok (put_pair p ps) ≡ true
put_all ok p [] h a = rw h refl
put_all ok p (e ∷ es) h a =
    let parts = and_parts (ok e) (list_all ok es) a in
    let rest : list_all ok (put_pair p es) ≡ true = put_all ok p es h parts.1 in
    elim (name_cmp e.name p.name) as (λ o. list_all ok (choose_by o (e ∷ put_pair p es) (p ∷ es) (p ∷ e ∷ es)) ≡ true) [
      | Less ↦ rw (parts.0, rest) refl
      | Equal ↦ rw (h, parts.1) refl
      | Greater ↦ rw (h, parts.0, parts.1) refl
    ]

gone_all : (ok : Pair → Bool) (name : Name) (ps : List Pair) → list_all ok ps ≡ true → list_all ok (take_out name ps) ≡ true
gone_all ok name [] a = refl
gone_all ok name (e ∷ es) a =
    let parts = and_parts (ok e) (list_all ok es) a in
    let rest : list_all ok (take_out name es) ≡ true = gone_all ok name es parts.1 in
    elim (name_cmp e.name name) as (λ o. list_all ok (choose_by o (e ∷ take_out name es) es (e ∷ es)) ≡ true) [
      | Less ↦ rw (parts.0, rest) refl
      | Equal ↦ parts.1
      | Greater ↦ a
    ]

set_all : (ok : Pair → Bool) (p : Pair) (ps : List Pair) → (is_null p.value ≡ false → ok p ≡ true) → list_all ok ps ≡ true → list_all ok (with_column p ps) ≡ true
set_all ok p ps h a = elim (is_null p.value) as (λ b. is_null p.value ≡ b → list_all ok (cond b (take_out p.name ps) (put_pair p ps)) ≡ true) [ true ↦ λ q. gone_all ok p.name ps a | false ↦ λ q. put_all ok p ps (h q) a ] refl

null_kept : (k : Kind) (v : Value) → is_null (at_kind k v) ≡ is_null v
null_kept kind.Boolean v = refl
null_kept kind.BigInt v = refl
null_kept kind.Text v = refl
null_kept kind.Blob v = refl
null_kept kind.Int value.Null = refl
null_kept kind.Int (value.Bool b) = refl
null_kept kind.Int (value.Int n) = refl
null_kept kind.Int (value.BigInt n) = elim (fits_int n) as (λ b. is_null (cond b (value.Int n) (value.BigInt n)) ≡ false) [ true ↦ refl | false ↦ refl ]
null_kept kind.Int (value.Text t) = refl
null_kept kind.Int (value.Blob b) = refl

pub same_turned : (m n : Name) → same_name m n ≡ same_name n m
same_turned m n = (eq_by_cmp_equiv name_total).symm m n

among_turned : (name : Name) (ns : List Name) → list_any (λ n. same_name n name) ns ≡ list_any (λ n. same_name name n) ns
among_turned name [] = refl
among_turned name (n ∷ ns) = rw (same_turned n name, among_turned name ns) refl

orders_turned : (name : Name) (os : List Order) → list_any (λ o. same_name o.name name) os ≡ list_any (λ o. same_name name o.name) os
orders_turned name [] = refl
orders_turned name (o ∷ os) = rw (same_turned o.name name, orders_turned name os) refl

key_turned : (t : Table) (name : Name) → is_key_column t name ≡ is_listed_key t name
key_turned t name = rw (among_turned name t.partition, orders_turned name t.clustering) refl

---- mentions without fault

abbrev is_fine : Table → Mention → Bool
is_fine t m = not (is_unknown t m) && (not (is_of_other_kind t m) && (not (is_null_in_key t m) && not (is_out_of_range t m)))

both_all : {X : Type 0} (p q : X → Bool) (xs : List X) → list_all p xs ≡ true → list_all q xs ≡ true → list_all (λ x. p x && q x) xs ≡ true
both_all p q [] h k = refl
both_all p q (x ∷ xs) h k =
    let a = and_parts (p x) (list_all p xs) h in
    let b = and_parts (q x) (list_all q xs) k in
    rw (a.0, b.0, both_all p q xs a.1 b.1) refl

twice_not : (b : Bool) → not (not b) ≡ true → b ≡ true
twice_not true h = refl
twice_not false h = h

fine_parts : (t : Table) (name : Name) (v : Value) → is_fine t (record { name = name; literal = Some v }) ≡ true
    → (has_column t.columns name ≡ true) × (suits (kind_of_column t name) v ≡ true) × ((is_null v && is_key_column t name) ≡ false) × (is_within (kind_of_column t name) v ≡ true)
fine_parts t name v h =
    let a = and_parts (not (not (has_column t.columns name))) _ h in
    let b = and_parts (not (not (suits (kind_of_column t name) v))) _ a.1 in
    let c = and_parts (not (is_null v && is_key_column t name)) (not (not (is_within (kind_of_column t name) v))) b.1 in
    (twice_not _ a.0, twice_not _ b.0, not-true _ c.0, twice_not _ c.1)

fine_is_value : (t : Table) (name : Name) (v : Value) → is_fine t (record { name = name; literal = Some v }) ≡ true → is_null v ≡ false → is_value_of t.columns name (literal_at t name v) ≡ true
fine_is_value t name v h n = let p = fine_parts t name v h in fine_literal t name v p.0 p.1 p.3 n

stored : (t : Table) (name : Name) (v : Value) → is_fine t (record { name = name; literal = Some v }) ≡ true → is_key_column t name ≡ false → is_null (literal_at t name v) ≡ false → is_stored_in t (record { name = name; value = literal_at t name v }) ≡ true
stored t name v h k n =
    let free : is_listed_key t name ≡ false = sym (key_turned t name) ∙ k in
    let valued : is_value_of t.columns name (literal_at t name v) ≡ true = fine_is_value t name v h (sym (null_kept (kind_of_column t name) v) ∙ n) in
    rw (free, valued) refl

pub sets_fit : (t : Table) (sets columns : List Pair) → list_all (is_fine t) (map mention_of_set sets) ≡ true → list_all (λ m. not (names_key t m)) (map mention_of_set sets) ≡ true → list_all (is_stored_in t) columns ≡ true → list_all (is_stored_in t) (with_sets t sets columns) ≡ true
sets_fit t [] columns h k a = a
sets_fit t (p ∷ ps) columns h k a =
    let f = and_parts (is_fine t (mention_of_set p)) (list_all (is_fine t) (map mention_of_set ps)) h in
    let g = and_parts (not (names_key t (mention_of_set p))) (list_all (λ m. not (names_key t m)) (map mention_of_set ps)) k in
    sets_fit t ps _ f.1 g.1 (set_all (is_stored_in t) (record { name = p.name; value = literal_at t p.name p.value }) columns (stored t p.name p.value f.0 (not-true _ g.0)) a)

pub named_fit : (t : Table) (ns : List Name) (vs : List Value) (columns : List Pair) → list_all (is_fine t) (listed ns vs) ≡ true → list_all (is_stored_in t) columns ≡ true → list_all (is_stored_in t) (with_named t ns vs columns) ≡ true
named_fit t [] vs columns h a = a
named_fit t (n ∷ ns) [] columns h a = a
named_fit t (n ∷ ns) (v ∷ vs) columns h a =
    let f = and_parts (is_fine t (record { name = n; literal = Some v })) (list_all (is_fine t) (listed ns vs)) h in
    let kept : list_all (is_stored_in t) (cond (is_key_column t n) columns (with_column (record { name = n; value = literal_at t n v }) columns)) ≡ true =
    elim (is_key_column t n) as (λ b. is_key_column t n ≡ b → list_all (is_stored_in t) (cond b columns (with_column (record { name = n; value = literal_at t n v }) columns)) ≡ true) [
      | true ↦ λ q. a
      | false ↦ λ q. set_all (is_stored_in t) (record { name = n; value = literal_at t n v }) columns (stored t n v f.0 q) a
    ] refl
    in
    named_fit t ns vs _ f.1 kept

---- the key of an insert

-- where each name has a literal, a column of the key that is named has a value
found_value : (t : Table) (ns : List Name) (vs : List Value) (name : Name) → length ns ≡ length vs → list_any (λ n. same_name n name) ns ≡ true → is_key_column t name ≡ true → list_all (is_fine t) (listed ns vs) ≡ true
    → is_value_of t.columns name (literal_at t name (value_in ns vs name value.Null)) ≡ true
found_value t [] vs name l h k f = absurd (cc)
found_value t (n ∷ ns) [] name l h k f = absurd (omega arith)
found_value t (n ∷ ns) (v ∷ vs) name l h k f =
    let parts = and_parts (is_fine t (record { name = n; literal = Some v })) (list_all (is_fine t) (listed ns vs)) f in
    elim (same_name n name) as (λ b. same_name n name ≡ b → (b || list_any (λ m. same_name m name) ns) ≡ true → is_value_of t.columns name (literal_at t name (cond b v (value_in ns vs name value.Null))) ≡ true) [
      | true ↦ λ q g.
          let same : n ≡ name = name_exact n name (equal _ q) in
          let its : is_fine t (record { name = name; literal = Some v }) ≡ true = ap (λ m. is_fine t (record { name = m; literal = Some v })) (sym same) ∙ parts.0 in
          fine_is_value t name v its (key_not_null (is_null v) (is_key_column t name) k (fine_parts t name v its).2)
      | false ↦ λ q g. found_value t ns vs name (omega arith) g k parts.1
    ] refl h
  where
    equal : (o : Ordering) → is_eq o ≡ true → o ≡ Equal
    equal Less h = cc
    equal Equal h = refl
    equal Greater h = cc

    key_not_null : (a b : Bool) → b ≡ true → (a && b) ≡ false → a ≡ false
    key_not_null true b h k = sym h ∙ k
    key_not_null false b h k = refl

-- one value for each of these columns of the key
values_fit : (t : Table) (ns : List Name) (vs : List Value) (keys : List Name) → length ns ≡ length vs → list_all (λ key. not (not (list_any (λ n. same_name n key) ns))) keys ≡ true → list_all (is_key_column t) keys ≡ true
    → list_all (is_fine t) (listed ns vs) ≡ true → are_values_of t.columns keys (map (λ name. literal_at t name (value_in ns vs name value.Null)) keys) ≡ true
values_fit t ns vs [] l h k f = refl
values_fit t ns vs (key ∷ keys) l h k f =
    let a = and_parts (not (not (list_any (λ n. same_name n key) ns))) (list_all (λ x. not (not (list_any (λ n. same_name n x) ns))) keys) h in
    let b = and_parts (is_key_column t key) (list_all (is_key_column t) keys) k in
    let first : is_value_of t.columns key (literal_at t key (value_in ns vs key value.Null)) ≡ true = found_value t ns vs key l (twice_not _ a.0) b.0 f in
    let rest : are_values_of t.columns keys (map (λ name. literal_at t name (value_in ns vs name value.Null)) keys) ≡ true = values_fit t ns vs keys l a.1 b.1 f in
    rw (first, rest) refl

pub same_self : (n : Name) → same_name n n ≡ true
same_self n = ap is_eq (tied_itself name_total n)

-- each of the names is among those of which they are the end
selves : (xs ys : List Name) → list_all (λ y. list_any (λ n. same_name n y) (xs ++ ys)) ys ≡ true
selves xs [] = refl
selves xs (y ∷ ys) =
    let here : list_any (λ n. same_name n y) (xs ++ y ∷ ys) ≡ true = list_any-append (λ n. same_name n y) xs (y ∷ ys) ∙ rw (same_self y) (or_true (list_any (λ n. same_name n y) xs)) in
    let rest : list_all (λ z. list_any (λ n. same_name n z) (xs ++ y ∷ ys)) ys ≡ true = ap (λ l. list_all (λ z. list_any (λ n. same_name n z) l) ys) (sym (append_assoc xs (y ∷ []) ys)) ∙ selves (xs ++ y ∷ []) ys in
    rw (here, rest) refl
  where
    or_true : (b : Bool) → (b || true) ≡ true
    or_true true = refl
    or_true false = refl

order_any : (name : Name) (os : List Order) → list_any (λ n. same_name n name) (order_names os) ≡ list_any (λ o. same_name o.name name) os
order_any name [] = refl
order_any name (o ∷ os) = ap (λ b. same_name o.name name || b) (order_any name os)

weaker_all : {X : Type 0} (p q : X → Bool) → ((x : X) → p x ≡ true → q x ≡ true) → (xs : List X) → list_all p xs ≡ true → list_all q xs ≡ true
weaker_all p q h [] a = refl
weaker_all p q h (x ∷ xs) a =
    let parts = and_parts (p x) (list_all p xs) a in
    rw (h x parts.0, weaker_all p q h xs parts.1) refl

partition_keys : (t : Table) → list_all (is_key_column t) t.partition ≡ true
partition_keys t = weaker_all (λ y. list_any (λ n. same_name n y) t.partition) (is_key_column t) (λ x h. rw h refl) t.partition (selves [] t.partition)

clustering_keys : (t : Table) → list_all (is_key_column t) (order_names t.clustering) ≡ true
clustering_keys t = weaker_all (λ y. list_any (λ n. same_name n y) (order_names t.clustering)) (is_key_column t) (λ x h. or_right _ _ (sym (order_any x t.clustering) ∙ h)) (order_names t.clustering) (selves [] (order_names t.clustering))

key_fits : (t : Table) (s : Insert) → length s.columns ≡ length s.values → list_all (is_fine t) (listed s.columns s.values) ≡ true → lacking t s.columns ≡ None
    → (are_values_of t.columns t.partition (key_of t s).partition ≡ true) × (are_values_of t.columns (order_names t.clustering) (key_of t s).clustering ≡ true)
key_fits t s l f none =
    let all = none_passes (λ key. not (list_any (λ n. same_name n key) s.columns)) (key_names t) none in
    let split = and_parts _ _ (sym (list_all-append (λ key. not (not (list_any (λ n. same_name n key) s.columns))) t.partition (order_names t.clustering)) ∙ all) in
    (values_fit t s.columns s.values t.partition l split.0 (partition_keys t) f, values_fit t s.columns s.values (order_names t.clustering) l split.1 (clustering_keys t) f)

---- the law

next_none : (a b : Option Refusal) → or_next a b ≡ None → (a ≡ None) × (b ≡ None)
next_none None b h = (refl, h)
next_none (Some r) b h = absurd (cc)

no_place : (k : ℕ) (o : Option ℕ) → refusal k o ≡ None → o ≡ None
no_place k None h = refl
no_place k (Some p) h = absurd (cc)

-- no mention of a statement that isn't refused has a fault
all_fine : (t : Table) (s : Statement) → refusal_on t s ≡ None → (list_all (is_fine t) (mentions s) ≡ true) × (first_place (names_key t) (set_by s) ≡ None) × (missing_place t s ≡ None)
all_fine t s h =
    let a = next_none (column_refusal t s) _ h in
    let b = next_none (key_refusal t s) _ a.1 in
    let c = next_none (literal_refusal t (mentions s)) _ b.1 in
    let d = next_none (refusal 10 (first_place (is_of_other_kind t) (mentions s))) _ c.0 in
    let e = next_none (refusal 11 (first_place (is_null_in_key t) (mentions s))) _ d.1 in
    let f = next_none (refusal 12 (first_place (is_out_of_range t) (mentions s))) _ e.1 in
    let unknown = none_passes (is_unknown t) (mentions s) (no_place 7 _ (next_none _ _ a.0).0) in
    let other = none_passes (is_of_other_kind t) (mentions s) (no_place 10 _ d.0) in
    let null = none_passes (is_null_in_key t) (mentions s) (no_place 11 _ e.0) in
    let outside = none_passes (is_out_of_range t) (mentions s) (no_place 12 _ f.0) in
    let last = both_all (λ m. not (is_null_in_key t m)) (λ m. not (is_out_of_range t m)) (mentions s) null outside in
    let more = both_all (λ m. not (is_of_other_kind t m)) _ (mentions s) other last in
    (both_all (λ m. not (is_unknown t m)) _ (mentions s) unknown more, no_place 9 _ b.0, no_place 14 _ c.1)

written_fine : (t : Table) (s : Statement) → list_all (is_fine t) (mentions s) ≡ true → list_all (is_fine t) (written s) ≡ true
written_fine t s h = (and_parts _ _ (sym (list_all-append (is_fine t) (written s) (looked_at s)) ∙ h)).0

abbrev all_in : Table → List Image → Bool
all_in t = list_all (λ r. fits_table t r.key r.columns)

row_parts : (t : Table) (k : Key) (c : List Pair) → fits_table t k c ≡ true → (are_values_of t.columns t.partition k.partition ≡ true) × (are_values_of t.columns (order_names t.clustering) k.clustering ≡ true) × (list_all (is_stored_in t) c ≡ true)
row_parts t k c h =
    let a = and_parts (are_values_of t.columns t.partition k.partition) _ h in
    let b = and_parts (are_values_of t.columns (order_names t.clustering) k.clustering) (list_all (is_stored_in t) c) a.1 in
    (a.0, b.0, b.1)

row_from : (t : Table) (k : Key) (c : List Pair) → are_values_of t.columns t.partition k.partition ≡ true → are_values_of t.columns (order_names t.clustering) k.clustering ≡ true → list_all (is_stored_in t) c ≡ true → fits_table t k c ≡ true
row_from t k c a b d = and_from _ _ a (and_from _ _ b d)

columns_fit : (t : Table) (k : Key) (rows : List Image) → all_in t rows ≡ true → list_all (is_stored_in t) (unwrap_or (columns_at k rows) []) ≡ true
columns_fit t k [] h = refl
columns_fit t k (r ∷ rs) h =
    let parts = and_parts (fits_table t r.key r.columns) (all_in t rs) h in
    elim (is_eq (key_cmp k r.key)) as (λ b. list_all (is_stored_in t) (unwrap_or (option_map (λ x. x.columns) (cond b (Some r) (find (λ x. is_eq (key_cmp k x.key)) rs))) []) ≡ true) [
      | true ↦ (row_parts t r.key r.columns parts.0).2
      | false ↦ columns_fit t k rs parts.1
    ]

updates_fit : (t : Table) (sets : List Pair) (p : Image → Bool) (rows : List Image) → list_all (is_fine t) (map mention_of_set sets) ≡ true → list_all (λ m. not (names_key t m)) (map mention_of_set sets) ≡ true → all_in t rows ≡ true
    → list_all (change_is_well_typed t) (map (keyed (λ r. change.Row (with_sets t sets r.columns))) (filter p rows)) ≡ true
updates_fit t sets p [] f k h = refl
updates_fit t sets p (r ∷ rs) f k h =
    let parts = and_parts (fits_table t r.key r.columns) (all_in t rs) h in
    let its = row_parts t r.key r.columns parts.0 in
    let rest : list_all (change_is_well_typed t) (map (keyed (λ x. change.Row (with_sets t sets x.columns))) (filter p rs)) ≡ true = updates_fit t sets p rs f k parts.1 in
    let here : fits_table t r.key (with_sets t sets r.columns) ≡ true = row_from t r.key _ its.0 its.1 (sets_fit t sets r.columns f k its.2) in
    elim (p r) as (λ b. list_all (change_is_well_typed t) (map (keyed (λ x. change.Row (with_sets t sets x.columns))) (cond b (r ∷ filter p rs) (filter p rs))) ≡ true) [ true ↦ rw (here, rest) refl | false ↦ rest ]

deletes_fit : (t : Table) (rows : List Image) → list_all (change_is_well_typed t) (map (keyed (λ r. change.Delete)) rows) ≡ true
deletes_fit t [] = refl
deletes_fit t (r ∷ rs) = deletes_fit t rs

one_fits : (t : Table) (o : Option (List Pair)) (k : Key) (c : List Pair) → fits_table t k c ≡ true → list_all (change_is_well_typed t) (cond (is_some o) [] (put_row k c ∷ [])) ≡ true
one_fits t None k c h = rw h refl
one_fits t (Some x) k c h = refl

pub changes_fit : (t : Table) (s : Statement) (rows : List Image) → has_all_literals s ≡ true → refusal_on t s ≡ None → all_in t rows ≡ true → list_all (change_is_well_typed t) (changes_on t s rows) ≡ true
changes_fit t (statement.Insert s) rows whole h a =
    let f = all_fine t (statement.Insert s) h in
    let valid : list_all (is_fine t) (listed s.columns s.values) ≡ true = written_fine t (statement.Insert s) f.0 in
    let key = key_fits t s (eqb-true _ _ whole) valid f.2 in
    one_fits t (columns_at (key_of t s) rows) (key_of t s) _ (row_from t (key_of t s) _ key.0 key.1 (named_fit t s.columns s.values [] valid refl))
changes_fit t (statement.Upsert s) rows whole h a =
    let f = all_fine t (statement.Upsert s) h in
    let valid : list_all (is_fine t) (listed s.columns s.values) ≡ true = written_fine t (statement.Upsert s) f.0 in
    let key = key_fits t s (eqb-true _ _ whole) valid f.2 in
    one_fits t None (key_of t s) _ (row_from t (key_of t s) _ key.0 key.1 (named_fit t s.columns s.values _ valid (columns_fit t (key_of t s) rows a)))
changes_fit t (statement.Update s) rows whole h a =
    let f = all_fine t (statement.Update s) h in
    updates_fit t s.sets (passes t s.tests) rows (written_fine t (statement.Update s) f.0) (none_passes (names_key t) (map mention_of_set s.sets) f.1) a
changes_fit t (statement.Delete s) rows whole h a = deletes_fit t (filter (passes t s.tests) rows)
changes_fit t (statement.Select s) rows whole h a = refl
changes_fit t statement.Begin rows whole h a = refl
changes_fit t statement.Commit rows whole h a = refl
changes_fit t statement.Rollback rows whole h a = refl
changes_fit t statement.Vacuum rows whole h a = refl
