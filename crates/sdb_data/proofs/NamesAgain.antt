-- A header that lists all columns of a table, in their order.
use Rattle.std.proofs.Common.{◌≡◌, ◌<◌, ◌+◌, ℕ, zero, suc, List, [], ◌∷◌, ◌++◌, Bool, true, false, not, cond, ◌&&◌, ◌||◌, refl, sym, ap, subst, ◌∙◌, arith, Option, Some, None, length, map, append_assoc}
use Rattle.std.specs.Prelude.{find, position, nat_le, nat_lt, is_ok, Result}
use Rattle.std.specs.Option.{option_map_or}
use Rattle.std.specs.List.{list_all, filter_map, position_or_len}
use Rattle.std.specs.Ordering.{is_lt, is_eq}
use Rattle.std.specs.Str.{is_utf8, IsAscii}
use Rattle.std.proofs.lemmas.List.{map-append}
use Rattle.std.proofs.lemmas.List.Folds.{list_all-map}
use Rattle.std.proofs.lemmas.Bool.Decides.{nat_tests}
use Rattle.sdb_types.specs.Order.{name_cmp}
use Rattle.sdb_types.specs.Identifier.{is_identifier, is_start, is_part}
use Rattle.sdb_types.specs.declared.value.Value.TheVariants as value
use Rattle.sdb_types.proofs.Public.{and_both, and_first, and_second, less_of, name_total, one_more, part_small as part-small, start_part as start-part}
use Rattle.sdb_record.specs.Names.{same_name}
use Rattle.sdb_record.specs.Parts.{is_column_name}
use Rattle.sdb_record.proofs.Public.{same_name-itself}
use Rattle.sdb_schema.specs.declared.table.Kind.TheVariants as kind
use Rattle.sdb_schema.specs.declared.table.Column.{Column}
use Rattle.sdb_schema.specs.declared.table.Table.{Table}
use Rattle.sdb_schema.specs.declared.make.TableRefused.{TableRefused}
use Rattle.sdb_schema.specs.Table.{checked_table, column_names, first_unknown, has_column, is_key_column, is_table, key_names, kind_in, none_of, refuse, rises, is_above_column}
use Rattle.sdb_data.specs.declared.fault.Mode.{Mode}
use Rattle.sdb_data.specs.declared.fault.Mode.TheVariants as mode
use Rattle.sdb_data.specs.Tables.{header_fault, is_named, named_at, names_fault, nothing_to_set, repeat_place, column_found}
use Rattle.sdb_data.specs.Printed.{can_load}
use Rattle.sdb_data.proofs.FieldsAgain.{ascii-utf8}

---- columns whose names rise

above : (d : Column) (ds : List Column) (c : Column) (back : List Column) → rises (ds ++ c ∷ back) ≡ true → is_above_column d.name (ds ++ c ∷ back) ≡ true → is_lt (name_cmp d.name c.name) ≡ true
above d [] c back r h = h
above d (e ∷ es) c back r h =
    let next = above e es c back (and_second (is_above_column e.name (es ++ c ∷ back)) (rises (es ++ c ∷ back)) r) (and_first (is_above_column e.name (es ++ c ∷ back)) (rises (es ++ c ∷ back)) r) in
    ap is_lt (name_total.trans d.name e.name c.name (less_of _ h) (less_of _ next))

-- an earlier column has another name
other : (d : Column) (ds : List Column) (c : Column) (back : List Column) → rises (d ∷ (ds ++ c ∷ back)) ≡ true → same_name d.name c.name ≡ false
other d ds c back r =
    ap is_eq (less_of _ (above d ds c back (and_second (is_above_column d.name (ds ++ c ∷ back)) (rises (ds ++ c ∷ back)) r) (and_first (is_above_column d.name (ds ++ c ∷ back)) (rises (ds ++ c ∷ back)) r)))

behind : (d : Column) (ds : List Column) → rises (d ∷ ds) ≡ true → rises ds ≡ true
behind d ds r = and_second (is_above_column d.name ds) (rises ds) r

-- the column itself is found under its name
found : (front : List Column) (c : Column) (back : List Column) → rises (front ++ c ∷ back) ≡ true → find (λ d. same_name d.name c.name) (front ++ c ∷ back) ≡ Some c
found [] c back r = rw (same_name-itself c.name) refl
found (d ∷ ds) c back r = rw (other d ds c back r) (found ds c back (behind d (ds ++ c ∷ back) r))

has : (front : List Column) (c : Column) (back : List Column) → has_column (front ++ c ∷ back) c.name ≡ true
has [] c back = rw (same_name-itself c.name) refl
has (d ∷ ds) c back = elim (same_name d.name c.name) as (λ b. (b || has_column (ds ++ c ∷ back) c.name) ≡ true) [
  | true ↦ refl
  | false ↦ has ds c back
]

-- none before it has its name
fresh : (front : List Column) (c : Column) (back : List Column) → rises (front ++ c ∷ back) ≡ true → is_named (column_names front) c.name ≡ false
fresh [] c back r = refl
fresh (d ∷ ds) c back r = rw (other d ds c back r) (fresh ds c back (behind d (ds ++ c ∷ back) r))

named-has : (cs : List Column) (name : List ℕ) → is_named (column_names cs) name ≡ has_column cs name
named-has [] name = refl
named-has (c ∷ cs) name = ap (λ b. same_name c.name name || b) (named-has cs name)

place : (front : List Column) (c : Column) (back : List Column) → rises (front ++ c ∷ back) ≡ true → position_or_len (λ n. same_name n c.name) (column_names (front ++ c ∷ back)) ≡ length front
place [] c back r = rw (same_name-itself c.name) refl
place (d ∷ ds) c back r = rw (other d ds c back r) (ap (λ n. 1 + n) (place ds c back (behind d (ds ++ c ∷ back) r)) ∙ one_more (length ds))

many : (front : List Column) (c : Column) (back : List Column) → length front < length (column_names (front ++ c ∷ back))
many [] c back = omega arith
many (d ∷ ds) c back = let m = many ds c back in omega arith

pub at-place : (front : List Column) (c : Column) (back : List Column) → rises (front ++ c ∷ back) ≡ true → column_found (column_names (front ++ c ∷ back)) c ≡ Some (record { kind = c.kind; place = length front })
at-place front c back r =
    let p = place front c back r in
    let m = many front c back in
    let t : nat_lt (length front) (length (column_names (front ++ c ∷ back))) ≡ true = grind (arith, nat_tests) in
    rw (p, t) refl

---- no fault

no-position : {A : Type 0} (p : A → Bool) (xs : List A) → list_all (λ x. not (p x)) xs ≡ true → position_or_len p xs ≡ length xs
no-position p [] h = refl
no-position p (x ∷ xs) h = rw (and_first (not (p x)) _ h) (ap (λ n. 1 + n) (no-position p xs (and_second (not (p x)) _ h)) ∙ one_more (length xs))

none-at : {A : Type 0} (p : A → Bool) (xs : List A) → list_all (λ x. not (p x)) xs ≡ true → position p xs ≡ None
none-at p xs h =
    let t : nat_lt (length xs) (length xs) ≡ false = grind (arith, nat_tests) in
    rw (no-position p xs h, t) refl

-- the list from a place on, with its prefix one column longer
shift : (front : List Column) (c : Column) (back : List Column) → (front ++ c ∷ []) ++ back ≡ front ++ c ∷ back
shift front c back = append_assoc front (c ∷ []) back

all-known : (front back : List Column) → list_all (λ name. not (not (has_column (front ++ back) name))) (column_names back) ≡ true
all-known front [] = refl
all-known front (c ∷ back) =
    rw (has front c back) (subst (λ (cs : List Column). list_all (λ name. not (not (has_column cs name))) (column_names back) ≡ true) (shift front c back) (all-known (front ++ c ∷ []) back))

none-twice : (front back : List Column) → rises (front ++ back) ≡ true → repeat_place (column_names front) (column_names back) ≡ None
none-twice front [] r = refl
none-twice front (c ∷ back) r =
    rw (fresh front c back r)
    (subst (λ (ns : List (List ℕ)). repeat_place ns (column_names back) ≡ None) (map-append (λ (d : Column). d.name) front (c ∷ []))
    (none-twice (front ++ c ∷ []) back (subst (λ (cs : List Column). rises cs ≡ true) (sym (shift front c back)) r)))

refuse-ok : {A B : Type 0} (o : Option A) (f : A → TableRefused) (next : Result B TableRefused) → is_ok (refuse o f next) ≡ true → (o ≡ None) × (is_ok next ≡ true)
refuse-ok None f next h = (refl, h)
refuse-ok (Some a) f next h = cc h

unfound : {A : Type 0} (p : A → Bool) (xs : List A) → find p xs ≡ None → list_all (λ x. not (p x)) xs ≡ true
unfound p [] h = refl
unfound p (x ∷ xs) h =
    elim (p x) as (λ b. cond b (Some x) (find p xs) ≡ None → (not b && list_all (λ y. not (p y)) xs) ≡ true) [
      | true ↦ λ k. absurd (cc)
      | false ↦ λ k. unfound p xs k
    ] h

pub keys-known : (t : Table) → is_table t ≡ true → first_unknown t.columns (key_names t) ≡ None
unfolding checked_table
keys-known t h =
    let ok = and_second (list_all (λ c. is_column_name c.name) t.columns) (is_ok (checked_table t)) (and_second (rises t.columns) _ h) in
    let a = refuse-ok (none_of t.partition) _ _ ok in
    (refuse-ok (first_unknown t.columns (key_names t)) _ _ a.1).0

pub has-partition : (t : Table) → is_table t ≡ true → none_of t.partition ≡ None
unfolding checked_table
has-partition t h =
    let ok = and_second (list_all (λ c. is_column_name c.name) t.columns) (is_ok (checked_table t)) (and_second (rises t.columns) _ h) in
    (refuse-ok (none_of t.partition) _ _ ok).0

all-named : (cs : List Column) (keys : List (List ℕ)) → list_all (λ name. not (not (has_column cs name))) keys ≡ true → list_all (λ name. not (not (is_named (column_names cs) name))) keys ≡ true
all-named cs [] h = refl
all-named cs (k ∷ ks) h = rw (named-has cs k) (and_both _ _ (and_first (not (not (has_column cs k))) _ h) (all-named cs ks (and_second (not (not (has_column cs k))) _ h)))

settable : (t : Table) (m : Mode) → can_load t m ≡ true → nothing_to_set t m (column_names t.columns) ≡ None
settable t mode.Insert h = refl
settable t mode.Upsert h = refl
settable t mode.Update h =
    elim (list_all (λ c. is_key_column t c.name) t.columns) as (λ b. list_all (λ (c : Column). is_key_column t c.name) t.columns ≡ b → not b ≡ true → nothing_to_set t mode.Update (column_names t.columns) ≡ None) [
      | true ↦ λ q k. cc k
      | false ↦ λ q k. rw (list_all-map (is_key_column t) (λ (c : Column). c.name) t.columns, q) refl
    ] refl h

pub names-valid : (t : Table) (m : Mode) → is_table t ≡ true → can_load t m ≡ true → names_fault t m (column_names t.columns) ≡ None
unfolding names_fault
names-valid t m h l =
    let r = and_first (rises t.columns) _ h in
    rw (
      none-at (λ name. not (has_column t.columns name)) (column_names t.columns) (all-known [] t.columns),
      none-twice [] t.columns r,
      none-at (λ name. not (is_named (column_names t.columns) name)) (key_names t) (all-named t.columns (key_names t) (unfound (λ name. not (has_column t.columns name)) (key_names t) (keys-known t h))),
    )
    (settable t m l)

---- names are UTF-8

parts-ascii : (cs : List ℕ) → list_all is_part cs ≡ true → IsAscii cs
parts-ascii [] h i = omega arith
parts-ascii (c ∷ cs) h zero = part-small c (and_first (is_part c) (list_all is_part cs) h)
parts-ascii (c ∷ cs) h (suc i) = parts-ascii cs (and_second (is_part c) (list_all is_part cs) h) i

name-utf8 : (name : List ℕ) → is_column_name name ≡ true → is_utf8 name ≡ true
name-utf8 [] h = cc h
name-utf8 (c ∷ cs) h =
    let i = and_second (nat_le (length (c ∷ cs)) 64) (is_identifier (c ∷ cs)) h in
    ascii-utf8 (c ∷ cs) (parts-ascii (c ∷ cs) (and_both (is_part c) _ (start-part c (and_first (is_start c) (list_all is_part cs) i)) (and_second (is_start c) (list_all is_part cs) i)))

names-utf8 : (cs : List Column) → list_all (λ c. is_column_name c.name) cs ≡ true → list_all is_utf8 (column_names cs) ≡ true
names-utf8 [] h = refl
names-utf8 (c ∷ cs) h = rw (name-utf8 c.name (and_first (is_column_name c.name) _ h)) (names-utf8 cs (and_second (is_column_name c.name) _ h))

pub header-valid : (t : Table) (m : Mode) → is_table t ≡ true → can_load t m ≡ true → header_fault t m (column_names t.columns) ≡ None
header-valid t m h l =
    rw (names-utf8 t.columns (and_first _ (is_ok (checked_table t)) (and_second (rises t.columns) _ h))) (names-valid t m h l)

---- what is read under the header

pub kinds : (front : List Column) (c : Column) (back : List Column) → rises (front ++ c ∷ back) ≡ true → option_map_or (λ k. k) (kind_in (front ++ c ∷ back) c.name) kind.Text ≡ c.kind
kinds front c back r = rw (found front c back r) refl

pub names-row : (front back : List Column) → filter_map (named_at (column_names (front ++ back))) back ≡ map value.Text (column_names back)
names-row front [] = refl
names-row front (c ∷ back) =
    let n : is_named (column_names (front ++ c ∷ back)) c.name ≡ true = named-has (front ++ c ∷ back) c.name ∙ has front c back in
    rw n (ap (λ vs. value.Text c.name ∷ vs) (subst (λ (cs : List Column). filter_map (named_at (column_names cs)) back ≡ map value.Text (column_names back)) (shift front c back) (names-row (front ++ c ∷ []) back)))
