-- Columns added to tables.
use Rattle.std.proofs.Common.{◌≡◌, ℕ, suc, ◌<◌, List, [], ◌∷◌, length, Bool, true, false, not, ◌&&◌, ◌||◌, cond, Option, Some, None, Result, refl, sym, ap, subst, ◌∙◌, arith, slice_set}
use Rattle.std.specs.Prelude.{find, take_while, nat_le, nat_lt, is_ok}
use Rattle.std.specs.List.{list_all, list_any}
use Rattle.std.specs.Option.{option_map, option_map_or}
use Rattle.std.specs.Ordering.{is_lt, is_eq, ordering_reverse}
use Rattle.std.proofs.lemmas.Bool.Decides.{nat_tests}
use Rattle.std.proofs.lemmas.List.{length-map}
use Rattle.sdb_types.specs.declared.key.Key.{Key}
use Rattle.sdb_types.specs.declared.key.TableName.{TableName}
use Rattle.sdb_types.specs.declared.pair.Pair.{Pair}
use Rattle.sdb_types.specs.declared.value.Value.{Value}
use Rattle.sdb_types.specs.Exact.{equal_of}
use Rattle.sdb_types.specs.Identifier.{is_name, is_identifier}
use Rattle.sdb_types.specs.Order.{name_cmp, table_cmp}
use Rattle.sdb_types.proofs.Public.{and_both, and_first, and_second, clash, less_of, name_exact, name_total, none_some, or_neither, some_is, table_exact, table_total, one_more}
use Rattle.sdb_record.specs.Names.{same_name}
use Rattle.sdb_record.specs.Parts.{is_column_name}
use Rattle.sdb_schema.specs.declared.table.Column.{Column}
use Rattle.sdb_schema.specs.declared.table.Kind.{Kind}
use Rattle.sdb_schema.specs.declared.table.Table.{Table}
use Rattle.sdb_schema.specs.declared.make.TableRefused.{TableRefused}
use Rattle.sdb_schema.specs.Table.{checked_table, first_listed_twice, first_repeated, first_reserved, first_unknown, has_column, is_above_column, is_key_column, is_reserved, is_table, key_names, limit_passed, next_repeats, none_of, order_names, put_column, refuse, rises as columns_rise}
use Rattle.sdb_schema.specs.Catalog.{has_table, is_above_name, is_called, is_catalog, rises, table_named}
use Rattle.sdb_schema.specs.Rows.{are_values_of, fits_table, is_in_range, is_of_kind, is_stored_in, is_value_of}
use Rattle.sdb_schema.specs.Added.{column_refused_by, grown, grown_if, with_column}
use Rattle.sdb_schema.proofs.CatalogLaws.{above-of}
use Rattle.sdb_schema.proofs.ColumnOrder.{all-put, below}

---- searches

find_parts : {A : Type 0} (p : A → Bool) (x : A) (xs : List A) → find p (x ∷ xs) ≡ None → (p x ≡ false) × (find p xs ≡ None)
find_parts p x xs h =
    elim (p x) as (λ b. cond b (Some x) (find p xs) ≡ None → (b ≡ false) × (find p xs ≡ None)) [
      | true ↦ λ k. none_some x (sym k)
      | false ↦ λ k. (refl, k)
    ] h

find_fewer : {A : Type 0} (p q : A → Bool) (xs : List A) → ((x : A) → p x ≡ false → q x ≡ false) → find p xs ≡ None → find q xs ≡ None
find_fewer p q [] f h = refl
find_fewer p q (x ∷ xs) f h =
    let parts = find_parts p x xs h in
    ap (λ (b : Bool). cond b (Some x) (find q xs)) (f x parts.0) ∙ find_fewer p q xs f parts.1

map_none : {A B : Type 0} (f : A → B) (o : Option A) → option_map f o ≡ None → o ≡ None
map_none f None h = refl
map_none f (Some a) h = none_some (f a) (sym h)

cond_none : {A : Type 0} (b : Bool) (x : A) (rest : Option A) → cond b (Some x) rest ≡ None → rest ≡ None
cond_none true x rest h = none_some x (sym h)
cond_none false x rest h = h

---- a column more in its place

has_more : (c : Column) (ds : List Column) (name : List ℕ) → has_column ds name ≡ true → has_column (put_column c ds) name ≡ true
has_more c [] name h = absurd (let e : false ≡ true = h in cc)
has_more c (d ∷ ds) name h =
    elim (below c d) as (λ b. has_column (cond b (d ∷ put_column c ds) (c ∷ d ∷ ds)) name ≡ true) [
      | true ↦ elim (same_name d.name name) as (λ b. (b || has_column ds name) ≡ true → (b || has_column (put_column c ds) name) ≡ true) [
        | true ↦ λ k. refl
        | false ↦ λ k. has_more c ds name k
      ] h
      | false ↦ elim (same_name c.name name) as (λ b. (b || has_column (d ∷ ds) name) ≡ true) [
        | true ↦ refl
        | false ↦ h
      ]
    ]

find_put : (p : Column → Bool) (c : Column) (ds : List Column) → p c ≡ false → find p ds ≡ None → find p (put_column c ds) ≡ None
find_put p c [] h k = ap (λ (b : Bool). cond b (Some c) None) h
find_put p c (d ∷ ds) h k =
    let parts = find_parts p d ds k in
    elim (below c d) as (λ b. find p (cond b (d ∷ put_column c ds) (c ∷ d ∷ ds)) ≡ None) [
      | true ↦ ap (λ (b : Bool). cond b (Some d) (find p (put_column c ds))) parts.0 ∙ find_put p c ds h parts.1
      | false ↦ ap (λ (b : Bool). cond b (Some c) (find p (d ∷ ds))) h ∙ k
    ]

pub length-put : (c : Column) (ds : List Column) → length (put_column c ds) ≡ suc (length ds)
length-put c [] = refl
length-put c (d ∷ ds) =
    elim (below c d) as (λ b. length (cond b (d ∷ put_column c ds) (c ∷ d ∷ ds)) ≡ suc (suc (length ds))) [
      | true ↦ ap suc (length-put c ds)
      | false ↦ refl
    ]

above-put : (name : List ℕ) (c : Column) (ds : List Column) → is_lt (name_cmp name c.name) ≡ true → is_above_column name ds ≡ true → is_above_column name (put_column c ds) ≡ true
above-put name c [] h k = h
above-put name c (d ∷ ds) h k =
    elim (below c d) as (λ b. is_above_column name (cond b (d ∷ put_column c ds) (c ∷ d ∷ ds)) ≡ true) [
      | true ↦ k
      | false ↦ h
    ]

rises-put : (c : Column) (ds : List Column) → columns_rise ds ≡ true → has_column ds c.name ≡ false → columns_rise (put_column c ds) ≡ true
rises-put c [] h k = refl
rises-put c (d ∷ ds) h k =
    let none = or_neither (same_name d.name c.name) (has_column ds c.name) k in
    elim (below c d) as (λ b. below c d ≡ b → columns_rise (cond b (d ∷ put_column c ds) (c ∷ d ∷ ds)) ≡ true) [
      | true ↦ λ q. and_both (is_above_column d.name (put_column c ds)) _ (above-put d.name c ds q (and_first (is_above_column d.name ds) (columns_rise ds) h)) (rises-put c ds (and_second (is_above_column d.name ds) (columns_rise ds) h) none.1)
      | false ↦ λ q. and_both (is_above_column c.name (d ∷ ds)) _ (above-of (name_cmp d.name c.name) (name_cmp c.name d.name) (name_total.antisymm c.name d.name) q none.0) h
    ] refl

no_next : (name : List ℕ) (ds : List Column) → is_above_column name ds ≡ true → next_repeats name ds ≡ false
no_next name [] h = refl
no_next name (d ∷ ds) h = ap is_eq (less_of (name_cmp name d.name) h)

never_twice : (ds : List Column) → columns_rise ds ≡ true → first_listed_twice ds ≡ None
never_twice [] h = refl
never_twice (d ∷ ds) h =
    ap (λ (b : Bool). cond b (Some d.name) (first_listed_twice ds)) (no_next d.name ds (and_first (is_above_column d.name ds) (columns_rise ds) h))
    ∙ never_twice ds (and_second (is_above_column d.name ds) (columns_rise ds) h)

---- why a table refuses a column

allowed_so : (a b d : Bool) → cond {A = Option ℕ} a (Some 2) (cond b (Some 3) (cond d None (Some 4))) ≡ None → (a ≡ false) × (b ≡ false) × (d ≡ true)
allowed_so true b d h = none_some 2 (sym h)
allowed_so false true d h = none_some 3 (sym h)
allowed_so false false true h = (refl, refl, refl)
allowed_so false false false h = none_some 4 (sym h)

---- a table with a column more

refuse_parts : {A B : Type 0} (o : Option A) (f : A → TableRefused) (next : Result B TableRefused) → is_ok (refuse o f next) ≡ true → (o ≡ None) × (is_ok next ≡ true)
refuse_parts None f next h = (refl, h)
refuse_parts (Some a) f next h = absurd (let e : false ≡ true = h in cc)

refuse_none : {A B : Type 0} (o : Option A) (f : A → TableRefused) (next : Result B TableRefused) → o ≡ None → is_ok next ≡ true → is_ok (refuse o f next) ≡ true
refuse_none o f next h k = ap (λ x. is_ok (refuse x f next)) h ∙ k

of_not : (b : Bool) → not b ≡ false → b ≡ true
of_not true h = refl
of_not false h = absurd (let e : true ≡ false = h in cc)

known_still : (c : Column) (ds : List Column) (names : List (List ℕ)) → first_unknown ds names ≡ None → first_unknown (put_column c ds) names ≡ None
known_still c ds names h =
    find_fewer (λ name. not (has_column ds name)) (λ name. not (has_column (put_column c ds) name)) names (λ name k. ap not (has_more c ds name (of_not (has_column ds name) k))) h

fits : (n m : ℕ) → m ≡ suc n → nat_lt n 64 ≡ true → not (nat_le m 64) ≡ false
fits n m e h = ap not (few n m e h)
  where
    few : (n m : ℕ) → m ≡ suc n → nat_lt n 64 ≡ true → nat_le m 64 ≡ true
    few n m e h = grind (arith, nat_tests)

abbrev keys_passed : Table → Option ℕ
keys_passed t = cond (not (nat_le (length t.partition) 8)) (Some 8) (cond (not (nat_le (length t.clustering) 8)) (Some 8) None)

within : (t : Table) (c : Column) → nat_lt (length t.columns) 64 ≡ true → limit_passed t ≡ None → limit_passed (grown t c) ≡ None
within t c few h =
    let rest = cond_none (not (nat_le (length t.columns) 64)) 64 _ h in
    ap (λ (b : Bool). cond b (Some 64) (keys_passed t)) (fits (length t.columns) (length (put_column c t.columns)) (length-put c t.columns) few) ∙ rest

checked_still : (t : Table) (c : Column) → columns_rise (put_column c t.columns) ≡ true → is_reserved c.name ≡ false → nat_lt (length t.columns) 64 ≡ true → is_ok (checked_table t) ≡ true → is_ok (checked_table (grown t c)) ≡ true
unfolding checked_table
checked_still t c up free few h =
    let a = refuse_parts (none_of t.partition) _ _ h in
    let b = refuse_parts (first_unknown t.columns (key_names t)) _ _ a.1 in
    let d = refuse_parts (first_unknown t.columns t.indexed) _ _ b.1 in
    let e = refuse_parts (first_listed_twice t.columns) _ _ d.1 in
    let f = refuse_parts (first_repeated [] (key_names t)) _ _ e.1 in
    let g = refuse_parts (first_reserved t.columns) _ _ f.1 in
    let l = refuse_parts (limit_passed t) _ _ g.1 in
    refuse_none (none_of t.partition) _ _ a.0
    (refuse_none (first_unknown (put_column c t.columns) (key_names t)) _ _ (known_still c t.columns (key_names t) b.0)
    (refuse_none (first_unknown (put_column c t.columns) t.indexed) _ _ (known_still c t.columns t.indexed d.0)
    (refuse_none (first_listed_twice (put_column c t.columns)) _ _ (never_twice (put_column c t.columns) up)
    (refuse_none (first_repeated [] (key_names t)) _ _ f.0
    (refuse_none (first_reserved (put_column c t.columns)) _ _ (ap (option_map (λ (d : Column). d.name)) (find_put (λ (d : Column). is_reserved d.name) c t.columns free (map_none (λ (d : Column). d.name) (find (λ (d : Column). is_reserved d.name) t.columns) g.0)))
    (refuse_none (limit_passed (grown t c)) _ _ (within t c few l.0) refl))))))

-- a table takes a column that it doesn't refuse
pub grown_is_table : (t : Table) (c : Column) → is_table t ≡ true → column_refused_by t c ≡ None → nat_le (length c.name) 64 ≡ true → is_name c.name ≡ true → is_table (grown t c) ≡ true
grown_is_table t c h allowed short named =
    let parts = allowed_so (has_column t.columns c.name) (is_reserved c.name) (nat_lt (length t.columns) 64) allowed in
    let up = rises-put c t.columns (and_first (columns_rise t.columns) _ h) parts.0 in
    let rest = and_second (columns_rise t.columns) (list_all (λ (d : Column). is_column_name d.name) t.columns && is_ok (checked_table t)) h in
    let own = and_both (nat_le (length c.name) 64) (is_identifier c.name) short (and_second (nat_le (length c.name) 71) (is_identifier c.name) named) in
    and_both (columns_rise (put_column c t.columns)) _ up
    (and_both (list_all (λ (d : Column). is_column_name d.name) (put_column c t.columns)) _
    (all-put (λ (d : Column). is_column_name d.name) c t.columns own (and_first (list_all (λ (d : Column). is_column_name d.name) t.columns) (is_ok (checked_table t)) rest))
    (checked_still t c up parts.1 parts.2 (and_second (list_all (λ (d : Column). is_column_name d.name) t.columns) (is_ok (checked_table t)) rest)))

-- the table had no column of that name
pub new_column : (t : Table) (c : Column) → column_refused_by t c ≡ None → has_column t.columns c.name ≡ false
new_column t c allowed = (allowed_so (has_column t.columns c.name) (is_reserved c.name) (nat_lt (length t.columns) 64) allowed).0

---- rows

any_found : {A : Type 0} (p : A → Bool) (x : A) (xs : List A) → find p xs ≡ Some x → list_any p xs ≡ true
any_found p x [] h = none_some x h
any_found p x (y ∷ ys) h =
    elim (p y) as (λ b. cond b (Some y) (find p ys) ≡ Some x → (b || list_any p ys) ≡ true) [
      | true ↦ λ k. refl
      | false ↦ λ k. any_found p x ys k
    ] h

-- a column that is found is found with another column before or after it
found_still : (c : Column) (ds : List Column) (name : List ℕ) (x : Column) → has_column ds c.name ≡ false → find (λ (d : Column). same_name d.name name) ds ≡ Some x → find (λ (d : Column). same_name d.name name) (put_column c ds) ≡ Some x
found_still c [] name x none h = none_some x h
found_still c (d ∷ ds) name x none h =
    elim (below c d) as (λ b. find named (cond b (d ∷ put_column c ds) (c ∷ d ∷ ds)) ≡ Some x) [
      | true ↦ elim (same_name d.name name) as (λ b. cond b (Some d) (find named ds) ≡ Some x → cond b (Some d) (find named (put_column c ds)) ≡ Some x) [
        | true ↦ λ k. k
        | false ↦ λ k. found_still c ds name x (or_neither (same_name d.name c.name) (has_column ds c.name) none).1 k
      ] h
      | false ↦ elim (same_name c.name name) as (λ b. same_name c.name name ≡ b → cond b (Some c) (find named (d ∷ ds)) ≡ Some x) [
        | true ↦ λ q. clash (sym (any_found (λ (e : Column). same_name e.name c.name) x (d ∷ ds) (subst (λ (n : List ℕ). find (λ (e : Column). same_name e.name n) (d ∷ ds) ≡ Some x) (sym (name_exact c.name name (equal_of (name_cmp c.name name) q))) h)) ∙ none)
        | false ↦ λ q. h
      ] refl
    ]
  where
    named : Column → Bool
    named e = same_name e.name name

value_still : (c : Column) (ds : List Column) (name : List ℕ) (v : Value) → has_column ds c.name ≡ false → is_value_of ds name v ≡ true → is_value_of (put_column c ds) name v ≡ true
value_still c ds name v none h = by (find (λ (d : Column). same_name d.name name) ds) refl h
  where
    by : (o : Option Column) → find (λ (d : Column). same_name d.name name) ds ≡ o → (option_map_or (λ (k : Kind). is_of_kind k v) (option_map (λ (d : Column). d.kind) o) false && is_in_range v) ≡ true → is_value_of (put_column c ds) name v ≡ true
    by None e k = absurd (cc (k))
    by (Some x) e k = ap (λ (o : Option Column). option_map_or (λ (k : Kind). is_of_kind k v) (option_map (λ (d : Column). d.kind) o) false && is_in_range v) (found_still c ds name x none e) ∙ k

values_still : (c : Column) (ds : List Column) (names : List (List ℕ)) (vs : List Value) → has_column ds c.name ≡ false → are_values_of ds names vs ≡ true → are_values_of (put_column c ds) names vs ≡ true
values_still c ds [] [] none h = refl
values_still c ds [] (v ∷ vs) none h = h
values_still c ds (n ∷ ns) [] none h = h
values_still c ds (n ∷ ns) (v ∷ vs) none h =
    and_both (is_value_of (put_column c ds) n v) (are_values_of (put_column c ds) ns vs) (value_still c ds n v none (and_first (is_value_of ds n v) (are_values_of ds ns vs) h)) (values_still c ds ns vs none (and_second (is_value_of ds n v) (are_values_of ds ns vs) h))

stored_still : (t : Table) (c : Column) (ps : List Pair) → has_column t.columns c.name ≡ false → list_all (is_stored_in t) ps ≡ true → list_all (is_stored_in (grown t c)) ps ≡ true
stored_still t c [] none h = refl
stored_still t c (p ∷ ps) none h =
    let first = and_first (is_stored_in t p) (list_all (is_stored_in t) ps) h in
    and_both (is_stored_in (grown t c) p) (list_all (is_stored_in (grown t c)) ps)
    (and_both (not (is_key_column t p.name)) (is_value_of (put_column c t.columns) p.name p.value) (and_first (not (is_key_column t p.name)) (is_value_of t.columns p.name p.value) first) (value_still c t.columns p.name p.value none (and_second (not (is_key_column t p.name)) (is_value_of t.columns p.name p.value) first)))
    (stored_still t c ps none (and_second (is_stored_in t p) (list_all (is_stored_in t) ps) h))

-- A row that fits a table fits it with a column more.
pub fits_still : (t : Table) (c : Column) (key : Key) (columns : List Pair) → has_column t.columns c.name ≡ false → fits_table t key columns ≡ true → fits_table (grown t c) key columns ≡ true
fits_still t c key columns none h =
    let P = are_values_of t.columns t.partition key.partition in
    let C = are_values_of t.columns (order_names t.clustering) key.clustering in
    let rest = and_second P (C && list_all (is_stored_in t) columns) h in
    and_both (are_values_of (put_column c t.columns) t.partition key.partition) (are_values_of (put_column c t.columns) (order_names t.clustering) key.clustering && list_all (is_stored_in (grown t c)) columns)
    (values_still c t.columns t.partition key.partition none (and_first P (C && list_all (is_stored_in t) columns) h))
    (and_both (are_values_of (put_column c t.columns) (order_names t.clustering) key.clustering) (list_all (is_stored_in (grown t c)) columns)
    (values_still c t.columns (order_names t.clustering) key.clustering none (and_first C (list_all (is_stored_in t) columns) rest)) (stored_still t c columns none (and_second C (list_all (is_stored_in t) columns) rest)))

---- the catalog

above_more : (n : TableName) (u : Table) (us : List Table) → is_lt (table_cmp n u.name) ≡ true → is_above_name u.name us ≡ true → is_above_name n us ≡ true
above_more n u [] h k = refl
above_more n u (v ∷ vs) h k = ap is_lt (table_total.trans n u.name v.name (less_of (table_cmp n u.name) h) (less_of (table_cmp u.name v.name) k))

none_later : (n : TableName) (us : List Table) → rises us ≡ true → is_above_name n us ≡ true → has_table us n ≡ false
none_later n [] r a = refl
none_later n (u ∷ us) r a =
    ap (λ (b : Bool). b || has_table us n) (ap is_eq (table_total.antisymm u.name n ∙ ap ordering_reverse (less_of (table_cmp n u.name) a)))
    ∙ none_later n us (and_second (is_above_name u.name us) (rises us) r) (above_more n u us a (and_first (is_above_name u.name us) (rises us) r))

-- no later table has the name of the first
pub only_first : (n : TableName) (u : Table) (us : List Table) → is_called n u ≡ true → rises (u ∷ us) ≡ true → has_table us n ≡ false
only_first n u us q r =
    ap (has_table us) (sym (table_exact u.name n (equal_of (table_cmp u.name n) q))) ∙ none_later u.name us (and_second (is_above_name u.name us) (rises us) r) (and_first (is_above_name u.name us) (rises us) r)

pub others_same : (n : TableName) (c : Column) (us : List Table) → has_table us n ≡ false → with_column us n c ≡ us
others_same n c [] h = refl
others_same n c (u ∷ us) h =
    let none = or_neither (is_called n u) (has_table us n) h in
    ap (λ (b : Bool). cond b (grown u c) u ∷ with_column us n c) none.0 ∙ ap (λ (l : List Table). u ∷ l) (others_same n c us none.1)

abbrev other : TableName → Table → Bool
other n t = not (is_called n t)

abbrev pub place : TableName → List Table → ℕ
place n ts = length (take_while (other n) ts)

place_here : (n : TableName) (u : Table) (us : List Table) → is_called n u ≡ true → place n (u ∷ us) ≡ 0
place_here n u us q = simp q refl

place_later : (n : TableName) (u : Table) (us : List Table) → is_called n u ≡ false → place n (u ∷ us) ≡ suc (place n us)
place_later n u us q = simp (q, one_more) refl

-- the table of a name is in its place
pub within_tables : (n : TableName) (ts : List Table) (t : Table) → table_named ts n ≡ Some t → place n ts < length ts
within_tables n [] t h = none_some t (h)
within_tables n (u ∷ us) t h =
    elim (is_called n u) as (λ b. is_called n u ≡ b → cond b (Some u) (table_named us n) ≡ Some t → place n (u ∷ us) < length (u ∷ us)) [
      | true ↦ λ q k. omega (arith, place_here n u us q)
      | false ↦ λ q k. omega (arith, place_later n u us q, within_tables n us t k)
    ] refl h

pub set_in_place : (n : TableName) (c : Column) (ts : List Table) (t : Table) → rises ts ≡ true → table_named ts n ≡ Some t → slice_set ts (place n ts) (grown t c) ≡ with_column ts n c
set_in_place n c [] t r h = none_some t h
set_in_place n c (u ∷ us) t r h =
    elim (is_called n u) as (λ b. is_called n u ≡ b → cond b (Some u) (table_named us n) ≡ Some t → slice_set (u ∷ us) (place n (u ∷ us)) (grown t c) ≡ cond b (grown u c) u ∷ with_column us n c) [
      | true ↦ λ q k. ap (λ (i : ℕ). slice_set (u ∷ us) i (grown t c)) (place_here n u us q) ∙ ap (λ (x : Table). grown x c ∷ us) (sym (some_is u t k)) ∙ ap (λ (l : List Table). grown u c ∷ l) (sym (others_same n c us (only_first n u us q r)))
      | false ↦ λ q k. ap (λ (i : ℕ). slice_set (u ∷ us) i (grown t c)) (place_later n u us q) ∙ ap (λ (l : List Table). u ∷ l) (set_in_place n c us t (and_second (is_above_name u.name us) (rises us) r) k)
    ] refl h

above-grown : (m n : TableName) (c : Column) (us : List Table) → is_above_name m (with_column us n c) ≡ is_above_name m us
above-grown m n c [] = refl
above-grown m n c (u ∷ us) = elim (is_called n u) as (λ b. is_lt (table_cmp m (cond b (grown u c) u).name) ≡ is_lt (table_cmp m u.name)) [ true ↦ refl | false ↦ refl ]

rises-grown : (n : TableName) (c : Column) (us : List Table) → rises (with_column us n c) ≡ rises us
rises-grown n c [] = refl
rises-grown n c (u ∷ us) =
    ap (λ (b : Bool). is_above_name (grown_if n c u).name (with_column us n c) && b) (rises-grown n c us)
    ∙ ap (λ (b : Bool). b && rises us) (above-grown (grown_if n c u).name n c us ∙ elim (is_called n u) as (λ b. is_above_name (cond b (grown u c) u).name us ≡ is_above_name u.name us) [ true ↦ refl | false ↦ refl ])

all-grown : (n : TableName) (c : Column) (ts : List Table) (t : Table) → rises ts ≡ true → table_named ts n ≡ Some t → is_table (grown t c) ≡ true → list_all is_table ts ≡ true → list_all is_table (with_column ts n c) ≡ true
all-grown n c [] t r h own all = refl
all-grown n c (u ∷ us) t r h own all =
    elim (is_called n u) as (λ b. is_called n u ≡ b → cond b (Some u) (table_named us n) ≡ Some t → list_all is_table (cond b (grown u c) u ∷ with_column us n c) ≡ true) [
      | true ↦ λ q k. and_both (is_table (grown u c)) _ (ap (λ (x : Table). is_table (grown x c)) (some_is u t k) ∙ own)
          (ap (list_all is_table) (others_same n c us (only_first n u us q r)) ∙ and_second (is_table u) (list_all is_table us) all)
      | false ↦ λ q k. and_both (is_table u) _ (and_first (is_table u) (list_all is_table us) all)
          (all-grown n c us t (and_second (is_above_name u.name us) (rises us) r) k own (and_second (is_table u) (list_all is_table us) all))
    ] refl h

table_at : (n : TableName) (ts : List Table) (t : Table) → table_named ts n ≡ Some t → list_all is_table ts ≡ true → is_table t ≡ true
table_at n [] t h all = none_some t h
table_at n (u ∷ us) t h all =
    elim (is_called n u) as (λ b. cond b (Some u) (table_named us n) ≡ Some t → is_table t ≡ true) [
      | true ↦ λ k. ap is_table (sym (some_is u t k)) ∙ and_first (is_table u) (list_all is_table us) all
      | false ↦ λ k. table_at n us t k (and_second (is_table u) (list_all is_table us) all)
    ] h

pub grown_is_catalog : (n : TableName) (c : Column) (ts : List Table) (t : Table) → is_catalog ts ≡ true → table_named ts n ≡ Some t → (is_table t ≡ true → is_table (grown t c) ≡ true) → is_catalog (with_column ts n c) ≡ true
grown_is_catalog n c ts t h found own =
    let up = and_first (rises ts) (nat_le (length ts) 64 && list_all is_table ts) h in
    let rest = and_second (rises ts) (nat_le (length ts) 64 && list_all is_table ts) h in
    let all = and_second (nat_le (length ts) 64) (list_all is_table ts) rest in
    and_both (rises (with_column ts n c)) _ (rises-grown n c ts ∙ up)
    (and_both (nat_le (length (with_column ts n c)) 64) _ (ap (λ (k : ℕ). nat_le k 64) (length-map ts (grown_if n c)) ∙ and_first (nat_le (length ts) 64) (list_all is_table ts) rest)
    (all-grown n c ts t up found (own (table_at n ts t found all)) all))

pub catalog_rises : (ts : List Table) → is_catalog ts ≡ true → rises ts ≡ true
catalog_rises ts h = and_first (rises ts) (nat_le (length ts) 64 && list_all is_table ts) h
