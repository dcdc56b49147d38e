-- Each statement of a bench leaves rows of which those of one table and partition have one v.
use Rattle.std.proofs.Common.{◌≡◌, ℕ, ℤ, pos, Bool, true, false, cond, List, [], ◌∷◌, map, length, Option, Some, refl, sym, ap, subst, ◌∙◌, arith}
use Rattle.std.specs.Prelude.{is_some}
use Rattle.std.specs.List.{AllByRecursion}
use Rattle.std.specs.FinMap.{empty, entries, entries-insert, from_entries, get, insert, len-empty, len-entries}
use Rattle.std.specs.FinMap.Entries.{put}
use Rattle.sdb_bench.specs.Types.{Image, Key, Pair, Table, TableName, Test, Update, Value}
use Rattle.sdb_types.specs.declared.value.Value.TheVariants as value
use Rattle.sdb_types.specs.Columns.{column, is_null, put_pair, take_out}
use Rattle.sdb_types.specs.Fits.{fits_int}
use Rattle.sdb_types.specs.Order.{key_cmp}
use Rattle.sdb_types.proofs.Public.{all_each, by_order, column-put_same, cond_by, key_exact, key_total}
use Rattle.sdb_model.specs.declared.statement.Statement.TheVariants as statement
use Rattle.sdb_model.specs.declared.statement.Comparison.TheVariants.{Eq}
use Rattle.sdb_model.specs.declared.statement.Test.TheVariants.{Compare}
use Rattle.sdb_model.specs.Exec.{Tables, entry_of_row, exec, exec_in, key_of, left_by, named_table, passes, row_of_entry, updated}
use Rattle.sdb_model.specs.Rows.{literal_at}
use Rattle.sdb_bench.specs.declared.side.Side.{Side}
use Rattle.sdb_bench.specs.declared.side.Side.TheVariants.{Left, Right}
use Rattle.sdb_bench.specs.Setup.{bench_catalog, bench_table, cell_of, insert_of, n_name, number, p_name, update_of, v_name}

abbrev pub Entry : Type 0
Entry = Key × List Pair

---- lists and maps

pub all_map : {A B : Type 0} (P : A → Type 0) (Q : B → Type 0) (f : A → B) → ((x : A) → P x → Q (f x)) → (xs : List A) → AllByRecursion P xs → AllByRecursion Q (map f xs)
all_map P Q f each [] h = tt
all_map P Q f each (x ∷ xs) h = (each x h.0, all_map P Q f each xs h.1)

put_one : (P : Entry → Type 0) (k : Key) (v : List Pair) (e : Entry) (es : List Entry) → P (k, v) → P e → AllByRecursion P es → AllByRecursion P (put key_cmp k v es) → AllByRecursion P (put key_cmp k v (e ∷ es))
put_one P k v e es new one rest more =
    by_order (key_cmp k e.0)
    (λ less. rw less (new, (one, rest)))
    (λ same. rw same (subst (λ (q : Key). P (q, v)) (key_exact k e.0 same) new, rest))
    (λ more_than. rw more_than (one, more))

all_put : (P : Entry → Type 0) (k : Key) (v : List Pair) (es : List Entry) → P (k, v) → AllByRecursion P es → AllByRecursion P (put key_cmp k v es)
all_put P k v [] new h = (new, tt)
all_put P k v (e ∷ es) new h = put_one P k v e es new h.0 h.1 (all_put P k v es new h.1)

all_insert : (P : Entry → Type 0) (d : Tables) (k : Key) (v : List Pair) → P (k, v) → AllByRecursion P (entries d) → AllByRecursion P (entries (insert d k v))
all_insert P d k v new h = subst (AllByRecursion P) (sym (entries-insert key_total d k v)) (all_put P k v (entries d) new h)

no_length : {A : Type 0} (xs : List A) → length xs ≡ 0 → xs ≡ []
no_length [] e = refl
no_length (x ∷ xs) e = absurd (omega arith)

pub no_entries : entries (empty {X = List Pair} {R = key_cmp}) ≡ []
no_entries = no_length _ (sym (len-entries (empty {X = List Pair} {R = key_cmp})) ∙ len-empty key_cmp (List Pair))

all_from : (P : Entry → Type 0) (es : List Entry) → AllByRecursion P es → AllByRecursion P (entries (from_entries {R = key_cmp} es))
all_from P [] h = subst (AllByRecursion P) (sym no_entries) tt
all_from P (e ∷ es) h = all_insert P (from_entries es) e.0 e.1 h.0 (all_from P es h.1)

---- rows

-- a partition of one value
abbrev pub IsOne : List Value → Type 0
IsOne [] = ⊥
IsOne (x ∷ []) = Unit {0}
IsOne (x ∷ y ∷ xs) = ⊥

abbrev pub Chosen : Type 0
Chosen = TableName → List Value → Value

-- a row whose v is chosen by its table and partition
abbrev pub IsCell : Chosen → Entry → Type 0
IsCell f e = IsOne e.0.partition × (column e.1 v_name ≡ Some (f e.0.table e.0.partition))

abbrev pub AreCells : Chosen → Tables → Type 0
AreCells f d = AllByRecursion (IsCell f) (entries d)

-- all rows of a table and a partition have one v
abbrev pub IsEven : Tables → Type 0
IsEven d = (f : Chosen) × AreCells f d

abbrev pub HasNone : Tables → Type 0
HasNone d = AllByRecursion (λ e. ⊥) (entries d)

abbrev pub all_zero : Chosen
all_zero table partition = value.Int (pos 0)

pub none_zero : (d : Tables) → HasNone d → AreCells all_zero d
none_zero d h = all_each (λ e. ⊥) (IsCell all_zero) (entries d) (λ e none. absurd none) h

---- inserts

named_insert : (side : Side) (p n : ℕ) → named_table bench_catalog (insert_of side p n) ≡ Some (bench_table side)
named_insert Left p n = refl
named_insert Right p n = refl

named_update : (side : Side) (p v : ℕ) → named_table bench_catalog (update_of side p v) ≡ Some (bench_table side)
named_update Left p v = refl
named_update Right p v = refl

abbrev pub key_in : Side → ℕ → ℕ → Key
key_in side p n =
    key_of (bench_table side) (record { table = cell_of side; columns = p_name ∷ n_name ∷ v_name ∷ []; values = number p ∷ number n ∷ number 0 ∷ [] })

abbrev pub zero_column : List Pair
zero_column = record { name = v_name; value = value.Int (pos 0) } ∷ []

left_insert : (side : Side) (p n : ℕ) (d : Tables) → AreCells all_zero d → AreCells all_zero (left_by (bench_table side) (insert_of side p n) d)
left_insert side p n d h =
    cond_by (AreCells all_zero) (is_some (get d (key_in side p n))) d (insert d (key_in side p n) zero_column) (λ there. h) (λ absent. all_insert (IsCell all_zero) d (key_in side p n) zero_column (tt, refl) h)

pub insert_zero : (side : Side) (p n : ℕ) (d : Tables) → AreCells all_zero d → AreCells all_zero (exec bench_catalog (insert_of side p n) d).1
insert_zero side p n d h = subst (λ (o : Option Table). AreCells all_zero (exec_in o (insert_of side p n) d).1) (sym (named_insert side p n)) (left_insert side p n d h)

---- updates

update_all : (P Q : Entry → Type 0) (t : Table) (s : Update) (d : Tables) → ((e : Entry) → P e → Q (entry_of_row (updated t s (row_of_entry e)))) → AllByRecursion P (entries d) → AllByRecursion Q (entries (left_by t (statement.Update s) d))
update_all P Q t s d each h = all_from Q _ (all_map (λ r. Q (entry_of_row r)) Q entry_of_row (λ r q. q) _ (all_map (λ r. Q (entry_of_row (updated t s r))) (λ r. Q (entry_of_row r)) (updated t s) (λ r q. q) _ (all_map P (λ r. Q (entry_of_row (updated t s r))) row_of_entry each (entries d) h)))

-- a row of this table and partition, and of nothing else
abbrev pub bare_row : TableName → List Value → Image
bare_row table partition = record { key = record { table = table; partition = partition; clustering = [] }; columns = [] }

abbrev pub asked : ℕ → List Test
asked p = Compare p_name Eq (number p) ∷ []

-- the test of an update asks for the table and the partition alone
asks_key : (side : Side) (p : ℕ) (table : TableName) (ps cs : List Value) (columns : List Pair) → IsOne ps
    → passes (bench_table side) (asked p) (record { key = record { table = table; partition = ps; clustering = cs }; columns = columns }) ≡ passes (bench_table side) (asked p) (bare_row table ps)
asks_key side p table [] cs columns h = absurd h
asks_key side p table (x ∷ []) cs columns h = refl
asks_key side p table (x ∷ y ∷ xs) cs columns h = absurd h

abbrev pub written : Side → ℕ → Value
written side v = literal_at (bench_table side) v_name (number v)

int_value : (b : Bool) (n : ℤ) → is_null (cond b (value.Int n) (value.BigInt n)) ≡ false
int_value true n = refl
int_value false n = refl

set_column : (x : Value) (columns : List Pair) → is_null x ≡ false → column (cond (is_null x) (take_out v_name columns) (put_pair (record { name = v_name; value = x }) columns)) v_name ≡ Some x
set_column x columns e = rw e (column-put_same (record { name = v_name; value = x }) columns)

-- what the rows of a table and a partition have after an update
abbrev pub chosen_after : Side → ℕ → ℕ → Chosen → Chosen
chosen_after side p v f table ps = cond (passes (bench_table side) (asked p) (bare_row table ps)) (written side v) (f table ps)

update_of_record : Side → ℕ → ℕ → Update
update_of_record side p v = record { table = cell_of side; sets = record { name = v_name; value = number v } ∷ []; tests = asked p }

cell_after : (f g : Chosen) (b : Bool) (e : Entry) (x : Value) → is_null x ≡ false → g e.0.table e.0.partition ≡ cond b x (f e.0.table e.0.partition) → IsCell f e
    → IsCell g (entry_of_row (cond b (record { key = e.0; columns = cond (is_null x) (take_out v_name e.1) (put_pair (record { name = v_name; value = x }) e.1) }) (row_of_entry e)))
cell_after f g true e x some is h = (h.0, set_column x e.1 some ∙ ap Some (sym is))
cell_after f g false e x some is h = (h.0, h.1 ∙ ap Some (sym is))

each_after : (side : Side) (p v : ℕ) (f : Chosen) (e : Entry) → IsCell f e → IsCell (chosen_after side p v f) (entry_of_row (updated (bench_table side) (update_of_record side p v) (row_of_entry e)))
unfolding update_of_record
each_after side p v f e h =
    let same = asks_key side p e.0.table e.0.partition e.0.clustering e.1 h.0 in
    cell_after f (chosen_after side p v f) (passes (bench_table side) (asked p) (row_of_entry e)) e (written side v)
    (int_value (fits_int (pos v)) (pos v))
    (ap (λ (b : Bool). cond b (written side v) (f e.0.table e.0.partition)) (sym same))
    h

left_update : (side : Side) (p v : ℕ) (d : Tables) → IsEven d → IsEven (left_by (bench_table side) (update_of side p v) d)
unfolding update_of_record
left_update side p v d (f, h) = (chosen_after side p v f, update_all (IsCell f) (IsCell (chosen_after side p v f)) (bench_table side) (update_of_record side p v) d (each_after side p v f) h)

pub update_even : (side : Side) (p v : ℕ) (d : Tables) → IsEven d → IsEven (exec bench_catalog (update_of side p v) d).1
update_even side p v d h = subst (λ (o : Option Table). IsEven (exec_in o (update_of side p v) d).1) (sym (named_update side p v)) (left_update side p v d h)

pub update_none : (side : Side) (p v : ℕ) (d : Tables) → HasNone d → HasNone (exec bench_catalog (update_of side p v) d).1
unfolding update_of_record
update_none side p v d h = subst (λ (o : Option Table). HasNone (exec_in o (update_of side p v) d).1) (sym (named_update side p v)) (update_all (λ e. ⊥) (λ e. ⊥) (bench_table side) (update_of_record side p v) d (λ e none. absurd none) h)
