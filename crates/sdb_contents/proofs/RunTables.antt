-- The tables of a run, by their names.
use Rattle.std.proofs.Common.{◌≡◌, ◌∙◌, inl, inr, ℕ, zero, suc, ◌+◌, Bool, true, false, cond, List, [], ◌∷◌, ◌++◌, length, take, Some, refl, sym, ap, subst}
use Rattle.std.specs.Prelude.{◌||◌, is_some, insert, slice_get, take_while}
use Rattle.std.specs.List.{AllByRecursion}
use Rattle.std.specs.Ordering.{is_eq, is_lt}
use Rattle.std.specs.Cmp.{tied_itself}
use Rattle.std.proofs.Math.Numerals.{add-one}
use Rattle.std.proofs.lemmas.List.{map-append}
use Rattle.sdb_contents.specs.Types.{Table, TableName}
use Rattle.sdb_types.specs.Exact.{equal_of}
use Rattle.sdb_types.specs.Order.{table_cmp}
use Rattle.sdb_types.proofs.Public.{all_each, and_first, and_second, by_test, either as or_cases, or_second, table_exact, table_total}
use Rattle.sdb_record.specs.Coordinator.{coordinator_table, is_coordinator_table}
use Rattle.sdb_record.proofs.Public.{same_name-true}
use Rattle.sdb_model.specs.Exec.{find_table}
use Rattle.sdb_contents.specs.Opening.{run_tables, table_names}
use Rattle.sdb_contents.proofs.Lists.{take_suc}
use Rattle.sdb_model.specs.Tables.{is_table_of_run}

or_first : (a b : Bool) → a ≡ true → (a || b) ≡ true
or_first a b e = ap (λ (x : Bool). x || b) e

false_true : {G : Type 0} → false ≡ true → G
false_true e = absurd (let f = e in cc)

---- lists

-- what is so of each name is so of each table's
all_names : (P : TableName → Type 0) (ts : List Table) → AllByRecursion (λ (t : Table). P t.name) ts → AllByRecursion P (table_names ts)
all_names P [] h = tt
all_names P (t ∷ ts) h = (h.0, all_names P ts h.1)

-- with one more, put anywhere
with_one : {A : Type 0} (P : A → Type 0) (xs : List A) (k : ℕ) (x : A) → P x → AllByRecursion P xs → AllByRecursion P (insert xs k x)
with_one P [] zero x h all = (h, tt)
with_one P [] (suc k) x h all = (h, tt)
with_one P (y ∷ ys) zero x h all = (h, all)
with_one P (y ∷ ys) (suc k) x h all = (all.0, with_one P ys k x h all.1)

without_one : {A : Type 0} (P : A → Type 0) (xs : List A) (k : ℕ) (x : A) → AllByRecursion P (insert xs k x) → P x × AllByRecursion P xs
without_one P [] zero x all = (all.0, tt)
without_one P [] (suc k) x all = (all.0, tt)
without_one P (y ∷ ys) zero x all = (all.0, all.1)
without_one P (y ∷ ys) (suc k) x all = let r = without_one P ys k x all.1 in (r.0, (all.0, r.1))

-- the names of one table more
pub names_more : (ts : List Table) (i : ℕ) (t : Table) (before after : List TableName) (n : TableName) → slice_get ts i ≡ Some t → before ≡ table_names (take i ts) → n ≡ t.name → after ≡ before ++ n ∷ [] → after ≡ table_names (take (i + 1) ts)
names_more ts i t before after n here so is pushed =
    pushed ∙ ap (λ (xs : List TableName). xs ++ n ∷ []) so ∙ ap (λ (x : TableName). table_names (take i ts) ++ x ∷ []) is
    ∙ sym (ap (λ (k : ℕ). table_names (take k ts)) (add-one i) ∙ ap table_names (take_suc ts i t here) ∙ map-append (λ (u : Table). u.name) (take i ts) (t ∷ []))

---- the tables of a run are played

-- a table that is found among others is found among more
found_more : (t : Table) (ts : List Table) (name : TableName) → is_some (find_table ts name) ≡ true → is_some (find_table (t ∷ ts) name) ≡ true
found_more t ts name h =
    by_test (is_eq (table_cmp t.name name))
    (λ e. ap (λ (b : Bool). is_some (cond b (Some t) (find_table ts name))) e)
    (λ e. ap (λ (b : Bool). is_some (cond b (Some t) (find_table ts name))) e ∙ h)

-- each table of a catalog is found
pub each_found : (ts : List Table) → AllByRecursion (λ (t : Table). is_some (find_table ts t.name) ≡ true) ts
each_found [] = tt
each_found (t ∷ ts) = (
  ap (λ (b : Bool). is_some (cond b (Some t) (find_table ts t.name))) (ap is_eq (tied_itself table_total t.name)),
  all_each (λ (u : Table). is_some (find_table ts u.name) ≡ true) (λ (u : Table). is_some (find_table (t ∷ ts) u.name) ≡ true) ts (λ u h. found_more t ts u.name h) (each_found ts),
)

-- each table of a catalog is one of the run's
pub each_played : (catalog : List Table) → AllByRecursion (λ (t : Table). is_table_of_run catalog t.name ≡ true) catalog
each_played catalog =
    all_each (λ (t : Table). is_some (find_table catalog t.name) ≡ true) (λ (t : Table). is_table_of_run catalog t.name ≡ true) catalog
    (λ t h. or_first (is_some (find_table catalog t.name)) (is_coordinator_table t.name) h) (each_found catalog)

-- so is each that is looked at
pub names_played : (catalog : List Table) → AllByRecursion (λ (n : TableName). is_table_of_run catalog n ≡ true) (run_tables catalog)
names_played catalog =
    with_one (λ (n : TableName). is_table_of_run catalog n ≡ true) (table_names catalog) (length (take_while (λ (n : TableName). is_lt (table_cmp n coordinator_table)) (table_names catalog))) coordinator_table
    (or_second (is_some (find_table catalog coordinator_table)) (is_coordinator_table coordinator_table) refl)
    (all_names (λ (n : TableName). is_table_of_run catalog n ≡ true) catalog (each_played catalog))

-- the coordinator's table is the one of its name
pub coordinator_is : (table : TableName) → is_coordinator_table table ≡ true → table ≡ coordinator_table
coordinator_is table c = λ i. record { ns = same_name-true table.ns coordinator_table.ns (and_first _ _ c) i; table = same_name-true table.table coordinator_table.table (and_second _ _ c) i }

-- what is so of each table of a catalog is so of one that is found there
of_found : (P : TableName → Type 0) (ts : List Table) (table : TableName) → AllByRecursion P (table_names ts) → is_some (find_table ts table) ≡ true → P table
of_found P [] table all h = false_true h
of_found P (t ∷ ts) table all h =
    by_test (is_eq (table_cmp t.name table))
    (λ e. subst P (table_exact t.name table (equal_of (table_cmp t.name table) e)) all.0)
    (λ e. of_found P ts table all.1 (sym (ap (λ (b : Bool). is_some (cond b (Some t) (find_table ts table))) e) ∙ h))

-- what is so of each that is looked at is so of each of the run's
pub of_played : (P : TableName → Type 0) (catalog : List Table) (table : TableName) → AllByRecursion P (run_tables catalog) → is_table_of_run catalog table ≡ true → P table
of_played P catalog table all correct =
    let both = without_one P (table_names catalog) (length (take_while (λ (n : TableName). is_lt (table_cmp n coordinator_table)) (table_names catalog))) coordinator_table all in
    elim (or_cases (is_some (find_table catalog table)) (is_coordinator_table table) correct) [
      | inl found ↦ of_found P catalog table both.1 found
      | inr is ↦ subst P (sym (coordinator_is table is)) both.0
    ]
