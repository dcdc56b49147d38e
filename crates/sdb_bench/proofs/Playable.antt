-- The script of a bench is playable.
use Rattle.std.proofs.Common.{◌≡◌, ℕ, zero, suc, ◌*◌, ◌<◌, ◌≤◌, ◌^◌, Bool, true, false, List, [], ◌∷◌, ◌++◌, map, length, codes, Some, None, refl, sym, ap, subst, ◌∙◌, arith, mod-lt, lit<, cond}
use Rattle.std.specs.Prelude.{decimal, is_some, slice_get, ◌/◌, ◌==◌}
use Rattle.std.specs.List.{AllByRecursion}
use Rattle.std.specs.Ordering.{is_eq}
use Rattle.std.proofs.lemmas.Fmt.{length-decimal-le}
use Rattle.std.proofs.lemmas.List.{length-append}
use Rattle.sdb_bench.specs.Types.{Statement, TableName}
use Rattle.sdb_types.specs.Exact.{equal_of}
use Rattle.sdb_types.specs.Order.{table_cmp}
use Rattle.sdb_types.proofs.Public.{append_all, by_test, clash, eq_of, none_some, some_is, table_exact}
use Rattle.sdb_record.specs.Names.{base_name, is_meta}
use Rattle.sdb_record.specs.Coordinator.{is_coordinator_table}
use Rattle.sdb_schema.specs.Catalog.{is_catalog}
use Rattle.sdb_schema.specs.Table.{checked_table}
use Rattle.sdb_model.specs.Exec.{find_table}
use Rattle.sdb_model.specs.Follows.{texts_of}
use Rattle.sdb_model.specs.Sql.{statement_text_of}
use Rattle.sdb_bench.specs.declared.side.Side.{Side}
use Rattle.sdb_bench.specs.declared.side.Side.TheVariants.{Left, Right}
use Rattle.sdb_bench.specs.Draws.{draw, numbers_below, state_after}
use Rattle.sdb_bench.specs.Setup.{bench_catalog, bench_table, insert_of, namespace_of, update_of}
use Rattle.sdb_bench.specs.Script.{IsOfNine, bench_clients, bench_moves, bench_script_of, step_drawn}
use Rattle.sdb_bench.proofs.Spelled.{insert_spelled, update_spelled}
use Rattle.sdb_bench.proofs.ReadAs.{Changes, Closes, Inserts, IsInsert, IsOf, IsText, IsUpdate, Opens, Updates, setup_kind, update_texts}

---- the catalog

catalog_is : is_catalog bench_catalog ≡ true
unfolding checked_table base_name is_meta
catalog_is = refl

of_side : (side : Side) (name : TableName) → is_eq (table_cmp (bench_table side).name name) ≡ true → is_coordinator_table name ≡ false
of_side Left name e = subst (λ (x : TableName). is_coordinator_table x ≡ false) (table_exact (bench_table Left).name name (equal_of (table_cmp (bench_table Left).name name) e)) refl
of_side Right name e = subst (λ (x : TableName). is_coordinator_table x ≡ false) (table_exact (bench_table Right).name name (equal_of (table_cmp (bench_table Right).name name) e)) refl

none_found : {G : Type 0} (a b : Bool) → a ≡ false → b ≡ false → is_some (cond a (Some (bench_table Left)) (cond b (Some (bench_table Right)) None)) ≡ true → G
none_found a b e g f = clash (sym f ∙ ap (λ (x : Bool). is_some (cond x (Some (bench_table Left)) (cond b (Some (bench_table Right)) None))) e ∙ ap (λ (x : Bool). is_some (cond x (Some (bench_table Right)) None)) g)

tables_apart : (name : TableName) → is_some (find_table bench_catalog name) ≡ true → is_coordinator_table name ≡ false
tables_apart name f =
    by_test (is_eq (table_cmp (bench_table Left).name name))
    (λ e. of_side Left name e)
    (λ e. by_test (is_eq (table_cmp (bench_table Right).name name)) (λ g. of_side Right name g) (λ g. none_found (is_eq (table_cmp (bench_table Left).name name)) (is_eq (table_cmp (bench_table Right).name name)) e g f))

---- its texts

short_decimal : (n : ℕ) → n < 1000 → length (decimal n) ≤ 3
short_decimal n h = length-decimal-le 3 n (omega arith) (omega arith) (omega arith)

short_insert : (side : Side) (p n : ℕ) → p < 8 → n < 4 → length (statement_text_of (insert_of side p n)) < 2 ^ 32
short_insert side p n hp hn = subst (λ (text : List ℕ). length text < 2 ^ 32) (insert_spelled side p n (namespace_of side) refl) (fits side)
  where
    fits : (side : Side) → length (codes "INSERT INTO " ++ (namespace_of side ++ (codes ".cell (p, n, v) VALUES (" ++ (decimal p ++ (codes ", " ++ (decimal n ++ codes ", 0)")))))) < 2 ^ 32
    fits Left =
        let first = length-append (decimal p) (codes ", " ++ (decimal n ++ codes ", 0)")) in
        let second = length-append (decimal n) (codes ", 0)") in
        let short_p = short_decimal p (omega arith) in
        let short_n = short_decimal n (omega arith) in
        omega (arith, first, second, short_p, short_n)
    fits Right =
        let first = length-append (decimal p) (codes ", " ++ (decimal n ++ codes ", 0)")) in
        let second = length-append (decimal n) (codes ", 0)") in
        let short_p = short_decimal p (omega arith) in
        let short_n = short_decimal n (omega arith) in
        omega (arith, first, second, short_p, short_n)

short_update : (side : Side) (p v : ℕ) → p < 8 → v < 1000 → length (statement_text_of (update_of side p v)) < 2 ^ 32
short_update side p v hp hv = subst (λ (text : List ℕ). length text < 2 ^ 32) (update_spelled side p v (namespace_of side) refl) (fits side)
  where
    fits : (side : Side) → length (codes "UPDATE " ++ (namespace_of side ++ (codes ".cell SET v = " ++ (decimal v ++ (codes " WHERE p = " ++ decimal p))))) < 2 ^ 32
    fits Left =
        let first = length-append (decimal v) (codes " WHERE p = " ++ decimal p) in
        let short_p = short_decimal p (omega arith) in
        let short_v = short_decimal v hv in
        omega (arith, first, short_p, short_v)
    fits Right =
        let first = length-append (decimal v) (codes " WHERE p = " ++ decimal p) in
        let short_p = short_decimal p (omega arith) in
        let short_v = short_decimal v hv in
        omega (arith, first, short_p, short_v)

short_kind : (P : Statement → Type 0) → ((st : Statement) → P st → length (statement_text_of st) < 2 ^ 32) → (text : List ℕ) → IsText (IsOf P) text → length text < 2 ^ 32
short_kind P short text t = subst (λ (x : List ℕ). length x < 2 ^ 32) (sym t.same) (by t.statement t.kind)
  where
    by : (st : Statement) → IsOf P st → length (statement_text_of st) < 2 ^ 32
    by st (Opens e) = subst (λ (x : Statement). length (statement_text_of x) < 2 ^ 32) (sym e) (lit< tt)
    by st (Closes e) = subst (λ (x : Statement). length (statement_text_of x) < 2 ^ 32) (sym e) (lit< tt)
    by st (Changes h) = short st h

short_inserts : (st : Statement) → Inserts st → length (statement_text_of st) < 2 ^ 32
short_inserts st h = subst (λ (x : Statement). length (statement_text_of x) < 2 ^ 32) (sym h.same) (short_insert h.side h.p h.n h.low_p h.low_n)

short_updates : (st : Statement) → Updates st → length (statement_text_of st) < 2 ^ 32
short_updates st h = subst (λ (x : Statement). length (statement_text_of x) < 2 ^ 32) (sym h.same) (short_update h.side h.p h.v h.low_p h.low_v)

pub found_in : (Q : List ℕ → Type 0) (texts : List (List ℕ)) → AllByRecursion Q texts → (i : ℕ) (text : List ℕ) → slice_get texts i ≡ Some text → Q text
found_in Q [] h i text e = none_some text e
found_in Q (t ∷ ts) h zero text e = subst Q (some_is t text e) h.0
found_in Q (t ∷ ts) h (suc i) text e = found_in Q ts h.1 i text e

pub apart : (c : ℕ) → (c == 1) ≡ false → c ≡ 1 → ⊥
apart c e is = clash (sym (ap (λ (x : ℕ). x == 1) is) ∙ e)

texts_short : (n c i : ℕ) (text : List ℕ) → slice_get (texts_of (bench_clients n) c) i ≡ Some text → length text < 2 ^ 32
texts_short n c i text e =
    by_test (c == 1)
    (λ own.
    let setup : slice_get (texts_of (bench_clients n) 1) i ≡ Some text = subst (λ (x : ℕ). slice_get (texts_of (bench_clients n) x) i ≡ Some text) (eq_of c 1 own) e in
    short_kind Inserts short_inserts text (found_in (IsText IsInsert) (texts_of (bench_clients n) 1) (setup_kind n) i text setup))
    (λ other. short_kind Updates short_updates text (found_in (IsText IsUpdate) (texts_of (bench_clients n) c) (update_texts n c (apart c other)) i text e))

---- its moves

step_is : (x i : ℕ) → IsOfNine (step_drawn x i)
step_is x i = let less : draw x i 8 < 8 = mod-lt (state_after x (suc i) / 2 ^ 33) (omega arith) in (omega arith, omega arith)

steps_are : (x : ℕ) (ks : List ℕ) → AllByRecursion IsOfNine (map (step_drawn x) ks)
steps_are x [] = tt
steps_are x (k ∷ ks) = (step_is x k, steps_are x ks)

moves_are : (n : ℕ) → AllByRecursion IsOfNine (bench_moves n)
moves_are n =
    ((omega arith, omega arith), append_all IsOfNine (map (step_drawn (state_after n (4 * n))) (numbers_below (8 * n))) _ (steps_are (state_after n (4 * n)) (numbers_below (8 * n))) (tt, tt))

---- the whole script

pub bench_catalog_is : (n : ℕ) (first last : List ℕ) → is_catalog (bench_script_of n first last).catalog ≡ true
unfolding bench_script_of
bench_catalog_is n first last = catalog_is

pub bench_apart : (n : ℕ) (first last : List ℕ) (name : TableName) → is_some (find_table (bench_script_of n first last).catalog name) ≡ true → is_coordinator_table name ≡ false
unfolding bench_script_of
bench_apart n first last = tables_apart

pub bench_nine : (n : ℕ) (first last : List ℕ) → length (bench_script_of n first last).clients ≡ 9
unfolding bench_script_of
bench_nine n first last = refl

pub bench_short : (n : ℕ) (first last : List ℕ) (c i : ℕ) (text : List ℕ) → slice_get (texts_of (bench_script_of n first last).clients c) i ≡ Some text → length text < 2 ^ 32
unfolding bench_script_of
bench_short n first last = texts_short n

pub bench_moves_are : (n : ℕ) (first last : List ℕ) → AllByRecursion IsOfNine (bench_script_of n first last).moves
unfolding bench_script_of
bench_moves_are n first last = moves_are n
