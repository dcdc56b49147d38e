-- A plan on the rows of its access finishes as its statement does on the whole tables.
use Rattle.std.proofs.Common.{◌≡◌, List, [], ◌∷◌, Bool, true, false, not, ◌||◌, cond, length, Option, Some, None, refl, sym, ap, ◌∙◌, arith}
use Rattle.std.specs.Prelude.{filter}
use Rattle.std.specs.List.{list_all}
use Rattle.std.specs.Ordering.{is_eq}
use Rattle.std.specs.Cmp.{tied_itself, eq_by_cmp_equiv}
use Rattle.std.proofs.lemmas.Bool.{and_parts, and_from, eq-eqb}
use Rattle.std.proofs.lemmas.List.{length-map}
use Rattle.sdb_exec.specs.Types.{Column, Image, Key, Pair, Statement, Table, TableName, Value}
use Rattle.sdb_types.specs.Order.{key_cmp, table_cmp}
use Rattle.sdb_types.proofs.Public.{key_exact, table_total}
use Rattle.sdb_schema.specs.Table.{is_table, order_names}
use Rattle.sdb_schema.specs.Rows.{fits_table, are_values_of, is_value_of, is_stored_in}
use Rattle.sdb_model.specs.Rows.{Name}
use Rattle.sdb_model.specs.declared.statement.Statement.TheVariants as statement
use Rattle.sdb_model.specs.Exec.{Tables, all_rows, is_row_of, exec, exec_in, named_table, answer_of, left_by, key_of}
use Rattle.sdb_model.specs.Reads.{access_of, access_by}
use Rattle.sdb_model.specs.Access.{in_access, rows_at, with_changes}
use Rattle.sdb_exec.specs.Plans.{Planned, first_unfit, has_shape, are_shaped, all_well_typed, answer_on, changes_on, step_of, IsExec}
use Rattle.sdb_exec.proofs.Local.{same_answer, same_after}
use Rattle.sdb_types.specs.Exact.{equal_of as equal}

---- rows that fit have the shape of their table

values_len : (cs : List Column) (ns : List Name) (vs : List Value) → are_values_of cs ns vs ≡ true → length vs ≡ length ns
values_len cs [] [] h = refl
values_len cs [] (v ∷ vs) h = absurd (cc)
values_len cs (n ∷ ns) [] h = absurd (cc)
values_len cs (n ∷ ns) (v ∷ vs) h =
    let rest : length vs ≡ length ns = values_len cs ns vs (and_parts (is_value_of cs n v) (are_values_of cs ns vs) h).1 in
    omega arith

fits_shape : (t : Table) (k : Key) (c : List Pair) → fits_table t k c ≡ true → has_shape t k ≡ true
fits_shape t k c h =
    let a = and_parts (are_values_of t.columns t.partition k.partition) _ h in
    let b = and_parts (are_values_of t.columns (order_names t.clustering) k.clustering) (list_all (is_stored_in t) c) a.1 in
    and_from _ _ (eq-eqb _ _ (values_len t.columns t.partition k.partition a.0)) (eq-eqb _ _ (values_len t.columns (order_names t.clustering) k.clustering b.0 ∙ length-map t.clustering (λ o. o.name)))

abbrev all_of : Table → List Image → Bool
all_of t = list_all (λ r. not (is_row_of t r) || fits_table t r.key r.columns)

weaker : (a b c : Bool) → (b ≡ true → c ≡ true) → (not a || b) ≡ true → (not a || c) ≡ true
weaker true b c f h = f h
weaker false b c f h = refl

pub all_shaped : (t : Table) (rs : List Image) → all_of t rs ≡ true → are_shaped t rs ≡ true
all_shaped t [] h = refl
all_shaped t (r ∷ rs) h =
    let parts = and_parts (not (is_row_of t r) || fits_table t r.key r.columns) (all_of t rs) h in
    and_from (not (is_row_of t r) || has_shape t r.key) (are_shaped t rs) (weaker (is_row_of t r) (fits_table t r.key r.columns) (has_shape t r.key) (fits_shape t r.key r.columns) parts.0) (all_shaped t rs parts.1)

---- the rows of an access are those of the table

get_own : (k q : Key) → is_eq (key_cmp k q) ≡ true → is_eq (table_cmp q.table k.table) ≡ true
get_own k q h =
    let same : k ≡ q = key_exact k q (equal _ h) in
    ap (λ x. is_eq (table_cmp x.table k.table)) (sym same) ∙ ap is_eq (tied_itself table_total k.table)

pub turned : (t : TableName) (q : Key) → is_eq (table_cmp t q.table) ≡ true → is_eq (table_cmp q.table t) ≡ true
turned t q h = (eq_by_cmp_equiv table_total).symm q.table t ∙ h

pub by_own : (t : TableName) (a b : Option (List Value)) (q : Key) → in_access (access_by t a b) q ≡ true → is_eq (table_cmp q.table t) ≡ true
by_own t None b q h = turned t q (and_parts (is_eq (table_cmp t q.table)) true h).0
by_own t (Some ps) None q h = turned t q (and_parts (is_eq (table_cmp t q.table)) _ h).0
by_own t (Some ps) (Some cs) q h = get_own (record { table = t; partition = ps; clustering = cs }) q h

pub own : (t : Table) (s : Statement) (q : Key) → in_access (access_of t s) q ≡ true → is_eq (table_cmp q.table t.name) ≡ true
own t (statement.Insert s) q h = get_own (key_of t s) q h
own t (statement.Upsert s) q h = get_own (key_of t s) q h
own t (statement.Update s) q h = by_own t.name _ _ q h
own t (statement.Delete s) q h = by_own t.name _ _ q h
own t (statement.Select s) q h = by_own t.name _ _ q h
own t statement.Begin q h = by_own t.name _ _ q h
own t statement.Commit q h = by_own t.name _ _ q h
own t statement.Rollback q h = by_own t.name _ _ q h
own t statement.Vacuum q h = by_own t.name _ _ q h

none_unfit : (t : Table) (p : Key → Bool) → ((q : Key) → p q ≡ true → is_eq (table_cmp q.table t.name) ≡ true) → (rs : List Image) → all_of t rs ≡ true → first_unfit t (filter (λ r. p r.key) rs) ≡ None
none_unfit t p h [] all = refl
none_unfit t p h (r ∷ rs) all =
    let parts = and_parts (not (is_row_of t r) || fits_table t r.key r.columns) (all_of t rs) all in
    let rest : first_unfit t (filter (λ x. p x.key) rs) ≡ None = none_unfit t p h rs parts.1 in
    elim (p r.key) as (λ b. p r.key ≡ b → first_unfit t (cond b (r ∷ filter (λ x. p x.key) rs) (filter (λ x. p x.key) rs)) ≡ None) [
      | true ↦ λ q.
          let its : is_row_of t r ≡ true = h r.key q in
          let fits : fits_table t r.key r.columns ≡ true = rw its at parts.0 in
          rw fits rest
      | false ↦ λ q. rest
    ] refl

---- the law

pub is_exec : (catalog : List Table) (p : Planned) (d : Tables) → is_table p.table ≡ true → named_table catalog p.statement ≡ Some p.table → p.asked ≡ true → are_shaped p.table (all_rows d) ≡ true
    → first_unfit p.table (rows_at (access_of p.table p.statement) d) ≡ None → IsExec catalog p d (step_of p (rows_at (access_of p.table p.statement) d))
is_exec catalog p d table named asked shaped fit =
    let rows : List Image = rows_at (access_of p.table p.statement) d in
    let whole : exec catalog p.statement d ≡ (answer_of p.table p.statement d, left_by p.table p.statement d) = ap (λ o. exec_in o p.statement d) named in
    let both : exec catalog p.statement d ≡ (answer_on p.table p.statement rows, with_changes d (changes_on p.table p.statement rows)) =
    whole ∙ (λ i. (same_answer p.table p.statement d table shaped i, same_after p.table p.statement d table shaped i)) in
    rw (asked, fit) both

pub fitting_is_exec : (catalog : List Table) (p : Planned) (d : Tables) → is_table p.table ≡ true → named_table catalog p.statement ≡ Some p.table → p.asked ≡ true → all_well_typed p.table d ≡ true
    → IsExec catalog p d (step_of p (rows_at (access_of p.table p.statement) d))
fitting_is_exec catalog p d table named asked fit =
    is_exec catalog p d table named asked (all_shaped p.table (all_rows d) fit) (none_unfit p.table (in_access (access_of p.table p.statement)) (own p.table p.statement) (all_rows d) fit)
