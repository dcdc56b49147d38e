-- A row that passes the tests lies in their access.
use Rattle.std.proofs.Common.{◌≡◌, List, [], ◌∷◌, ◌++◌, Bool, true, false, not, ◌&&◌, ◌||◌, ◌==◌, cond, map, length, Option, Some, None, refl, sym, ap, ◌∙◌, arith, subst}
use Rattle.std.specs.Prelude.{filter}
use Rattle.std.specs.List.{list_all, list_any}
use Rattle.std.specs.declared.cmp.Ordering.TheVariants.{Equal}
use Rattle.std.specs.Ordering.{is_eq}
use Rattle.std.specs.Cmp.Lexicographic.{slice_cmp, lists_total}
use Rattle.std.specs.Cmp.{tied_itself, eq_by_cmp_equiv}
use Rattle.std.proofs.lemmas.Bool.{and_parts, or_parts, not-true, eqb-true}
use Rattle.std.proofs.lemmas.List.{length-map}
use Rattle.std.proofs.lemmas.List.Folds.{list_any-append}
use Rattle.sdb_exec.specs.Types.{Image, Key, Table, TableName, Test, Value}
use Rattle.sdb_types.specs.Order.{key_cmp, table_cmp, value_cmp}
use Rattle.sdb_types.specs.ValueLaws.{value_exact, value_total}
use Rattle.sdb_types.proofs.Public.{key_total, name_exact, table_exact, table_total}
use Rattle.sdb_schema.specs.Table.{is_table, first_repeated, is_among, key_names}
use Rattle.sdb_model.specs.declared.statement.Comparison.TheVariants.{Eq, Ne, Lt, Le, Gt, Ge}
use Rattle.sdb_model.specs.declared.statement.Test.TheVariants.{Compare, IsNull, NotNull}
use Rattle.sdb_model.specs.Rows.{Name, same_name, order_names, value_of, value_in, literal_at}
use Rattle.sdb_model.specs.Exec.{passes_test, passes, is_row_of}
use Rattle.sdb_model.specs.Reads.{fixed, joined, all_fixed, access_by, access_for}
use Rattle.sdb_model.specs.Access.{in_access}
use Rattle.sdb_exec.specs.Plans.{has_shape}
use Rattle.sdb_exec.proofs.Places.{sound}
use Rattle.sdb_types.specs.Exact.{equal_of as equal}
use Rattle.sdb_exec.proofs.Fits.{same_turned, same_self}

-- filters

kept : {X : Type 0} (p : X → Bool) (x : X) (xs ys : List X) (c : Bool) → (p x ≡ true → c ≡ true) → filter p xs ≡ filter p ys → filter p (x ∷ xs) ≡ filter p (cond c (x ∷ ys) ys)
kept p x xs ys true h e = ap (λ zs. cond (p x) (x ∷ zs) zs) e
kept p x xs ys false h e =
    elim (p x) as (λ b. (b ≡ true → false ≡ true) → cond b (x ∷ filter p xs) (filter p xs) ≡ filter p ys) [ true ↦ λ k. let bad : false ≡ true = k refl in cc | false ↦ λ k. e ] h

-- to filter what passes a wider test is to filter all
pub narrow : {X : Type 0} (p s : X → Bool) (ok : X → Bool) → ((x : X) → ok x ≡ true → p x ≡ true → s x ≡ true) → (xs : List X) → list_all ok xs ≡ true → filter p xs ≡ filter p (filter s xs)
narrow p s ok h [] all = refl
narrow p s ok h (x ∷ xs) all =
    let parts = and_parts (ok x) (list_all ok xs) all in
    kept p x xs (filter s xs) (s x) (h x parts.0) (narrow p s ok h xs parts.1)

-- the columns of a primary key differ

abbrev are_distinct : List Name → Bool
are_distinct [] = true
are_distinct (n ∷ ns) = not (list_any (same_name n) ns) && are_distinct ns

-- none of the names is n, where n is among those passed
not_again : (n : Name) (passed ns : List Name) → ((m : Name) → same_name m n ≡ true → is_among passed m ≡ true) → first_repeated passed ns ≡ None → list_any (same_name n) ns ≡ false
not_again n passed [] h e = refl
not_again n passed (m ∷ ms) h e =
    elim (is_among passed m) as (λ b. is_among passed m ≡ b → cond b (Some m) (first_repeated (passed ++ m ∷ []) ms) ≡ None → list_any (same_name n) (m ∷ ms) ≡ false) [
      | true ↦ λ q k. absurd (cc)
      | false ↦ λ q k.
          let rest : list_any (same_name n) ms ≡ false = not_again n (passed ++ m ∷ []) ms (λ x t. let old : is_among passed x ≡ true = h x t in list_any-append (same_name x) passed (m ∷ []) ∙ rw old refl) k in
          let other : same_name n m ≡ false =
          elim (same_name n m) as (λ b. same_name n m ≡ b → b ≡ false) [ true ↦ λ t. sym (h m (same_turned m n ∙ t)) ∙ q | false ↦ λ t. refl ] refl
          in
          rw (other, rest) refl
    ] refl e

distinct_from : (passed ns : List Name) → first_repeated passed ns ≡ None → are_distinct ns ≡ true
distinct_from passed [] e = refl
distinct_from passed (m ∷ ms) e =
    elim (is_among passed m) as (λ b. cond b (Some m) (first_repeated (passed ++ m ∷ []) ms) ≡ None → are_distinct (m ∷ ms) ≡ true) [
      | true ↦ λ k. absurd (cc)
      | false ↦ λ k.
          let none : list_any (same_name m) ms ≡ false = not_again m (passed ++ m ∷ []) ms (λ x t. list_any-append (same_name x) passed (m ∷ []) ∙ last (is_among passed x) (same_name x m) t) k in
          let rest : are_distinct ms ≡ true = distinct_from (passed ++ m ∷ []) ms k in
          rw (none, rest) refl
    ] e
  where
    last : (a b : Bool) → b ≡ true → (a || (b || false)) ≡ true
    last true b h = refl
    last false b h = rw h refl

distinct : (t : Table) → is_table t ≡ true → are_distinct (t.partition ++ order_names t.clustering) ≡ true
distinct t h = distinct_from [] (key_names t) (sound t h).0

-- the values of the key's columns

skipped : (n : Name) (v : Value) (f : Name → Value) (ms : List Name) → list_any (same_name n) ms ≡ false → map (λ m. cond (same_name n m) v (f m)) ms ≡ map f ms
skipped n v f [] h = refl
skipped n v f (m ∷ ms) h =
    let parts = or_parts (same_name n m) (list_any (same_name n) ms) h in
    let rest : map (λ m'. cond (same_name n m') v (f m')) ms ≡ map f ms = skipped n v f ms parts.1 in
    rw (parts.0, rest) refl

any_right : (p : Name → Bool) (xs ys : List Name) → list_any p (xs ++ ys) ≡ false → (list_any p xs ≡ false) × (list_any p ys ≡ false)
any_right p [] ys h = (refl, h)
any_right p (x ∷ xs) ys h =
    let parts = or_parts (p x) (list_any p (xs ++ ys)) h in
    let rest = any_right p xs ys parts.1 in
    (rw parts.0 rest.0, rest.1)

-- columns that are beside none of the names
past : (ns ms : List Name) (vs : List Value) (f : Name → Value) → are_distinct (ns ++ ms) ≡ true → map (λ m. value_in ns vs m (f m)) ms ≡ map f ms
past [] ms vs f h = refl
past (n ∷ ns) ms [] f h = refl
past (n ∷ ns) ms (v ∷ vs) f h =
    let parts = and_parts (not (list_any (same_name n) (ns ++ ms))) (are_distinct (ns ++ ms)) h in
    let apart = any_right (same_name n) ns ms (not-true _ parts.0) in
    skipped n v (λ m. value_in ns vs m (f m)) ms apart.1 ∙ past ns ms vs f parts.1

distinct_left : (ns ms : List Name) → are_distinct (ns ++ ms) ≡ true → are_distinct ns ≡ true
distinct_left [] ms h = refl
distinct_left (n ∷ ns) ms h =
    let parts = and_parts (not (list_any (same_name n) (ns ++ ms))) (are_distinct (ns ++ ms)) h in
    let apart = any_right (same_name n) ns ms (not-true _ parts.0) in
    rw (apart.0, distinct_left ns ms parts.1) refl

distinct_right : (ns ms : List Name) → are_distinct (ns ++ ms) ≡ true → are_distinct ms ≡ true
distinct_right [] ms h = h
distinct_right (n ∷ ns) ms h = distinct_right ns ms (and_parts (not (list_any (same_name n) (ns ++ ms))) (are_distinct (ns ++ ms)) h).1

-- each name has the value beside it
back : (ns : List Name) (vs : List Value) (f : Name → Value) → are_distinct ns ≡ true → length vs ≡ length ns → map (λ n. value_in ns vs n (f n)) ns ≡ vs
back [] [] f d l = refl
back [] (v ∷ vs) f d l = absurd (omega arith)
back (n ∷ ns) [] f d l = absurd (omega arith)
back (n ∷ ns) (v ∷ vs) f d l =
    let parts = and_parts (not (list_any (same_name n) ns)) (are_distinct ns) d in
    let rest : map (λ m. value_in ns vs m (f m)) ns ≡ vs = back ns vs f parts.1 (omega arith) in
    let tail : map (λ m. cond (same_name n m) v (value_in ns vs m (f m))) ns ≡ vs = skipped n v (λ m. value_in ns vs m (f m)) ns (not-true _ parts.0) ∙ rest in
    rw (same_self n, tail) refl

key_values : (t : Table) (r : Image) → are_distinct (t.partition ++ order_names t.clustering) ≡ true → has_shape t r.key ≡ true
    → (map (value_of t r) t.partition ≡ r.key.partition) × (map (value_of t r) (order_names t.clustering) ≡ r.key.clustering)
key_values t r d h =
    let lengths = and_parts (length r.key.partition == length t.partition) (length r.key.clustering == length t.clustering) h in (
      back t.partition r.key.partition _ (distinct_left t.partition (order_names t.clustering) d) (eqb-true _ _ lengths.0),
      past t.partition (order_names t.clustering) r.key.partition _ d ∙ back (order_names t.clustering) r.key.clustering _ (distinct_right t.partition _ d) (eqb-true _ _ lengths.1 ∙ sym (length-map t.clustering (λ o. o.name))),
    )

-- what the tests fix

fixed_value : (t : Table) (r : Image) (ts : List Test) (n : Name) (v : Value) → list_all (passes_test t r) ts ≡ true → fixed t ts n ≡ Some v → value_of t r n ≡ v
fixed_value t r [] n v all f = absurd (cc)
fixed_value t r (IsNull m ∷ ts) n v all f = fixed_value t r ts n v (and_parts (passes_test t r (IsNull m)) (list_all (passes_test t r) ts) all).1 f
fixed_value t r (NotNull m ∷ ts) n v all f = fixed_value t r ts n v (and_parts (passes_test t r (NotNull m)) (list_all (passes_test t r) ts) all).1 f
fixed_value t r (Compare m Ne x ∷ ts) n v all f = fixed_value t r ts n v (and_parts (passes_test t r (Compare m Ne x)) (list_all (passes_test t r) ts) all).1 f
fixed_value t r (Compare m Lt x ∷ ts) n v all f = fixed_value t r ts n v (and_parts (passes_test t r (Compare m Lt x)) (list_all (passes_test t r) ts) all).1 f
fixed_value t r (Compare m Le x ∷ ts) n v all f = fixed_value t r ts n v (and_parts (passes_test t r (Compare m Le x)) (list_all (passes_test t r) ts) all).1 f
fixed_value t r (Compare m Gt x ∷ ts) n v all f = fixed_value t r ts n v (and_parts (passes_test t r (Compare m Gt x)) (list_all (passes_test t r) ts) all).1 f
fixed_value t r (Compare m Ge x ∷ ts) n v all f = fixed_value t r ts n v (and_parts (passes_test t r (Compare m Ge x)) (list_all (passes_test t r) ts) all).1 f
fixed_value t r (Compare m Eq x ∷ ts) n v all f =
    let parts = and_parts (passes_test t r (Compare m Eq x)) (list_all (passes_test t r) ts) all in
    elim (same_name m n) as (λ b. same_name m n ≡ b → cond b (Some (literal_at t m x)) (fixed t ts n) ≡ Some v → value_of t r n ≡ v) [
      | true ↦ λ e g.
          let name : m ≡ n = name_exact m n (equal _ e) in
          let found : value_of t r m ≡ literal_at t m x = value_exact _ _ (equal _ (and_parts _ _ parts.0).1) in
          ap (value_of t r) (sym name) ∙ found ∙ (cc)
      | false ↦ λ e g. fixed_value t r ts n v parts.1 g
    ] refl f

both_fixed : (v : Option Value) (vs : Option (List Value)) (ws : List Value) (P : Type 0) → joined v vs ≡ Some ws → ((x : Value) (xs : List Value) → v ≡ Some x → vs ≡ Some xs → ws ≡ x ∷ xs → P) → P
both_fixed None vs ws P h k = absurd (cc)
both_fixed (Some x) None ws P h k = absurd (cc)
both_fixed (Some x) (Some xs) ws P h k = k x xs refl refl (cc)

fixed_values : (t : Table) (r : Image) (ts : List Test) (ns : List Name) (vs : List Value) → list_all (passes_test t r) ts ≡ true → all_fixed t ts ns ≡ Some vs → map (value_of t r) ns ≡ vs
fixed_values t r ts [] vs all f = cc
fixed_values t r ts (n ∷ ns) vs all f =
    both_fixed (fixed t ts n) (all_fixed t ts ns) vs (map (value_of t r) (n ∷ ns) ≡ vs) f (λ x xs one more is.
    let first : value_of t r n ≡ x = fixed_value t r ts n x all one in
    let rest : map (value_of t r) ns ≡ xs = fixed_values t r ts ns xs all more in
    rw (first, rest) (sym is))

-- the access has the key of each row that passes
reached : (t : TableName) (k : Key) (a b : Option (List Value)) → is_eq (table_cmp k.table t) ≡ true → ((vs : List Value) → a ≡ Some vs → k.partition ≡ vs) → ((vs : List Value) → b ≡ Some vs → k.clustering ≡ vs) → in_access (access_by t a b) k ≡ true
reached t k None b h p c =
    let turned : is_eq (table_cmp t k.table) ≡ true = (eq_by_cmp_equiv table_total).symm t k.table ∙ h in
    rw turned refl
reached t k (Some ps) None h p c =
    let turned : is_eq (table_cmp t k.table) ≡ true = (eq_by_cmp_equiv table_total).symm t k.table ∙ h in
    let tied : slice_cmp value_cmp ps k.partition ≡ Equal = rw (p ps refl) (tied_itself (lists_total value_total) ps) in
    rw (turned, tied) refl
reached t k (Some ps) (Some cs) h p c =
    let name : k.table ≡ t = table_exact _ _ (equal _ h) in
    let same : ◌≡◌ {A = Key} (record { table = t; partition = ps; clustering = cs }) k = λ i. record { table = sym name i; partition = sym (p ps refl) i; clustering = sym (c cs refl) i } in
    let P : Key → Type 0 = λ x. is_eq (key_cmp x k) ≡ true in
    subst P (sym same) (ap is_eq (tied_itself key_total k))

pub tests_imply_access : (t : Table) (ts : List Test) → is_table t ≡ true → (r : Image) → (not (is_row_of t r) || has_shape t r.key) ≡ true → passes t ts r ≡ true → in_access (access_for t ts) r.key ≡ true
tests_imply_access t ts d r ok h =
    let parts = and_parts (is_row_of t r) (list_all (passes_test t r) ts) h in
    let shaped : has_shape t r.key ≡ true = rw parts.0 at ok in
    let values = key_values t r (distinct t d) shaped in
    reached t.name r.key _ _ parts.0 (λ vs f. sym values.0 ∙ fixed_values t r ts t.partition vs parts.1 f) (λ vs f. sym values.1 ∙ fixed_values t r ts (order_names t.clustering) vs parts.1 f)
