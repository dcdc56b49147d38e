-- Tables put in order.
use Rattle.std.proofs.Common.{◌≡◌, ℕ, suc, ◌<◌, List, [], ◌∷◌, length, Bool, true, false, ◌&&◌, cond, refl, ap, ◌∙◌, arith, Result, Ok, Err, OnOk, OnErr}
use Rattle.std.specs.Prelude.{take_while, insert, nat_le}
use Rattle.std.specs.List.{list_all}
use Rattle.std.specs.declared.cmp.Ordering.{Ordering}
use Rattle.std.specs.declared.cmp.Ordering.TheVariants.{Less, Equal, Greater}
use Rattle.std.specs.Ordering.{is_lt, is_eq, ordering_reverse}
use Rattle.std.proofs.lemmas.Bool.Decides.{nat_tests}
use Rattle.sdb_types.specs.declared.key.TableName.{TableName}
use Rattle.sdb_types.specs.Order.{table_cmp}
use Rattle.sdb_types.proofs.Public.{and_both, and_first, and_second, one_more, or_neither as or-false, table_total}
use Rattle.sdb_schema.specs.declared.table.Table.{Table}
use Rattle.sdb_schema.specs.declared.catalog.AddRefused.{AddRefused}
use Rattle.sdb_schema.specs.Table.{is_table}
use Rattle.sdb_schema.specs.Catalog.{is_called, has_table, with_table, is_above_name, rises, is_catalog}

abbrev pub below : Table → Table → Bool
below t u = is_lt (table_cmp u.name t.name)

pub with_table-is : (t : Table) (us : List Table) → insert us (length (take_while (below t) us)) t ≡ with_table t us
with_table-is t [] = refl
with_table-is t (u ∷ us) =
    elim (below t u) as (λ b. below t u ≡ b → insert (u ∷ us) (length (take_while (below t) (u ∷ us))) t ≡ with_table t (u ∷ us)) [
      | true ↦ λ q. simp (q, one_more) (ap (λ l. u ∷ l) (with_table-is t us))
      | false ↦ λ q. simp q refl
    ] refl

pub above-of : (r s : Ordering) → s ≡ ordering_reverse r → is_lt r ≡ false → is_eq r ≡ false → is_lt s ≡ true
above-of Less s e h k = absurd (cc)
above-of Equal s e h k = absurd (cc)
above-of Greater s e h k = ap is_lt e

above-with : (n : TableName) (t : Table) (us : List Table) → is_lt (table_cmp n t.name) ≡ true → is_above_name n us ≡ true → is_above_name n (with_table t us) ≡ true
above-with n t [] h k = h
above-with n t (u ∷ us) h k =
    elim (below t u) as (λ b. is_above_name n (cond b (u ∷ with_table t us) (t ∷ u ∷ us)) ≡ true) [
      | true ↦ k
      | false ↦ h
    ]

rises-with : (t : Table) (us : List Table) → rises us ≡ true → has_table us t.name ≡ false → rises (with_table t us) ≡ true
rises-with t [] h k = refl
rises-with t (u ∷ us) h k =
    let none = or-false (is_called t.name u) (has_table us t.name) k in
    elim (below t u) as (λ b. below t u ≡ b → rises (cond b (u ∷ with_table t us) (t ∷ u ∷ us)) ≡ true) [
      | true ↦ λ q. and_both (is_above_name u.name (with_table t us)) _ (above-with u.name t us q (and_first (is_above_name u.name us) (rises us) h)) (rises-with t us (and_second (is_above_name u.name us) (rises us) h) none.1)
      | false ↦ λ q. and_both (is_above_name t.name (u ∷ us)) _ (above-of (table_cmp u.name t.name) (table_cmp t.name u.name) (table_total.antisymm t.name u.name) q none.0) h
    ] refl

length-with : (t : Table) (us : List Table) → length (with_table t us) ≡ suc (length us)
length-with t [] = refl
length-with t (u ∷ us) =
    elim (below t u) as (λ b. length (cond b (u ∷ with_table t us) (t ∷ u ∷ us)) ≡ suc (suc (length us))) [
      | true ↦ ap suc (length-with t us)
      | false ↦ refl
    ]

all-with : (t : Table) (us : List Table) → is_table t ≡ true → list_all is_table us ≡ true → list_all is_table (with_table t us) ≡ true
all-with t [] h k = and_both (is_table t) true h refl
all-with t (u ∷ us) h k =
    elim (below t u) as (λ b. list_all is_table (cond b (u ∷ with_table t us) (t ∷ u ∷ us)) ≡ true) [
      | true ↦ and_both (is_table u) _ (and_first (is_table u) (list_all is_table us) k) (all-with t us h (and_second (is_table u) (list_all is_table us) k))
      | false ↦ and_both (is_table t) _ h k
    ]

fits : (n m : ℕ) → m ≡ suc n → n < 64 → nat_le m 64 ≡ true
fits n m e h = grind (arith, nat_tests)

pub is_catalog-with : (t : Table) (us : List Table) → is_catalog us ≡ true → has_table us t.name ≡ false → length us < 64 → is_table t ≡ true → is_catalog (with_table t us) ≡ true
is_catalog-with t us h k n i =
    let up = and_first (rises us) (nat_le (length us) 64 && list_all is_table us) h in
    let all = and_second (nat_le (length us) 64) (list_all is_table us) (and_second (rises us) (nat_le (length us) 64 && list_all is_table us) h) in
    and_both (rises (with_table t us)) _ (rises-with t us up k) (and_both (nat_le (length (with_table t us)) 64) _ (fits (length us) (length (with_table t us)) (length-with t us) n) (all-with t us i all))

pub after_add : (r : Result (Unit {0}) AddRefused) (t : Table) (new old : List Table) → OnOk r (new ≡ with_table t old) → OnErr r (new ≡ old) → OnOk r (has_table old t.name ≡ false) → OnOk r (length old < 64) → is_table t ≡ true → is_catalog old ≡ true → is_catalog new ≡ true
after_add (Ok x) t new old o e n l i h = ap is_catalog o ∙ is_catalog-with t old h n l i
after_add (Err x) t new old o e n l i h = ap is_catalog e ∙ h
