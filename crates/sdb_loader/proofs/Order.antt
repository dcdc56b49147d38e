-- Tables whose names rise, and tables added to a catalog at its end.
use Rattle.std.proofs.Common.{◌≡◌, List, [], ◌∷◌, ◌++◌, true, false, refl, ap}
use Rattle.std.specs.declared.cmp.Ordering.{Ordering}
use Rattle.std.specs.declared.cmp.Ordering.TheVariants.{Less, Equal, Greater}
use Rattle.std.specs.Ordering.{is_lt, is_eq}
use Rattle.sdb_types.specs.declared.key.TableName.{TableName}
use Rattle.sdb_types.specs.Order.{table_cmp}
use Rattle.sdb_types.proofs.Public.{and_both, and_first, and_second, less_of, table_total}
use Rattle.sdb_schema.specs.declared.table.Table.{Table}
use Rattle.sdb_schema.specs.Catalog.{has_table, with_table, is_above_name, rises}

lower : (t u v : TableName) → is_lt (table_cmp t u) ≡ true → is_lt (table_cmp u v) ≡ true → is_lt (table_cmp t v) ≡ true
lower t u v h k = ap is_lt (table_total.trans t u v (less_of _ h) (less_of _ k))

starts : (name : TableName) (ts : List Table) (t : Table) (rest : List Table) → is_above_name name (ts ++ t ∷ rest) ≡ true → is_above_name name (ts ++ t ∷ []) ≡ true
starts name [] t rest h = h
starts name (u ∷ us) t rest h = h

-- tables rise up to any of them
pub rises-front : (ts : List Table) (t : Table) (rest : List Table) → rises (ts ++ t ∷ rest) ≡ true → rises (ts ++ t ∷ []) ≡ true
rises-front [] t rest h = refl
rises-front (u ∷ us) t rest h =
    and_both (is_above_name u.name (us ++ t ∷ [])) _ (starts u.name us t rest (and_first (is_above_name u.name (us ++ t ∷ rest)) (rises (us ++ t ∷ rest)) h)) (rises-front us t rest (and_second (is_above_name u.name (us ++ t ∷ rest)) (rises (us ++ t ∷ rest)) h))

last_above : (name : TableName) (ts : List Table) (t : Table) → rises (ts ++ t ∷ []) ≡ true → is_above_name name (ts ++ t ∷ []) ≡ true → is_lt (table_cmp name t.name) ≡ true
last_above name [] t r h = h
last_above name (u ∷ us) t r h =
    lower name u.name t.name h (last_above u.name us t (and_second (is_above_name u.name (us ++ t ∷ [])) (rises (us ++ t ∷ [])) r) (and_first (is_above_name u.name (us ++ t ∷ [])) (rises (us ++ t ∷ [])) r))

below_last : (u : Table) (us : List Table) (t : Table) → rises (u ∷ (us ++ t ∷ [])) ≡ true → is_lt (table_cmp u.name t.name) ≡ true
below_last u us t r =
    last_above u.name us t (and_second (is_above_name u.name (us ++ t ∷ [])) (rises (us ++ t ∷ [])) r) (and_first (is_above_name u.name (us ++ t ∷ [])) (rises (us ++ t ∷ [])) r)

-- a table whose name is above all others goes to the end
pub with_table-end : (ts : List Table) (t : Table) → rises (ts ++ t ∷ []) ≡ true → with_table t ts ≡ ts ++ t ∷ []
with_table-end [] t r = refl
with_table-end (u ∷ us) t r =
    simp (below_last u us t r) (ap (λ l. u ∷ l) (with_table-end us t (and_second (is_above_name u.name (us ++ t ∷ [])) (rises (us ++ t ∷ [])) r)))

not_equal : (r : Ordering) → is_lt r ≡ true → is_eq r ≡ false
not_equal Less h = refl
not_equal Equal h = cc
not_equal Greater h = refl

-- and none of the others has its name
pub has_table-end : (ts : List Table) (t : Table) → rises (ts ++ t ∷ []) ≡ true → has_table ts t.name ≡ false
has_table-end [] t r = refl
has_table-end (u ∷ us) t r =
    simp (not_equal _ (below_last u us t r)) (has_table-end us t (and_second (is_above_name u.name (us ++ t ∷ [])) (rises (us ++ t ∷ [])) r))

pub not_known : (ts : List Table) (t : Table) → rises (ts ++ t ∷ []) ≡ true → has_table ts t.name ≡ true → ⊥
not_known ts t r h = let new = has_table-end ts t r in cc
