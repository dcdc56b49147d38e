-- The columns of a record: pairs in the order of their names, each name once, and none with Null.
use Rattle.std.specs.Prelude.{ℕ, suc, Bool, true, false, not, ◌&&◌, if◌then◌else◌, ◌-◌, List, [], ◌∷◌, Option, Some, None, find, length, slice_get}
use Rattle.std.specs.Option.{option_map, option_map_or}
use Rattle.std.specs.declared.cmp.Ordering.{Ordering}
use Rattle.std.specs.declared.cmp.Ordering.TheVariants.{Less, Equal, Greater}
use Rattle.std.specs.Ordering.{is_lt, is_eq}
use Rattle.sdb_types.specs.declared.value.Value.{Value}
use Rattle.sdb_types.specs.declared.value.Value.TheVariants as value
use Rattle.sdb_types.specs.declared.pair.Pair.{Pair}
use Rattle.sdb_types.specs.Order.{name_cmp}

abbrev pub is_null : Value → Bool
is_null value.Null = true
is_null (value.Bool b) = false
is_null (value.Int n) = false
is_null (value.BigInt n) = false
is_null (value.Text text) = false
is_null (value.Blob bytes) = false

abbrev pub starts_above : List ℕ → List Pair → Bool
starts_above name [] = true
starts_above name (p ∷ ps) = is_lt (name_cmp name p.name)

-- names that rise strictly, and no Null
abbrev pub are_columns : List Pair → Bool
are_columns [] = true
are_columns (p ∷ ps) = not (is_null p.value) && (starts_above p.name ps && are_columns ps)

abbrev pub is_named : List ℕ → Pair → Bool
is_named name p = is_eq (name_cmp p.name name)

abbrev pub is_below : List ℕ → Pair → Bool
is_below name p = is_lt (name_cmp p.name name)

-- the value of a column, or none where it is NULL
abbrev pub column : List Pair → List ℕ → Option Value
column ps name = option_map (λ p. p.value) (find (is_named name) ps)

abbrev pub choose_by : {X : Type 0} → Ordering → X → X → X → X
choose_by Less a b c = a
choose_by Equal a b c = b
choose_by Greater a b c = c

abbrev pub put_pair : Pair → List Pair → List Pair
put_pair p [] = p ∷ []
put_pair p (e ∷ es) = choose_by (name_cmp e.name p.name) (e ∷ put_pair p es) (p ∷ es) (p ∷ e ∷ es)

abbrev pub take_out : List ℕ → List Pair → List Pair
take_out name [] = []
take_out name (e ∷ es) = choose_by (name_cmp e.name name) (e ∷ take_out name es) es (e ∷ es)

-- the columns with this one set; NULL takes it out
abbrev pub with_column : Pair → List Pair → List Pair
with_column p ps = if is_null p.value then take_out p.name ps else put_pair p ps

-- how many columns have a smaller name
abbrev pub place_in : List ℕ → List Pair → ℕ
place_in name [] = 0
place_in name (e ∷ es) = choose_by (name_cmp e.name name) (suc (place_in name es)) 0 0

abbrev pub is_first_name : List ℕ → List Pair → Bool
is_first_name name [] = false
is_first_name name (e ∷ es) = is_named name e

-- the value of the first column, where that has the name
abbrev pub first_value : List ℕ → List Pair → Option Value
first_value name [] = None
first_value name (e ∷ es) = if is_named name e then Some e.value else None

-- whether the last column has a smaller name
abbrev pub ends_below : List ℕ → List Pair → Bool
ends_below name ps = option_map_or (is_below name) (slice_get ps (length ps - 1)) false
