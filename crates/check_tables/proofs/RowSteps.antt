-- The rows of plain tables, and single steps of loops over rows.
use Rattle.std.proofs.Common.{◌≡◌, ℕ, ◌+◌, ◌<◌, List, [], ◌∷◌, ◌++◌, Result, Ok, Err, map, get_or, take, length, refl, sym, ap, ◌∙◌}
use Rattle.std.specs.Prelude.{IfOk, OnOk}
use Rattle.std.specs.List.Sorted.{IsStrictlySortedBy}
use Rattle.std.specs.Map.{keys_of}
use Rattle.std.specs.FinMap.{from_entries}
use Rattle.std.proofs.lemmas.List.{map_more}
use Rattle.sdb_types.specs.declared.key.Key.{Key}
use Rattle.sdb_types.specs.declared.pair.Pair.{Pair}
use Rattle.sdb_types.specs.Order.{key_cmp}
use Rattle.sdb_types.proofs.Public.{key_total}
use Rattle.sdb_record.specs.declared.access.Image.{Image}
use Rattle.sdb_ordered.proofs.Public.{in_order}
use Rattle.sdb_model.specs.Exec.{Tables, all_rows, row_of_entry}

-- The rows of the entries of a tree are those of the map that it is seen as.
pub all_of_view : {E : Type 0} (r : Result (List Image) E) (es : List (Key × List Pair)) (m : Tables) → from_entries {R = key_cmp} es ≡ m → IfOk r (λ found. found ≡ map row_of_entry es) → OnOk r (IsStrictlySortedBy key_cmp (keys_of es))
    → IfOk r (λ rows. rows ≡ all_rows m)
all_of_view (Ok rows) es m view is ordered = is ∙ ap (map row_of_entry) (sym (in_order key_total es ordered)) ∙ ap all_rows view
all_of_view (Err e) es m view is ordered = tt

-- one step of a loop that maps
pub map_step : {X Y : Type 0} (f : X → Y) (xs : List X) (i : ℕ) (x : X) (y : Y) (ys : List Y) → i < length xs → x ≡ get_or xs i x → y ≡ f x → ys ≡ map f (take i xs) → ys ++ y ∷ [] ≡ map f (take (i + 1) xs)
map_step f xs i x y ys h is made e = sym (map_more f xs i x h ∙ rw (← is, ← made, ← e) refl)
