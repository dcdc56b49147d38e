-- The wishes that the entries of a tree make.
use Rattle.std.proofs.Common.{◌≡◌, List, map, Result, Ok, Err, IfOk, OnOk, sym, ap, ◌∙◌}
use Rattle.std.specs.List.Sorted.{IsStrictlySortedBy}
use Rattle.std.specs.Map.{keys_of}
use Rattle.std.specs.FinMap.{entries, from_entries}
use Rattle.sdb_validate.specs.Types.{Expected, Key, Wanted}
use Rattle.sdb_types.specs.Order.{key_cmp}
use Rattle.sdb_types.proofs.Public.{key_total}
use Rattle.sdb_ordered.proofs.Public.{in_order}
use Rattle.sdb_phases.specs.Checks.{Wishes, wanted_of}

-- what is listed of a tree is what the map that it is seen as wishes
pub listed_of_view : {E : Type 0} (r : Result (List Wanted) E) (es : List (Key × Expected)) (m : Wishes) → from_entries {R = key_cmp} es ≡ m → IfOk r (λ ws. ws ≡ map wanted_of es) → OnOk r (IsStrictlySortedBy key_cmp (keys_of es)) → IfOk r (λ ws. ws ≡ map wanted_of (entries m))
listed_of_view (Ok ws) es m view is ordered = is ∙ ap (map wanted_of) (sym (in_order key_total es ordered)) ∙ ap (λ n. map wanted_of (entries n)) view
listed_of_view (Err e) es m view is ordered = tt
