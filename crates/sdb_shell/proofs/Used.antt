-- A byte of those that were read is used.
use Rattle.std.proofs.Common.{◌≡◌, ◌<◌, ◌≤◌, ℕ, ◌+◌, List, [], ◌∷◌, ◌++◌, length, take, drop, get_or, Option, Some, None, refl, ap, ◌∙◌, arith}
use Rattle.std.specs.Prelude.{option_map}
use Rattle.std.proofs.lemmas.List.{drop_more, get_or-take, length-take}
use Rattle.sdb_types.specs.Bytes.{Takes}

pub byte_taken : (piece : List ℕ) (at end : ℕ) (rem : Option (List ℕ)) → at < end → end ≤ length piece → Takes (get_or piece at 0 ∷ []) (option_map (λ r. drop at (take end piece) ++ r) rem) (option_map (λ r. drop (at + 1) (take end piece) ++ r) rem)
byte_taken piece at end None low fits = refl
byte_taken piece at end (Some r) low fits =
    let long : length (take end piece) ≡ end = omega (arith, length-take end piece) in
    ap (λ xs. Some (xs ++ r)) (drop_more (take end piece) at 0 (omega (arith, long)) ∙ ap (λ b. b ∷ drop (at + 1) (take end piece)) (get_or-take end piece at 0 low))
