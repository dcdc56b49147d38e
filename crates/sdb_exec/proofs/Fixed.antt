-- Values found so far, and the rest.
use Rattle.std.proofs.Common.{◌≡◌, List, [], ◌∷◌, ◌++◌, Option, Some, None, refl, ap, sym, append_assoc}
use Rattle.sdb_types.specs.declared.value.Value.{Value}
use Rattle.sdb_model.specs.Reads.{joined}

abbrev pub after_values : List Value → Option (List Value) → Option (List Value)
after_values vs None = None
after_values vs (Some ws) = Some (vs ++ ws)

pub one_more : (vs : List Value) (v : Value) (ws : Option (List Value)) → after_values vs (joined (Some v) ws) ≡ after_values (vs ++ v ∷ []) ws
one_more vs v None = refl
one_more vs v (Some ws) = ap (λ xs. Some xs) (sym (append_assoc vs (v ∷ []) ws))
