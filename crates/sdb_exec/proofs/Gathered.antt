-- The mentions of an insert, gathered one after the other.
use Rattle.std.proofs.Common.{◌≡◌, suc, List, [], ◌∷◌, ◌++◌, Some, refl, sym, ap, ◌∙◌, append_assoc, length}
use Rattle.std.proofs.lemmas.List.{append-nil}
use Rattle.sdb_exec.specs.Types.{Mention, Value}
use Rattle.sdb_model.specs.Rows.{Name}
use Rattle.sdb_model.specs.Refused.{listed, mention_of_name}

abbrev pub with_literal : Name → Value → Mention
with_literal n v = record { name = n; literal = Some v }

abbrev pub gathered : List Mention → List Name → List Value → List Mention
gathered ms [] vs = ms
gathered ms (n ∷ ns) [] = gathered (ms ++ mention_of_name n ∷ []) ns []
gathered ms (n ∷ ns) (v ∷ vs) = gathered (ms ++ with_literal n v ∷ []) ns vs

pub gathered-is : (ms : List Mention) (ns : List Name) (vs : List Value) → gathered ms ns vs ≡ ms ++ listed ns vs
gathered-is ms [] vs = sym (append-nil ms)
gathered-is ms (n ∷ ns) [] = gathered-is (ms ++ mention_of_name n ∷ []) ns [] ∙ append_assoc ms (mention_of_name n ∷ []) (listed ns [])
gathered-is ms (n ∷ ns) (v ∷ vs) = gathered-is (ms ++ with_literal n v ∷ []) ns vs ∙ append_assoc ms (with_literal n v ∷ []) (listed ns vs)

pub listed-length : (ns : List Name) (vs : List Value) → length (listed ns vs) ≡ length ns
listed-length [] vs = refl
listed-length (n ∷ ns) [] = ap suc (listed-length ns [])
listed-length (n ∷ ns) (v ∷ vs) = ap suc (listed-length ns vs)
