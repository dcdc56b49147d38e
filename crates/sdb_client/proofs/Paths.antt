-- Paths of an execution, one after the other.
use Rattle.std.proofs.Common.{◌≡◌, List, [], ◌∷◌, ◌++◌, refl, sym, subst}
use Rattle.std.proofs.lemmas.List.{append-nil, append_assoc}
use Rattle.sdb_client.specs.Types.{Event, Script}
use Rattle.sdb_client.specs.Execution.{IsPath, IsReachedBy, IsStepFrom, State}

pub paths_on : (script : Script) (past es more : List Event) (s t u : State) → IsPath script past s es t → IsPath script (past ++ es) t more u → IsPath script past s (es ++ more) u
paths_on script past [] more s t u h k = subst (λ (x : State). IsPath script past x more u) h (subst (λ (xs : List Event). IsPath script xs t more u) (append-nil past) k)
paths_on script past (e ∷ es) more s t u h k = (h.0, h.1, paths_on script (past ++ e ∷ []) es more h.0 t u h.2 (subst (λ (xs : List Event). IsPath script xs t more u) (sym (append_assoc past (e ∷ []) es)) k))

-- one event more
pub reached_on : (script : Script) (es more : List Event) (e : Event) (s t : State) → IsReachedBy script es s → IsStepFrom script es s e t → more ≡ es ++ e ∷ [] → IsReachedBy script more t
reached_on script es more e s t h step is = subst (λ (xs : List Event). IsReachedBy script xs t) (sym is) (record {
  first = h.first;
  initial = h.initial;
  path = paths_on script [] es (e ∷ []) h.first s t h.path (t, step, refl);
})
