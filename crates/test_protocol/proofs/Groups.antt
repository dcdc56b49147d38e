-- Writes in groups.
use Rattle.std.proofs.Common.{◌≡◌, ℕ, ◌<◌, ◌≤◌, ◌^◌, cond, false, List, [], ◌∷◌, length, map, refl, sym, ap, subst, ◌∙◌, Some, None}
use Rattle.std.specs.Prelude.{All, is_some}
use Rattle.std.specs.List.{AllByRecursion}
use Rattle.std.proofs.lemmas.List.{length-map}
use Rattle.std.proofs.lemmas.List.Elements.{All-from_recursion, recursion_from_All}
use Rattle.sdb_types.specs.declared.txid.TxId.{TxId}
use Rattle.sdb_record.specs.declared.write.Write.{Write}
use Rattle.sdb_record.specs.Groups.{grouped, ungrouped}
use Rattle.sdb_record.specs.Rolls.{IsWrite}
use Rattle.sdb_record.proofs.Public.{grouped_all, in_groups_length}
use Rattle.sdb_phases.specs.Work.{back_of}
use Rattle.sdb_snapshot.specs.Written.{HaveKeysOnce}
use Rattle.sdb_types.specs.Order.{same_key}

pub writes_grouped : (ws : List Write) → All IsWrite ws → All (All IsWrite) (grouped ws)
writes_grouped ws all = All-from_recursion (All IsWrite) (grouped ws) (each (grouped ws) (grouped_all IsWrite ws (recursion_from_All IsWrite ws all)))
  where
    each : (gs : List (List Write)) → AllByRecursion (AllByRecursion IsWrite) gs → AllByRecursion (All IsWrite) gs
    each [] all = tt
    each (g ∷ gs) all = (All-from_recursion IsWrite g all.0, each gs all.1)

pub groups_fit : (ws : List Write) → length ws < 2 ^ 64 → length (ungrouped (grouped ws)) < 2 ^ 64
groups_fit ws few = subst (λ n. n < 2 ^ 64) (sym (in_groups_length ws)) few

pub within_groups : (ws : List Write) (id : TxId) (t : ℕ) → t ≤ length ws → t ≤ length (map (back_of id) (ungrouped (grouped ws)))
within_groups ws id t few = subst (λ n. t ≤ n) (sym (length-map (ungrouped (grouped ws)) (back_of id) ∙ in_groups_length ws)) few

pub two_once : (v w : Write) → same_key v.key w.key ≡ false → HaveKeysOnce (v ∷ w ∷ [])
two_once v w apart = (ap (λ b. is_some (cond b (Some w) None)) apart, (refl, tt))
