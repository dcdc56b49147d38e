-- Writes whose keys differ are groups as a COMMIT takes them.
use Rattle.std.proofs.Common.{◌≡◌, ◌∙◌, ◌<◌, ◌^◌, Bool, true, false, not, List, [], ◌∷◌, length, length-append, Some, refl, sym, ap, subst, arith}
use Rattle.std.specs.Prelude.{◌||◌, All, nat_lt, if◌then◌else◌, is_some}
use Rattle.std.specs.List.{AllByRecursion}
use Rattle.std.proofs.lemmas.Bool.{lt-ltb}
use Rattle.std.proofs.lemmas.List.Elements.{All-from_recursion, recursion_from_All}
use Rattle.sdb_txn.specs.Types.{Key}
use Rattle.sdb_types.specs.Order.{are_distinct, has_key, same_key}
use Rattle.sdb_types.proofs.Public.{and_both}
use Rattle.sdb_record.specs.declared.write.Write.{Write}
use Rattle.sdb_record.specs.Among.{is_written, write_among}
use Rattle.sdb_record.specs.Groups.{AreGroups, IsGroup, grouped, keys_of_writes, ungrouped}
use Rattle.sdb_record.specs.Rolls.{IsWrite}
use Rattle.sdb_record.proofs.Public.{are_groups, each_group, grouped_all, in_groups_length}
use Rattle.sdb_snapshot.specs.Written.{HaveKeysOnce}

has_written : (ws : List Write) (key : Key) → has_key (keys_of_writes ws) key ≡ is_written ws key
has_written [] key = refl
has_written (w ∷ ws) key = ap (λ b. b || same_key key w.key) (has_written ws key) ∙ by (same_key key w.key) (is_written ws key) refl
  where
    by : (b c : Bool) → is_some (write_among ws key) ≡ c → (c || b) ≡ is_some (if b then Some w else write_among ws key)
    by true true e = refl
    by true false e = refl
    by false true e = sym e
    by false false e = sym e

pub keys_differ : (ws : List Write) → HaveKeysOnce ws → are_distinct (keys_of_writes ws) ≡ true
keys_differ [] once = refl
keys_differ (w ∷ ws) once = and_both (not (has_key (keys_of_writes ws) w.key)) (are_distinct (keys_of_writes ws)) (ap not (has_written ws w.key ∙ once.0)) (keys_differ ws once.1)

pub groups_of_once : (ws : List Write) → HaveKeysOnce ws → length ws < 2 ^ 64 → AreGroups (grouped ws)
groups_of_once ws once few = are_groups ws (keys_differ ws once) few

---- what holds of each write

pub writes_grouped : (ws : List Write) → All IsWrite ws → All (All IsWrite) (grouped ws)
writes_grouped ws all = All-from_recursion (All IsWrite) (grouped ws) (each (grouped ws) (grouped_all IsWrite ws (recursion_from_All IsWrite ws all)))
  where
    each : (gs : List (List Write)) → AllByRecursion (AllByRecursion IsWrite) gs → AllByRecursion (All IsWrite) gs
    each [] all = tt
    each (g ∷ gs) all = (All-from_recursion IsWrite g all.0, each gs all.1)

pub groups_fit : (ws : List Write) → length ws < 2 ^ 64 → length (ungrouped (grouped ws)) < 2 ^ 64
groups_fit ws few = subst (λ n. n < 2 ^ 64) (sym (in_groups_length ws)) few

-- there are groups exactly where there are writes
pub some_groups : (ws : List Write) → nat_lt 0 (length ws) ≡ nat_lt 0 (length (grouped ws))
some_groups ws = by (grouped ws) (in_groups_length ws) (each_group ws)
  where
    by : (gs : List (List Write)) → length (ungrouped gs) ≡ length ws → AllByRecursion IsGroup gs → nat_lt 0 (length ws) ≡ nat_lt 0 (length gs)
    by [] e all = ap (nat_lt 0) (sym e)
    by (g ∷ gs) e all = lt-ltb 0 (length ws) (omega (arith, e, all.0.some, length-append g (ungrouped gs))) ∙ sym (lt-ltb 0 (length (g ∷ gs)) (omega arith))
