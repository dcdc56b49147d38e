-- Writes whose partitions rise: each is a group of its own.
use Rattle.std.proofs.Common.{◌≡◌, ◌∙◌, ◌+◌, ◌<◌, ℕ, Bool, true, false, List, [], ◌∷◌, ◌++◌, map, length, get_or, drop, append_assoc, append-nil, Option, Some, None, refl, sym, ap}
use Rattle.std.specs.Prelude.{◌&&◌, IfOk, Result, Ok, Err}
use Rattle.std.specs.Cmp.{IsTotalOrder, then_total, on_total}
use Rattle.std.specs.Cmp.Lexicographic.{slice_cmp, lists_total}
use Rattle.std.specs.declared.cmp.Ordering.{Ordering}
use Rattle.std.specs.declared.cmp.Ordering.TheVariants.{Less, Equal, Greater}
use Rattle.std.specs.Ordering.{is_eq, is_lt, ordering_then}
use Rattle.sdb_record.specs.Types.{Key}
use Rattle.sdb_types.specs.Order.{table_cmp, value_cmp}
use Rattle.sdb_types.specs.ValueLaws.{value_total}
use Rattle.sdb_types.proofs.Public.{and_first, and_second, clash, drop_next, less_of, table_total}
use Rattle.sdb_record.specs.declared.write.Write.{Write}
use Rattle.sdb_record.specs.Groups.{has_group, is_past, rise_from, partition_cmp, placed_all, grouped}
use Rattle.sdb_record.proofs.Grouping.{none_joins}
use Rattle.sdb_record.proofs.Latest.{has_more}

---- through the writes

pub rise_next : (last : Option Key) (ws : List Write) (i : ℕ) (w : Write) (b : Bool) → i < length ws → w ≡ get_or ws i w → is_past last w.key ≡ b → rise_from last (drop i ws) ≡ (b && rise_from (Some w.key) (drop (i + 1) ws))
rise_next last ws i w b h at past = ap (rise_from last) (drop_next ws i w h at) ∙ ap (λ t. t && rise_from (Some w.key) (drop (i + 1) ws)) past

---- a partition past another is another

partitions_total : IsTotalOrder partition_cmp
partitions_total = then_total (on_total (λ (k : Key). k.table) table_total) (on_total (λ (k : Key). k.partition) (lists_total value_total))

other_parts : (t p : Ordering) → is_lt (ordering_then t p) ≡ true → (is_eq t && is_eq p) ≡ false
other_parts Less p h = refl
other_parts Equal Less h = refl
other_parts Equal Equal h = clash (sym h)
other_parts Equal Greater h = refl
other_parts Greater p h = refl

past_trans : (last : Option Key) (k q : Key) → is_past last k ≡ true → is_past (Some k) q ≡ true → is_past last q ≡ true
past_trans None k q h e = refl
past_trans (Some l) k q h e = ap is_lt (partitions_total.trans l k q (less_of (partition_cmp l k) h) (less_of (partition_cmp k q) e))

---- the groups

-- no group is of a partition past the last one
abbrev NonePast : Option Key → List (List Write) → Type 0
NonePast last gs = (q : Key) → is_past last q ≡ true → has_group q gs ≡ false

one_more : (last : Option Key) (gs : List (List Write)) (w : Write) → is_past last w.key ≡ true → NonePast last gs → NonePast (Some w.key) (gs ++ (w ∷ []) ∷ [])
one_more last gs w h none q e = has_more q gs (w ∷ []) (other_parts (table_cmp w.key.table q.table) (slice_cmp value_cmp w.key.partition q.partition) e) (none q (past_trans last w.key q h e))

all_apart : (last : Option Key) (gs : List (List Write)) (ws : List Write) → rise_from last ws ≡ true → NonePast last gs → placed_all gs ws ≡ gs ++ map (λ w. w ∷ []) ws
all_apart last gs [] h none = sym (append-nil gs)
all_apart last gs (w ∷ ws) h none =
    let past : is_past last w.key ≡ true = and_first (is_past last w.key) (rise_from (Some w.key) ws) h in
    ap (λ hs. placed_all hs ws) (none_joins w gs (none w.key past))
    ∙ all_apart (Some w.key) (gs ++ (w ∷ []) ∷ []) ws (and_second (is_past last w.key) (rise_from (Some w.key) ws) h) (one_more last gs w past none)
    ∙ append_assoc gs ((w ∷ []) ∷ []) (map (λ w. w ∷ []) ws)

apart_grouped : (ws : List Write) → rise_from None ws ≡ true → map (λ w. w ∷ []) ws ≡ grouped ws
apart_grouped ws h = sym (all_apart None [] ws h (λ q e. refl))

pub apart_ok : {E : Type 0} (r : Result (List (List Write)) E) (ws : List Write) → rise_from None ws ≡ true → IfOk r (λ gs. gs ≡ map (λ w. w ∷ []) ws) → IfOk r (λ gs. gs ≡ grouped ws)
apart_ok (Ok gs) ws h e = e ∙ apart_grouped ws h
apart_ok (Err x) ws h e = tt
