-- Writes in groups: they are the same writes, and grouping them again changes nothing.
use Rattle.std.proofs.Common.{◌≡◌, inl, inr, ℕ, ◌+◌, ◌<◌, ◌≤◌, Bool, true, false, cond, List, [], ◌∷◌, ◌++◌, map, length, refl, sym, ap, subst, ◌∙◌, arith, zero, suc, drop, get_or, slice_set, append_assoc, append-nil, length-append}
use Rattle.std.proofs.lemmas.List.{map-append}
use Rattle.std.proofs.lemmas.Option.{slice_get-get_or}
use Rattle.std.specs.Prelude.{◌-◌, ◌&&◌, ◌||◌, OnOk, Result, Ok, Err, Some, not, nat_lt, slice_get, take}
use Rattle.std.specs.List.{AllByRecursion, list_all}
use Rattle.std.specs.List.Sorted.{IsPermutation}
use Rattle.std.specs.Ordering.{is_eq}
use Rattle.std.specs.Cmp.{tied_itself}
use Rattle.std.specs.Cmp.Lexicographic.{slice_cmp, lists_total}
use Rattle.std.specs.FinMap.{slice_cmp-IsAntisymmetric}
use Rattle.std.proofs.lemmas.Bool.Decides.{nat_tests}
use Rattle.std.proofs.lemmas.List.Elements.{All-from_recursion, recursion_from_All}
use Rattle.std.proofs.lemmas.List.Sorted.{All-permutation, IsPermutation-refl, IsPermutation-sym, IsPermutation-trans, IsPermutation-append, IsPermutation-append_comm, length_permutation}
use Rattle.sdb_record.specs.Types.{Key}
use Rattle.sdb_types.specs.Exact.{equal_of}
use Rattle.sdb_types.specs.Order.{table_cmp, value_cmp, same_partition}
use Rattle.sdb_types.specs.ValueLaws.{value_exact, value_total}
use Rattle.sdb_types.proofs.Public.{and_both, and_first, and_second, and_true, by_test, clash, either, none_some, not_true, some_is, table_exact, table_total, take_all}
use Rattle.sdb_record.specs.declared.write.Write.{Write}
use Rattle.sdb_record.specs.Groups.{is_beside, has_group, has_room_for, placed, placed_all, grouped, ungrouped, in_groups, IsGroup, IsLatest}

---- one partition

pub same_parts : (a b : Key) → same_partition a b ≡ true → (a.table ≡ b.table) × (a.partition ≡ b.partition)
same_parts a b h = (
  table_exact a.table b.table (equal_of (table_cmp a.table b.table) (and_first (is_eq (table_cmp a.table b.table)) (is_eq (slice_cmp value_cmp a.partition b.partition)) h)),
  slice_cmp-IsAntisymmetric value_exact a.partition b.partition (equal_of (slice_cmp value_cmp a.partition b.partition) (and_second (is_eq (table_cmp a.table b.table)) (is_eq (slice_cmp value_cmp a.partition b.partition)) h)),
)

pub same_self : (a : Key) → same_partition a a ≡ true
same_self a = and_both (is_eq (table_cmp a.table a.table)) (is_eq (slice_cmp value_cmp a.partition a.partition)) (ap is_eq (tied_itself table_total a.table)) (ap is_eq (tied_itself (lists_total value_total) a.partition))

-- keys of one partition are of the same partitions
same_as : (a b c : Key) → same_partition a b ≡ true → same_partition c a ≡ same_partition c b
same_as a b c h = let p = same_parts a b h in λ i. is_eq (table_cmp c.table (p.0 i)) && is_eq (slice_cmp value_cmp c.partition (p.1 i))

same_from : (a b c : Key) → same_partition a b ≡ true → same_partition a c ≡ same_partition b c
same_from a b c h = let p = same_parts a b h in λ i. is_eq (table_cmp (p.0 i) c.table) && is_eq (slice_cmp value_cmp (p.1 i) c.partition)

same_turned : (a b : Key) → same_partition a b ≡ true → same_partition b a ≡ true
same_turned a b h = sym (same_from a b a h) ∙ same_self a

beside_as : (a b : Key) (g : List Write) → same_partition a b ≡ true → is_beside a g ≡ is_beside b g
beside_as a b [] h = refl
beside_as a b (w ∷ ws) h = same_as a b w.key h

group_as : (a b : Key) (gs : List (List Write)) → same_partition a b ≡ true → has_group a gs ≡ has_group b gs
group_as a b [] h = refl
group_as a b (g ∷ gs) h = λ i. beside_as a b g h i || group_as a b gs h i

---- each group

no_less : (n : ℕ) → nat_lt n 64 ≡ false → n ≤ 64 → n ≡ 64
no_less n h few = grind (arith, nat_tests)

less_is : (n : ℕ) → nat_lt n 64 ≡ true → n + 1 ≤ 64
less_is n h = grind (arith, nat_tests)

all_last : (k : Key) (xs : List Key) (y : Key) → list_all (same_partition k) xs ≡ true → same_partition k y ≡ true → list_all (same_partition k) (xs ++ y ∷ []) ≡ true
all_last k [] y h e = and_both (same_partition k y) true e refl
all_last k (x ∷ xs) y h e = and_both (same_partition k x) _ (and_first (same_partition k x) _ h) (all_last k xs y (and_second (same_partition k x) _ h) e)

joined_group : (g : List Write) (w : Write) → IsGroup g → has_room_for w g ≡ true → IsGroup (g ++ w ∷ [])
joined_group [] w it room = absurd (omega (arith, it.some))
joined_group (x ∷ xs) w it room = record {
  some = omega (arith, length-append (x ∷ xs) (w ∷ []));
  few = omega (arith, length-append (x ∷ xs) (w ∷ []), less_is (length (x ∷ xs)) (and_second (is_beside w.key (x ∷ xs)) (nat_lt (length (x ∷ xs)) 64) room));
  one = ap (list_all (same_partition x.key)) (map-append (λ (v : Write). v.key) xs (w ∷ [])) ∙ all_last x.key (map (λ (v : Write). v.key) xs) w.key it.one (and_first (is_beside w.key (x ∷ xs)) (nat_lt (length (x ∷ xs)) 64) room);
}

new_group : (w : Write) → IsGroup (w ∷ [])
new_group w = record { some = omega arith; few = omega arith; one = refl }

placed_groups : (w : Write) (gs : List (List Write)) → AllByRecursion IsGroup gs → AllByRecursion IsGroup (placed w gs)
placed_groups w [] all = (new_group w, tt)
placed_groups w (g ∷ gs) all = by_test (has_room_for w g && not (has_group w.key gs))
    (λ t. subst (λ (b : Bool). AllByRecursion IsGroup (cond b ((g ++ w ∷ []) ∷ gs) (g ∷ placed w gs))) (sym t) (joined_group g w all.0 (and_first (has_room_for w g) _ t), all.1))
    (λ t. subst (λ (b : Bool). AllByRecursion IsGroup (cond b ((g ++ w ∷ []) ∷ gs) (g ∷ placed w gs))) (sym t) (all.0, placed_groups w gs all.1))

all_groups : (gs : List (List Write)) (ws : List Write) → AllByRecursion IsGroup gs → AllByRecursion IsGroup (placed_all gs ws)
all_groups gs [] all = all
all_groups gs (w ∷ ws) all = all_groups (placed w gs) ws (placed_groups w gs all)

pub each_group : (ws : List Write) → AllByRecursion IsGroup (grouped ws)
each_group ws = all_groups [] ws tt

---- the same writes

placed_same : (w : Write) (gs : List (List Write)) → IsPermutation (ungrouped gs ++ w ∷ []) (ungrouped (placed w gs))
placed_same w [] = IsPermutation-refl (w ∷ [])
placed_same w (g ∷ gs) = by_test (has_room_for w g && not (has_group w.key gs))
    (λ t. subst (λ (b : Bool). IsPermutation ((g ++ ungrouped gs) ++ w ∷ []) (ungrouped (cond b ((g ++ w ∷ []) ∷ gs) (g ∷ placed w gs)))) (sym t)
    (subst (λ (xs : List Write). IsPermutation xs ((g ++ w ∷ []) ++ ungrouped gs)) (sym (append_assoc g (ungrouped gs) (w ∷ [])))
    (subst (λ (ys : List Write). IsPermutation (g ++ (ungrouped gs ++ w ∷ [])) ys) (sym (append_assoc g (w ∷ []) (ungrouped gs)))
    (IsPermutation-append g g (ungrouped gs ++ w ∷ []) (w ∷ ungrouped gs) (IsPermutation-refl g) (IsPermutation-append_comm (ungrouped gs) (w ∷ []))))))
    (λ t. subst (λ (b : Bool). IsPermutation ((g ++ ungrouped gs) ++ w ∷ []) (ungrouped (cond b ((g ++ w ∷ []) ∷ gs) (g ∷ placed w gs)))) (sym t)
    (subst (λ (xs : List Write). IsPermutation xs (g ++ ungrouped (placed w gs))) (sym (append_assoc g (ungrouped gs) (w ∷ [])))
    (IsPermutation-append g g (ungrouped gs ++ w ∷ []) (ungrouped (placed w gs)) (IsPermutation-refl g) (placed_same w gs))))

all_same : (gs : List (List Write)) (ws : List Write) → IsPermutation (ungrouped gs ++ ws) (ungrouped (placed_all gs ws))
all_same gs [] = subst (λ (xs : List Write). IsPermutation xs (ungrouped gs)) (sym (append-nil (ungrouped gs))) (IsPermutation-refl (ungrouped gs))
all_same gs (w ∷ ws) =
    IsPermutation-trans (ungrouped gs ++ w ∷ ws) (ungrouped (placed w gs) ++ ws) (ungrouped (placed_all (placed w gs) ws))
    (subst (λ (xs : List Write). IsPermutation xs (ungrouped (placed w gs) ++ ws)) (append_assoc (ungrouped gs) (w ∷ []) ws)
    (IsPermutation-append (ungrouped gs ++ w ∷ []) (ungrouped (placed w gs)) ws ws (placed_same w gs) (IsPermutation-refl ws)))
    (all_same (placed w gs) ws)

pub same_writes : (ws : List Write) → IsPermutation ws (in_groups ws)
same_writes ws = all_same [] ws

---- groups that are grouped again

-- a later group is of the same partition
shares : List Write → List (List Write) → Bool
shares [] gs = false
shares (w ∷ ws) gs = has_group w.key gs

-- A group with a later one of its partition is full.
abbrev AreFull : List (List Write) → Type 0
AreFull [] = Unit {0}
AreFull (g ∷ gs) = (shares g gs ≡ true → length g ≡ 64) × AreFull gs

shares_more : (g : List Write) (w : Write) (gs : List (List Write)) → is_beside w.key g ≡ true → shares g gs ≡ has_group w.key gs
unfolding shares
shares_more [] w gs h = clash (sym h)
shares_more (x ∷ xs) w gs h = group_as x.key w.key gs h

shares_joined : (g : List Write) (w : Write) (gs : List (List Write)) → is_beside w.key g ≡ true → shares (g ++ w ∷ []) gs ≡ has_group w.key gs
unfolding shares
shares_joined [] w gs h = clash (sym h)
shares_joined (x ∷ xs) w gs h = group_as x.key w.key gs h

-- what has a group once a write is placed had one, or is of the write's partition
group_placed : (k : Key) (w : Write) (gs : List (List Write)) → has_group k (placed w gs) ≡ (has_group k gs || same_partition w.key k)
group_placed k w [] = by (same_partition w.key k)
  where
    by : (b : Bool) → (b || false) ≡ (false || b)
    by true = refl
    by false = refl
group_placed k w (g ∷ gs) = by_test (has_room_for w g && not (has_group w.key gs))
    (λ t. ap (λ (b : Bool). has_group k (cond b ((g ++ w ∷ []) ∷ gs) (g ∷ placed w gs))) t ∙ joined g (and_first (is_beside w.key g) _ (and_first (has_room_for w g) _ t)))
    (λ t. ap (λ (b : Bool). has_group k (cond b ((g ++ w ∷ []) ∷ gs) (g ∷ placed w gs))) t ∙ ap (λ (b : Bool). is_beside k g || b) (group_placed k w gs) ∙ assoc (is_beside k g) (has_group k gs) (same_partition w.key k))
  where
    assoc : (a b c : Bool) → (a || (b || c)) ≡ ((a || b) || c)
    assoc true b c = refl
    assoc false b c = refl

    absorbs : (a b : Bool) → (a || b) ≡ ((a || b) || a)
    absorbs true b = refl
    absorbs false true = refl
    absorbs false false = refl

    joined : (g : List Write) → is_beside w.key g ≡ true → (is_beside k (g ++ w ∷ []) || has_group k gs) ≡ ((is_beside k g || has_group k gs) || same_partition w.key k)
    joined [] h = clash (sym h)
    joined (x ∷ xs) h = absorbs (same_partition x.key k) (has_group k gs) ∙ ap (λ (b : Bool). (same_partition x.key k || has_group k gs) || b) (same_from x.key w.key k h)

not_so : (a b : Bool) → (a && not b) ≡ false → a ≡ true → b ≡ true
not_so a true h e = refl
not_so a false h e = clash (sym e ∙ sym (and_true a) ∙ h)

full_first : (g : List Write) (w : Write) (gs : List (List Write)) → length g ≤ 64 → (has_room_for w g && not (has_group w.key gs)) ≡ false → (shares g gs ≡ true → length g ≡ 64) → shares g (placed w gs) ≡ true → length g ≡ 64
unfolding shares
full_first [] w gs few t full h = clash (sym h)
full_first (x ∷ xs) w gs few t full h = elim (either (has_group x.key gs) (same_partition w.key x.key) (sym (group_placed x.key w gs) ∙ h)) [
  | inl old ↦ full old
  | inr same ↦
      let beside : same_partition x.key w.key ≡ true = same_turned w.key x.key same in
      by_test (nat_lt (length (x ∷ xs)) 64)
      (λ less. full (group_as x.key w.key gs beside ∙ not_so (has_room_for w (x ∷ xs)) (has_group w.key gs) t (and_both (is_beside w.key (x ∷ xs)) (nat_lt (length (x ∷ xs)) 64) beside less)))
      (λ more. no_less (length (x ∷ xs)) more few)
]

placed_shut : (w : Write) (gs : List (List Write)) → AllByRecursion IsGroup gs → AreFull gs → AreFull (placed w gs)
unfolding shares
placed_shut w [] all full = (λ h. clash (sym h), tt)
placed_shut w (g ∷ gs) all full = by_test (has_room_for w g && not (has_group w.key gs))
    (λ t. subst (λ (b : Bool). AreFull (cond b ((g ++ w ∷ []) ∷ gs) (g ∷ placed w gs))) (sym t)
    (λ h. clash (sym h ∙ shares_joined g w gs (and_first (is_beside w.key g) _ (and_first (has_room_for w g) _ t)) ∙ not_true (has_group w.key gs) (and_second (has_room_for w g) _ t)), full.1))
    (λ t. subst (λ (b : Bool). AreFull (cond b ((g ++ w ∷ []) ∷ gs) (g ∷ placed w gs))) (sym t)
    (full_first g w gs all.0.few t full.0, placed_shut w gs all.1 full.1))

all_full : (gs : List (List Write)) (ws : List Write) → AllByRecursion IsGroup gs → AreFull gs → AreFull (placed_all gs ws)
all_full gs [] all full = full
all_full gs (w ∷ ws) all full = all_full (placed w gs) ws (placed_groups w gs all) (placed_shut w gs all full)

-- no group of a partition has room, or a later one is of it
abbrev AreShut : Key → List (List Write) → Type 0
AreShut key [] = Unit {0}
AreShut key (g ∷ gs) = (is_beside key g ≡ true → length g ≡ 64) × AreShut key gs

shut_room : (w : Write) (g : List Write) → (is_beside w.key g ≡ true → length g ≡ 64) → has_room_for w g ≡ false
shut_room w g shut = by_test (is_beside w.key g)
    (λ t. ap (λ (n : ℕ). is_beside w.key g && nat_lt n 64) (shut t) ∙ none (is_beside w.key g))
    (λ t. ap (λ (b : Bool). b && nat_lt (length g) 64) t)
  where
    none : (b : Bool) → (b && false) ≡ false
    none true = refl
    none false = refl

-- a write for which no group has room begins one
begins : (w : Write) (gs : List (List Write)) → AreShut w.key gs → placed w gs ≡ gs ++ (w ∷ []) ∷ []
begins w [] shut = refl
begins w (g ∷ gs) shut =
    ap (λ (b : Bool). cond (b && not (has_group w.key gs)) ((g ++ w ∷ []) ∷ gs) (g ∷ placed w gs)) (shut_room w g shut.0) ∙ ap (λ hs. g ∷ hs) (begins w gs shut.1)

has_last : (k : Key) (hs : List (List Write)) (c : List Write) → is_beside k c ≡ true → has_group k (hs ++ c ∷ []) ≡ true
has_last k [] c h = ap (λ (b : Bool). b || false) h
has_last k (g ∷ gs) c h = ap (λ (b : Bool). is_beside k g || b) (has_last k gs c h) ∙ or_true (is_beside k g)
  where
    or_true : (b : Bool) → (b || true) ≡ true
    or_true true = refl
    or_true false = refl

-- and the next ones of its partition join that
joins_last : (w : Write) (hs : List (List Write)) (c : List Write) → has_room_for w c ≡ true → placed w (hs ++ c ∷ []) ≡ hs ++ (c ++ w ∷ []) ∷ []
joins_last w [] c room = ap (λ (b : Bool). cond (b && true) ((c ++ w ∷ []) ∷ []) (c ∷ (w ∷ []) ∷ [])) room
joins_last w (g ∷ gs) c room =
    ap (λ (b : Bool). cond (has_room_for w g && not b) ((g ++ w ∷ []) ∷ (gs ++ c ∷ [])) (g ∷ placed w (gs ++ c ∷ []))) (has_last w.key gs c (and_first (is_beside w.key c) (nat_lt (length c) 64) room))
    ∙ none (has_room_for w g) ∙ ap (λ hs. g ∷ hs) (joins_last w gs c room)
  where
    none : (b : Bool) → cond (b && false) ((g ++ w ∷ []) ∷ (gs ++ c ∷ [])) (g ∷ placed w (gs ++ c ∷ [])) ≡ g ∷ placed w (gs ++ c ∷ [])
    none true = refl
    none false = refl

below_64 : (n : ℕ) → n < 64 → nat_lt n 64 ≡ true
below_64 n h = grind (arith, nat_tests)

fills : (x : Write) (done ws : List Write) (hs : List (List Write)) → length (x ∷ done) + length ws ≤ 64 → list_all (same_partition x.key) (map (λ (w : Write). w.key) ws) ≡ true
    → placed_all (hs ++ (x ∷ done) ∷ []) ws ≡ hs ++ (x ∷ done ++ ws) ∷ []
fills x done [] hs few one = ap (λ ds. hs ++ (x ∷ ds) ∷ []) (sym (append-nil done))
fills x done (w ∷ ws) hs few one =
    ap (λ gs. placed_all gs ws) (joins_last w hs (x ∷ done) (and_both (same_partition x.key w.key) (nat_lt (length (x ∷ done)) 64) (and_first (same_partition x.key w.key) _ one) (below_64 (length (x ∷ done)) (omega (arith, few)))))
    ∙ fills x (done ++ w ∷ []) ws hs (omega (arith, few, length-append done (w ∷ []))) (and_second (same_partition x.key w.key) _ one)
    ∙ ap (λ ds. hs ++ (x ∷ ds) ∷ []) (append_assoc done (w ∷ []) ws)

-- a group is made again behind groups of its partition that are full
group_again : (g : List Write) (hs : List (List Write)) → IsGroup g → ((w : Write) (ws : List Write) → g ≡ w ∷ ws → AreShut w.key hs) → placed_all hs g ≡ hs ++ g ∷ []
group_again [] hs it shut = absurd (omega (arith, it.some))
group_again (x ∷ xs) hs it shut = ap (λ gs. placed_all gs xs) (begins x hs (shut x xs refl)) ∙ fills x [] xs hs (omega (arith, it.few)) it.one

-- groups before one of their partition are full
shut_before : (w : Write) (ws : List Write) (hs rest : List (List Write)) → AreFull (hs ++ (w ∷ ws) ∷ rest) → AreShut w.key hs
shut_before w ws [] rest full = tt
shut_before w ws (g ∷ gs) rest full = (first g full.0, shut_before w ws gs rest full.1)
  where
    here : (k : Key) (hs : List (List Write)) → is_beside k (w ∷ ws) ≡ true → has_group k (hs ++ (w ∷ ws) ∷ rest) ≡ true
    here k [] h = ap (λ (b : Bool). b || has_group k rest) h
    here k (c ∷ cs) h = ap (λ (b : Bool). is_beside k c || b) (here k cs h) ∙ or_true (is_beside k c)
      where
        or_true : (b : Bool) → (b || true) ≡ true
        or_true true = refl
        or_true false = refl

    first : (g : List Write) → (shares g (gs ++ (w ∷ ws) ∷ rest) ≡ true → length g ≡ 64) → is_beside w.key g ≡ true → length g ≡ 64
    first g full h = full (shares_more g w (gs ++ (w ∷ ws) ∷ rest) h ∙ here w.key gs (same_self w.key))

placed_append : (gs : List (List Write)) (xs ys : List Write) → placed_all gs (xs ++ ys) ≡ placed_all (placed_all gs xs) ys
placed_append gs [] ys = refl
placed_append gs (x ∷ xs) ys = placed_append (placed x gs) xs ys

again : (hs gs : List (List Write)) → AllByRecursion IsGroup gs → AreFull (hs ++ gs) → placed_all hs (ungrouped gs) ≡ hs ++ gs
again hs [] all full = sym (append-nil hs)
again hs (g ∷ gs) all full =
    placed_append hs g (ungrouped gs)
    ∙ ap (λ xs. placed_all xs (ungrouped gs)) (group_again g hs all.0 (λ w ws e. shut_before w ws hs gs (subst (λ (c : List Write). AreFull (hs ++ c ∷ gs)) e full)))
    ∙ again (hs ++ g ∷ []) gs all.1 (subst AreFull (sym (append_assoc hs (g ∷ []) gs)) full)
    ∙ append_assoc hs (g ∷ []) gs

pub grouped_again : (ws : List Write) → grouped (in_groups ws) ≡ grouped ws
grouped_again ws = again [] (grouped ws) (each_group ws) (all_full [] ws tt tt)

---- the latest group of a partition

none_shut : (k : Key) (gs : List (List Write)) → has_group k gs ≡ false → AreShut k gs
none_shut k [] h = tt
none_shut k (g ∷ gs) h = by (is_beside k g) refl h (none_shut k gs)
  where
    by : (b : Bool) → is_beside k g ≡ b → (b || has_group k gs) ≡ false → (has_group k gs ≡ false → AreShut k gs) → AreShut k (g ∷ gs)
    by true e h rest = clash h
    by false e h rest = (λ t. clash (sym t ∙ e), rest h)

pub none_joins : (w : Write) (gs : List (List Write)) → has_group w.key gs ≡ false → placed w gs ≡ gs ++ (w ∷ []) ∷ []
none_joins w gs none = begins w gs (none_shut w.key gs none)

some_beside : (k : Key) (gs : List (List Write)) (i : ℕ) (g : List Write) → i < length gs → g ≡ get_or gs i g → is_beside k g ≡ true → has_group k gs ≡ true
some_beside k [] i g less is h = absurd (omega (arith, less))
some_beside k (x ∷ gs) zero g less is h = ap (λ (b : Bool). b || has_group k gs) (ap (is_beside k) (sym is) ∙ h)
some_beside k (x ∷ gs) (suc i) g less is h = ap (λ (b : Bool). is_beside k x || b) (some_beside k gs i g (omega (arith, less)) is h) ∙ or_true (is_beside k x)
  where
    or_true : (b : Bool) → (b || true) ≡ true
    or_true true = refl
    or_true false = refl

next_place : (i : ℕ) → suc i + 1 ≡ suc (i + 1)
next_place i = omega arith

-- what follows a group behind the first
later_none : (k : Key) (x : List Write) (gs : List (List Write)) (i : ℕ) → has_group k (drop (suc i + 1) (x ∷ gs)) ≡ false → has_group k (drop (i + 1) gs) ≡ false
later_none k x gs i h = subst (λ (n : ℕ). has_group k (drop n (x ∷ gs)) ≡ false) (next_place i) h

-- a later group of the partition has the write
passes : (w : Write) (x : List Write) (gs : List (List Write)) → has_group w.key gs ≡ true → placed w (x ∷ gs) ≡ x ∷ placed w gs
passes w x gs h = ap (λ (b : Bool). cond (has_room_for w x && not b) ((x ++ w ∷ []) ∷ gs) (x ∷ placed w gs)) h ∙ none (has_room_for w x)
  where
    none : (b : Bool) → cond (b && false) ((x ++ w ∷ []) ∷ gs) (x ∷ placed w gs) ≡ x ∷ placed w gs
    none true = refl
    none false = refl

pub joins_latest : (w : Write) (gs : List (List Write)) (i : ℕ) (g : List Write) → i < length gs → g ≡ get_or gs i g → is_beside w.key g ≡ true → has_group w.key (drop (i + 1) gs) ≡ false → length g < 64 → placed w gs ≡ slice_set gs i (g ++ w ∷ [])
joins_latest w [] i g less is own last room = absurd (omega (arith, less))
joins_latest w (x ∷ gs) zero g less is own last room =
    ap (λ (b : Bool). cond (b && not (has_group w.key gs)) ((x ++ w ∷ []) ∷ gs) (x ∷ placed w gs)) (ap (has_room_for w) (sym is) ∙ and_both (is_beside w.key g) (nat_lt (length g) 64) own (below_64 (length g) room))
    ∙ ap (λ (b : Bool). cond (true && not b) ((x ++ w ∷ []) ∷ gs) (x ∷ placed w gs)) last
    ∙ ap (λ (y : List Write). (y ++ w ∷ []) ∷ gs) (sym is)
joins_latest w (x ∷ gs) (suc i) g less is own last room =
    passes w x gs (some_beside w.key gs i g (omega (arith, less)) is own) ∙ ap (λ hs. x ∷ hs) (joins_latest w gs i g (omega (arith, less)) is own (later_none w.key x gs i last) room)

pub full_latest : (w : Write) (gs : List (List Write)) (i : ℕ) (g : List Write) → i < length gs → g ≡ get_or gs i g → is_beside w.key g ≡ true → has_group w.key (drop (i + 1) gs) ≡ false → 64 ≤ length g → placed w gs ≡ gs ++ (w ∷ []) ∷ []
full_latest w [] i g less is own last full = absurd (omega (arith, less))
full_latest w (x ∷ gs) zero g less is own last full =
    ap (λ (b : Bool). cond (b && not (has_group w.key gs)) ((x ++ w ∷ []) ∷ gs) (x ∷ placed w gs)) (ap (has_room_for w) (sym is) ∙ ap (λ (b : Bool). is_beside w.key g && b) (not_below (length g) full) ∙ and_none (is_beside w.key g))
    ∙ ap (λ hs. x ∷ hs) (none_joins w gs last)
  where
    not_below : (n : ℕ) → 64 ≤ n → nat_lt n 64 ≡ false
    not_below n h = grind (arith, nat_tests)

    and_none : (b : Bool) → (b && false) ≡ false
    and_none true = refl
    and_none false = refl
full_latest w (x ∷ gs) (suc i) g less is own last full =
    passes w x gs (some_beside w.key gs i g (omega (arith, less)) is own) ∙ ap (λ hs. x ∷ hs) (full_latest w gs i g (omega (arith, less)) is own (later_none w.key x gs i last) full)

---- the search for the latest group

-- a group before the others
pub group_before : (key : Key) (gs : List (List Write)) (i : ℕ) (d : List Write) → i < length gs → is_beside key (get_or gs i d) ≡ false → has_group key (drop (i + 1) gs) ≡ false → has_group key (drop i gs) ≡ false
group_before key [] i d inside own rest = absurd (omega (arith, inside))
group_before key (g ∷ gs) zero d inside own rest = ap (λ b. b || has_group key gs) own ∙ rest
group_before key (g ∷ gs) (suc i) d inside own rest = group_before key gs i d (omega (arith, inside)) own (later_none key g gs i rest)

---- where a write goes

get_same : {A : Type 0} (xs : List A) (i : ℕ) (a b : A) → i < length xs → get_or xs i a ≡ get_or xs i b
get_same [] i a b inside = absurd (omega (arith, inside))
get_same (x ∷ xs) zero a b inside = refl
get_same (x ∷ xs) (suc i) a b inside = get_same xs i a b (omega (arith, inside))

pub placed_latest : (w : Write) (gs : List (List Write)) (i : ℕ) (g h : List Write) → IsLatest w.key gs i → g ≡ get_or gs i g → h ≡ get_or gs i h → length h < 64 → placed w gs ≡ slice_set gs i (g ++ w ∷ [])
placed_latest w gs i g h it at own few =
    joins_latest w gs i g it.inside at (subst (λ (x : List Write). is_beside w.key x ≡ true) (sym at) (it.own g)) it.last (subst (λ (x : List Write). length x < 64) (own ∙ get_same gs i h g it.inside ∙ sym at) few)

pub placed_fresh : (w : Write) (gs : List (List Write)) (i : ℕ) (g : List Write) → IsLatest w.key gs i → g ≡ get_or gs i g → 64 ≤ length g → placed w gs ≡ gs ++ (w ∷ []) ∷ []
placed_fresh w gs i g it at full = full_latest w gs i g it.inside at (subst (λ (x : List Write). is_beside w.key x ≡ true) (sym at) (it.own g)) it.last full

pub on_ok : {A E : Type 0} (r : Result A E) (P Q : Type 0) → (P → Q) → OnOk r P → OnOk r Q
on_ok (Ok x) P Q f p = f p
on_ok (Err e) P Q f p = tt

---- how many

pub in_groups_length : (ws : List Write) → length (in_groups ws) ≡ length ws
in_groups_length ws = length_permutation ws (in_groups ws) (same_writes ws)

-- no group is empty
fewer : (gs : List (List Write)) → AllByRecursion IsGroup gs → length gs ≤ length (ungrouped gs)
fewer [] all = omega arith
fewer (g ∷ gs) all = omega (arith, fewer gs all.1, all.0.some, length-append g (ungrouped gs))

pub groups_few : (ws : List Write) → length (grouped ws) ≤ length ws
groups_few ws = subst (λ n. length (grouped ws) ≤ n) (in_groups_length ws) (fewer (grouped ws) (each_group ws))

-- one group more
pub taken_more : (gs : List (List Write)) (i : ℕ) (g : List Write) → slice_get gs i ≡ Some g → length (ungrouped (take i gs)) + length g ≡ length (ungrouped (take (i + 1) gs))
taken_more [] i g e = none_some g e
taken_more (x ∷ gs) zero g e = omega (arith, ap length (some_is x g e), length-append x [])
taken_more (x ∷ gs) (suc i) g e =
    subst (λ n. length (x ++ ungrouped (take i gs)) + length g ≡ length (ungrouped (take n (x ∷ gs)))) (sym (next_place i))
    (omega (arith, taken_more gs i g e, length-append x (ungrouped (take i gs)), length-append x (ungrouped (take (i + 1) gs))))

pub taken_within : (gs : List (List Write)) (i : ℕ) → length (ungrouped (take i gs)) ≤ length (ungrouped gs)
taken_within gs zero = omega arith
taken_within [] (suc i) = omega arith
taken_within (x ∷ gs) (suc i) = omega (arith, taken_within gs i, length-append x (ungrouped (take i gs)), length-append x (ungrouped gs))

-- what holds of each write holds of each of a group
all_placed : (P : Write → Type 0) (w : Write) (gs : List (List Write)) → P w → AllByRecursion (AllByRecursion P) gs → AllByRecursion (AllByRecursion P) (placed w gs)
all_placed P w [] h all = ((h, tt), tt)
all_placed P w (g ∷ gs) h all = by_test (has_room_for w g && not (has_group w.key gs))
    (λ t. subst (λ (b : Bool). AllByRecursion (AllByRecursion P) (cond b ((g ++ w ∷ []) ∷ gs) (g ∷ placed w gs))) (sym t) (behind g all.0, all.1))
    (λ t. subst (λ (b : Bool). AllByRecursion (AllByRecursion P) (cond b ((g ++ w ∷ []) ∷ gs) (g ∷ placed w gs))) (sym t) (all.0, all_placed P w gs h all.1))
  where
    behind : (xs : List Write) → AllByRecursion P xs → AllByRecursion P (xs ++ w ∷ [])
    behind [] all = (h, tt)
    behind (x ∷ xs) all = (all.0, behind xs all.1)

all_grouped : (P : Write → Type 0) (gs : List (List Write)) (ws : List Write) → AllByRecursion P ws → AllByRecursion (AllByRecursion P) gs → AllByRecursion (AllByRecursion P) (placed_all gs ws)
all_grouped P gs [] each all = all
all_grouped P gs (w ∷ ws) each all = all_grouped P (placed w gs) ws each.1 (all_placed P w gs each.0 all)

pub grouped_all : (P : Write → Type 0) (ws : List Write) → AllByRecursion P ws → AllByRecursion (AllByRecursion P) (grouped ws)
grouped_all P ws each = all_grouped P [] ws each tt

---- the places of writes

-- what holds at each place holds of all
pub all_at : {A : Type 0} (P : A → Type 0) (xs : List A) → ((i : ℕ) (x : A) → slice_get xs i ≡ Some x → P x) → AllByRecursion P xs
all_at P [] each = tt
all_at P (x ∷ xs) each = (each zero x refl, all_at P xs (λ i y at. each (suc i) y at))

one_at : {A : Type 0} (P : A → Type 0) (xs : List A) (i : ℕ) (x : A) → AllByRecursion P xs → slice_get xs i ≡ Some x → P x
one_at P [] i x all at = none_some x at
one_at P (y ∷ ys) zero x all at = subst P (some_is y x at) all.0
one_at P (y ∷ ys) (suc i) x all at = one_at P ys i x all.1 at

abbrev HasPlace : List Write → Write → Type 0
HasPlace ws w = (i : ℕ) × (slice_get ws i ≡ Some w)

-- a permutation of a list has each of its items
place_after : (xs ys : List Write) (i : ℕ) (w : Write) → IsPermutation xs ys → slice_get ys i ≡ Some w → HasPlace xs w
place_after xs ys i w same at =
    one_at (HasPlace xs) ys i w (recursion_from_All (HasPlace xs) ys (All-permutation (HasPlace xs) xs ys same (All-from_recursion (HasPlace xs) xs (all_at (HasPlace xs) xs (λ j v there. (j, there)))))) at

-- a write of the groups is one of the writes, and the other way round
pub place_of_grouped : (ws : List Write) (i : ℕ) (w : Write) → slice_get (in_groups ws) i ≡ Some w → (j : ℕ) × (slice_get ws j ≡ Some w)
place_of_grouped ws i w at = place_after ws (in_groups ws) i w (same_writes ws) at

pub place_in_groups : (ws : List Write) (i : ℕ) (w : Write) → slice_get ws i ≡ Some w → (j : ℕ) × (slice_get (in_groups ws) j ≡ Some w)
place_in_groups ws i w at = place_after (in_groups ws) ws i w (IsPermutation-sym ws (in_groups ws) (same_writes ws)) at

-- the writes of a group come after those of the groups before it
pub group_place : (gs : List (List Write)) (i k : ℕ) (g : List Write) (w : Write) → slice_get gs i ≡ Some g → slice_get g k ≡ Some w → slice_get (ungrouped gs) (length (ungrouped (take i gs)) + k) ≡ Some w
group_place [] i k g w e at = none_some g e
group_place (x ∷ gs) zero k g w e at = let first : 0 + k ≡ k = omega arith in ap (slice_get (x ++ ungrouped gs)) first ∙ at_front x (ungrouped gs) k w (ap (λ y. slice_get y k) (some_is x g e) ∙ at)
  where
    at_front : (xs ys : List Write) (k : ℕ) (w : Write) → slice_get xs k ≡ Some w → slice_get (xs ++ ys) k ≡ Some w
    at_front [] ys k w at = none_some w at
    at_front (y ∷ xs) ys zero w at = at
    at_front (y ∷ xs) ys (suc k) w at = at_front xs ys k w at
group_place (x ∷ gs) (suc i) k g w e at =
    let n = length (ungrouped (take i gs)) in
    let behind : length (x ++ ungrouped (take i gs)) + k ≡ length x + (n + k) = omega (arith, length-append x (ungrouped (take i gs))) in
    ap (slice_get (x ++ ungrouped gs)) behind ∙ at_back x (ungrouped gs) (n + k) ∙ group_place gs i k g w e at
  where
    at_back : (xs ys : List Write) (k : ℕ) → slice_get (xs ++ ys) (length xs + k) ≡ slice_get ys k
    at_back [] ys k = ap (slice_get ys) (omega arith)
    at_back (y ∷ xs) ys k =
        let one : length (y ∷ xs) + k ≡ suc (length xs + k) = omega arith in
        ap (slice_get (y ∷ xs ++ ys)) one ∙ at_back xs ys k

-- and no others come before the next group
pub place_in_group : (gs : List (List Write)) (i j : ℕ) (g : List Write) (w : Write) → slice_get gs i ≡ Some g → length (ungrouped (take i gs)) ≤ j → j < length (ungrouped (take (i + 1) gs)) → slice_get (ungrouped gs) j ≡ Some w → (k : ℕ) × (slice_get g k ≡ Some w)
place_in_group gs i j g w e from below at =
    let n = length (ungrouped (take i gs)) in
    let k = j - n in
    let inside : k < length g = omega (arith, from, below, taken_more gs i g e) in
    let there : n + k ≡ j = omega (arith, from) in
    let v = get_or g k w in
    let own = slice_get-get_or g k w inside in
    (k, own ∙ sym (group_place gs i k g v e own) ∙ ap (slice_get (ungrouped gs)) there ∙ at)

-- all of them
pub taken_all : (gs : List (List Write)) (i : ℕ) → length gs ≤ i → length (ungrouped (take i gs)) ≡ length (ungrouped gs)
taken_all gs i all = ap (λ hs. length (ungrouped hs)) (take_all gs i all)
