-- Where the latest group of each partition is, as writes join groups and begin them.
use Rattle.std.proofs.Common.{◌≡◌, ◌∙◌, ◌+◌, ◌<◌, ℕ, zero, suc, arith, Bool, true, false, cond, List, [], ◌∷◌, ◌++◌, length, length-append, get_or, slice_set, drop, Option, Some, None, refl, sym, ap, subst}
use Rattle.std.specs.Prelude.{◌||◌, slice_index_or}
use Rattle.std.specs.Ordering.{is_eq}
use Rattle.sdb_record.specs.Types.{Key}
use Rattle.sdb_types.specs.Order.{key_cmp, same_key, same_partition}
use Rattle.sdb_types.proofs.Public.{by_test, clash, same_key_exact, same_key_is, same_key_self}
use Rattle.sdb_record.specs.declared.write.Write.{Write}
use Rattle.sdb_record.specs.Groups.{HaveLatest, IsLatest, LatestIs, has_group, is_beside, partition_of}
use Rattle.sdb_record.proofs.Grouping.{same_parts, same_self}

---- partitions

one_partition : (a b : Key) → same_partition a b ≡ true → partition_of a ≡ partition_of b
one_partition a b h = let p = same_parts a b h in λ i. record { table = p.0 i; partition = p.1 i; clustering = [] }

of_partition : (a b : Key) → partition_of a ≡ partition_of b → same_partition a b ≡ true
of_partition a b h = ap (λ k. same_partition a k) (sym h) ∙ same_self a

---- groups that are of the same partitions

abbrev AreAlike : Key → List (List Write) → List (List Write) → Type 0
AreAlike q [] [] = Unit {0}
AreAlike q (g ∷ gs) (h ∷ hs) = (is_beside q g ≡ is_beside q h) × AreAlike q gs hs
AreAlike q gs hs = ⊥

itself : (q : Key) (gs : List (List Write)) → AreAlike q gs gs
itself q [] = tt
itself q (g ∷ gs) = (refl, itself q gs)

has_alike : (q : Key) (gs hs : List (List Write)) → AreAlike q gs hs → has_group q gs ≡ has_group q hs
has_alike q [] [] h = refl
has_alike q (g ∷ gs) (x ∷ hs) h = λ i. h.0 i || has_alike q gs hs h.1 i
has_alike q [] (x ∷ hs) h = absurd h
has_alike q (g ∷ gs) [] h = absurd h

length_alike : (q : Key) (gs hs : List (List Write)) → AreAlike q gs hs → length gs ≡ length hs
length_alike q [] [] h = refl
length_alike q (g ∷ gs) (x ∷ hs) h = ap suc (length_alike q gs hs h.1)
length_alike q [] (x ∷ hs) h = absurd h
length_alike q (g ∷ gs) [] h = absurd h

drop_alike : (q : Key) (gs hs : List (List Write)) (i : ℕ) → AreAlike q gs hs → AreAlike q (drop i gs) (drop i hs)
drop_alike q gs hs zero h = h
drop_alike q [] [] (suc i) h = tt
drop_alike q (g ∷ gs) (x ∷ hs) (suc i) h = drop_alike q gs hs i h.1
drop_alike q [] (x ∷ hs) (suc i) h = absurd h
drop_alike q (g ∷ gs) [] (suc i) h = absurd h

own_alike : (q : Key) (gs hs : List (List Write)) (i : ℕ) (d : List Write) → AreAlike q gs hs → is_beside q (slice_index_or gs i d) ≡ is_beside q (slice_index_or hs i d)
own_alike q [] [] i d h = refl
own_alike q (g ∷ gs) (x ∷ hs) zero d h = h.0
own_alike q (g ∷ gs) (x ∷ hs) (suc i) d h = own_alike q gs hs i d h.1
own_alike q [] (x ∷ hs) i d h = absurd h
own_alike q (g ∷ gs) [] i d h = absurd h

latest_alike : (q : Key) (gs hs : List (List Write)) (o : Option ℕ) → AreAlike q gs hs → LatestIs q gs o → LatestIs q hs o
latest_alike q gs hs None same h = sym (has_alike q gs hs same) ∙ h
latest_alike q gs hs (Some i) same h = record {
  inside = subst (λ n. i < n) (length_alike q gs hs same) h.inside;
  own = λ d. sym (own_alike q gs hs i d same) ∙ h.own d;
  last = sym (has_alike q (drop (i + 1) gs) (drop (i + 1) hs) (drop_alike q gs hs (i + 1) same)) ∙ h.last;
}

---- a write joins a group

beside_more : (q k : Key) (g : List Write) (w : Write) → is_beside k g ≡ true → is_beside q g ≡ is_beside q (g ++ w ∷ [])
beside_more q k [] w h = clash (sym h)
beside_more q k (x ∷ g) w h = refl

set_alike : (q k : Key) (gs : List (List Write)) (i : ℕ) (g : List Write) (w : Write) → i < length gs → g ≡ get_or gs i g → is_beside k g ≡ true → AreAlike q gs (slice_set gs i (g ++ w ∷ []))
set_alike q k [] i g w inside at own = absurd (omega (arith, inside))
set_alike q k (x ∷ gs) zero g w inside at own = (ap (is_beside q) (sym at) ∙ beside_more q k g w own, itself q gs)
set_alike q k (x ∷ gs) (suc i) g w inside at own = (refl, set_alike q k gs i g w (omega (arith, inside)) at own)

pub latest_joined : (at : Key → Option ℕ) (gs : List (List Write)) (i : ℕ) (g : List Write) (w : Write) → IsLatest w.key gs i → g ≡ get_or gs i g → HaveLatest at gs → HaveLatest at (slice_set gs i (g ++ w ∷ []))
latest_joined at gs i g w it is have q =
    latest_alike q gs (slice_set gs i (g ++ w ∷ [])) (at (partition_of q)) (set_alike q w.key gs i g w it.inside is (subst (λ (x : List Write). is_beside w.key x ≡ true) (sym is) (it.own g))) (have q)

---- a write begins a group

pub has_more : (q : Key) (gs : List (List Write)) (g : List Write) → is_beside q g ≡ false → has_group q gs ≡ false → has_group q (gs ++ g ∷ []) ≡ false
has_more q [] g other none = ap (λ b. b || false) other
has_more q (x ∷ gs) g other none = by (is_beside q x) none (has_more q gs g other)
  where
    by : (b : Bool) → (b || has_group q gs) ≡ false → (has_group q gs ≡ false → has_group q (gs ++ g ∷ []) ≡ false) → (b || has_group q (gs ++ g ∷ [])) ≡ false
    by true h rest = clash h
    by false h rest = rest h

drop_more : (gs : List (List Write)) (g : List Write) (i : ℕ) → i < length gs → drop (i + 1) (gs ++ g ∷ []) ≡ drop (i + 1) gs ++ g ∷ []
drop_more [] g i inside = absurd (omega (arith, inside))
drop_more (x ∷ gs) g zero inside = refl
drop_more (x ∷ gs) g (suc i) inside = subst (λ n. drop n (x ∷ (gs ++ g ∷ [])) ≡ drop n (x ∷ gs) ++ g ∷ []) (sym (next i)) (drop_more gs g i (omega (arith, inside)))
  where
    next : (n : ℕ) → suc n + 1 ≡ suc (n + 1)
    next n = omega arith

own_more : (gs : List (List Write)) (g d : List Write) (i : ℕ) → i < length gs → slice_index_or (gs ++ g ∷ []) i d ≡ slice_index_or gs i d
own_more [] g d i inside = absurd (omega (arith, inside))
own_more (x ∷ gs) g d zero inside = refl
own_more (x ∷ gs) g d (suc i) inside = own_more gs g d i (omega (arith, inside))

own_last : (gs : List (List Write)) (g d : List Write) → slice_index_or (gs ++ g ∷ []) (length gs) d ≡ g
own_last [] g d = refl
own_last (x ∷ gs) g d = own_last gs g d

drop_last : (gs : List (List Write)) (g : List Write) → drop (length gs + 1) (gs ++ g ∷ []) ≡ []
drop_last [] g = refl
drop_last (x ∷ gs) g = subst (λ n. drop n (x ∷ (gs ++ g ∷ [])) ≡ []) (sym (next (length gs))) (drop_last gs g)
  where
    next : (n : ℕ) → suc n + 1 ≡ suc (n + 1)
    next n = omega arith

latest_other : (q : Key) (gs : List (List Write)) (w : Write) (o : Option ℕ) → same_partition w.key q ≡ false → LatestIs q gs o → LatestIs q (gs ++ (w ∷ []) ∷ []) o
latest_other q gs w None other h = has_more q gs (w ∷ []) other h
latest_other q gs w (Some i) other h = record {
  inside = omega (arith, h.inside, length-append gs ((w ∷ []) ∷ []));
  own = λ d. ap (is_beside q) (own_more gs (w ∷ []) d i h.inside) ∙ h.own d;
  last = ap (has_group q) (drop_more gs (w ∷ []) i h.inside) ∙ has_more q (drop (i + 1) gs) (w ∷ []) other h.last;
}

latest_own : (q : Key) (gs : List (List Write)) (w : Write) → same_partition w.key q ≡ true → IsLatest q (gs ++ (w ∷ []) ∷ []) (length gs)
latest_own q gs w own = record {
  inside = omega (arith, length-append gs ((w ∷ []) ∷ []));
  own = λ d. ap (is_beside q) (own_last gs (w ∷ []) d) ∙ own;
  last = ap (has_group q) (drop_last gs (w ∷ []));
}

pub latest_begun : (at new : Key → Option ℕ) (gs : List (List Write)) (n : ℕ) (w : Write) (own : Key) → n ≡ length gs → own ≡ partition_of w.key → ((p : Key) → new p ≡ cond (is_eq (key_cmp own p)) (Some n) (at p)) → HaveLatest at gs
    → HaveLatest new (gs ++ (w ∷ []) ∷ [])
latest_begun at new gs n w own long is put have q = by_test (same_partition w.key q) (λ t. subst (LatestIs q more) (sym (put_at true (mine t))) (latest_own q gs w t)) (λ t. subst (LatestIs q more) (sym (put_at false (apart (same_key (partition_of w.key) (partition_of q)) refl t))) (latest_other q gs w (at (partition_of q)) t (have q)))
  where
    more : List (List Write)
    more = gs ++ (w ∷ []) ∷ []

    put_at : (b : Bool) → same_key (partition_of w.key) (partition_of q) ≡ b → new (partition_of q) ≡ cond b (Some (length gs)) (at (partition_of q))
    put_at b e =
        put (partition_of q) ∙ ap (λ t. cond t (Some n) (at (partition_of q))) (sym (same_key_is own (partition_of q)) ∙ ap (λ k. same_key k (partition_of q)) is ∙ e)
        ∙ ap (λ m. cond b (Some m) (at (partition_of q))) long

    mine : same_partition w.key q ≡ true → same_key (partition_of w.key) (partition_of q) ≡ true
    mine t = subst (λ (p : Key). same_key (partition_of w.key) p ≡ true) (one_partition w.key q t) (same_key_self (partition_of w.key))

    apart : (b : Bool) → same_key (partition_of w.key) (partition_of q) ≡ b → same_partition w.key q ≡ false → same_key (partition_of w.key) (partition_of q) ≡ false
    apart false e t = e
    apart true e t = clash (sym (of_partition w.key q (same_key_exact (partition_of w.key) (partition_of q) e)) ∙ t)

---- what is found

pub latest_at : (at : Key → Option ℕ) (gs : List (List Write)) (key p : Key) (o : Option ℕ) → p ≡ partition_of key → o ≡ at p → HaveLatest at gs → LatestIs key gs o
latest_at at gs key p o is found have = subst (LatestIs key gs) (sym (found ∙ ap at is)) (have key)
