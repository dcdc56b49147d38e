-- Writes whose keys differ: so do the keys of their groups.
use Rattle.std.proofs.Common.{◌≡◌, ◌≢◌, ◌∙◌, ◌<◌, ◌^◌, ℕ, zero, suc, Some, arith, Bool, true, false, not, cond, List, [], ◌∷◌, ◌++◌, length, map, refl, sym, ap, subst, append_assoc}
use Rattle.std.proofs.lemmas.List.{map-append}
use Rattle.std.specs.Prelude.{◌&&◌, ◌||◌, slice_get}
use Rattle.std.specs.List.{AllByRecursion}
use Rattle.sdb_record.specs.Types.{Key}
use Rattle.sdb_types.specs.Order.{are_distinct, has_key, same_key}
use Rattle.sdb_types.proofs.Public.{and_both, by_test, clash, none_some, once_parts, or_false, or_second, same_key_exact, same_key_self, same_key_turned, some_is}
use Rattle.sdb_record.specs.declared.write.Write.{Write}
use Rattle.sdb_record.specs.Groups.{AreGroups, IsGroup, grouped, has_group, has_room_for, in_groups, keys_of_writes, placed, placed_all, ungrouped}
use Rattle.sdb_record.proofs.Grouping.{each_group, in_groups_length}

---- keys

neither : (a b : Bool) → (a || b) ≡ false → (a ≡ false) × (b ≡ false)
neither true b h = clash h
neither false b h = (refl, h)

not_is : (b : Bool) → b ≡ false → not b ≡ true
not_is b h = ap not h

has_append : (xs ys : List Key) (q : Key) → has_key (xs ++ ys) q ≡ (has_key ys q || has_key xs q)
has_append [] ys q = sym (or_false (has_key ys q))
has_append (x ∷ xs) ys q = ap (λ b. b || same_key q x) (has_append xs ys q) ∙ assoc (has_key ys q) (has_key xs q) (same_key q x)
  where
    assoc : (a b c : Bool) → ((a || b) || c) ≡ (a || (b || c))
    assoc true b c = refl
    assoc false b c = refl

-- a key between others
has_between : (xs ys : List Key) (k q : Key) → has_key (xs ++ k ∷ ys) q ≡ (has_key (xs ++ ys) q || same_key q k)
has_between [] ys k q = refl
has_between (x ∷ xs) ys k q = ap (λ b. b || same_key q x) (has_between xs ys k q) ∙ turned (has_key (xs ++ ys) q) (same_key q k) (same_key q x)
  where
    turned : (a b c : Bool) → ((a || b) || c) ≡ ((a || c) || b)
    turned true b c = refl
    turned false true true = refl
    turned false true false = refl
    turned false false c = sym (or_false c)

neither_one : (a b : Bool) → a ≡ false → b ≡ false → (a || b) ≡ false
neither_one true b h k = clash h
neither_one false b h k = k

-- the same keys and one more
abbrev HasOneMore : List Key → List Key → Key → Type 0
HasOneMore more keys k = (q : Key) → has_key more q ≡ (has_key keys q || same_key q k)

-- behind other keys
once_behind : (xs keys more : List Key) (k : Key) → are_distinct more ≡ true → HasOneMore more keys k → has_key (xs ++ keys) k ≡ false → are_distinct (xs ++ keys) ≡ true → are_distinct (xs ++ more) ≡ true
once_behind [] keys more k own has apart once = own
once_behind (x ∷ xs) keys more k own has apart once =
    let two = neither (has_key (xs ++ keys) k) (same_key k x) apart in
    let parts = once_parts (has_key (xs ++ keys) x) (are_distinct (xs ++ keys)) once in
    let alone : has_key (xs ++ more) x ≡ false =
    has_append xs more x ∙ ap (λ b. b || has_key xs x) (has x) ∙ turned (has_key keys x) (same_key x k) (has_key xs x) ∙ ap (λ b. b || same_key x k) (sym (has_append xs keys x)) ∙ neither_one (has_key (xs ++ keys) x) (same_key x k) parts.0 (same_key_turned x k ∙ two.1) in
    and_both (not (has_key (xs ++ more) x)) (are_distinct (xs ++ more)) (not_is (has_key (xs ++ more) x) alone) (once_behind xs keys more k own has two.0 parts.1)
  where
    turned : (a b c : Bool) → ((a || b) || c) ≡ ((a || c) || b)
    turned true b c = refl
    turned false true true = refl
    turned false true false = refl
    turned false false c = sym (or_false c)

once_one : (ys : List Key) (k : Key) → has_key ys k ≡ false → are_distinct ys ≡ true → are_distinct (k ∷ ys) ≡ true
once_one ys k apart once = and_both (not (has_key ys k)) (are_distinct ys) (not_is (has_key ys k) apart) once

once_first : (xs ys : List Key) → are_distinct (xs ++ ys) ≡ true → are_distinct xs ≡ true
once_first [] ys once = refl
once_first (x ∷ xs) ys once =
    let parts = once_parts (has_key (xs ++ ys) x) (are_distinct (xs ++ ys)) once in
    let two = neither (has_key ys x) (has_key xs x) (sym (has_append xs ys x) ∙ parts.0) in
    once_one xs x two.1 (once_first xs ys parts.1)

once_second : (xs ys : List Key) → are_distinct (xs ++ ys) ≡ true → are_distinct ys ≡ true
once_second [] ys once = once
once_second (x ∷ xs) ys once = once_second xs ys (once_parts (has_key (xs ++ ys) x) (are_distinct (xs ++ ys)) once).1

apart_second : (xs ys : List Key) (k : Key) → has_key (xs ++ ys) k ≡ false → has_key ys k ≡ false
apart_second xs ys k h = (neither (has_key ys k) (has_key xs k) (sym (has_append xs ys k) ∙ h)).0

---- groups

keys_append : (xs ys : List Write) → keys_of_writes (xs ++ ys) ≡ keys_of_writes xs ++ keys_of_writes ys
keys_append xs ys = map-append (λ (w : Write). w.key) xs ys

keys_first : (g : List Write) (gs : List (List Write)) → keys_of_writes (ungrouped (g ∷ gs)) ≡ keys_of_writes g ++ keys_of_writes (ungrouped gs)
keys_first g gs = keys_append g (ungrouped gs)

-- a write joins a group
keys_joined : (g : List Write) (w : Write) (gs : List (List Write)) → keys_of_writes (ungrouped ((g ++ w ∷ []) ∷ gs)) ≡ keys_of_writes g ++ w.key ∷ keys_of_writes (ungrouped gs)
keys_joined g w gs = keys_first (g ++ w ∷ []) gs ∙ ap (λ ks. ks ++ keys_of_writes (ungrouped gs)) (keys_append g (w ∷ [])) ∙ append_assoc (keys_of_writes g) (w.key ∷ []) (keys_of_writes (ungrouped gs))

one_more : (w : Write) (gs : List (List Write)) → HasOneMore (keys_of_writes (ungrouped (placed w gs))) (keys_of_writes (ungrouped gs)) w.key
one_more w [] q = refl
one_more w (g ∷ gs) q = by_test (has_room_for w g && not (has_group w.key gs))
    (λ t. ap (λ b. has_key (keys_of_writes (ungrouped (cond b ((g ++ w ∷ []) ∷ gs) (g ∷ placed w gs)))) q) t ∙ ap (λ ks. has_key ks q) (keys_joined g w gs) ∙ has_between (keys_of_writes g) (keys_of_writes (ungrouped gs)) w.key q ∙ ap (λ ks. has_key ks q || same_key q w.key) (sym (keys_first g gs)))
    (λ t. ap (λ b. has_key (keys_of_writes (ungrouped (cond b ((g ++ w ∷ []) ∷ gs) (g ∷ placed w gs)))) q) t ∙ ap (λ ks. has_key ks q) (keys_first g (placed w gs)) ∙ has_append (keys_of_writes g) (keys_of_writes (ungrouped (placed w gs))) q
    ∙ ap (λ b. b || has_key (keys_of_writes g) q) (one_more w gs q) ∙ turned (has_key (keys_of_writes (ungrouped gs)) q) (same_key q w.key) (has_key (keys_of_writes g) q)
    ∙ ap (λ b. b || same_key q w.key) (sym (has_append (keys_of_writes g) (keys_of_writes (ungrouped gs)) q)) ∙ ap (λ ks. has_key ks q || same_key q w.key) (sym (keys_first g gs)))
  where
    turned : (a b c : Bool) → ((a || b) || c) ≡ ((a || c) || b)
    turned true b c = refl
    turned false true true = refl
    turned false true false = refl
    turned false false c = sym (or_false c)

placed_once : (w : Write) (gs : List (List Write)) → has_key (keys_of_writes (ungrouped gs)) w.key ≡ false → are_distinct (keys_of_writes (ungrouped gs)) ≡ true → are_distinct (keys_of_writes (ungrouped (placed w gs))) ≡ true
placed_once w [] apart once = refl
placed_once w (g ∷ gs) apart once =
    let ks = keys_of_writes g in
    let rest = keys_of_writes (ungrouped gs) in
    let away = sym (ap (λ xs. has_key xs w.key) (keys_first g gs)) ∙ apart in
    let all = sym (ap are_distinct (keys_first g gs)) ∙ once in
    let own = once_second ks rest all in
    by_test (has_room_for w g && not (has_group w.key gs))
    (λ t. ap (λ b. are_distinct (keys_of_writes (ungrouped (cond b ((g ++ w ∷ []) ∷ gs) (g ∷ placed w gs))))) t ∙ ap are_distinct (keys_joined g w gs)
    ∙ once_behind ks rest (w.key ∷ rest) w.key (once_one rest w.key (apart_second ks rest w.key away) own) (λ q. refl) away all)
    (λ t. ap (λ b. are_distinct (keys_of_writes (ungrouped (cond b ((g ++ w ∷ []) ∷ gs) (g ∷ placed w gs))))) t ∙ ap are_distinct (keys_first g (placed w gs))
    ∙ once_behind ks rest (keys_of_writes (ungrouped (placed w gs))) w.key (placed_once w gs (apart_second ks rest w.key away) own) (one_more w gs) away all)

all_once : (gs : List (List Write)) (ws : List Write) → are_distinct (keys_of_writes (ungrouped gs)) ≡ true → ((q : Key) → has_key (keys_of_writes ws) q ≡ true → has_key (keys_of_writes (ungrouped gs)) q ≡ false) → are_distinct (keys_of_writes ws) ≡ true
    → are_distinct (keys_of_writes (ungrouped (placed_all gs ws))) ≡ true
all_once gs [] done apart once = done
all_once gs (w ∷ ws) done apart once =
    let parts = once_parts (has_key (keys_of_writes ws) w.key) (are_distinct (keys_of_writes ws)) once in
    let own : has_key (keys_of_writes (w ∷ ws)) w.key ≡ true = either_second (has_key (keys_of_writes ws) w.key) (same_key_self w.key) in
    all_once (placed w gs) ws (placed_once w gs (apart w.key own) done) later parts.1
  where
    either_second : (a : Bool) {b : Bool} → b ≡ true → (a || b) ≡ true
    either_second true h = refl
    either_second false h = h

    either_first : (a b : Bool) → a ≡ true → (a || b) ≡ true
    either_first true b h = refl
    either_first false b h = clash (sym h)

    other : (q : Key) → has_key (keys_of_writes ws) q ≡ true → (b : Bool) → same_key q w.key ≡ b → b ≡ false
    other q h true e = clash (sym h ∙ ap (has_key (keys_of_writes ws)) (same_key_exact q w.key e) ∙ (once_parts (has_key (keys_of_writes ws) w.key) (are_distinct (keys_of_writes ws)) once).0)
    other q h false e = refl

    later : (q : Key) → has_key (keys_of_writes ws) q ≡ true → has_key (keys_of_writes (ungrouped (placed w gs))) q ≡ false
    later q h = one_more w gs q ∙ neither_one (has_key (keys_of_writes (ungrouped gs)) q) (same_key q w.key) (apart q (either_first (has_key (keys_of_writes ws) q) (same_key q w.key) h)) (other q h (same_key q w.key) refl)

pub groups_once : (ws : List Write) → are_distinct (keys_of_writes ws) ≡ true → are_distinct (keys_of_writes (in_groups ws)) ≡ true
groups_once ws once = all_once [] ws refl (λ q h. refl) once

pub are_groups : (ws : List Write) → are_distinct (keys_of_writes ws) ≡ true → length ws < 2 ^ 64 → AreGroups (grouped ws)
are_groups ws once few = record { each = each_group ws; once = groups_once ws once; few = subst (λ n. n < 2 ^ 64) (sym (in_groups_length ws)) few }

-- the keys of each group
pub each_once : (gs : List (List Write)) → are_distinct (keys_of_writes (ungrouped gs)) ≡ true → AllByRecursion (λ g. are_distinct (keys_of_writes g) ≡ true) gs
each_once [] once = tt
each_once (g ∷ gs) once =
    let all = sym (ap are_distinct (keys_first g gs)) ∙ once in
    (once_first (keys_of_writes g) (keys_of_writes (ungrouped gs)) all, each_once gs (once_second (keys_of_writes g) (keys_of_writes (ungrouped gs)) all))

---- the keys at places

pub key_at : (ws : List Write) (i : ℕ) (w : Write) → slice_get ws i ≡ Some w → has_key (keys_of_writes ws) w.key ≡ true
key_at [] i w at = none_some w at
key_at (x ∷ xs) zero w at = or_second (has_key (keys_of_writes xs) w.key) (same_key w.key x.key) (ap (λ (y : Write). same_key w.key y.key) (some_is x w at) ∙ same_key_self w.key)
key_at (x ∷ xs) (suc i) w at = ap (λ b. b || same_key w.key x.key) (key_at xs i w at)

pub write_of_key : (ws : List Write) (q : Key) → has_key (keys_of_writes ws) q ≡ true → (i : ℕ) × ((w : Write) × ((slice_get ws i ≡ Some w) × (w.key ≡ q)))
write_of_key [] q h = clash (sym h)
write_of_key (x ∷ xs) q h = by (has_key (keys_of_writes xs) q) refl (write_of_key xs q)
  where
    by : (b : Bool) → has_key (keys_of_writes xs) q ≡ b → (has_key (keys_of_writes xs) q ≡ true → (i : ℕ) × ((w : Write) × ((slice_get xs i ≡ Some w) × (w.key ≡ q)))) → (i : ℕ) × ((w : Write) × ((slice_get (x ∷ xs) i ≡ Some w) × (w.key ≡ q)))
    by true e rest = let f = rest e in (suc f.0, (f.1.0, f.1.1))
    by false e rest = (zero, (x, (refl, sym (same_key_exact q x.key (sym (ap (λ b. b || same_key q x.key) e) ∙ h)))))

pub apart_at : (ws : List Write) (i j : ℕ) (v w : Write) → are_distinct (keys_of_writes ws) ≡ true → i < j → slice_get ws i ≡ Some v → slice_get ws j ≡ Some w → w.key ≢ v.key
apart_at [] i j v w once less at there = none_some v at
apart_at (x ∷ xs) i zero v w once less at there = absurd (omega (arith, less))
apart_at (x ∷ xs) zero (suc j) v w once less at there = λ same.
    clash (sym (key_at xs j w there) ∙ ap (has_key (keys_of_writes xs)) (same ∙ ap (λ (y : Write). y.key) (sym (some_is x v at))) ∙ (once_parts (has_key (keys_of_writes xs) x.key) (are_distinct (keys_of_writes xs)) once).0)
apart_at (x ∷ xs) (suc i) (suc j) v w once less at there = apart_at xs i j v w (once_parts (has_key (keys_of_writes xs) x.key) (are_distinct (keys_of_writes xs)) once).1 (omega (arith, less)) at there
