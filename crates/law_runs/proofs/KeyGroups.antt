-- Groups of writes, by the keys of these alone.
use Rattle.std.proofs.Common.{◌≡◌, ◌+◌, Bool, true, false, not, List, [], ◌∷◌, ◌++◌, map, length, length-append, refl, sym, ap, ◌∙◌, arith}
use Rattle.std.specs.Prelude.{◌&&◌, ◌||◌, if◌then◌else◌, nat_lt, sum_by}
use Rattle.std.specs.List.{list_any}
use Rattle.std.proofs.lemmas.List.{length-map, map-append}
use Rattle.std.proofs.lemmas.List.Sums.{sum_by-cons}
use Rattle.law_runs.specs.Types.{Key, Write}
use Rattle.sdb_types.specs.Order.{same_partition}
use Rattle.sdb_types.proofs.Public.{clash}
use Rattle.sdb_record.specs.Groups.{grouped, has_group, has_room_for, is_beside, keys_of_writes, placed, placed_all, ungrouped}
use Rattle.sdb_record.proofs.Public.{in_groups_length}
use Rattle.law_runs.specs.Written.{groups_of_keys, write_of_key}

---- groups of keys, as those of writes are made

abbrev begins_beside : Key → List Key → Bool
begins_beside key [] = false
begins_beside key (k ∷ ks) = same_partition k key

abbrev has_room : Key → List Key → Bool
has_room k ks = begins_beside k ks && nat_lt (length ks) 64

abbrev with_key : Key → List (List Key) → List (List Key)
with_key k [] = (k ∷ []) ∷ []
with_key k (ks ∷ kss) = if has_room k ks && not (list_any (begins_beside k) kss) then (ks ++ k ∷ []) ∷ kss else ks ∷ with_key k kss

abbrev with_all : List (List Key) → List Key → List (List Key)
with_all kss [] = kss
with_all kss (k ∷ ks) = with_all (with_key k kss) ks

---- they are the same

beside_is : (key : Key) (g : List Write) → is_beside key g ≡ begins_beside key (keys_of_writes g)
beside_is key [] = refl
beside_is key (w ∷ ws) = refl

group_is : (key : Key) (gs : List (List Write)) → has_group key gs ≡ list_any (begins_beside key) (map keys_of_writes gs)
group_is key [] = refl
group_is key (g ∷ gs) = λ i. beside_is key g i || group_is key gs i

room_is : (w : Write) (g : List Write) → has_room_for w g ≡ has_room w.key (keys_of_writes g)
room_is w g = λ i. beside_is w.key g i && nat_lt (sym (length-map g (λ (v : Write). v.key)) i) 64

placed_is : (w : Write) (gs : List (List Write)) → map keys_of_writes (placed w gs) ≡ with_key w.key (map keys_of_writes gs)
placed_is w [] = refl
placed_is w (g ∷ gs) = by (has_room_for w g && not (has_group w.key gs)) (has_room w.key (keys_of_writes g) && not (list_any (begins_beside w.key) (map keys_of_writes gs))) (λ i. room_is w g i && not (group_is w.key gs i)) (placed_is w gs)
  where
    by : (b c : Bool) → b ≡ c → map keys_of_writes (placed w gs) ≡ with_key w.key (map keys_of_writes gs)
        → map keys_of_writes (if b then (g ++ w ∷ []) ∷ gs else g ∷ placed w gs) ≡ (if c then (keys_of_writes g ++ w.key ∷ []) ∷ map keys_of_writes gs else keys_of_writes g ∷ with_key w.key (map keys_of_writes gs))
    by true true e ih = ap (λ ks. ks ∷ map keys_of_writes gs) (map-append (λ (v : Write). v.key) g (w ∷ []))
    by false false e ih = ap (λ kss. keys_of_writes g ∷ kss) ih
    by true false e ih = clash e
    by false true e ih = clash (sym e)

all_is : (gs : List (List Write)) (ws : List Write) → map keys_of_writes (placed_all gs ws) ≡ with_all (map keys_of_writes gs) (keys_of_writes ws)
all_is gs [] = refl
all_is gs (w ∷ ws) = all_is (placed w gs) ws ∙ ap (λ kss. with_all kss (keys_of_writes ws)) (placed_is w gs)

own_keys : (ks : List Key) → keys_of_writes (map write_of_key ks) ≡ ks
own_keys [] = refl
own_keys (k ∷ ks) = ap (λ qs. k ∷ qs) (own_keys ks)

-- The keys of writes are grouped as the writes are.
pub groups_same : (ws : List Write) → map keys_of_writes (grouped ws) ≡ groups_of_keys (keys_of_writes ws)
groups_same ws = all_is [] ws ∙ ap (with_all []) (sym (own_keys (keys_of_writes ws))) ∙ sym (all_is [] (map write_of_key (keys_of_writes ws)))

---- how many there are

sum_of : (gs : List (List Write)) → sum_by (λ (ks : List Key). length ks) (map keys_of_writes gs) ≡ length (ungrouped gs)
sum_of [] = refl
sum_of (g ∷ gs) = omega (arith, sum_by-cons (λ (ks : List Key). length ks) (keys_of_writes g) (map keys_of_writes gs), length-map g (λ (w : Write). w.key), sum_of gs, length-append g (ungrouped gs))

-- The groups have as many keys as there are.
pub groups_sum : (ks : List Key) → sum_by (λ (qs : List Key). length qs) (groups_of_keys ks) ≡ length ks
groups_sum ks = sum_of (grouped (map write_of_key ks)) ∙ in_groups_length (map write_of_key ks) ∙ length-map ks write_of_key
