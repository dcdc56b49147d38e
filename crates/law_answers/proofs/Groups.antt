-- Writes and their groups: what holds of each, and what the prepare of a group puts.
use Rattle.std.proofs.Common.{◌≡◌, ◌<◌, ◌⊎◌, inl, inr, ℕ, ℤ, zero, suc, Bool, true, false, List, [], ◌∷◌, map, length, Some, refl, ap, ◌∙◌, arith}
use Rattle.std.specs.Prelude.{◌||◌, Contains, slice_get}
use Rattle.std.specs.List.{AllByRecursion}
use Rattle.std.specs.Option.{option_map}
use Rattle.std.proofs.lemmas.List.Sorted.{Contains-permutation}
use Rattle.std.proofs.lemmas.Option.{slice_get-get_or, slice_get-map}
use Rattle.law_answers.specs.Types.{Condition, Put, Record, TxId, Write}
use Rattle.sdb_types.proofs.Public.{append_all, none_some, some_is}
use Rattle.sdb_record.specs.Groups.{grouped, in_groups, ungrouped}
use Rattle.sdb_record.specs.Rolls.{prepared_record}
use Rattle.sdb_record.proofs.Public.{grouped_all, same_writes}
use Rattle.sdb_model.specs.Requests.{any_of, records_put}
use Rattle.sdb_phases.specs.Work.{prepare_of, prepares_of}
use Rattle.law_answers.proofs.PathConflicts.{append_origin}
use Rattle.law_answers.proofs.PathLists.{contains_at}

---- each

all_ungrouped : (P : Write → Type 0) (gs : List (List Write)) → AllByRecursion (AllByRecursion P) gs → AllByRecursion P (ungrouped gs)
all_ungrouped P [] h = tt
all_ungrouped P (g ∷ gs) h = append_all P g (ungrouped gs) h.0 (all_ungrouped P gs h.1)

-- what holds of each write holds of each in the order of the groups
pub all_in_groups : (P : Write → Type 0) (ws : List Write) → AllByRecursion P ws → AllByRecursion P (in_groups ws)
all_in_groups P ws h = all_ungrouped P (grouped ws) (grouped_all P ws h)

---- the group of a write

abbrev HasGroupOf : List (List Write) → Write → Type 0
HasGroupOf gs w = (i : ℕ) × (g : List Write) × (i < length gs) × (slice_get gs i ≡ Some g) × Contains g w

group_at : (gs : List (List Write)) (k : ℕ) (w : Write) → slice_get (ungrouped gs) k ≡ Some w → HasGroupOf gs w
group_at [] k w h = none_some w h
group_at (g ∷ gs) k w h = by (append_origin g (ungrouped gs) k w h) (λ j e. group_at gs j w e)
  where
    first : 0 < suc (length gs)
    first = omega arith

    up : (j n : ℕ) → j < n → suc j < suc n
    up j n l = omega (arith, l)

    by : (slice_get g k ≡ Some w) ⊎ ((j : ℕ) × (slice_get (ungrouped gs) j ≡ Some w)) → ((j : ℕ) → slice_get (ungrouped gs) j ≡ Some w → HasGroupOf gs w) → HasGroupOf (g ∷ gs) w
    by (inl e) more = (0, g, first, refl, contains_at g k w e)
    by (inr r) more = let at = more r.0 r.1 in (suc at.0, at.1, up at.0 (length gs) at.2, at.3, at.4)

-- a write is one of a group
pub group_of : (ws : List Write) (w : Write) → Contains ws w → HasGroupOf (grouped ws) w
group_of ws w among =
    let at = Contains-permutation ws (in_groups ws) w (same_writes ws) among in group_at (grouped ws) at.0 w (slice_get-get_or (in_groups ws) at.0 w at.1 ∙ ap Some at.2)

---- what the prepare of a group puts

batch_records : (id : TxId) (now : ℤ) (g : List Write) → map (λ (x : Record × Condition). x.0) (map (λ (u : Put). (u.rec, u.condition)) (map (prepare_of id now) g)) ≡ map (λ w. prepared_record w id now) g
batch_records id now [] = refl
batch_records id now (w ∷ ws) = ap (λ rs. prepared_record w id now ∷ rs) (batch_records id now ws)

pub records_of_group : (id : TxId) (now : ℤ) (g : List Write) → records_put (prepares_of id now g) ≡ map (λ w. prepared_record w id now) g
records_of_group id now [] = refl
records_of_group id now (w ∷ []) = refl
records_of_group id now (v ∷ w ∷ ws) = batch_records id now (v ∷ w ∷ ws)

pub map_contains : {A B : Type 0} (f : A → B) (xs : List A) (x : A) → Contains xs x → Contains (map f xs) (f x)
map_contains f xs x at = contains_at (map f xs) at.0 (f x) (slice_get-map f xs at.0 ∙ ap (option_map f) (slice_get-get_or xs at.0 x at.1 ∙ ap Some at.2))

---- some of a list

pub or_true : (a : Bool) {b : Bool} → b ≡ true → (a || b) ≡ true
or_true true h = refl
or_true false h = h

-- one of a list is so
pub any_at : {X : Type 0} (is : X → Bool) (xs : List X) (j : ℕ) (x : X) → slice_get xs j ≡ Some x → is x ≡ true → any_of is xs ≡ true
any_at is [] j x e h = none_some x e
any_at is (y ∷ []) zero x e h = ap is (some_is y x e) ∙ h
any_at is (y ∷ []) (suc j) x e h = none_some x e
any_at is (y ∷ z ∷ ys) zero x e h = ap (λ b. b || any_of is (z ∷ ys)) (ap is (some_is y x e) ∙ h)
any_at is (y ∷ z ∷ ys) (suc j) x e h = or_true (is y) (any_at is (z ∷ ys) j x e h)
