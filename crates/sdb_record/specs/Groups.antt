-- Writes in groups, each of which goes to a store in one call.
use Rattle.std.specs.Prelude.{◌≡◌, ◌+◌, ◌<◌, ◌≤◌, ◌^◌, ℕ, Bool, true, false, not, nat_lt, ◌&&◌, if◌then◌else◌, List, [], ◌∷◌, ◌++◌, map, length, slice_index_or, drop, Option, Some, None}
use Rattle.std.specs.List.{AllByRecursion, flat_map, list_any}
use Rattle.sdb_record.specs.Types.{Key}
use Rattle.std.specs.declared.cmp.Ordering.{Ordering}
use Rattle.std.specs.Ordering.{is_lt, ordering_then}
use Rattle.std.specs.Cmp.Lexicographic.{slice_cmp}
use Rattle.sdb_types.specs.Order.{are_distinct, in_one_partition, same_partition, table_cmp, value_cmp}
use Rattle.sdb_record.specs.declared.write.Write.{Write}

-- a group is of the partition of a key: that of its first write
abbrev pub is_beside : Key → List Write → Bool
is_beside key [] = false
is_beside key (w ∷ ws) = same_partition w.key key

-- some group is of the partition of a key
abbrev pub has_group : Key → List (List Write) → Bool
has_group key gs = list_any (is_beside key) gs

-- a group is of a write's partition, and has fewer than 64 writes
abbrev pub has_room_for : Write → List Write → Bool
has_room_for w g = is_beside w.key g && nat_lt (length g) 64

-- Groups with a write: it joins the latest group of its table and partition where that has fewer than 64 writes. Otherwise it begins a new
-- group.
abbrev pub placed : Write → List (List Write) → List (List Write)
placed w [] = (w ∷ []) ∷ []
placed w (g ∷ gs) = if has_room_for w g && not (has_group w.key gs) then (g ++ w ∷ []) ∷ gs else g ∷ placed w gs

-- with writes, one after the other
abbrev pub placed_all : List (List Write) → List Write → List (List Write)
placed_all gs [] = gs
placed_all gs (w ∷ ws) = placed_all (placed w gs) ws

-- the groups of writes
abbrev pub grouped : List Write → List (List Write)
grouped ws = placed_all [] ws

-- a key is of a partition past the last one
abbrev pub partition_cmp : Key → Key → Ordering
partition_cmp a b = ordering_then (table_cmp a.table b.table) (slice_cmp value_cmp a.partition b.partition)

abbrev pub is_past : Option Key → Key → Bool
is_past None key = true
is_past (Some last) key = is_lt (partition_cmp last key)

-- each write is of a partition past that of the write before it, and the first past the last one
abbrev pub rise_from : Option Key → List Write → Bool
rise_from last [] = true
rise_from last (w ∷ ws) = is_past last w.key && rise_from (Some w.key) ws

-- the writes of groups, one group after the other
abbrev pub ungrouped : List (List Write) → List Write
ungrouped gs = flat_map (λ g. g) gs

-- the writes in the order of their groups
abbrev pub in_groups : List Write → List Write
in_groups ws = ungrouped (grouped ws)

-- A group has from 1 to 64 writes, of one partition of one table.
pub record IsGroup (g : List Write) : Type 0 where
  pub some : 0 < length g
  pub few : length g ≤ 64
  pub one : in_one_partition (map (λ w. w.key) g) ≡ true

abbrev pub keys_of_writes : List Write → List Key
keys_of_writes ws = map (λ w. w.key) ws

-- Groups as a COMMIT takes them: each is one, no key comes twice in them all, and there are no more writes than a list has.
pub record AreGroups (gs : List (List Write)) : Type 0 where
  pub each : AllByRecursion IsGroup gs
  pub once : are_distinct (keys_of_writes (ungrouped gs)) ≡ true
  pub few : length (ungrouped gs) < 2 ^ 64

-- The group at that place is the latest of the partition of a key.
pub record IsLatest (key : Key) (gs : List (List Write)) (i : ℕ) : Type 0 where
  pub inside : i < length gs
  pub own : (d : List Write) → is_beside key (slice_index_or gs i d) ≡ true
  pub last : has_group key (drop (i + 1) gs) ≡ false

-- the key of a partition: that of one of its keys, without clustering values
abbrev pub partition_of : Key → Key
partition_of k = record { table = k.table; partition = k.partition; clustering = [] }

-- where the latest group of the partition of a key is, if there is one
abbrev pub LatestIs : Key → List (List Write) → Option ℕ → Type 0
LatestIs key gs None = has_group key gs ≡ false
LatestIs key gs (Some i) = IsLatest key gs i

-- By the key of each partition it is found where its latest group is.
abbrev pub HaveLatest : (Key → Option ℕ) → List (List Write) → Type 0
HaveLatest at gs = (key : Key) → LatestIs key gs (at (partition_of key))
