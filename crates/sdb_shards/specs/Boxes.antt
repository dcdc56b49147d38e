-- Several boxes, each a store of its own, and what they hold together.
use Rattle.std.specs.Prelude.{◌≡◌, ◌⊎◌, ◌==◌, ◌+◌, ◌-◌, ◌^◌, ◌<◌, ◌≤◌, ℕ, Bool, true, false, List, [], ◌∷◌, ◌++◌, map, filter, length, get_or, slice_set, sum_by, Any}
use Rattle.std.specs.FinMap.{entries, from_entries, empty, get}
use Rattle.sdb_types.specs.declared.key.Key.{Key}
use Rattle.sdb_types.specs.declared.pair.Pair.{Pair}
use Rattle.sdb_types.specs.declared.record.Request.{Request}
use Rattle.sdb_types.specs.declared.record.Reply.{Reply}
use Rattle.sdb_types.specs.Order.{key_cmp}
use Rattle.sdb_types.specs.Contents.{Contents, CanAnswer}
use Rattle.sdb_types.specs.Draws.{counted as next_number}
use Rattle.sdb_store.specs.FaultPlans.{Held, memory_state}
use Rattle.sdb_store.specs.Store.{Performs, StoreState, faults_after}
use Rattle.sdb_shards.specs.declared.part.Part.{Part}
use Rattle.sdb_shards.specs.declared.part.Part.TheVariants.{Ordered, Hashed}

---- one box

-- what the store in a box shows
abbrev pub held_of : Part → Held
held_of (Ordered held) = held
held_of (Hashed held) = held

abbrev pub contents_of : Part → Contents
contents_of part = (held_of part).contents

-- a box as any store: its contents are always known
abbrev pub part_state : Part → StoreState
part_state part = memory_state (held_of part)

---- several, numbered from 0

-- what box i of several contents holds, which is nothing where there is no such box
abbrev pub held_at : List Contents → ℕ → Contents
held_at ms i = get_or ms i empty

-- what each box holds
abbrev pub held_in : List Part → List Contents
held_in parts = map contents_of parts

abbrev pub contents_at : List Part → ℕ → Contents
contents_at parts i = held_at (held_in parts) i

-- the entries that the box with this number shows: those whose home it is
abbrev pub at_home : (Key → ℕ) → ℕ → Contents → List (Key × List Pair)
at_home home i m = filter (λ e. home e.0 == i) (entries m)

-- the entries that the boxes show, where the first has this number
abbrev pub shown_from : (Key → ℕ) → ℕ → List Contents → List (Key × List Pair)
shown_from home i [] = []
shown_from home i (m ∷ ms) = at_home home i m ++ shown_from home (i + 1) ms

-- What boxes hold together: exactly the records that a box holds and whose home it is.
abbrev pub sharded : (Key → ℕ) → List Contents → Contents
sharded home ms = from_entries {R = key_cmp} (shown_from home 0 ms)

---- calls

-- how many calls of the boxes have failed
abbrev pub faults_in : List Part → ℕ
faults_in parts = sum_by (λ part. (held_of part).failed) parts

-- A count of failures has reached its type's greatest value.
abbrev pub IsSpent : List Part → Type 0
IsSpent parts = Any (λ part. 2 ^ 64 - 1 ≤ (held_of part).failed) parts

-- The sum of the counts of failures rose, or one of them is its type's greatest value.
abbrev pub HaveRisen : List Part → List Part → Type 0
HaveRisen old new = (faults_in old < faults_in new) ⊎ IsSpent new

-- No count of failures fell.
pub record HaveGrown (old new : List Part) : Type 0 where
  pub sum : faults_in old ≤ faults_in new
  pub spent : IsSpent old → IsSpent new

-- One call of a box. Every other box stays as it was.
pub record IsBoxCall (at : ℕ) (q : Request) (r : Reply) (old new : List Part) : Type 0 where
  pub before : Part
  pub now : Part
  pub stood : before ≡ get_or old at before
  pub rest : new ≡ slice_set old at now
  pub performed : Performs q r (contents_of before) (contents_of now)
  pub lawful : CanAnswer q r
  pub cause : (held_of now).failed ≡ faults_after r (held_of before).failed
