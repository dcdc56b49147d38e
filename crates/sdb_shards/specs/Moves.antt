-- What a move of a partition does.
use Rattle.std.specs.Prelude.{◌≡◌, ◌⊎◌, ◌==◌, ◌<◌, ◌^◌, ℕ, ℤ, pos, Bool, true, false, if◌then◌else◌, List, map, length, All, Any, Option, Some, None}
use Rattle.std.specs.Ordering.{int_eq}
use Rattle.std.specs.FinMap.{get}
use Rattle.sdb_types.specs.declared.key.Key.{Key}
use Rattle.sdb_types.specs.declared.record.Condition.{Condition}
use Rattle.sdb_types.specs.declared.record.Condition.TheVariants.{Absent, Version}
use Rattle.sdb_types.specs.declared.record.Record.{Record}
use Rattle.sdb_types.specs.declared.record.Reply.{Reply}
use Rattle.sdb_types.specs.declared.record.Reply.TheVariants as reply
use Rattle.sdb_types.specs.declared.record.State.{State}
use Rattle.sdb_types.specs.declared.record.State.TheVariants.{Prepared, Deleted, Committed, Aborted}
use Rattle.sdb_types.specs.declared.value.Value.{Value}
use Rattle.sdb_types.specs.declared.value.Value.TheVariants as value
use Rattle.sdb_types.specs.Contents.{Contents, is_version}
use Rattle.sdb_types.specs.Order.{has_key}
use Rattle.sdb_shards.specs.declared.part.Part.{Part}
use Rattle.sdb_shards.specs.declared.refused.MoveRefused.{MoveRefused}
use Rattle.sdb_shards.specs.declared.refused.MoveRefused.TheVariants as refused
use Rattle.sdb_shards.specs.Boxes.{HaveGrown, HaveRisen, contents_at}

---- what single columns say

-- the text of a value, if it is one
abbrev pub text_in : Option Value → Option (List ℕ)
text_in (Some (value.Text text)) = Some text
text_in _ = None

abbrev pub numbered_state : ℤ → Option State
numbered_state n =
    if int_eq n (pos 1) then Some Prepared
    else if int_eq n (pos 2) then Some Deleted
    else if int_eq n (pos 3) then Some Committed
    else if int_eq n (pos 4) then Some Aborted
    else None

-- the state whose number a value is
abbrev pub state_in : Option Value → Option State
state_in (Some (value.Int n)) = numbered_state n
state_in _ = None

---- records in the way

-- A record is the version of a transaction in a state.
abbrev pub IsVersionOf : Record → Condition → Type 0
IsVersionOf r Absent = ⊥
IsVersionOf r (Version id state) = (id.0 < 2 ^ 128) × (is_version id state r ≡ true)

-- A record has an id and a state.
abbrev pub HasVersion : Record → Type 0
HasVersion r = (version : Condition) × IsVersionOf r version

-- A record can be deleted on its id and state, or is one of those that come.
abbrev pub IsFree : List Record → Record → Type 0
IsFree coming r = HasVersion r ⊎ Any (λ c. c ≡ r) coming

abbrev pub AreFree : List Record → List Record → Type 0
AreFree coming there = All (IsFree coming) there

-- A record of that key lacks an id or a state, and is none of those that come.
abbrev pub IsBlocked : List Record → List Record → Key → Type 0
IsBlocked coming there key = Any (λ r. (r.key ≡ key) × (¬ HasVersion r) × (¬ Any (λ c. c ≡ r) coming)) there

-- A reply that says that the call took effect as a map's does.
abbrev pub IsDone : Reply → Type 0
IsDone reply.Fault = ⊥
IsDone reply.NoMemory = ⊥
IsDone (reply.Found found) = Unit {0}
IsDone (reply.Rows rows) = Unit {0}
IsDone reply.Applied = Unit {0}
IsDone (reply.NotMet found) = Unit {0}
IsDone (reply.NotAll k found) = Unit {0}

-- A reply that a scan can get.
abbrev pub IsListing : Reply → Type 0
IsListing reply.Fault = Unit {0}
IsListing reply.NoMemory = Unit {0}
IsListing (reply.Rows rows) = Unit {0}
IsListing (reply.Found found) = ⊥
IsListing reply.Applied = ⊥
IsListing (reply.NotMet found) = ⊥
IsListing (reply.NotAll k found) = ⊥

---- changes of a box

-- Only the box with that number changed, and only at keys that pass the test. No count of failures fell.
pub record ChangesOnly (p : Key → Bool) (at : ℕ) (old new : List Part) : Type 0 where
  pub size : length new ≡ length old
  pub others : (i : ℕ) → (i == at) ≡ false → contents_at new i ≡ contents_at old i
  pub outside : (k : Key) → p k ≡ false → get (contents_at new at) k ≡ get (contents_at old at) k
  pub grown : HaveGrown old new

-- Contents only lost records.
abbrev pub Shrinks : Contents → Contents → Type 0
Shrinks old new = (k : Key) → (get new k ≡ None) ⊎ (get new k ≡ get old k)

-- There is nothing at the key of a record, or that record.
abbrev pub IsAtMost : Record → Contents → Type 0
IsAtMost r m = (get m r.key ≡ None) ⊎ (get m r.key ≡ Some r.columns)

-- The record is gone where it had an id and a state.
abbrev pub IsGone : Contents → Contents → Record → Type 0
IsGone old new r = HasVersion r → IsAtMost r old → get new r.key ≡ None

-- the records' keys
abbrev pub keys_of : List Record → List Key
keys_of rows = map (λ r. r.key) rows

-- Where there was at the keys of records of some contents at most what those have there, there is now exactly that.
abbrev pub IsCopied : List Record → Contents → Contents → Contents → Type 0
IsCopied rows m old new =
    All (λ r. get m r.key ≡ Some r.columns) rows → ((k : Key) → has_key (keys_of rows) k ≡ true → (get old k ≡ None) ⊎ (get old k ≡ get m k)) → (k : Key) → has_key (keys_of rows) k ≡ true → get new k ≡ get m k

---- refusals

-- Why a move, or a part of it, was refused: what is known where no box has the number, where a call failed, and of the key of a record in the way.
abbrev pub IsRefusal : Type 0 → Type 0 → (Key → Type 0) → MoveRefused → Type 0
IsRefusal no_box fault occupied refused.NoBox = no_box
IsRefusal no_box fault occupied refused.Fault = fault
IsRefusal no_box fault occupied (refused.Occupied key) = occupied key
IsRefusal no_box fault occupied refused.NoMemory = Unit {0}

-- Why a call that was answered so had not the effect that was wanted.
abbrev pub IsUndone : Reply → MoveRefused → Type 0
IsUndone r = IsRefusal ⊥ (r ≡ reply.Fault) (λ key. ⊥)

-- Why calls of boxes stopped.
abbrev pub IsStop : List Part → List Part → MoveRefused → Type 0
IsStop old new = IsRefusal ⊥ (HaveRisen old new) (λ key. ⊥)

-- Why records may not be taken out.
abbrev pub IsInTheWay : List Record → List Record → MoveRefused → Type 0
IsInTheWay coming there = IsRefusal ⊥ ⊥ (IsBlocked coming there)

-- Why records were not copied.
abbrev pub IsCopyRefusal : List Record → List Record → List Part → List Part → MoveRefused → Type 0
IsCopyRefusal coming there old new = IsRefusal ⊥ (HaveRisen old new) (IsBlocked coming there)
