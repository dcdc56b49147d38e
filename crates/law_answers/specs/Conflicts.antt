-- What a COMMIT has prepared and checked by its calls so far, and why it ends with a conflict.
use Rattle.std.specs.Prelude.{◌≡◌, ◌<◌, ℕ, true, List, Some, Contains, slice_get}
use Rattle.std.specs.List.{AllByRecursion}
use Rattle.law_answers.specs.Types.{Key, Outcome, Write}
use Rattle.sdb_record.specs.Among.{is_written}
use Rattle.sdb_record.specs.Groups.{grouped}
use Rattle.sdb_model.specs.Calls.{StoreCall}
use Rattle.sdb_model.specs.Causes.{ConflictsAtCommit, prepares_key}
use Rattle.sdb_model.specs.ReadSet.{ReadItem}
use Rattle.sdb_phases.specs.declared.step.Outcome.TheVariants as outcome
use Rattle.sdb_phases.specs.Commit.{Stage, Preparing, Checking, Deciding, Forward, Stopping, Back, Over}
use Rattle.sdb_phases.specs.Work.{Work, groups_of, prepares_of}

-- the calls prepare only keys that are written
abbrev pub PreparesOnly : Work → List StoreCall → Type 0
PreparesOnly p calls = AllByRecursion (λ m. (q : Key) → prepares_key p.id q m ≡ true → is_written p.writes q ≡ true) calls

-- so many of the groups, from the first, were prepared
abbrev pub HasPrepared : Work → ℕ → List StoreCall → Type 0
HasPrepared p n calls = (j : ℕ) (g : List Write) → j < n → slice_get (grouped p.writes) j ≡ Some g → (m : StoreCall) × Contains calls m × (m.request ≡ prepares_of p.id p.now g)

-- why it ends with a conflict
abbrev pub ConflictBy : List ReadItem → Work → List StoreCall → Outcome → Type 0
ConflictBy read_set p calls (outcome.Conflict key found) = ConflictsAtCommit calls read_set p.id key found
ConflictBy read_set p calls a = Unit {0}

-- What the calls say where it is.
abbrev pub ChecksBy : List ReadItem → Work → List StoreCall → Stage → Type 0
ChecksBy read_set p calls (Preparing i) = PreparesOnly p calls × HasPrepared p i calls
ChecksBy read_set p calls (Checking i) = PreparesOnly p calls × HasPrepared p (groups_of p) calls
ChecksBy read_set p calls (Deciding d) = Unit {0}
ChecksBy read_set p calls (Forward i) = Unit {0}
ChecksBy read_set p calls (Stopping a n) = ConflictBy read_set p calls a
ChecksBy read_set p calls (Back a n i) = ConflictBy read_set p calls a
ChecksBy read_set p calls (Over a) = ConflictBy read_set p calls a
