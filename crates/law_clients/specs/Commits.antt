-- What holds of a COMMIT where its client is alone.
use Rattle.std.specs.Prelude.{◌≡◌, ◌⊎◌, ◌<◌, ◌≤◌, ◌^◌, ℕ, true, false, slice_get, List, Option, Some, None}
use Rattle.std.specs.List.{AllByRecursion}
use Rattle.law_clients.specs.Types.{DecidePhase, Key, Outcome, Read, Record, Scan, Table, Write}
use Rattle.sdb_types.specs.declared.record.State.TheVariants as state
use Rattle.sdb_types.specs.Order.{same_key}
use Rattle.sdb_types.specs.Contents.{in_span}
use Rattle.sdb_record.specs.Among.{is_written, version_among}
use Rattle.sdb_record.specs.Coordinator.{coordinator_key_of}
use Rattle.sdb_record.specs.Groups.{in_groups}
use Rattle.sdb_record.specs.Meta.{id_in, is_in, is_moment}
use Rattle.sdb_record.specs.Moved.{version_of}
use Rattle.sdb_record.specs.Rolls.{IsWrite, forward_record, prepared_record}
use Rattle.sdb_phases.specs.declared.step.Outcome.TheVariants as outcome
use Rattle.sdb_phases.specs.declared.step.DecidePhase.TheVariants as phase
use Rattle.sdb_phases.specs.Work.{Work, writes_before}
use Rattle.sdb_phases.specs.Commit.{Stage, Preparing, Checking, Deciding, Forward, Stopping, Back, Over}
use Rattle.sdb_snapshot.specs.Written.{HaveKeysOnce}
use Rattle.sdb_validate.specs.Rescan.{reads_rise}
use Rattle.law_clients.specs.Database.{Database, is_committed_or_none, is_listed}
use Rattle.law_clients.specs.Recovers.{IsAborted, IsCommittedAt, IsUndecided}

---- what a COMMIT is accepted with

-- a get read the record that is at its key
pub record IsReadCurrent (catalog : List Table) (g : Database) (r : Read) : Type 0 where
  pub listed : is_listed catalog r.key ≡ true
  pub firm : is_committed_or_none (g r.key) ≡ true
  pub version : r.version ≡ version_of (g r.key)

-- a scan found what is in its span, and nothing else
pub record IsScanCurrent (catalog : List Table) (g : Database) (x : Scan) : Type 0 where
  pub rise : reads_rise x.found ≡ true
  pub outside : (k : Key) → in_span x.span k ≡ false → version_among x.found k ≡ None
  pub inside : (k : Key) → in_span x.span k ≡ true → (is_listed catalog k ≡ true) × (is_committed_or_none (g k) ≡ true) × (version_of (g k) ≡ version_among x.found k)

-- a write is fit, of a table's key, over the record that is there
pub record IsBaseCurrent (catalog : List Table) (g : Database) (w : Write) : Type 0 where
  pub is_write : IsWrite w
  pub listed : is_listed catalog w.key ≡ true
  pub base : g w.key ≡ w.base

-- A COMMIT is accepted: its id is new, and what its transaction has read and is to write over is current.
pub record WorkAlone (catalog : List Table) (start : Database) (p : Work) : Type 0 where
  pub fits : p.id.0 < 2 ^ 128
  pub time : is_moment p.now ≡ true
  pub fresh : IsUndecided start p.id
  pub unused : (k : Key) (r : Record) → is_listed catalog k ≡ true → start k ≡ Some r → is_in state.Committed r.columns ≡ false → id_in r.columns ≡ Some p.id → ⊥
  pub once : HaveKeysOnce p.writes
  pub writes : AllByRecursion (IsBaseCurrent catalog start) p.writes
  pub reads : AllByRecursion (IsReadCurrent catalog start) p.reads
  pub scans : AllByRecursion (IsScanCurrent catalog start) p.scans

---- the keys that it writes

-- this holds of each write, and of the record at its key
abbrev pub EachWrite : Work → (Write → Option Record → Type 0) → Database → Type 0
EachWrite p P g = (j : ℕ) (w : Write) → slice_get p.writes j ≡ Some w → P w (g w.key)

abbrev pub IsBased : Work → Write → Option Record → Type 0
IsBased p w o = o ≡ w.base

abbrev pub IsPrepared : Work → Write → Option Record → Type 0
IsPrepared p w o = o ≡ Some (prepared_record w p.id p.now)

-- the base, or what was prepared
abbrev pub IsLoose : Work → Write → Option Record → Type 0
IsLoose p w o = IsBased p w o ⊎ IsPrepared p w o

-- what was prepared, or that rolled forward
abbrev pub IsWon : Work → Write → Option Record → Type 0
IsWon p w o = IsPrepared p w o ⊎ (o ≡ Some (forward_record (prepared_record w p.id p.now) p.now))

-- the first so many, in the order of the groups, are prepared, and the others as they were
pub record ArePrepared (p : Work) (n : ℕ) (g : Database) : Type 0 where
  pub below : (j : ℕ) (w : Write) → j < n → slice_get (in_groups p.writes) j ≡ Some w → IsPrepared p w (g w.key)
  pub from : (j : ℕ) (w : Write) → n ≤ j → slice_get (in_groups p.writes) j ≡ Some w → IsBased p w (g w.key)

-- it isn't committed, and no call of its client that is still to come commits it
abbrev pub IsGivenUp : Work → Database → Type 0
IsGivenUp p g = (IsUndecided g p.id ⊎ IsAborted g p.id) × EachWrite p (IsLoose p) g

-- it is
abbrev pub IsDone : Work → Database → Type 0
IsDone p g = IsCommittedAt g p.id p.now × EachWrite p (IsWon p) g

-- A COMMIT that stopped answers a fault or out of memory.
abbrev pub IsFailure : Outcome → Type 0
IsFailure outcome.Faulted = Unit {0}
IsFailure outcome.NoMemory = Unit {0}
IsFailure a = ⊥

-- Where it has ended its answer says what the database has; Conflict, Expired and BadRecord never come.
abbrev pub EndedAlone : Work → Database → Outcome → Type 0
EndedAlone p g outcome.Committed = IsDone p g
EndedAlone p g outcome.Faulted = IsGivenUp p g
EndedAlone p g outcome.NoMemory = IsGivenUp p g
EndedAlone p g (outcome.Unknown id) = (id ≡ p.id) × (IsGivenUp p g ⊎ IsDone p g)
EndedAlone p g (outcome.Conflict key found) = ⊥
EndedAlone p g (outcome.Expired id) = ⊥
EndedAlone p g (outcome.BadRecord key) = ⊥

abbrev pub DecidingAlone : Work → Database → DecidePhase → Type 0
DecidingAlone p g phase.Put = IsUndecided g p.id
DecidingAlone p g phase.Look = IsUndecided g p.id ⊎ IsCommittedAt g p.id p.now
DecidingAlone p g phase.Abort = IsUndecided g p.id
DecidingAlone p g phase.Again = IsUndecided g p.id ⊎ IsAborted g p.id
DecidingAlone p g phase.Ended = ⊥

-- The database where a COMMIT is at a stage.
abbrev pub StageAlone : Work → Database → Stage → Type 0
StageAlone p g (Preparing i) = IsUndecided g p.id × ArePrepared p (writes_before p i) g
StageAlone p g (Checking i) = IsUndecided g p.id × EachWrite p (IsPrepared p) g
StageAlone p g (Deciding d) = DecidingAlone p g d × EachWrite p (IsPrepared p) g
StageAlone p g (Forward i) = IsDone p g
StageAlone p g (Stopping a n) = IsUndecided g p.id × EachWrite p (IsLoose p) g × IsFailure a
StageAlone p g (Back a n i) = IsAborted g p.id × EachWrite p (IsLoose p) g × IsFailure a
StageAlone p g (Over a) = EndedAlone p g a

-- all but what it writes, and its own row, is as before
abbrev pub OthersUnchanged : Work → Database → Database → Type 0
OthersUnchanged p start g = (k : Key) → is_written p.writes k ≡ false → same_key k (coordinator_key_of p.id) ≡ false → g k ≡ start k

-- A COMMIT of a client that is alone, since it was accepted.
pub record CommitAlone (catalog : List Table) (start : Database) (p : Work) (g : Database) (s : Stage) : Type 0 where
  pub work : WorkAlone catalog start p
  pub others : OthersUnchanged p start g
  pub stage : StageAlone p g s
