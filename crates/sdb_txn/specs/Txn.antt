-- A transaction, and where each reply leads it.
use Rattle.std.specs.Prelude.{◌≡◌, ◌≢◌, ◌≤◌, ℤ, false, List, length, Option, Some, None, slice_get}
use Rattle.sdb_txn.specs.Types.{Access, Key, Outcome, Record, Reply, Request, Span, TxId}
use Rattle.sdb_record.specs.declared.access.Access.TheVariants as access
use Rattle.sdb_phases.specs.declared.step.Outcome.TheVariants as outcome
use Rattle.sdb_phases.specs.Work.{Work}
use Rattle.sdb_phases.specs.Commit.{Over, after as commit_after, pending as commit_pending, preparing, step as commit_step}
use Rattle.sdb_phases.specs.CommitLaws.{AreReplies, exact_calls, most_calls, seen}
use Rattle.sdb_txn.specs.Phases.{CommitAt, IsNext, ended_at}
use Rattle.sdb_txn.specs.declared.read.ReadStep.{ReadStep}
use Rattle.sdb_txn.specs.declared.read.ReadStep.TheVariants as step
use Rattle.sdb_txn.specs.Read.{ReadAt, ReadStage, Asking, read_pending, read_result, read_step, request_of}
use Rattle.sdb_snapshot.specs.Reads.{IsFirstDifference, IsUnmoved, is_key_read}
use Rattle.sdb_snapshot.specs.Seen.{Seen, nothing, overlay, with_get, with_scan}
use Rattle.sdb_txn.specs.declared.progress.Progress.{Progress}
use Rattle.sdb_txn.specs.declared.progress.Progress.TheVariants as progress
use Rattle.sdb_txn.specs.declared.txn.Doing.{Doing}
use Rattle.sdb_txn.specs.declared.txn.Doing.TheVariants as doing

-- what a transaction has read and written, and what it does
pub record TxnAt : Type 0 where
  pub id : TxId
  pub seen : Seen
  pub doing : Doing

abbrev pub begun : TxId → TxnAt
begun id = record { id = id; seen = nothing; doing = doing.Idle }

abbrev pub pending_in : Doing → Option Request
pending_in doing.Idle = None
pending_in (doing.Read a r) = read_pending r
pending_in (doing.Commit c) = commit_pending c.work c.stage
pending_in doing.Over = None

-- the call that is pending
abbrev pub pending : TxnAt → Option Request
pending t = pending_in t.doing

---- a read

-- a get of a key that was read makes no call
abbrev pub IsUnread : Seen → Access → Type 0
IsUnread s (access.Get key) = is_key_read s.read_set key ≡ false
IsUnread s (access.Scan span) = Unit {0}

-- the rows of an access are asked for
abbrev pub reading : TxnAt → Access → TxnAt
reading t a = record t { doing = doing.Read a (record { request = request_of a; stage = Asking }) }

-- A read without a call shows the rows that the transaction sees there; it may be out of memory. It changes nothing.
pub record IsLookedUp (t : TxnAt) (a : Access) (p : Progress) (u : TxnAt) : Type 0 where
  pub rows : p ≢ progress.NoMemory → p ≡ progress.Rows (overlay a t.seen)
  pub same : u ≡ t

-- A read that makes a call has it pending, or is out of memory and changes nothing.
pub record IsBegun (t : TxnAt) (a : Access) (p : Progress) (u : TxnAt) : Type 0 where
  pub more : p ≡ progress.More → u ≡ reading t a
  pub memory : p ≢ progress.More → (p ≡ progress.NoMemory) × (u ≡ t)

-- nothing is done
abbrev pub idle : TxnAt → TxnAt
idle t = record t { doing = doing.Idle }

-- The images of a get of a key that was not read are recorded, and the row that is seen then is returned.
pub record KeyPost (t : TxnAt) (key : Key) (images : List Record) (p : Progress) (u : TxnAt) : Type 0 where
  pub unread : is_key_read t.seen.read_set key ≡ false
  pub as_read : u ≡ record (idle t) { seen = with_get t.seen key (slice_get images 0) }
  pub rows : p ≡ progress.Rows (overlay (access.Get key) u.seen)

-- The images of a scan are recorded where no key that was read differs, and the rows that are seen then are returned; the first key
-- that differs ends the transaction.
abbrev pub SpanPost : TxnAt → Span → List Record → Progress → TxnAt → Type 0
SpanPost t span images (progress.Rows rows) u = IsUnmoved t.seen.read_set span images × (u ≡ record (idle t) { seen = with_scan t.seen span images }) × (rows ≡ overlay (access.Scan span) u.seen)
SpanPost t span images (progress.Conflict key found) u = IsFirstDifference t.seen.read_set span images key found × (u ≡ record t { doing = doing.Over })
SpanPost t span images p u = ⊥

abbrev pub ImagesPost : TxnAt → Access → List Record → Progress → TxnAt → Type 0
ImagesPost t (access.Get key) images p u = KeyPost t key images p u
ImagesPost t (access.Scan span) images p u = SpanPost t span images p u

-- what the end of a read is returned as
abbrev pub EndPost : TxnAt → Access → ReadStep → Progress → TxnAt → Type 0
EndPost t a (step.Images images) p u = ImagesPost t a images p u
EndPost t a (step.Busy key id at) p u = (p ≡ progress.Busy key id at) × (u ≡ idle t)
EndPost t a step.Faulted p u = (p ≡ progress.Faulted) × (u ≡ idle t)
EndPost t a (step.BadRecord key) p u = (p ≡ progress.BadRecord key) × (u ≡ idle t)
EndPost t a s p u = ⊥

-- What the step of a read is returned as, where its reply leads to a stage.
abbrev pub StepPost : TxnAt → Access → ReadAt → ReadStage → ReadStep → Progress → TxnAt → Type 0
StepPost t a x next step.More p u = (p ≡ progress.More) × (u ≡ record t { doing = doing.Read a (record x { stage = next }) })
StepPost t a x next s p u = EndPost t a s p u

-- A reply leads a read where the definition of a read says; or it is out of memory, and has recorded no read.
pub record ReadPost (t : TxnAt) (a : Access) (x : ReadAt) (r : Reply) (now : ℤ) (p : Progress) (u : TxnAt) : Type 0 where
  pub memory : p ≡ progress.NoMemory → u ≡ idle t
  pub answered : p ≢ progress.NoMemory → StepPost t a x (read_step x.stage now r) (read_result (read_step x.stage now r)) p u

---- a COMMIT

abbrev pub work_of : TxnAt → ℤ → Work
work_of t now = record { id = t.id; now = now; writes = t.seen.writes; reads = t.seen.reads; scans = t.seen.scans }

-- the COMMIT is accepted
abbrev pub committing : TxnAt → ℤ → TxnAt
committing t now = record { id = t.id; seen = nothing; doing = doing.Commit (record { work = work_of t now; stage = preparing (work_of t now) 0 }) }

-- The calls of a COMMIT, whatever each is replied: two for each write, one for each extra read and one for the deciding put, where it is
-- answered Committed and no call faulted; and at most three more else.
pub record AreCallsCounted (p : Work) : Type 0 where
  pub exact : (past : List Reply) → AreReplies p past → commit_after p past ≡ Over outcome.Committed → (seen p past).faulted ≡ false → length past ≡ exact_calls p
  pub most : (past : List Reply) → AreReplies p past → length past ≤ most_calls p

abbrev pub progress_of : Option Outcome → Progress
progress_of None = progress.More
progress_of (Some outcome.Committed) = progress.Committed
progress_of (Some (outcome.Conflict key found)) = progress.Conflict key found
progress_of (Some (outcome.Expired id)) = progress.Expired id
progress_of (Some outcome.Faulted) = progress.Faulted
progress_of (Some (outcome.Unknown id)) = progress.Unknown id
progress_of (Some (outcome.BadRecord key)) = progress.BadRecord key
progress_of (Some outcome.NoMemory) = progress.NoMemory

---- by what a transaction does

abbrev pub IfReading : Doing → (Access → ReadAt → Type 0) → Type 0
IfReading (doing.Read a x) P = P a x
IfReading d P = Unit {0}

abbrev pub IsReading : Doing → Type 0
IsReading (doing.Read a x) = Unit {0}
IsReading d = ⊥

abbrev pub IfCommitting : Doing → (CommitAt → Type 0) → Type 0
IfCommitting (doing.Commit c) P = P c
IfCommitting d P = Unit {0}

abbrev pub IsCommitting : Doing → (CommitAt → Type 0) → Type 0
IsCommitting (doing.Commit c) P = P c
IsCommitting d P = ⊥

-- A reply leads a COMMIT where the definition of a COMMIT says, and its answer ends the transaction, which keeps its id.
pub record CommitPost (t : TxnAt) (c : CommitAt) (r : Reply) (p : Progress) (u : TxnAt) : Type 0 where
  pub answer : p ≡ progress_of (ended_at (commit_step c.work c.stage r))
  pub next : p ≡ progress.More → IsCommitting u.doing (λ d. (d.work ≡ c.work) × IsNext c.work c.stage r d.stage)
  pub over : p ≢ progress.More → u.doing ≡ doing.Over
  pub same : u.id ≡ t.id
