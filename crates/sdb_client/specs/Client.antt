-- A client, and where each statement and each reply leads it.
use Rattle.std.specs.Prelude.{◌≡◌, ◌≢◌, ℕ, ℤ, ◌+◌, nat_lt, Bool, true, false, not, ◌&&◌, ◌||◌, if◌then◌else◌, List, [], ◌∷◌, length, Option, Some, None, IfSome, IsSome, IsSomeAnd, ◌⊎◌, is_some, Result, Ok, Err, slice_get}
use Rattle.sdb_client.specs.Types.{Access, Answer, Doing, Key, Keyed, PlanStep, Progress, ReadStep, Record, Refusal, Reply, Request, Statement, Table, TxId, VacuumStep}
use Rattle.sdb_record.specs.declared.access.Access.TheVariants as access
use Rattle.sdb_model.specs.declared.answer.Answer.TheVariants as answer
use Rattle.sdb_model.specs.declared.statement.Statement.TheVariants as statement
use Rattle.sdb_model.specs.Causes.{refused}
use Rattle.sdb_model.specs.Exec.{named_table}
use Rattle.sdb_model.specs.Refused.{refusal_of}
use Rattle.sdb_model.specs.Sql.{Reads, Refuses, reads_commit}
use Rattle.sdb_model.specs.Transactions.{changes_nothing, id_of}
use Rattle.sdb_exec.specs.declared.plan.PlanStep.TheVariants.{Finished, Read as Wants}
use Rattle.sdb_exec.specs.Plans.{Planned, step_of}
use Rattle.sdb_model.specs.Reads.{access_of}
use Rattle.sdb_txn.specs.Phases.{CommitAt}
use Rattle.sdb_txn.specs.declared.read.ReadStep.TheVariants as step
use Rattle.sdb_txn.specs.Read.{ReadAt, ReadStage, read_result, read_step}
use Rattle.sdb_snapshot.specs.Reads.{IsFirstDifference, IsUnmoved, is_key_read}
use Rattle.sdb_snapshot.specs.Seen.{Seen, is_scanned, overlay, with_get, with_scan, with_written}
use Rattle.sdb_snapshot.specs.Written.{most_writes}
use Rattle.sdb_txn.specs.declared.progress.Progress.TheVariants as progress
use Rattle.sdb_txn.specs.declared.txn.Doing.TheVariants as doing
use Rattle.sdb_txn.specs.Txn.{TxnAt, CommitPost, begun, committing, idle, pending, reading}
use Rattle.sdb_vacuum.specs.declared.work.VacuumStep.TheVariants as vacuuming
use Rattle.sdb_vacuum.specs.Vacuum.{VacuumAt, Gives, begun as sweeping, vacuum_pending, vacuum_step}
use Rattle.sdb_client.specs.declared.gate.Gate.{Gate}
use Rattle.sdb_client.specs.declared.next.Next.{Next}
use Rattle.sdb_client.specs.declared.next.Next.TheVariants as next

-- A client: its number, how many transactions it has begun, the one that is open, the plan of the statement that reads, and the VACUUM
-- that it runs.
pub record ClientAt : Type 0 where
  pub number : ℕ
  pub begun : ℕ
  pub txn : Option TxnAt
  pub plan : Option Planned
  pub vacuum : Option VacuumAt

-- it has done nothing
abbrev pub nothing_done : ℕ → ClientAt
nothing_done number = record { number = number; begun = 0; txn = None; plan = None; vacuum = None }

abbrev pub pending_of : Option TxnAt → Option Request
pending_of None = None
pending_of (Some t) = pending t

-- a VACUUM's call, or else a transaction's
abbrev pub pending_by : Option VacuumAt → Option TxnAt → Option Request
pending_by (Some v) t = vacuum_pending v
pending_by None t = pending_of t

-- the call that is pending
abbrev pub client_pending : ClientAt → Option Request
client_pending c = pending_by c.vacuum c.txn

-- It waits for a statement: it runs no VACUUM, and no transaction is open, or the open one does nothing.
pub record IsIdle (c : ClientAt) : Type 0 where
  pub free : c.vacuum ≡ None
  pub still : IfSome c.txn (λ t. t.doing ≡ doing.Idle)

-- it waits for a reply
abbrev pub IsBusy : ClientAt → Type 0
IsBusy c = IsSomeAnd c.txn (λ t. t.doing ≢ doing.Idle) ⊎ IsSome c.vacuum

-- no transaction is open
abbrev pub resting : ClientAt → ClientAt
resting c = record c { txn = None; plan = None }

-- this one is, and no statement of it waits
abbrev pub holding : ClientAt → TxnAt → ClientAt
holding c t = record c { txn = Some t; plan = None }

---- what a plan gives

-- a statement that writes would write more keys than a transaction may
abbrev pub too_many : TxnAt → List Keyed → Bool
too_many t [] = false
too_many t (k ∷ ks) = nat_lt most_writes (length (with_written t.seen (k ∷ ks)).writes)

-- What a statement is answered by what its plan gives: that answer, or that its writes are too many.
abbrev pub given_answer : TxnAt → PlanStep → Answer
given_answer t (Finished a ks) = if not (changes_nothing a) && too_many t ks then refused 15 else a
given_answer t (Wants a) = answer.NoMemory

-- with changes written
abbrev pub written : TxnAt → List Keyed → TxnAt
written t ks = record t { seen = with_written t.seen ks }

abbrev pub is_out_of_memory : Answer → Bool
is_out_of_memory answer.NoMemory = true
is_out_of_memory a = false

-- The transaction that a statement leaves, which read it as `t`: with its changes written, or, where it is answered that it changed
-- nothing, as it read it. What it read stays in its read set.
abbrev pub left_by_answer : TxnAt → Answer → List Keyed → TxnAt
left_by_answer t z ks = if changes_nothing z then t else written t ks

abbrev pub given_left : TxnAt → PlanStep → TxnAt
given_left t (Finished a ks) = left_by_answer t (given_answer t (Finished a ks)) ks
given_left t (Wants a) = t

-- a statement's plan on the rows that its transaction sees
abbrev pub gives : Planned → Access → TxnAt → PlanStep
gives p a t = step_of p (overlay a t.seen)

-- the plan of a statement on its table, for which rows are asked
abbrev pub plan_of : Table → Statement → Planned
plan_of table st = record { table = table; statement = st; asked = true }

-- an access can be answered from what was read: its key was read, or its span scanned
abbrev pub is_covered : Seen → Access → Bool
is_covered s (access.Get key) = is_key_read s.read_set key
is_covered s (access.Scan span) = is_scanned s.scans span

---- a statement that is accepted

-- What a statement is accepted with: the catalog, the moment, what other clients do, and the id of a transaction that it begins.
pub record Taking : Type 0 where
  pub catalog : List Table
  pub now : ℤ
  pub gate : Gate
  pub fresh : TxId

-- A statement is answered at once, and its client is as before.
pub record IsAnsweredAtOnce (c : ClientAt) (a : Answer) (result : Option Answer) (d : ClientAt) : Type 0 where
  pub answer : result ≡ Some a
  pub same : d ≡ c

-- the id of the next transaction of a client that numbers its transactions
abbrev pub next_id : ClientAt → TxId
next_id c = id_of c.number (c.begun + 1)

-- a transaction of this id is open
abbrev pub with_begun : ClientAt → TxId → ClientAt
with_begun c fresh = record { number = c.number; begun = c.begun + 1; txn = Some (begun fresh); plan = None; vacuum = None }

abbrev pub GatePost : Bool → TxId → ClientAt → Option Answer → ClientAt → Type 0
GatePost true fresh c result d = IsAnsweredAtOnce c answer.Vacuuming result d
GatePost false fresh c result d = (result ≡ Some answer.Done) × (d ≡ with_begun c fresh)

-- BEGIN is refused inside of a transaction, and turned away while a VACUUM runs; else a transaction begins.
abbrev pub BeginPost : Gate → TxId → ClientAt → Option TxnAt → Option Answer → ClientAt → Type 0
BeginPost gate fresh c (Some t) result d = IsAnsweredAtOnce c (refused 4) result d
BeginPost gate fresh c None result d = GatePost gate.vacuum_runs fresh c result d

-- COMMIT is refused outside of a transaction; else its first call is pending.
abbrev pub CommitStartPost : ℤ → ClientAt → Option TxnAt → Option Answer → ClientAt → Type 0
CommitStartPost now c None result d = IsAnsweredAtOnce c (refused 5) result d
CommitStartPost now c (Some t) result d = (result ≡ None) × (d ≡ holding c (committing t now))

-- ROLLBACK is refused outside of a transaction; else it ends the transaction.
abbrev pub RollbackPost : ClientAt → Option TxnAt → Option Answer → ClientAt → Type 0
RollbackPost c None result d = IsAnsweredAtOnce c (refused 5) result d
RollbackPost c (Some t) result d = (result ≡ Some answer.Done) × (d ≡ resting c)

-- VACUUM is turned away where a transaction is open. Over an empty catalog it has nothing to do; else its first call is pending.
abbrev pub VacuumStartPost : Bool → List Table → ClientAt → Option Answer → ClientAt → Type 0
VacuumStartPost true catalog c result d = IsAnsweredAtOnce c answer.OpenTransactions result d
VacuumStartPost false [] c result d = IsAnsweredAtOnce c (answer.Count 0) result d
VacuumStartPost false (t ∷ ts) c result d = (result ≡ None) × (d ≡ record c { vacuum = Some (sweeping (t ∷ ts)) })

-- A statement reads: from what was read before it is answered at once; else the call for its rows is pending.
pub record RowsPost (p : Planned) (a : Access) (c : ClientAt) (t : TxnAt) (result : Option Answer) (d : ClientAt) : Type 0 where
  pub known : is_covered t.seen a ≡ true → (result ≡ Some (given_answer t (gives p a t))) × (d ≡ holding c (given_left t (gives p a t)))
  pub unknown : is_covered t.seen a ≡ false → (result ≡ None) × (d ≡ record c { txn = Some (reading t a); plan = Some p })

-- A statement on a table is refused by the catalog, or reads.
pub record TablePost (catalog : List Table) (st : Statement) (c : ClientAt) (t : TxnAt) (result : Option Answer) (d : ClientAt) : Type 0 where
  pub refused : (r : Refusal) → refusal_of catalog st ≡ Some r → IsAnsweredAtOnce c (answer.Refused r) result d
  pub reads : (table : Table) → refusal_of catalog st ≡ None → named_table catalog st ≡ Some table → RowsPost (plan_of table st) (access_of table st) c t result d

-- It is refused outside of a transaction.
abbrev pub AskPost : List Table → Statement → ClientAt → Option TxnAt → Option Answer → ClientAt → Type 0
AskPost catalog st c None result d = IsAnsweredAtOnce c (refused 5) result d
AskPost catalog st c (Some t) result d = TablePost catalog st c t result d

-- What the taking of a statement comes to.
abbrev pub StatementPost : Taking → Statement → ClientAt → Option Answer → ClientAt → Type 0
StatementPost q statement.Begin c result d = BeginPost q.gate q.fresh c c.txn result d
StatementPost q statement.Commit c result d = CommitStartPost q.now c c.txn result d
StatementPost q statement.Rollback c result d = RollbackPost c c.txn result d
StatementPost q statement.Vacuum c result d = VacuumStartPost (is_some c.txn || q.gate.open_elsewhere) q.catalog c result d
StatementPost q st c result d = AskPost q.catalog st c c.txn result d

-- what a text says: the statement that it is read as, or what it is refused for
abbrev pub Parses : List ℕ → Result Statement Refusal → Type 0
Parses text (Ok st) = Reads text st
Parses text (Err r) = Refuses text r

abbrev pub ParsedPost : Taking → Result Statement Refusal → ClientAt → Option Answer → ClientAt → Type 0
ParsedPost q (Ok st) c result d = StatementPost q st c result d
ParsedPost q (Err r) c result d = IsAnsweredAtOnce c (answer.Refused r) result d

-- What the taking of a text comes to, unless memory runs out.
abbrev pub TextPost : Taking → List ℕ → ClientAt → Option Answer → ClientAt → Type 0
TextPost q text c result d = (x : Result Statement Refusal) × Parses text x × ParsedPost q x c result d

-- What out of memory leaves: a COMMIT ends its transaction, and each other statement leaves all as it was.
abbrev pub out_of_memory : List ℕ → ClientAt → ClientAt
out_of_memory text c = if reads_commit text then resting c else c

---- a reply that is accepted

-- the transaction with what a read has found
abbrev pub with_rows_read : TxnAt → Access → List Record → TxnAt
with_rows_read t (access.Get key) images = record (idle t) { seen = with_get t.seen key (slice_get images 0) }
with_rows_read t (access.Scan span) images = record (idle t) { seen = with_scan t.seen span images }

-- a get is of a key that was not read, and a scan finds each key that was read as it was read
abbrev pub IsAsRead : TxnAt → Access → List Record → Type 0
IsAsRead t (access.Get key) images = is_key_read t.seen.read_set key ≡ false
IsAsRead t (access.Scan span) images = IsUnmoved t.seen.read_set span images

-- this is the first key that it finds otherwise
abbrev pub IsChangedAt : TxnAt → Access → List Record → Key → Option Record → Type 0
IsChangedAt t (access.Get key) images moved found = ⊥
IsChangedAt t (access.Scan span) images moved found = IsFirstDifference t.seen.read_set span images moved found

-- A statement that has read is answered from the rows that its transaction then sees; or its read doesn't agree with those before,
-- and ends the transaction.
abbrev pub RowsReadPost : TxnAt → Planned → Access → List Record → Next → TxnAt → Type 0
RowsReadPost t p a images (next.Answer z) u = IsAsRead t a images × (z ≡ given_answer (with_rows_read t a images) (gives p a (with_rows_read t a images))) × (u ≡ given_left (with_rows_read t a images) (gives p a (with_rows_read t a images)))
RowsReadPost t p a images (next.End (answer.Conflict key found)) u = IsChangedAt t a images key found
RowsReadPost t p a images n u = ⊥

-- What the call of a read comes to, by the stage that its reply leads to.
abbrev pub StagePost : TxnAt → Planned → Access → ReadAt → ReadStage → ReadStep → Next → TxnAt → Type 0
StagePost t p a x after step.More n u = (n ≡ next.Call) × (u ≡ record t { doing = doing.Read a (record x { stage = after }) })
StagePost t p a x after (step.Images images) n u = RowsReadPost t p a images n u
StagePost t p a x after (step.Busy key id at) n u = (n ≡ next.Answer (answer.Busy key id at)) × (u ≡ idle t)
StagePost t p a x after step.Faulted n u = (n ≡ next.Answer answer.Faulted) × (u ≡ idle t)
StagePost t p a x after (step.BadRecord key) n u = (n ≡ next.Answer (answer.BadRecord key)) × (u ≡ idle t)
StagePost t p a x after step.NoMemory n u = ⊥

-- A reply leads a statement where the definition of its read says; or it is out of memory, and has recorded no read.
pub record CallPost (t : TxnAt) (p : Planned) (a : Access) (x : ReadAt) (r : Reply) (now : ℤ) (n : Next) (u : TxnAt) : Type 0 where
  pub memory : n ≡ next.Answer answer.NoMemory → u ≡ idle t
  pub answered : n ≢ next.Answer answer.NoMemory → StagePost t p a x (read_step x.stage now r) (read_result (read_step x.stage now r)) n u

-- the answer of a COMMIT's call; none where another is pending
abbrev pub next_of : Progress → Next
next_of progress.More = next.Call
next_of (progress.Rows rows) = next.End answer.NoMemory
next_of (progress.Busy key id at) = next.End (answer.Busy key id at)
next_of progress.Faulted = next.End answer.Faulted
next_of (progress.BadRecord key) = next.End (answer.BadRecord key)
next_of progress.NoMemory = next.End answer.NoMemory
next_of (progress.Conflict key found) = next.End (answer.Conflict key found)
next_of progress.Committed = next.End answer.Committed
next_of (progress.Expired id) = next.End (answer.Expired id)
next_of (progress.Unknown id) = next.End (answer.Unknown id)

-- the answer that a call gives, if it gives one
abbrev pub answer_in : Next → Option Answer
answer_in next.Call = None
answer_in (next.Answer a) = Some a
answer_in (next.End a) = Some a

-- the client after it
abbrev pub after : ClientAt → Next → TxnAt → ClientAt
after c next.Call u = record c { txn = Some u }
after c (next.Answer a) u = holding c u
after c (next.End a) u = resting c

-- A call of a COMMIT leads where the definition of a COMMIT says, and its answer ends the transaction.
pub record CommitNext (t : TxnAt) (k : CommitAt) (r : Reply) (n : Next) (u : TxnAt) : Type 0 where
  pub progress : Progress
  pub answered : CommitPost t k r progress u
  pub next : n ≡ next_of progress

-- What a reply leads to, by what the transaction does.
abbrev pub NextPost : TxnAt → Doing → Option Planned → Reply → ℤ → Next → TxnAt → Type 0
NextPost t (doing.Read a x) (Some p) r now n u = CallPost t p a x r now n u
NextPost t (doing.Commit k) None r now n u = CommitNext t k r n u
NextPost t d p r now n u = ⊥

-- A reply leads the client's open transaction somewhere, and the client is left there, with the answer that this gives.
pub record TxnPost (c : ClientAt) (t : TxnAt) (r : Reply) (now : ℤ) (result : Option Answer) (d : ClientAt) : Type 0 where
  pub next : Next
  pub left : TxnAt
  pub answered : NextPost t t.doing c.plan r now next left
  pub answer : result ≡ answer_in next
  pub client : d ≡ after c next left

abbrev pub OpenTxnPost : ClientAt → Option TxnAt → Reply → ℤ → Option Answer → ClientAt → Type 0
OpenTxnPost c None r now result d = ⊥
OpenTxnPost c (Some t) r now result d = TxnPost c t r now result d

-- what a VACUUM's call is answered; none where another is pending
abbrev pub answer_of : VacuumStep → Option Answer
answer_of vacuuming.More = None
answer_of (vacuuming.Count n) = Some (answer.Count n)
answer_of vacuuming.Faulted = Some answer.Faulted
answer_of (vacuuming.BadRecord key) = Some (answer.BadRecord key)
answer_of vacuuming.NoMemory = Some answer.NoMemory

-- the VACUUM that goes on
abbrev pub vacuum_left : VacuumStep → VacuumAt → Option VacuumAt
vacuum_left vacuuming.More v = Some v
vacuum_left s v = None

-- A reply leads a VACUUM where its definition says; or it is out of memory. Its answer ends it.
pub record VacuumPost (v : VacuumAt) (r : Reply) (now : ℤ) (result : Option Answer) (w : Option VacuumAt) : Type 0 where
  pub step : VacuumStep
  pub left : VacuumAt
  pub answered : Gives (vacuum_step v now r) left step
  pub answer : result ≡ answer_of step
  pub goes : w ≡ vacuum_left step left

-- A reply leads the VACUUM that the client runs, or else its open transaction.
abbrev pub ReplyPost : ClientAt → Option VacuumAt → Reply → ℤ → Option Answer → ClientAt → Type 0
ReplyPost c (Some v) r now result d = VacuumPost v r now result d.vacuum × (d ≡ record c { vacuum = d.vacuum })
ReplyPost c None r now result d = OpenTxnPost c c.txn r now result d

-- so it is of the reply to the call that is pending
abbrev pub ReplyStep : ClientAt → Request → Reply → ℤ → Option Answer → ClientAt → Type 0
ReplyStep c q r now result d = (client_pending c ≡ Some q) × ReplyPost c c.vacuum r now result d

-- What the taking of a text by a client comes to: that, or out of memory.
pub record TextStep (q : Taking) (text : List ℕ) (c : ClientAt) (result : Option Answer) (d : ClientAt) : Type 0 where
  pub memory : result ≡ Some answer.NoMemory → d ≡ out_of_memory text c
  pub answered : result ≢ Some answer.NoMemory → TextPost q text c result d
