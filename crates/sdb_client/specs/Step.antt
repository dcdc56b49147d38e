-- A client's steps by the protocol: each constructor of `Step` is a row, with what it wants, the answer, and the state after.
use Rattle.std.specs.Prelude.{◌≡◌, ℕ, ℤ, true, false, ◌||◌, List, [], ◌∷◌, Option, Some, None, is_some}
use Rattle.sdb_client.specs.Types.{Access, Answer, Key, Outcome, ReadStep, Record, Refusal, Reply, Request, Statement, Table, TxId, VacuumStep}
use Rattle.sdb_model.specs.declared.answer.Answer.TheVariants as answer
use Rattle.sdb_model.specs.declared.statement.Statement.TheVariants as statement
use Rattle.sdb_model.specs.Causes.{NeedsTransaction, refused}
use Rattle.sdb_model.specs.Exec.{named_table, table_of}
use Rattle.sdb_model.specs.Reads.{access_of}
use Rattle.sdb_model.specs.Refused.{refusal_of}
use Rattle.sdb_model.specs.Sql.{Reads, Refuses, reads_commit}
use Rattle.sdb_exec.specs.Plans.{Planned}
use Rattle.sdb_phases.specs.declared.step.Outcome.TheVariants as outcome
use Rattle.sdb_phases.specs.Commit.{Stage, step as commit_step}
use Rattle.sdb_txn.specs.Phases.{CommitAt, IsNext, ended_at}
use Rattle.sdb_txn.specs.declared.read.ReadStep.TheVariants as step
use Rattle.sdb_txn.specs.Read.{ReadAt, read_result, read_step}
use Rattle.sdb_txn.specs.declared.txn.Doing.TheVariants as doing
use Rattle.sdb_txn.specs.Txn.{TxnAt, committing, idle, reading}
use Rattle.sdb_vacuum.specs.declared.work.VacuumStep.TheVariants as vacuuming
use Rattle.sdb_vacuum.specs.Vacuum.{VacuumAt, Gives, begun as sweeping, vacuum_step}
use Rattle.sdb_client.specs.Client.{ClientAt, IsAsRead, IsChangedAt, Taking, answer_of, client_pending, given_answer, given_left, gives, holding, is_covered, plan_of, resting, with_begun, with_rows_read}

-- What a client does in a step: it takes a text; or it makes its call, and receives the reply at a moment.
pub data Label : Type 0 where
  Takes : (q : Taking) (text : List ℕ) → Label
  Receives : (request : Request) (reply : Reply) (now : ℤ) → Label

---- texts

-- Why a text is answered at once, and its client left as it is: it is no statement; a transaction is open already, or none is; a VACUUM
-- runs, or transactions are open elsewhere; no table is there to VACUUM; the catalog refuses it; or memory runs out, and it is no COMMIT.
pub data AtOnce (c : ClientAt) (q : Taking) (text : List ℕ) : Answer → Type 0 where
  NoStatement : (r : Refusal) → Refuses text r → AtOnce c q text (answer.Refused r)
  OpenAlready : (t : TxnAt) → Reads text statement.Begin → c.txn ≡ Some t → AtOnce c q text (refused 4)
  NoneOpen : (st : Statement) → Reads text st → NeedsTransaction st → c.txn ≡ None → AtOnce c q text (refused 5)
  VacuumRuns : Reads text statement.Begin → c.txn ≡ None → q.gate.vacuum_runs ≡ true → AtOnce c q text answer.Vacuuming
  OthersOpen : Reads text statement.Vacuum → (is_some c.txn || q.gate.open_elsewhere) ≡ true → AtOnce c q text answer.OpenTransactions
  NoTable : Reads text statement.Vacuum → (is_some c.txn || q.gate.open_elsewhere) ≡ false → q.catalog ≡ [] → AtOnce c q text (answer.Count 0)
  ByCatalog : (st : Statement) (t : TxnAt) (r : Refusal) → Reads text st → is_some (table_of st) ≡ true → c.txn ≡ Some t → refusal_of q.catalog st ≡ Some r → AtOnce c q text (answer.Refused r)
  NoMemory : reads_commit text ≡ false → AtOnce c q text answer.NoMemory

-- A statement that the catalog doesn't refuse reads rows of its table in the open transaction.
pub record IsOnRows (c : ClientAt) (q : Taking) (text : List ℕ) (t : TxnAt) (table : Table) (st : Statement) : Type 0 where
  pub reads : Reads text st
  pub opened : c.txn ≡ Some t
  pub accepted : refusal_of q.catalog st ≡ None
  pub named : named_table q.catalog st ≡ Some table

---- replies

-- A statement of the open transaction reads, and its call is pending.
pub record IsReadAt (c : ClientAt) (q : Request) (t : TxnAt) (p : Planned) (a : Access) (x : ReadAt) : Type 0 where
  pub free : c.vacuum ≡ None
  pub opened : c.txn ≡ Some t
  pub plan : c.plan ≡ Some p
  pub doing : t.doing ≡ doing.Read a x
  pub pending : client_pending c ≡ Some q

-- The open transaction commits, and its call is pending.
pub record IsCommitAt (c : ClientAt) (q : Request) (t : TxnAt) (k : CommitAt) : Type 0 where
  pub free : c.vacuum ≡ None
  pub opened : c.txn ≡ Some t
  pub plan : c.plan ≡ None
  pub doing : t.doing ≡ doing.Commit k
  pub pending : client_pending c ≡ Some q

-- A VACUUM runs, and its call is pending.
pub record IsVacuumAt (c : ClientAt) (q : Request) (v : VacuumAt) : Type 0 where
  pub runs : c.vacuum ≡ Some v
  pub pending : client_pending c ≡ Some q

-- What a read is answered that ends without images; and whatever it comes to it may be out of memory.
pub data Fails : ReadStep → Answer → Type 0 where
  IsBusy : (key : Key) (id : TxId) (at : ℤ) → Fails (step.Busy key id at) (answer.Busy key id at)
  HasFaulted : Fails step.Faulted answer.Faulted
  IsMalformed : (key : Key) → Fails (step.BadRecord key) (answer.BadRecord key)
  OutOfMemory : (s : ReadStep) → Fails s answer.NoMemory

-- what a COMMIT is answered
abbrev pub answer_of_outcome : Outcome → Answer
answer_of_outcome outcome.Committed = answer.Committed
answer_of_outcome (outcome.Conflict key found) = answer.Conflict key found
answer_of_outcome (outcome.Expired id) = answer.Expired id
answer_of_outcome outcome.Faulted = answer.Faulted
answer_of_outcome (outcome.Unknown id) = answer.Unknown id
answer_of_outcome (outcome.BadRecord key) = answer.BadRecord key
answer_of_outcome outcome.NoMemory = answer.NoMemory

-- A COMMIT goes on at a stage to which its reply may lead. Its transaction keeps its id.
pub record CommitGoesTo (k : CommitAt) (r : Reply) (t u : TxnAt) (stage : Stage) : Type 0 where
  pub more : ended_at (commit_step k.work k.stage r) ≡ None
  pub next : IsNext k.work k.stage r stage
  pub same : u.id ≡ t.id
  pub doing : u.doing ≡ doing.Commit (record { work = k.work; stage = stage })

---- steps

-- One step of a client: from a state, by a label, with an answer or none, to a state.
pub data Step (c : ClientAt) : Label → Option Answer → ClientAt → Type 0 where
  -- A text is answered at once.
  AnsweredAtOnce : {q : Taking} {text : List ℕ} {a : Answer} → AtOnce c q text a → Step c (Takes q text) (Some a) c
  -- BEGIN opens a transaction with the first id.
  Begins : {q : Taking} {text : List ℕ} → Reads text statement.Begin → c.txn ≡ None → q.gate.vacuum_runs ≡ false → Step c (Takes q text) (Some answer.Done) (with_begun c q.fresh)
  -- ROLLBACK ends the transaction.
  RollsBack : {q : Taking} {text : List ℕ} (t : TxnAt) → Reads text statement.Rollback → c.txn ≡ Some t → Step c (Takes q text) (Some answer.Done) (resting c)
  -- A COMMIT that is out of memory ends the transaction, if one is open.
  LosesCommit : {q : Taking} {text : List ℕ} → reads_commit text ≡ true → Step c (Takes q text) (Some answer.NoMemory) (resting c)
  -- A COMMIT has its first call pending.
  CommitStarts : {q : Taking} {text : List ℕ} (t : TxnAt) → Reads text statement.Commit → c.txn ≡ Some t → Step c (Takes q text) None (holding c (committing t q.now))
  -- A VACUUM has its first call pending.
  VacuumStarts : {q : Taking} {text : List ℕ} (t : Table) (ts : List Table) → Reads text statement.Vacuum → (is_some c.txn || q.gate.open_elsewhere) ≡ false → q.catalog ≡ t ∷ ts
      → Step c (Takes q text) None (record c { vacuum = Some (sweeping (t ∷ ts)) })
  -- A statement is answered from what was read before.
  ReadKnown : {q : Taking} {text : List ℕ} (t : TxnAt) (table : Table) (st : Statement) → IsOnRows c q text t table st → is_covered t.seen (access_of table st) ≡ true
      → Step c (Takes q text) (Some (given_answer t (gives (plan_of table st) (access_of table st) t))) (holding c (given_left t (gives (plan_of table st) (access_of table st) t)))
  -- A statement has the call for its rows pending.
  ReadStarts : {q : Taking} {text : List ℕ} (t : TxnAt) (table : Table) (st : Statement) → IsOnRows c q text t table st → is_covered t.seen (access_of table st) ≡ false
      → Step c (Takes q text) None (record c { txn = Some (reading t (access_of table st)); plan = Some (plan_of table st) })
  -- A read has a further call pending.
  ReadGoesOn : {q : Request} {r : Reply} {now : ℤ} (t : TxnAt) (p : Planned) (a : Access) (x : ReadAt) → IsReadAt c q t p a x → read_result (read_step x.stage now r) ≡ step.More
      → Step c (Receives q r now) None (record c { txn = Some (record t { doing = doing.Read a (record x { stage = read_step x.stage now r }) }) })
  -- A read ends with images that agree with what was read before, and its statement is answered from them.
  ReadEnds : {q : Request} {r : Reply} {now : ℤ} (t : TxnAt) (p : Planned) (a : Access) (x : ReadAt) (images : List Record) → IsReadAt c q t p a x → read_result (read_step x.stage now r) ≡ step.Images images → p.asked ≡ true → IsAsRead t a images
      → Step c (Receives q r now) (Some (given_answer (with_rows_read t a images) (gives p a (with_rows_read t a images)))) (holding c (given_left (with_rows_read t a images) (gives p a (with_rows_read t a images))))
  -- A read ends with another image of a key that was read before, which ends the transaction.
  ReadConflicts : {q : Request} {r : Reply} {now : ℤ} (t : TxnAt) (p : Planned) (a : Access) (x : ReadAt) (images : List Record) (key : Key) (found : Option Record) → IsReadAt c q t p a x → read_result (read_step x.stage now r) ≡ step.Images images
      → IsChangedAt t a images key found → Step c (Receives q r now) (Some (answer.Conflict key found)) (resting c)
  -- A read fails or is out of memory, and its transaction stays open.
  ReadFails : {q : Request} {r : Reply} {now : ℤ} {b : Answer} (t : TxnAt) (p : Planned) (a : Access) (x : ReadAt) → IsReadAt c q t p a x → Fails (read_result (read_step x.stage now r)) b → Step c (Receives q r now) (Some b) (holding c (idle t))
  -- A COMMIT has a further call pending.
  CommitGoesOn : {q : Request} {r : Reply} {now : ℤ} {u : TxnAt} (t : TxnAt) (k : CommitAt) (next : Stage) → IsCommitAt c q t k → CommitGoesTo k r t u next → Step c (Receives q r now) None (record c { txn = Some u })
  -- A COMMIT is answered, which ends the transaction.
  CommitEnds : {q : Request} {r : Reply} {now : ℤ} (t : TxnAt) (k : CommitAt) (a : Outcome) → IsCommitAt c q t k → ended_at (commit_step k.work k.stage r) ≡ Some a → Step c (Receives q r now) (Some (answer_of_outcome a)) (resting c)
  -- A VACUUM has a further call pending.
  VacuumGoesOn : {q : Request} {r : Reply} {now : ℤ} {w : VacuumAt} (v : VacuumAt) → IsVacuumAt c q v → Gives (vacuum_step v now r) w vacuuming.More → Step c (Receives q r now) None (record c { vacuum = Some w })
  -- A VACUUM is answered.
  VacuumEnds : {q : Request} {r : Reply} {now : ℤ} {b : Answer} (v w : VacuumAt) (s : VacuumStep) → IsVacuumAt c q v → Gives (vacuum_step v now r) w s → answer_of s ≡ Some b → Step c (Receives q r now) (Some b) (record c { vacuum = None })
