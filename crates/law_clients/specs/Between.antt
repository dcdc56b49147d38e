-- A client that is alone, between two statements and while one waits for a reply; and how a statement ends.
use Rattle.std.specs.Prelude.{◌≡◌, ◌⊎◌, ℕ, ℤ, true, List, [], Option, Some, None, is_some, Result, Ok}
use Rattle.law_clients.specs.Types.{Access, Answer, Refusal, Statement, Table, TxId}
use Rattle.sdb_record.specs.Among.{is_written}
use Rattle.sdb_model.specs.declared.answer.Answer.TheVariants as answer
use Rattle.sdb_model.specs.declared.statement.Statement.TheVariants as statement
use Rattle.sdb_model.specs.Exec.{Tables}
use Rattle.sdb_exec.specs.Plans.{Planned}
use Rattle.sdb_txn.specs.Phases.{CommitAt}
use Rattle.sdb_txn.specs.Read.{ReadAt, request_of}
use Rattle.sdb_snapshot.specs.Rows.{with_own}
use Rattle.sdb_snapshot.specs.Seen.{Seen}
use Rattle.sdb_txn.specs.declared.txn.Doing.TheVariants as doing
use Rattle.sdb_txn.specs.Txn.{TxnAt}
use Rattle.law_clients.specs.Reads.{work_of}
use Rattle.sdb_vacuum.specs.Vacuum.{VacuumAt}
use Rattle.sdb_client.specs.Client.{ClientAt}
use Rattle.law_clients.specs.Database.{Database}
use Rattle.law_clients.specs.OnlyResolves.{OnlyResolves}
use Rattle.law_clients.specs.Recovers.{IsAborted, IsCommittedAt, IsUndecided}
use Rattle.law_clients.specs.Commits.{CommitAlone}
use Rattle.law_clients.specs.Seen.{AreImagesOf}
use Rattle.law_clients.specs.SessionReads.{ReadAlone}
use Rattle.law_clients.specs.Clients.{AnsweredAlone, IsAskedFor, OpenAlone}
use Rattle.law_clients.specs.Later.{Later}
use Rattle.law_clients.specs.SessionVacuums.{Quiet, VacuumAlone}
use Rattle.law_clients.specs.Tombstones.{HasVacuumed, HasWritten, SameImages}
use Rattle.law_clients.specs.Session.{rejected}

-- an open transaction: its id, the statements of its body, and their answers
pub record OpenTransaction : Type 0 where
  pub id : TxId
  pub statements : List Statement
  pub answers : List Answer

---- between two statements

abbrev pub IsTxnOf : List Table → Database → Option OpenTransaction → Option TxnAt → Type 0
IsTxnOf catalog g None None = Unit {0}
IsTxnOf catalog g (Some b) (Some t) = (t.doing ≡ doing.Idle) × (t.id ≡ b.id) × OpenAlone catalog g b.statements b.answers b.id t.seen
IsTxnOf catalog g o t = ⊥

pub record Between (catalog : List Table) (g : Database) (o : Option OpenTransaction) (c : ClientAt) : Type 0 where
  pub free : c.vacuum ≡ None
  pub plan : c.plan ≡ None
  pub txn : IsTxnOf catalog g o c.txn

---- while a statement waits

-- A statement waits for a reply, since it was accepted over the database of that time: it reads, it commits, or it runs VACUUM.
pub data Waits (catalog : List Table) (was : Database) (now : ℤ) (st : Statement) (g : Database) (o : Option OpenTransaction) (c : ClientAt) : Type 0 where
  Reads : (b : OpenTransaction) (t : TxnAt) (p : Planned) (a : Access) (x : ReadAt) (is : o ≡ Some b) (free : c.vacuum ≡ None) (txn : c.txn ≡ Some t) (plan : c.plan ≡ Some p) (does : t.doing ≡ doing.Read a x) (of : p.statement ≡ st) (asked : IsAskedFor catalog p a) (request : x.request ≡ request_of a) (id : t.id ≡ b.id)
      (opened : OpenAlone catalog g b.statements b.answers t.id t.seen) (alone : ReadAlone catalog g a now x.stage) (resolves : OnlyResolves catalog was g) (stays : rejected catalog true (Ok st) ≡ None) → Waits catalog was now st g o c
  Commits : (b : OpenTransaction) (t : TxnAt) (k : CommitAt) (s : Seen) (is : o ≡ Some b) (commit : st ≡ statement.Commit) (free : c.vacuum ≡ None) (txn : c.txn ≡ Some t) (plan : c.plan ≡ None) (does : t.doing ≡ doing.Commit k) (work : k.work ≡ work_of b.id now s)
      (opened : OpenAlone catalog was b.statements b.answers b.id s) (alone : CommitAlone catalog was k.work g k.stage) → Waits catalog was now st g o c
  InVacuum : (v : VacuumAt) (is : o ≡ None) (vacuum : st ≡ statement.Vacuum) (runs : c.vacuum ≡ Some v) (txn : c.txn ≡ None) (plan : c.plan ≡ None) (alone : VacuumAlone catalog was now g v) (quiet : Quiet catalog was g) → Waits catalog was now st g o c

---- how it ends

-- A COMMIT has this answer. It is committed, plain tables that were the images are now the images with its writes over them, and no other image
-- changed; or it isn't, and each image is as it was.
pub data CommitEnds (catalog : List Table) (was g : Database) (id : TxId) (now : ℤ) (s : Seen) (z : Answer) : Type 0 where
  Won : (replied : (z ≡ answer.Committed) ⊎ (z ≡ answer.Unknown id)) (decided : IsCommittedAt g id now) (left : (d : Tables) → AreImagesOf catalog was d → AreImagesOf catalog g (with_own d s.writes)) (written : HasWritten catalog (is_written s.writes) was g) → CommitEnds catalog was g id now s z
  Lost : (replied : (z ≡ answer.Faulted) ⊎ ((z ≡ answer.NoMemory) ⊎ (z ≡ answer.Unknown id))) (decided : IsUndecided g id ⊎ IsAborted g id) (left : (d : Tables) → AreImagesOf catalog was d → AreImagesOf catalog g d) (images : SameImages catalog was g) → CommitEnds catalog was g id now s z

-- A VACUUM was answered so: a call failed, or all tombstones were removed that could be, and counted.
abbrev pub VacuumedBy : List Table → Database → Database → ℤ → Answer → Type 0
VacuumedBy catalog was g now z = (z ≡ answer.Faulted) ⊎ ((z ≡ answer.NoMemory) ⊎ ((n : ℕ) × (z ≡ answer.Count n) × HasVacuumed catalog was g now n))

-- an open transaction makes no call, and has seen so much
pub record IsStill (b : OpenTransaction) (s : Seen) (c : ClientAt) : Type 0 where
  pub t : TxnAt
  pub txn : c.txn ≡ Some t
  pub idle : t.doing ≡ doing.Idle
  pub id : t.id ≡ b.id
  pub seen : t.seen ≡ s
  pub free : c.vacuum ≡ None
  pub plan : c.plan ≡ None

-- What a statement was answered that wasn't out of memory as it was accepted, and what its client and the database are then.
pub data StatementEnds (catalog : List Table) (was : Database) (fresh : TxId) (now : ℤ) (says : Result Statement Refusal) (g : Database) (o : Option OpenTransaction) (z : Answer) (c : ClientAt) : Type 0 where
  Turned : (away : rejected catalog (is_some o) says ≡ Some z) (same : g ≡ was) (left : Between catalog g o c) → StatementEnds catalog was fresh now says g o z c
  Begun : (is : says ≡ Ok statement.Begin) (none : o ≡ None) (done : z ≡ answer.Done) (same : g ≡ was) (left : Between catalog g (Some (record { id = fresh; statements = []; answers = [] })) c) → StatementEnds catalog was fresh now says g o z c
  RolledBack : (b : OpenTransaction) (is : says ≡ Ok statement.Rollback) (some : o ≡ Some b) (done : z ≡ answer.Done) (same : g ≡ was) (left : Between catalog g None c) → StatementEnds catalog was fresh now says g o z c
  Answered : (b : OpenTransaction) (st : Statement) (p : Planned) (a : Access) (s : Seen) (is : says ≡ Ok st) (of : p.statement ≡ st) (asked : IsAskedFor catalog p a) (stays : rejected catalog true (Ok st) ≡ None) (some : o ≡ Some b) (resolves : OnlyResolves catalog was g) (so : AnsweredAlone catalog g b.statements b.answers st a now b.id z s) (still : IsStill b s c) → StatementEnds catalog was fresh now says g o z c
  Ended : (b : OpenTransaction) (s : Seen) (is : says ≡ Ok statement.Commit) (some : o ≡ Some b) (opened : OpenAlone catalog was b.statements b.answers b.id s) (later : Later catalog (Some (record { id = b.id; at = now })) was g) (ends : CommitEnds catalog was g b.id now s z) (left : Between catalog g None c) → StatementEnds catalog was fresh now says g o z c
  Vacuumed : (is : says ≡ Ok statement.Vacuum) (none : o ≡ None) (quiet : Quiet catalog was g) (all : VacuumedBy catalog was g now z) (left : Between catalog g None c) → StatementEnds catalog was fresh now says g o z c

-- Where the taking of a statement or a reply leads: the statement waits, or is answered.
pub data LeadsTo (catalog : List Table) (was : Database) (fresh : TxId) (now : ℤ) (says : Result Statement Refusal) (g : Database) (o : Option OpenTransaction) (result : Option Answer) (c : ClientAt) : Type 0 where
  More : (st : Statement) (is : says ≡ Ok st) (none : result ≡ None) (waits : Waits catalog was now st g o c) → LeadsTo catalog was fresh now says g o result c
  Answers : (z : Answer) (some : result ≡ Some z) (ends : StatementEnds catalog was fresh now says g o z c) → LeadsTo catalog was fresh now says g o result c
