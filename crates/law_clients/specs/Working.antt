-- A client at work on a statement, whatever its stores answer: how the statement is accepted, and how it ends.
use Rattle.std.specs.Prelude.{◌≡◌, ◌≢◌, ℕ, ℤ, Bool, true, false, not, is_some, List, Option, Some, None, Result, Ok}
use Rattle.law_clients.specs.Types.{Access, Answer, Refusal, Reply, Statement, Table, TxId}
use Rattle.sdb_model.specs.declared.answer.Answer.TheVariants as answer
use Rattle.sdb_model.specs.declared.statement.Statement.TheVariants as statement
use Rattle.sdb_model.specs.Exec.{table_of}
use Rattle.sdb_exec.specs.Plans.{Planned}
use Rattle.sdb_txn.specs.Phases.{CommitAt}
use Rattle.sdb_txn.specs.Read.{ReadAt}
use Rattle.sdb_txn.specs.declared.txn.Doing.TheVariants as doing
use Rattle.sdb_txn.specs.Txn.{TxnAt}
use Rattle.sdb_vacuum.specs.Vacuum.{VacuumAt}
use Rattle.sdb_client.specs.Client.{ClientAt, IsIdle, ReplyPost, ParsedPost, Parses, Taking, out_of_memory}
use Rattle.law_clients.specs.Session.{Exchange, IsAccepted, begins, ends, rejected}

-- A statement waits for a reply, inside of a transaction or outside: it reads, it commits, or it runs VACUUM.
pub data IsAtWork (st : Statement) (opened : Bool) (c : ClientAt) : Type 0 where
  Reads : (t : TxnAt) (p : Planned) (a : Access) (x : ReadAt) (free : c.vacuum ≡ None) (txn : c.txn ≡ Some t) (plan : c.plan ≡ Some p) (does : t.doing ≡ doing.Read a x) (of : p.statement ≡ st) (table : is_some (table_of st) ≡ true) (inside : opened ≡ true) → IsAtWork st opened c
  Commits : (t : TxnAt) (k : CommitAt) (free : c.vacuum ≡ None) (txn : c.txn ≡ Some t) (plan : c.plan ≡ None) (does : t.doing ≡ doing.Commit k) (commit : st ≡ statement.Commit) (inside : opened ≡ true) → IsAtWork st opened c
  InVacuum : (v : VacuumAt) (runs : c.vacuum ≡ Some v) (txn : c.txn ≡ None) (vacuum : st ≡ statement.Vacuum) (outside : opened ≡ false) → IsAtWork st opened c

-- whether a transaction is open after a statement
abbrev pub is_open_after : Bool → Exchange → Bool
is_open_after true e = not (ends e)
is_open_after false e = begins e

-- A statement was answered, where a transaction was open or not: it is turned away exactly where it has to be, its answer says whether a
-- transaction is open now, and its client waits for the next statement.
pub record IsEnded (catalog : List Table) (opened : Bool) (e : Exchange) (d : ClientAt) : Type 0 where
  pub accepted : IsAccepted catalog opened e
  pub has_txn : is_some d.txn ≡ is_open_after opened e
  pub idle : IsIdle d

-- Where the taking of a statement or a reply leads: the statement has ended, or waits for a reply.
pub record LeadsOn (catalog : List Table) (opened : Bool) (says : Result Statement Refusal) (now : ℤ) (id : TxId) (result : Option Answer) (d : ClientAt) : Type 0 where
  pub ended : (z : Answer) → result ≡ Some z → IsEnded catalog opened (record { says = says; moment = now; id = id; answer = z }) d
  pub waits : result ≡ None → (st : Statement) × (says ≡ Ok st) × (rejected catalog opened says ≡ None) × IsAtWork st opened d

-- A client between two statements takes a text, while no other client is at work.
pub record ExecutedBy : Type 0 where
  pub taking : Taking
  pub vacuums : taking.gate.vacuum_runs ≡ false
  pub opens : taking.gate.open_elsewhere ≡ false
  pub text : List ℕ
  pub says : Result Statement Refusal
  pub reads : Parses text says
  pub before : ClientAt
  pub idle : IsIdle before
  pub result : Option Answer
  pub after : ClientAt
  pub memory : result ≡ Some answer.NoMemory → after ≡ out_of_memory text before
  pub took : result ≢ Some answer.NoMemory → ParsedPost taking says before result after

-- A client at work takes a reply.
pub record RepliedBy : Type 0 where
  pub catalog : List Table
  pub statement : Statement
  pub opened : Bool
  pub stays : rejected catalog opened (Ok statement) ≡ None
  pub moment : ℤ
  pub id : TxId
  pub before : ClientAt
  pub works : IsAtWork statement opened before
  pub reply : Reply
  pub now : ℤ
  pub result : Option Answer
  pub after : ClientAt
  pub took : ReplyPost before before.vacuum reply now result after
