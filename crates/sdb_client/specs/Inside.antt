-- The representation invariant of a client.
use Rattle.std.specs.Prelude.{◌≡◌, ◌<◌, ◌≤◌, ℤ, length, IsSome, IsSomeAnd, true, false, List, Option, Some, None}
use Rattle.sdb_client.specs.Types.{Access, Answer, Doing, Image, PlanStep, Progress, Reply, Request, Statement, Table}
use Rattle.sdb_schema.specs.Table.{is_table}
use Rattle.sdb_model.specs.Exec.{named_table}
use Rattle.sdb_model.specs.Refused.{refusal_of, refusal_on}
use Rattle.sdb_exec.specs.declared.plan.PlanStep.TheVariants.{Finished, Read as Wants}
use Rattle.sdb_exec.specs.Plans.{Planned, has_all_literals}
use Rattle.sdb_model.specs.Reads.{access_of}
use Rattle.sdb_phases.specs.Work.{Work, groups_of}
use Rattle.sdb_phases.specs.Checks.{checks}
use Rattle.sdb_phases.specs.Steps.{decide_request_at}
use Rattle.sdb_phases.specs.Commit.{Stage, Preparing, Checking, Deciding, Forward, Stopping, Back, Over}
use Rattle.sdb_txn.specs.Read.{read_pending}
use Rattle.sdb_snapshot.specs.Reads.{ReadRecord, is_key_read}
use Rattle.sdb_snapshot.specs.Written.{AreChanges}
use Rattle.sdb_txn.specs.declared.progress.Progress.TheVariants as progress
use Rattle.sdb_txn.specs.declared.txn.Doing.TheVariants as doing
use Rattle.sdb_txn.specs.Txn.{TxnAt, reading}
use Rattle.sdb_record.specs.declared.access.Access.TheVariants as access
use Rattle.sdb_model.specs.declared.statement.Statement.TheVariants as statement
use Rattle.sdb_client.specs.declared.next.Next.{Next}
use Rattle.sdb_client.specs.declared.next.Next.TheVariants as next
use Rattle.sdb_vacuum.specs.Vacuum.{VacuumAt, vacuum_pending}
use Rattle.sdb_client.specs.Client.{ClientAt, NextPost, given_answer, given_left, gives, is_covered, plan_of, resting}

-- A plan that was asked for its rows, of a statement that its table doesn't refuse.
pub record IsValidPlan (p : Planned) : Type 0 where
  pub asked : p.asked ≡ true
  pub table : is_table p.table ≡ true
  pub accepted : refusal_on p.table p.statement ≡ None
  pub literals : has_all_literals p.statement ≡ true

-- the plan of a statement that the catalog doesn't refuse
pub record IsPlanOf (catalog : List Table) (st : Statement) (p : Planned) : Type 0 where
  pub table : named_table catalog st ≡ Some p.table
  pub statement : p.statement ≡ st
  pub asked : p.asked ≡ true
  pub accepted : refusal_of catalog st ≡ None

-- what a plan gives may be written
abbrev pub MayWrite : List ReadRecord → PlanStep → Type 0
MayWrite read_set (Finished a ks) = AreChanges read_set ks
MayWrite read_set (Wants a) = Unit {0}

-- the key of a get was read
abbrev pub IsKeyRead : List ReadRecord → Access → Type 0
IsKeyRead read_set (access.Get key) = is_key_read read_set key ≡ true
IsKeyRead read_set (access.Scan span) = Unit {0}

-- A COMMIT is pending: a call of it is, and those that are left to it are within what it writes and checks.
abbrev pub IsCommitPending : Work → Stage → Type 0
IsCommitPending p (Preparing i) = i < groups_of p
IsCommitPending p (Checking i) = i < length (checks p)
IsCommitPending p (Deciding d) = IsSome (decide_request_at p.id p.now d)
IsCommitPending p (Forward i) = i < groups_of p
IsCommitPending p (Stopping a n) = n ≤ length p.writes
IsCommitPending p (Back a n i) = (i < n) × (n ≤ length p.writes)
IsCommitPending p (Over a) = ⊥

-- A statement has a plan while it reads, and reads where the plan says. Where it reads, and where a COMMIT is pending, a call is.
abbrev pub IsUnder : Doing → Option Planned → Type 0
IsUnder doing.Idle None = Unit {0}
IsUnder (doing.Read a x) (Some p) = IsValidPlan p × (a ≡ access_of p.table p.statement) × IsSome (read_pending x)
IsUnder (doing.Commit k) None = IsCommitPending k.work k.stage
IsUnder d p = ⊥

abbrev pub IsClient : Option TxnAt → Option Planned → Type 0
IsClient None None = Unit {0}
IsClient None (Some p) = ⊥
IsClient (Some t) p = IsUnder t.doing p

-- A client that runs VACUUM has no transaction open, and a call of the VACUUM is pending.
abbrev pub IsWhole : Option VacuumAt → Option TxnAt → Option Planned → Type 0
IsWhole None t p = IsClient t p
IsWhole (Some v) t p = (t ≡ None) × (p ≡ None) × IsSome (vacuum_pending v)

-- the call of the VACUUM that is run
abbrev pub vacuum_asked : Option VacuumAt → Option Request
vacuum_asked None = None
vacuum_asked (Some v) = vacuum_pending v

-- it does the read of an access, by a valid plan
abbrev pub IsReadOf : Doing → Planned → Type 0
IsReadOf (doing.Read a x) p = IsValidPlan p × (a ≡ access_of p.table p.statement) × IsSome (read_pending x)
IsReadOf d p = ⊥

-- rows are returned, and they are valid
abbrev pub IfRows : Progress → (List Image → Type 0) → Type 0
IfRows (progress.Rows rows) P = P rows
IfRows p P = Unit {0}

-- a statement reads, of an open transaction
pub record TxnReads (p : Planned) (a : Access) (t : TxnAt) (result : Option Answer) (u : TxnAt) (v : Option Planned) : Type 0 where
  pub known : is_covered t.seen a ≡ true → (result ≡ Some (given_answer t (gives p a t))) × (u ≡ given_left t (gives p a t)) × (v ≡ None)
  pub unknown : is_covered t.seen a ≡ false → (result ≡ None) × (u ≡ reading t a) × (v ≡ Some p)

-- a statement that the catalog takes reads so, by its plan on its table
abbrev pub StatementReads : List Table → Statement → TxnAt → Option Answer → TxnAt → Option Planned → Type 0
StatementReads catalog s t result u v =
    (table : Table) → refusal_of catalog s ≡ None → named_table catalog s ≡ Some table → TxnReads (plan_of table s) (access_of table s) t result u v

-- the transaction that is open after a call
abbrev pub txn_after : Option TxnAt → Next → Option TxnAt
txn_after t next.Call = t
txn_after t (next.Answer a) = t
txn_after t (next.End a) = None

-- the plan that a statement has after it
abbrev pub plan_after : Option Planned → Next → Option Planned
plan_after p next.Call = p
plan_after p (next.Answer a) = None
plan_after p (next.End a) = None

-- what out of memory leaves, by the statement
abbrev pub left_by : Statement → ClientAt → ClientAt
left_by statement.Commit c = resting c
left_by st c = c

-- What holds of a transaction after a call: another is pending, or it does nothing, or it has ended.
abbrev pub IsLeft : Next → TxnAt → Option Planned → Type 0
IsLeft next.Call u p = IsUnder u.doing p
IsLeft (next.Answer a) u p = u.doing ≡ doing.Idle
IsLeft (next.End a) u p = Unit {0}

-- a reply leads the transaction that is open
abbrev pub OpenNext : Option TxnAt → Option Planned → Reply → ℤ → Next → Option TxnAt → Type 0
OpenNext None p r now n u = ⊥
OpenNext (Some t) p r now n u = IsSomeAnd u (NextPost t t.doing p r now n)
