-- The clients of a run, and the state of each in the model of clients.
use Rattle.std.specs.Prelude.{◌≡◌, ◌≢◌, ℕ, ◌<◌, ◌^◌, Bool, true, false, if◌then◌else◌, List, Option, Some, None, IsSome}
use Rattle.std.specs.Option.{option_map}
use Rattle.law_clients.specs.Types.{Access, Answer, Doing, Gate, Request, Statement, Table}
use Rattle.sdb_types.specs.Contents.{CanAnswer}
use Rattle.sdb_record.specs.Meta.{is_moment}
use Rattle.sdb_model.specs.Exec.{named_table}
use Rattle.sdb_model.specs.Refused.{refusal_of}
use Rattle.sdb_exec.specs.Plans.{Planned, has_all_literals}
use Rattle.sdb_model.specs.Reads.{access_of}
use Rattle.law_protocol.specs.History.{at}
use Rattle.sdb_txn.specs.Read.{ReadAt, request_of}
use Rattle.sdb_txn.specs.declared.txn.Doing.TheVariants as doing
use Rattle.sdb_txn.specs.Txn.{TxnAt}
use Rattle.sdb_vacuum.specs.Vacuum.{VacuumAt}
use Rattle.sdb_client.specs.Client.{ClientAt as Client, IsBusy, IsIdle, client_pending}
use Rattle.sdb_model.specs.Transactions.{changes_nothing}
use Rattle.law_clients.specs.Invariant.{IsMild}
use Rattle.law_clients.specs.Machine.{abstract_read}
use Rattle.law_clients.specs.System.{ClientAt, ClientCall, Committing, Open, Reading, Resting, Stopped, RunsVacuum, SystemAt}
use Rattle.law_clients.specs.About.{AreListed}
use Rattle.law_clients.specs.Vacuums.{abstract_vacuum}

-- A client, and whether it has stopped.
pub record ClientState : Type 0 where
  pub client : Client
  pub stopped : Bool

abbrev pub abstract_doing : TxnAt → Doing → ClientAt
abstract_doing t doing.Idle = Open t.id t.seen
abstract_doing t (doing.Read a x) = Reading t.id t.seen a (abstract_read x.stage)
abstract_doing t (doing.Commit k) = Committing k.work k.stage
abstract_doing t doing.Over = Resting

-- where a client is by its open transaction
abbrev pub abstract_txn : Option TxnAt → ClientAt
abstract_txn None = Resting
abstract_txn (Some t) = abstract_doing t t.doing

-- by the VACUUM that it runs, or else its open transaction
abbrev pub abstract_by : Option VacuumAt → Option TxnAt → ClientAt
abstract_by (Some v) o = RunsVacuum (abstract_vacuum v.stage)
abstract_by None o = abstract_txn o

abbrev pub abstract_client : ClientState → ClientAt
abstract_client h = if h.stopped then Stopped else abstract_by h.client.vacuum h.client.txn

-- where all are, and how many transactions each has begun
abbrev pub system_of : (ℕ → ClientState) → SystemAt
system_of states = record { clients = λ c. abstract_client (states c); begun = λ c. (states c).client.begun }

-- the statement that a client reads for
abbrev pub runs : Client → Option Statement
runs c = option_map (λ p. p.statement) c.plan

abbrev pub doing_of : (ℕ → ClientState) → ℕ → Option Statement
doing_of states c = runs (states c).client

-- with one client so
abbrev pub with_state : (ℕ → ClientState) → ℕ → Client → ℕ → ClientState
with_state states c d = at states c (record { client = d; stopped = false })

-- a client waits for a statement, and has its own number
pub record IsReady (states : ℕ → ClientState) (c : ℕ) : Type 0 where
  pub goes_on : (states c).stopped ≡ false
  pub number : (states c).client.number ≡ c
  pub small : c < 2 ^ 64
  pub idle : IsIdle (states c).client
  pub free : (states c).client.plan ≡ None

-- The gate says what other clients that go on do: where it is open, none of them runs VACUUM, or none has a transaction open.
pub record IsGated (gate : Gate) (states : ℕ → ClientState) (c : ℕ) : Type 0 where
  pub vacuums : gate.vacuum_runs ≡ false → (d : ℕ) → d ≢ c → (states d).stopped ≡ false → (states d).client.vacuum ≡ None
  pub opens : gate.open_elsewhere ≡ false → (d : ℕ) → d ≢ c → (states d).stopped ≡ false → (states d).client.txn ≡ None

-- an answer that changes nothing, and is neither of a BEGIN nor of an end
pub record IsPlainAnswer (b : Answer) : Type 0 where
  pub idle : changes_nothing b ≡ true
  pub mild : IsMild b

---- clients that read

-- A read is of a statement that the catalog doesn't refuse, on the statement's table, where its plan reads.
pub record IsAskedBy (catalog : List Table) (p : Planned) (a : Access) (x : ReadAt) : Type 0 where
  pub named : named_table catalog p.statement ≡ Some p.table
  pub asked : p.asked ≡ true
  pub accepted : refusal_of catalog p.statement ≡ None
  pub literals : has_all_literals p.statement ≡ true
  pub access : a ≡ access_of p.table p.statement
  pub request : x.request ≡ request_of a

-- while a statement reads its plan is that, and there is no plan else
abbrev pub IsUsing : List Table → Doing → Option Planned → Type 0
IsUsing catalog (doing.Read a x) (Some p) = IsAskedBy catalog p a x
IsUsing catalog (doing.Read a x) None = ⊥
IsUsing catalog doing.Over p = ⊥
IsUsing catalog d p = p ≡ None

abbrev pub IsUsingTxn : List Table → Option TxnAt → Option Planned → Type 0
IsUsingTxn catalog None p = p ≡ None
IsUsingTxn catalog (Some t) p = IsUsing catalog t.doing p

-- A client that runs VACUUM has no transaction open, and scans tables of the catalog.
abbrev pub IsFittedBy : List Table → Option VacuumAt → Client → Type 0
IsFittedBy catalog None c = IsUsingTxn catalog c.txn c.plan
IsFittedBy catalog (Some v) c = (c.txn ≡ None) × (c.plan ≡ None) × AreListed catalog v.spans

-- what a client reads is of a statement that the catalog takes
abbrev pub IsFitted : List Table → Client → Type 0
IsFitted catalog c = IsFittedBy catalog c.vacuum c

-- a client waits for the reply to a call
pub record IsWaiting (catalog : List Table) (states : ℕ → ClientState) (c : ℕ) (q : Request) : Type 0 where
  pub goes_on : (states c).stopped ≡ false
  pub pending : client_pending (states c).client ≡ Some q
  pub fitted : IsFitted catalog (states c).client

-- A call of a client is the one that it waits for, and its reply is one that it can get.
pub record IsCalled (catalog : List Table) (states : ℕ → ClientState) (y : ClientCall) : Type 0 where
  pub waiting : IsWaiting catalog states y.client y.request
  pub can : CanAnswer y.request y.reply
  pub moment : is_moment y.now ≡ true

-- What a client is after a statement or a reply, with what that answered: the same client, fitted; it waits for a reply where it
-- answered nothing, and for a statement where it did.
pub record IsAfter (catalog : List Table) (c : Client) (result : Option Answer) (d : Client) : Type 0 where
  pub number : d.number ≡ c.number
  pub fitted : IsFitted catalog d
  pub busy : result ≡ None → IsBusy d
  pub idle : IsSome result → IsIdle d
