-- The model of several clients: the state of each, and the invariant of all of them after the events so far.
use Rattle.std.specs.Prelude.{◌≡◌, ◌≢◌, ◌⊎◌, ◌≤◌, ◌<◌, ◌+◌, ◌/◌, ◌%◌, ◌^◌, ℕ, ℤ, Bool, true, false, List, Option, Some, None}
use Rattle.law_clients.specs.Types.{Access, Answer, Event, How, Reply, Request, TxId}
use Rattle.sdb_types.specs.Contents.{CanAnswer}
use Rattle.sdb_record.specs.Meta.{is_moment}
use Rattle.sdb_model.specs.declared.answer.Answer.TheVariants as answer
use Rattle.sdb_model.specs.declared.event.Event.TheVariants as event
use Rattle.sdb_model.specs.Rows.{Name}
use Rattle.sdb_model.specs.Sql.{reads_begin, reads_commit}
use Rattle.sdb_model.specs.Transactions.{id_of}
use Rattle.law_protocol.specs.Plan.{Plan}
use Rattle.law_protocol.specs.History as laws
use Rattle.law_protocol.specs.History.{Begins, Takes, ProtocolState}
use Rattle.law_protocol.specs.Lawful.{Labelled, IsLawful, protocol_state, answer_of, is_quiet, labelled_with}
use Rattle.sdb_phases.specs.Work.{Work}
use Rattle.sdb_phases.specs.Commit.{Stage, Over, step, preparing}
use Rattle.sdb_snapshot.specs.Seen.{Seen}
use Rattle.law_clients.specs.Owner.{CommitOk, plan_of, action_of}
use Rattle.law_clients.specs.Reads.{OpenOk, SeenOk}
use Rattle.law_clients.specs.ReadAt.{ReadAt, IsOfData, ReadOk}
use Rattle.law_clients.specs.Vacuum.{VacuumModel, VacuumModelOk}
use Rattle.sdb_client.specs.Step.{answer_of_outcome}

---- clients

-- Where a client is: no transaction of it is open; one is, with what it has read and written, and makes no call; a statement
-- of one reads; one commits; the client runs VACUUM; or it has stopped.
pub data ClientAt : Type 0 where
  Resting : ClientAt
  Open : (id : TxId) (seen : Seen) → ClientAt
  Reading : (id : TxId) (seen : Seen) (access : Access) (read : ReadAt) → ClientAt
  Committing : (work : Work) (stage : Stage) → ClientAt
  RunsVacuum : (vacuuming : VacuumModel) → ClientAt
  Stopped : ClientAt

-- what a client knows after the events so far
abbrev pub ClientOk : (ℕ → Plan) → List Labelled → ℕ → ClientAt → Type 0
ClientOk plan past c Resting = (protocol_state past).stopped c ≡ false
ClientOk plan past c (Open id seen) = OpenOk (protocol_state past) c id.0 × SeenOk past seen
ClientOk plan past c (Reading id seen a r) = OpenOk (protocol_state past) c id.0 × SeenOk past seen × IsOfData a × ReadOk past a r
ClientOk plan past c (Committing p s) = CommitOk plan past c p s
ClientOk plan past c (RunsVacuum v) = ((protocol_state past).stopped c ≡ false) × VacuumModelOk past v
ClientOk plan past c Stopped = (protocol_state past).stopped c ≡ true

-- a client's open transaction has that number
abbrev pub Has : ClientAt → ℕ → Type 0
Has (Open id seen) t = id.0 ≡ t
Has (Reading id seen a r) t = id.0 ≡ t
Has (Committing p s) t = p.id.0 ≡ t
Has x t = ⊥

-- a client has an open transaction in its hands
abbrev pub has_open : ClientAt → Bool
has_open (Open id seen) = true
has_open (Reading id seen a r) = true
has_open (Committing p s) = true
has_open x = false

-- a client runs VACUUM
abbrev pub is_in_vacuum : ClientAt → Bool
is_in_vacuum (RunsVacuum v) = true
is_in_vacuum x = false

-- no transaction is open of a client that hasn't stopped
abbrev pub Gate : ProtocolState → Type 0
Gate h = (u : ℕ) → h.is_open u ≡ true → h.stopped (h.owner u) ≡ true

---- all clients

-- Where each client is, and how many transactions each has begun.
pub record SystemAt : Type 0 where
  pub clients : ℕ → ClientAt
  pub begun : ℕ → ℕ

-- The number of a transaction that has begun gives its client and which of the client's transactions it is, from 1.
pub record IsNumbered (h : ProtocolState) (begun : ℕ → ℕ) (t : ℕ) : Type 0 where
  pub ordinal : 0 < t % 2 ^ 64
  pub most : t % 2 ^ 64 ≤ begun (t / 2 ^ 64)
  pub owner : h.owner t ≡ t / 2 ^ 64

-- The invariant of all clients after the events so far. With these plans the events obey the rules of the protocol.
pub record SystemOk (plan : ℕ → Plan) (past : List Labelled) (sys : SystemAt) : Type 0 where
  pub lawful : IsLawful plan past
  pub each : (c : ℕ) → ClientOk plan past c (sys.clients c)
  -- a transaction that is open is that of its client, unless that has stopped
  pub opened : (u : ℕ) → (protocol_state past).is_open u ≡ true → ((protocol_state past).stopped ((protocol_state past).owner u) ≡ true) ⊎ Has (sys.clients ((protocol_state past).owner u)) u
  -- while a client runs VACUUM no transaction is open of a client that hasn't stopped
  pub gate : (c : ℕ) → is_in_vacuum (sys.clients c) ≡ true → Gate (protocol_state past)
  pub ids : (t : ℕ) → (protocol_state past).begun t ≢ 0 → IsNumbered (protocol_state past) sys.begun t

-- with one client elsewhere
abbrev pub with_client : SystemAt → ℕ → ClientAt → SystemAt
with_client sys c x = record sys { clients = laws.at sys.clients c x }

-- with one transaction more begun by a client
abbrev pub with_begun : SystemAt → ℕ → ClientAt → SystemAt
with_begun sys c x = record { clients = laws.at sys.clients c x; begun = laws.at sys.begun c (sys.begun c + 1) }

-- the id of a client's next transaction
abbrev pub next_id : SystemAt → ℕ → TxId
next_id sys c = id_of c (sys.begun c + 1)

-- no client has done anything
abbrev pub idle : SystemAt
idle = record { clients = λ c. Resting; begun = λ c. 0 }

---- events

-- an event of a client
abbrev pub IsBy : ℕ → Event → Type 0
IsBy d (event.Take c text answer) = c ≡ d
IsBy d (event.Call c store q how r answer) = c ≡ d
IsBy d (event.Stop c) = c ≡ d
IsBy d (event.Clock moment) = ⊥
IsBy d (event.Idle c) = c ≡ d
IsBy d (event.Land number store q how r) = ⊥
IsBy d (event.Alter table column kind altered) = ⊥

-- an event ends no transaction but one of that client
abbrev pub EndsOwn : List Labelled → ℕ → Labelled → Type 0
EndsOwn past c q = (u : ℕ) → q.ends ≡ Some u → (protocol_state past).owner u ≡ c

---- calls

-- A call of a client with its reply, and the moment at which the client goes on.
pub record ClientCall : Type 0 where
  pub client : ℕ
  pub store : Name
  pub request : Request
  pub how : How
  pub reply : Reply
  pub now : ℤ

-- its event, with the answer that it gives to the client's statement, if it gives one
abbrev pub call_event : ClientCall → Option Answer → Event
call_event x a = event.Call x.client x.store x.request x.how x.reply a

-- The call is the one that is pending, and its reply is one that it can get.
pub record IsReplyTo (pending : Option Request) (x : ClientCall) : Type 0 where
  pub asked : pending ≡ Some x.request
  pub can : CanAnswer x.request x.reply
  pub moment : is_moment x.now ≡ true

-- the invariant holds of all clients, and this one is in that state
pub record IsInState (plan : ℕ → Plan) (past : List Labelled) (sys : SystemAt) (c : ℕ) (x : ClientAt) : Type 0 where
  pub ok : SystemOk plan past sys
  pub at : sys.clients c ≡ x

-- an event without a part: it changes nothing at the stores, is no stop, and doesn't answer Committed
pub record IsQuiet (e : Event) : Type 0 where
  pub quiet : is_quiet e ≡ true
  pub other : answer_of e ≢ Some answer.Committed

-- no client runs VACUUM
abbrev pub NoneRunVacuum : SystemAt → Type 0
NoneRunVacuum sys = (d : ℕ) → is_in_vacuum (sys.clients d) ≡ false

-- no client has an open transaction, but one that has stopped
abbrev pub NoneOpen : SystemAt → Type 0
NoneOpen sys = (d : ℕ) → has_open (sys.clients d) ≡ false

-- A statement reads as BEGIN, and its client has an id left: it and the number of its next transaction have 64 bits.
pub record IsBegin (sys : SystemAt) (c : ℕ) (text : List ℕ) : Type 0 where
  pub reads : reads_begin text ≡ true
  pub client : c < 2 ^ 64
  pub ordinal : sys.begun c + 1 < 2 ^ 64

-- a BEGIN is answered Done
abbrev pub begin_labelled : SystemAt → ℕ → List ℕ → Labelled
begin_labelled sys c text = labelled_with (Begins (next_id sys c).0 c) (event.Take c text (Some answer.Done))

---- a COMMIT

-- the answer of a COMMIT that is over
abbrev pub answer_at : Stage → Option Answer
answer_at (Over a) = Some (answer_of_outcome a)
answer_at s = None

-- the transaction that it ends
abbrev pub ending_at : ℕ → Stage → Option ℕ
ending_at t (Over a) = Some t
ending_at t s = None

-- where a COMMIT at a stage leaves its client
abbrev pub commit_left : Work → Stage → ClientAt
commit_left p (Over a) = Resting
commit_left p s = Committing p s

-- The call of a COMMIT at a stage: where the COMMIT is then over, it gives the answer and ends the transaction.
abbrev pub commit_labelled : Work → Stage → ClientCall → Labelled
commit_labelled p s x = record { event = call_event x (answer_at (step p s x.reply)); action = action_of p s x.reply; ends = ending_at p.id.0 (step p s x.reply) }

-- the same plans, but for that transaction
abbrev pub with_plan : (ℕ → Plan) → Work → ℕ → Plan
with_plan plan p u = laws.at plan p.id.0 (plan_of p) u

-- a statement reads as COMMIT and is accepted at a moment
pub record IsCommit (text : List ℕ) (now : ℤ) : Type 0 where
  pub reads : reads_commit text ≡ true
  pub moment : is_moment now ≡ true

-- its taking
abbrev pub take_labelled : ℕ → List ℕ → Work → Labelled
take_labelled c text p = labelled_with (Takes p.id.0) (event.Take c text None)

-- the client then makes the first call of the COMMIT
abbrev pub commit_begun : SystemAt → ℕ → Work → SystemAt
commit_begun sys c p = with_client sys c (commit_left p (preparing p 0))

---- plans

-- two plans are one for each transaction whose COMMIT was accepted
abbrev pub SamePlans : (ℕ → Plan) → (ℕ → Plan) → List Labelled → Type 0
SamePlans plan other past = (t : ℕ) → (protocol_state past).accepted t ≡ true → plan t ≡ other t
