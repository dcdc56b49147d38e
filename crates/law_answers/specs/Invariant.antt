-- The invariant between events and clients by which each answer has its cause: a client's statements, why each statement was answered
-- so, and what the calls of the statement that waits determine of the client's state.
use Rattle.std.specs.Prelude.{◌≡◌, ◌≢◌, ◌⊎◌, ◌<◌, ◌≤◌, ◌^◌, ℕ, suc, ℤ, not, if◌then◌else◌, Bool, true, false, List, [], ◌∷◌, ◌++◌, length, fold, Option, Some, None, IfSome, is_some}
use Rattle.std.specs.List.{AllByRecursion}
use Rattle.law_answers.specs.Types.{Answer, Doing, Event, Gate, Table}
use Rattle.sdb_model.specs.declared.answer.Answer.TheVariants as answer
use Rattle.sdb_model.specs.declared.event.Altered.TheVariants as altered
use Rattle.sdb_model.specs.declared.event.Event.TheVariants as event
use Rattle.sdb_model.specs.Calls.{calls_by, calls_of, clock_at}
use Rattle.sdb_model.specs.Catalogs.{catalog_after}
use Rattle.sdb_model.specs.Causes.{AreCaused, IsCaused, IsRejected, before}
use Rattle.sdb_model.specs.Follows.{has_stopped, is_open, is_open_after}
use Rattle.sdb_model.specs.Sql.{Reads, reads_begin, reads_commit, reads_vacuum}
use Rattle.sdb_model.specs.Transactions.{Executed, begins, ends, from_begin, id_of, is_conflict, rest_of, statements_by}
use Rattle.sdb_exec.specs.Plans.{Planned}
use Rattle.law_protocol.specs.History.{at}
use Rattle.sdb_record.specs.Meta.{is_moment}
use Rattle.sdb_txn.specs.Phases.{CommitAt}
use Rattle.sdb_txn.specs.Read.{ReadAt}
use Rattle.sdb_txn.specs.declared.txn.Doing.TheVariants as doing
use Rattle.sdb_txn.specs.Txn.{TxnAt}
use Rattle.sdb_vacuum.specs.Vacuum.{VacuumAt}
use Rattle.sdb_client.specs.Client.{ClientAt}
use Rattle.law_clients.specs.Invariant.{IsInner}
use Rattle.law_clients.specs.States.{ClientState}
use Rattle.law_clients.specs.History.{waiting_of}
use Rattle.law_answers.specs.Commits.{StageByCalls}
use Rattle.law_answers.specs.Conflicts.{ChecksBy}
use Rattle.law_answers.specs.Counts.{CallsAreCounted, CountsBy}
use Rattle.law_answers.specs.Filled.{IsFilled}
use Rattle.law_answers.specs.Changes.{AreChanged, SeenBy, StageObserves, WorkBy, read_items_of_body}
use Rattle.law_answers.specs.Reads.{ReadsBy}
use Rattle.law_answers.specs.Rolled.{RecordsAreRolled, RollsBy}
use Rattle.law_answers.specs.Views.{RowsAreOwn, ViewBy}
use Rattle.law_answers.specs.Vacuums.{VacuumBy}
use Rattle.law_answers.specs.Unfit.{IsFitOrReadTxn, AreStoredReplies}

---- one client

-- A statement that was answered within the events so far: its answer has its cause, unless it is Conflict, and where it was to be turned
-- away it was.
pub record IsAnswered (catalog : List Table) (events : List Event) (c : ℕ) (s : Executed) : Type 0 where
  pub given : Answer
  pub is : s.answer ≡ Some given
  pub accepted : s.accepted ≤ length events
  pub answered : s.reached ≤ length events
  pub caused : is_conflict (Some given) ≡ false → IsCaused catalog events c s given
  pub rejected : (a : Answer) → IsRejected catalog (before s events) c s.text a → (s.reached ≡ s.accepted) × ((s.answer ≡ Some a) ⊎ (s.answer ≡ Some answer.NoMemory))

-- A statement that waits for its answer: it is a VACUUM that was accepted outside of transactions, or its transaction was open when it was
-- accepted, and it was not to be turned away.
pub record IsWaiting (catalog : List Table) (events : List Event) (c : ℕ) (vacuums : Bool) (w : Executed) : Type 0 where
  pub unanswered : w.answer ≡ None
  pub accepted : w.accepted ≤ length events
  pub begin : reads_begin w.text ≡ false
  pub vacuum : reads_vacuum w.text ≡ vacuums
  pub opened : is_open (before w events) c ≡ not vacuums
  pub stays : (a : Answer) → IsRejected catalog (before w events) c w.text a → ⊥

-- how many transactions began
abbrev pub begun_in : List Executed → ℕ
begun_in [] = 0
begun_in (s ∷ ss) = if begins s then suc (begun_in ss) else begun_in ss

-- a client has a transaction open after its statements
abbrev pub open_after : List Executed → Bool
open_after answered = fold is_open_after false answered

-- The client's transaction of that ordinal is open, under its id: none of its statements since its BEGIN ended it.
pub record IsOpenAs (c n : ℕ) (answered : List Executed) (t : TxnAt) : Type 0 where
  pub begin : Executed
  pub body : List Executed
  pub since : from_begin n answered ≡ begin ∷ body
  pub goes_on : AllByRecursion (λ s. ends s ≡ false) body
  pub id : t.id ≡ id_of c n
  pub client : c < 2 ^ 64

-- the statement that waits is one that reads by this plan
pub record IsReading (events : List Event) (c : ℕ) (w : Executed) (p : Planned) (x : ReadAt) : Type 0 where
  pub text : Reads w.text p.statement
  pub inner : IsInner w.text
  pub stage : ReadsBy (calls_of events c w) x.stage
  pub shows : StageObserves x.request (calls_of events c w) x.stage

-- it is the COMMIT of this transaction
pub record IsCommitting (events : List Event) (c : ℕ) (w : Executed) (t : TxnAt) (k : CommitAt) : Type 0 where
  pub text : reads_commit w.text ≡ true
  pub same : k.work.id ≡ t.id
  pub moment : is_moment k.work.now ≡ true
  pub stage : StageByCalls k.work (calls_of events c w) k.stage

-- What holds of the statement that waits, by what the client's transaction does.
abbrev pub IsDoing : List Event → ℕ → TxnAt → Option Planned → Option Executed → Doing → Type 0
IsDoing events c t p w doing.Idle = w ≡ None
IsDoing events c t (Some p) (Some w) (doing.Read a x) = IsReading events c w p x
IsDoing events c t p (Some w) (doing.Commit k) = IsCommitting events c w t k
IsDoing events c t p w d = ⊥

-- The read set of the statements is what the transaction has read, and what its COMMIT takes, prepares and checks.
abbrev pub IsReadSetOf : List Event → ℕ → List Executed → List Executed → TxnAt → Doing → Option Executed → Type 0
IsReadSetOf events c answered body t (doing.Commit k) None = Unit {0}
IsReadSetOf events c answered body t (doing.Commit k) (Some w) =
    WorkBy (read_items_of_body events c body) k.work × ChecksBy (read_items_of_body events c body) k.work (calls_of events c w) k.stage
IsReadSetOf events c answered body t d w = SeenBy (read_items_of_body events c body) t.seen

-- where a client is, by its statements
abbrev pub DoingByHistory : List Event → ℕ → ℕ → List Executed → Option Executed → Option Planned → Option TxnAt → Type 0
DoingByHistory events c n answered w p None = (w ≡ None) × (open_after answered ≡ false)
DoingByHistory events c n answered w p (Some t) = (open_after answered ≡ true) × (o : IsOpenAs c n answered t) × IsDoing events c t p w t.doing × IsReadSetOf events c answered o.body t t.doing w

-- it is a VACUUM, which is where its calls say
abbrev pub IsInVacuum : List Event → ℕ → List Executed → Option Executed → Option TxnAt → VacuumAt → Type 0
IsInVacuum events c answered None o v = ⊥
IsInVacuum events c answered (Some w) o v = (o ≡ None) × (open_after answered ≡ false) × VacuumBy (calls_of events c w) v

-- by the VACUUM that it runs, or else its open transaction
abbrev pub ClientByHistory : List Event → ℕ → ℕ → List Executed → Option Executed → Option Planned → Option TxnAt → Option VacuumAt → Type 0
ClientByHistory events c n answered w p o None = DoingByHistory events c n answered w p o
ClientByHistory events c n answered w p o (Some v) = IsInVacuum events c answered w o v

-- What holds of a client: its statements with their answers, and its state. Its open transaction runs under a catalog, and so does the
-- statement that waits.
pub record Knows (catalog : List Table) (events : List Event) (c : ℕ) (h : ClientAt) : Type 0 where
  pub entries : List Executed
  pub waiting : Option Executed
  pub under : List Table
  pub asked : IfSome waiting (λ w. catalog_after catalog (before w events) ≡ under)
  pub same : statements_by c events ≡ entries ++ waiting_of waiting
  pub answered : AllByRecursion (IsAnswered catalog events c) entries
  pub waits : IfSome waiting (IsWaiting catalog events c (is_some h.vacuum))
  pub moved : AreChanged events c entries entries
  pub number : h.number ≡ c
  pub begun : h.begun ≡ begun_in entries
  pub small : h.begun < 2 ^ 64
  pub agrees : ClientByHistory events c h.begun entries waiting h.plan h.txn h.vacuum
  pub counted : CountsBy catalog events c entries waiting h
  pub filled : IfSome h.txn (IsFilled events c (rest_of (from_begin h.begun entries)))
  pub fits : IfSome h.txn (IsFitOrReadTxn under events c (rest_of (from_begin h.begun entries)))
  pub stored : AreStoredReplies (calls_by events c)
  pub rolled : RollsBy events c entries waiting h
  pub shows : ViewBy catalog under events c entries h

---- all clients

-- A client's open transaction runs under the catalog as it is after the events so far.
abbrev pub IsCurrent : List Table → List Event → Option TxnAt → List Table → Type 0
IsCurrent catalog events o under = IfSome o (λ t. under ≡ catalog_after catalog events)

-- The cause invariant: of the events so far, the moment that the clock shows, and the clients, of which those that go on run under the
-- catalog of the moment.
pub record CauseInvariant (catalog : List Table) (events : List Event) (now : ℤ) (states : ℕ → ClientState) : Type 0 where
  pub clock : clock_at events (length events) ≡ now
  pub stopped : (c : ℕ) → has_stopped c events ≡ (states c).stopped
  pub each : (c : ℕ) → Knows catalog events c (states c).client
  pub current : (c : ℕ) → (states c).stopped ≡ false → IsCurrent catalog events (states c).client.txn (each c).under

-- A column is to be added to a table: it is added while no client that hasn't stopped has a transaction open, or it isn't.
abbrev pub AddsWithNoneOpen : (ℕ → ClientState) → Event → Type 0
AddsWithNoneOpen states (event.Alter table column kind altered.Done) = (c : ℕ) → (states c).stopped ≡ false → (states c).client.txn ≡ None
AddsWithNoneOpen states (event.Alter table column kind altered.Open) = Unit {0}
AddsWithNoneOpen states (event.Alter table column kind (altered.Refused k)) = Unit {0}
AddsWithNoneOpen states e = ⊥

-- with one client stopped
abbrev pub with_stopped : (ℕ → ClientState) → ℕ → ℕ → ClientState
with_stopped states c d = at states c (record { client = (states c).client; stopped = true }) d

-- no client that hasn't stopped, but this one, has a transaction open
abbrev pub NoneElsewhere : (ℕ → ClientState) → ℕ → Type 0
NoneElsewhere states c = (d : ℕ) → d ≢ c → (states d).stopped ≡ false → is_some (states d).client.txn ≡ false

-- one does
abbrev pub SomeElsewhere : (ℕ → ClientState) → ℕ → Type 0
SomeElsewhere states c = (d : ℕ) × (d ≢ c) × ((states d).stopped ≡ false) × (is_some (states d).client.txn ≡ true)

-- no client that hasn't stopped, but this one, runs VACUUM
abbrev pub NoneInVacuum : (ℕ → ClientState) → ℕ → Type 0
NoneInVacuum states c = (d : ℕ) → d ≢ c → (states d).stopped ≡ false → is_some (states d).client.vacuum ≡ false

-- one does
abbrev pub SomeInVacuum : (ℕ → ClientState) → ℕ → Type 0
SomeInVacuum states c = (d : ℕ) × (d ≢ c) × ((states d).stopped ≡ false) × (is_some (states d).client.vacuum ≡ true)

-- A gate says what the other clients do: whether one that hasn't stopped runs VACUUM, and whether one has a transaction open.
pub record IsGate (states : ℕ → ClientState) (c : ℕ) (g : Gate) : Type 0 where
  pub vacuums : g.vacuum_runs ≡ true → SomeInVacuum states c
  pub rests : g.vacuum_runs ≡ false → NoneInVacuum states c
  pub some : g.open_elsewhere ≡ true → SomeElsewhere states c
  pub none : g.open_elsewhere ≡ false → NoneElsewhere states c

---- what follows for the events

-- Each answer of a run has its cause, and a statement that is to be turned away is, unless memory ran out; the calls of all statements are
-- counted; the unresolved records that were found were rolled first; and rows in answers are rows that their transactions have.
pub record AnswersHaveCauses (catalog : List Table) (events : List Event) : Type 0 where
  pub caused : AreCaused catalog events
  pub counted : CallsAreCounted catalog events
  pub rolled : RecordsAreRolled events
  pub observed : RowsAreOwn catalog events
