-- What the transactions of a client have read, by what the calls of its statements observed.
use Rattle.std.specs.Prelude.{◌≡◌, ◌≤◌, ℕ, List, length, Option, Some, IfSome}
use Rattle.std.specs.List.{AllByRecursion}
use Rattle.sdb_model.specs.declared.event.Event.{Event}
use Rattle.sdb_model.specs.Transactions.{Executed}
use Rattle.sdb_snapshot.specs.Seen.{Seen}
use Rattle.law_clients.specs.System.{ClientAt, Reading}
use Rattle.law_clients.specs.Calls.{IsReadSetIn, ReadMade, WasAnswered, calls_since}
use Rattle.law_clients.specs.Left.{Execution}
use Rattle.law_clients.specs.Story.{Closed, Finished, Opened, Rest, txn_ended_at}
use Rattle.law_clients.specs.History.{ClientHistory}

-- The statements inside of a transaction were answered, and their read set is what the transaction has read.
pub record ReadSetInside (events : List Event) (c : ℕ) (inside : List Executed) (seen : Seen) : Type 0 where
  pub answered : AllByRecursion (WasAnswered events) inside
  pub as_read : IsReadSetIn events c inside seen

-- this holds of each transaction that has ended
abbrev pub ReadSetsEnded : List Event → ℕ → List Finished → (ℕ → Execution) → Type 0
ReadSetsEnded events c whole ran = (k : ℕ) (f : Finished) → txn_ended_at whole k ≡ Some f → ReadSetInside events c f.body (ran k).seen

-- and of the one that is open
abbrev pub ReadSetOpened : List Event → ℕ → Rest → Execution → Type 0
ReadSetOpened events c (Closed gap) r = Unit {0}
ReadSetOpened events c (Opened gap b body) r = ReadSetInside events c body r.seen

-- Where a client reads, the calls since the taking of the statement that waits are those that the read has made.
abbrev pub IsMadeSince : List Event → ℕ → Option Executed → ClientAt → Type 0
IsMadeSince events c o (Reading i seen a s) = IfSome o (λ w. ReadMade (calls_since events c w.accepted) a s)
IsMadeSince events c o y = Unit {0}

-- What each transaction of a client has read is what its statements read, and what the statement that waits has read so far is what its
-- calls showed.
pub record ReadSetsOfClient (events : List Event) (c : ℕ) (agrees : ClientAt) (x : ClientHistory) (ran : ℕ → Execution) : Type 0 where
  pub ended : ReadSetsEnded events c x.whole ran
  pub opened : ReadSetOpened events c x.rest (ran (length x.whole))
  pub accepted : IfSome x.waiting (λ w. w.accepted ≤ length events)
  pub made : IsMadeSince events c x.waiting agrees
