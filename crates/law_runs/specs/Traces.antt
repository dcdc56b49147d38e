-- Events with a trace of the stores that agrees with them at every moment.
use Rattle.std.specs.Prelude.{◌≡◌, Bool, List, None, Option, ℕ}
use Rattle.std.specs.FinMap.{empty}
use Rattle.law_runs.specs.Types.{Event, Key, Pair, Place, Point, Script, Statement, Table, TableDump}
use Rattle.sdb_record.specs.Coordinator.{coordinator_table}
use Rattle.sdb_model.specs.declared.event.Outcome.{Outcome}
use Rattle.sdb_model.specs.Calls.{calls_of}
use Rattle.sdb_model.specs.Events.{IsTrace, StoreContents}
use Rattle.sdb_model.specs.Exec.{Tables, find_table}
use Rattle.sdb_model.specs.Explained.{IsTableKey, ContentsExplained, AreTransactional}
use Rattle.sdb_model.specs.Rows.{Name}
use Rattle.sdb_model.specs.DirtyReads.{AnswersHaveRows, NoDirtyReads, WasCommitted, WasFound}
use Rattle.sdb_model.specs.Transactions.{Executed}
use Rattle.law_protocol.specs.Trace.{StartsEmpty}
use Rattle.law_clients.specs.System.{SystemAt}
use Rattle.law_clients.specs.Left.{IsFitting}
use Rattle.law_clients.specs.Invariant.{RunInvariant}
use Rattle.law_clients.specs.Progress.{Progress}
use Rattle.law_protocol.specs.Spread.{AreAbout, HoldAs, relocated_events}
use Rattle.law_runs.specs.Ending.{IsEnd}
use Rattle.law_runs.specs.DirtyReads.{FoundDecided, ReadBy}
use Rattle.law_runs.specs.Stores.{IsTraceOnEmpty}

---- any events

-- Events of a run with that catalog, and stores that agree with them at every moment.
pub record Traced : Type 0 where
  pub catalog : List Table
  pub places : List Place
  pub events : List Event
  pub opening : List StoreContents
  pub closing : List StoreContents
  pub moments : List (List StoreContents)
  pub trace : IsTrace places events opening moments closing

-- no table of the catalog is the coordinator's
abbrev pub IsApart : Traced → Type 0
IsApart t = find_table t.catalog coordinator_table ≡ None

-- what is there at every moment is explained by the events
abbrev pub IsExplainedTrace : Traced → Type 0
IsExplainedTrace t = ContentsExplained t.catalog t.places t.events t.opening t.moments

-- each record that is at a key of a table at any moment passes the checks
abbrev pub HasTransactional : Traced → Type 0
HasTransactional t = AreTransactional t.catalog t.places t.opening t.moments

-- answers show rows that their transactions have, as the calls of statements whose reads finished showed them
abbrev pub AnswersAsRead : Traced → Type 0
AnswersAsRead t = AnswersHaveRows t.catalog (ReadBy t.catalog t.events) t.events

-- no transaction observed a row that was neither its own nor committed
abbrev pub HasNoDirtyReads : Traced → Type 0
HasNoDirtyReads t = NoDirtyReads t.catalog t.places t.events t.opening t.moments

-- A statement of a client, and a key of a table.
pub record ExecutedAtKey (t : Traced) : Type 0 where
  pub client : ℕ
  pub executed : Executed
  pub key : Key
  pub of_table : IsTableKey t.catalog key

-- its calls showed that row there
abbrev pub WasFoundAt : {t : Traced} → ExecutedAtKey t → Option (List Pair) → Type 0
WasFoundAt {t} x row = WasFound (calls_of t.events x.client x.executed) x.key row

-- and the decision on each record that they found there unresolved
abbrev pub WereDecidedAt : {t : Traced} → ExecutedAtKey t → Type 0
WereDecidedAt {t} x = FoundDecided t.events x.client x.executed x.key

-- the row was the one of the committed image at a moment between the statement's Take and its last event
abbrev pub WasCommittedAt : {t : Traced} → ExecutedAtKey t → Option (List Pair) → Type 0
WasCommittedAt {t} x row = WasCommitted t.places t.events t.opening t.moments x.client x.executed x.key row

---- events of which the run invariant holds

-- Such events agree with stores whose tables began empty.
pub record TracedProgress : Type 0 where
  pub progress : Progress
  pub places : List Place
  pub opening : List StoreContents
  pub closing : List StoreContents
  pub moments : List (List StoreContents)
  pub trace : IsTrace places progress.events opening moments closing
  pub empty : StartsEmpty places opening

-- The run invariant holds of events as made on one store.
pub record InvariantOnOne (catalog : List Table) : Type 0 where
  pub name : Name
  pub fit : List Table → Tables → Bool
  pub events : List Event
  pub sys : SystemAt
  pub doing : ℕ → Option Statement
  pub running : RunInvariant catalog fit (relocated_events (λ ns. name) events) sys doing

-- Such events, about the tables of a catalog, agree with stores that held nothing of these to begin with.
pub record TracedOnStores : Type 0 where
  pub catalog : List Table
  pub running : InvariantOnOne catalog
  pub apart : find_table catalog coordinator_table ≡ None
  pub places : List Place
  pub opening : List StoreContents
  pub closing : List StoreContents
  pub moments : List (List StoreContents)
  pub trace : IsTrace places running.events opening moments closing
  pub about : AreAbout catalog running.events
  pub nothing : HoldAs catalog places opening empty

-- Such events agree with the stores of a script, whose tables held nothing to begin with.
pub record TraceOnStores (script : Script) : Type 0 where
  pub running : InvariantOnOne script.catalog
  pub opening : List StoreContents
  pub closing : List StoreContents
  pub labelled : IsTraceOnEmpty script running.events opening closing

-- Such events end on the stores of a script, with the order of what is recorded.
pub record EndOnStores (script : Script) : Type 0 where
  pub running : InvariantOnOne script.catalog
  pub fitting : IsFitting script.catalog running.fit
  pub opening : List StoreContents
  pub closing : List StoreContents
  pub order : List Point
  pub ends : IsEnd script running.events opening closing order

-- their outcome, with tables to print
abbrev pub outcome_on : {script : Script} → EndOnStores script → List TableDump → Outcome
outcome_on e tables = record { events = e.running.events; order = e.order; tables = tables }
