-- Runs with the order of their recorded transactions, and the execution and the statements of each.
use Rattle.std.specs.Prelude.{Bool, List, ℕ}
use Rattle.law_clients.specs.Types.{Point, Script, Table, TableDump}
use Rattle.sdb_model.specs.declared.event.Outcome.{Outcome}
use Rattle.sdb_model.specs.Events.{IsTrace, StoreContents}
use Rattle.sdb_model.specs.Exec.{Tables}
use Rattle.sdb_model.specs.Follows.{Follows}
use Rattle.sdb_model.specs.Serial.{IsSerial, RespectsRealTime}
use Rattle.sdb_model.specs.Transactions.{IsOrder}
use Rattle.law_protocol.specs.Explained.{events_of, newest_first}
use Rattle.law_protocol.specs.Lawful.{Labelled}
use Rattle.law_protocol.specs.Runs.{AreOfIds, IsFaithfulRun, IsOrderOf, LawfulRun, RunInOrder, events_in, history_of, final_contents}
use Rattle.law_protocol.specs.Serial.{IsOrdered}
use Rattle.law_protocol.specs.Trace.{StartsEmpty}
use Rattle.law_clients.specs.Left.{AllBodiesExecuted, AllExecutions, Execution, IsFitting, ordinals_of}
use Rattle.law_clients.specs.Linked.{HaveStories}

-- A lawful run, the order of its recorded transactions, and what each of these did, over a test that fits.
pub record RunWithOrder : Type 0 where
  pub run : LawfulRun
  pub catalog : List Table
  pub fit : List Table → Tables → Bool
  pub fitting : IsFitting catalog fit
  pub order : List ℕ
  pub ordered : IsOrdered (history_of run) order
  pub ran : ℕ → Execution
  pub did : AllExecutions catalog fit run.plan run.past ran order

-- A run whose actions are those that the texts give, the order of its recorded transactions, and the execution and the statements of each.
pub record RunWithTexts : Type 0 where
  pub run : RunInOrder
  pub faithful : IsFaithfulRun run
  pub catalog : List Table
  pub fit : List Table → Tables → Bool
  pub fitting : IsFitting catalog fit
  pub order : List Point
  pub ordered : IsOrderOf run order
  pub ids : AreOfIds order
  pub ran : ℕ → Execution
  pub executed : AllBodiesExecuted catalog fit run.plan (events_in run) (newest_first run.labelled) ran (ordinals_of order)

-- with these printed tables it is serial
abbrev pub IsSerialWith : RunWithTexts → List TableDump → Type 0
IsSerialWith r tables = IsSerial r.catalog r.run.places (events_in r.run) (final_contents r.run) r.order tables

-- its order respects real time
abbrev pub IsInRealTime : RunWithTexts → Type 0
IsInRealTime r = RespectsRealTime r.run.places (events_in r.run) (final_contents r.run) r.order

-- Events of any number of clients with their stories follow a script's moves, and agree with stores whose tables began empty; with the order of
-- the recorded transactions.
pub record StoriesEnd (script : Script) : Type 0 where
  pub fit : List Table → Tables → Bool
  pub labelled : List Labelled
  pub opening : List StoreContents
  pub closing : List StoreContents
  pub moments : List (List StoreContents)
  pub order : List Point
  pub fitting : IsFitting script.catalog fit
  pub linked : HaveStories script.catalog fit labelled order
  pub follows : Follows script (events_of labelled)
  pub traced : IsTrace script.places (events_of labelled) opening moments closing
  pub empty : StartsEmpty script.places opening
  pub ordered : IsOrder script.places (events_of labelled) closing order
  pub ids : AreOfIds order

-- their outcome, with tables to print
abbrev pub outcome_of : {script : Script} → StoriesEnd script → List TableDump → Outcome
outcome_of e tables = record { events = events_of e.labelled; order = e.order; tables = tables }
