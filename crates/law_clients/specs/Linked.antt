-- The invariant between the events of a run and its clients, with each client's story.
use Rattle.std.specs.Prelude.{ℕ, Bool, List}
use Rattle.law_clients.specs.Types.{Point, Table}
use Rattle.sdb_model.specs.Exec.{Tables}
use Rattle.law_protocol.specs.Plan.{Plan}
use Rattle.law_protocol.specs.Lawful.{Labelled}
use Rattle.law_protocol.specs.Explained.{newest_first, events_of}
use Rattle.law_clients.specs.System.{SystemAt, SystemOk}
use Rattle.law_clients.specs.Left.{Execution, AllBodiesExecuted, ordinals_of}
use Rattle.law_clients.specs.History.{AllStories, ClientHistory}

-- Plans with which the invariant of all clients holds after the events, and each client has its story; and the execution and the statements
-- of each transaction of the order.
pub record HaveStories (catalog : List Table) (fit : List Table → Tables → Bool) (labelled : List Labelled) (order : List Point) : Type 0 where
  pub plan : ℕ → Plan
  pub sys : SystemAt
  pub answered : ℕ → ClientHistory
  pub ran : ℕ → Execution
  pub system : SystemOk plan (newest_first labelled) sys
  pub stories : AllStories (events_of labelled) (newest_first labelled) sys answered
  pub bodies : AllBodiesExecuted catalog fit plan (events_of labelled) (newest_first labelled) ran (ordinals_of order)
