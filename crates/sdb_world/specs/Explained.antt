-- Which records are in the stores at every moment of a run, which events put them there, and that reads are current.
use Rattle.std.specs.Prelude.{List, [], ◌∷◌, ◌++◌}
use Rattle.std.specs.FinMap.{empty}
use Rattle.sdb_world.specs.Types.{Event, Place, Script}
use Rattle.sdb_model.specs.Events.{IsTrace, StoreContents}
use Rattle.sdb_model.specs.Explained.{Explained, AreTransactional}
use Rattle.sdb_model.specs.DirtyReads.{NoDirtyReads}
use Rattle.sdb_model.specs.InFlight.{FlightsExplained}
use Rattle.law_protocol.specs.Spread.{HoldAs}
use Rattle.sdb_stores.specs.Views.{Attached}
use Rattle.sdb_contents.specs.Board.{AreUsable, contents_of_views}
use Rattle.law_runs.specs.World.{WorldAt, state_of}
use Rattle.sdb_client.specs.Execution.{IsReachedBy}

-- What was there, and in flight, at each of these moments is explained by the events of a script's run, what each recorded transaction read
-- is current at its point, and each record that was at a key of a table passes the checks.
pub record AreExplained (script : Script) (events : List Event) (opening : List StoreContents) (moments : List (List StoreContents)) : Type 0 where
  pub explained : Explained script.catalog script.places events opening moments
  pub accepted : AreTransactional script.catalog script.places opening moments
  pub flights : FlightsExplained script.catalog script.places events opening moments

-- This holds whatever the stores held after each event.
abbrev pub IsExplained : Script → List Event → List StoreContents → Type 0
IsExplained script events opening = (moments : List (List StoreContents)) (closing : List StoreContents) → IsTrace script.places events opening moments closing → AreExplained script events opening moments

-- Whatever they held, no transaction observed a row that was neither its own nor committed when it was read.
abbrev pub HasNoDirtyReads : Script → List Event → List StoreContents → Type 0
HasNoDirtyReads script events opening = (moments : List (List StoreContents)) (closing : List StoreContents) → IsTrace script.places events opening moments closing → NoDirtyReads script.catalog script.places events opening moments

-- Stores, as they are now, end a trace that extends these moments and agrees with a world's events, and by these what was
-- there, and in flight, at each moment is explained, and what was read is current.
pub record IsTraceExplainedAfter (places : List Place) (v : WorldAt) (opening : List StoreContents) (moments : List (List StoreContents)) (now : List StoreContents) : Type 0 where
  pub traced : IsTrace places v.events opening (moments ++ now ∷ []) now
  pub explained : Explained v.script.catalog places v.events opening (moments ++ now ∷ [])
  pub flights : FlightsExplained v.script.catalog places v.events opening (moments ++ now ∷ [])

-- A world came to another by one event. On stores that are fit for it, where its events so far are an execution that leads to where its
-- clients are, each trace of them stays explained that began with stores that held nothing of the script's tables and ended as the stores
-- were before the event.
abbrev pub IsExplainedAfter : Attached → Attached → WorldAt → WorldAt → Type 0
IsExplainedAfter old new w v =
    AreUsable w.script.catalog old → IsReachedBy w.script w.events (state_of w) → (opening : List StoreContents) (moments : List (List StoreContents)) → HoldAs w.script.catalog old.places opening empty → IsTrace old.places w.events opening moments (contents_of_views old.views) → IsTraceExplainedAfter old.places v opening moments (contents_of_views new.views)
