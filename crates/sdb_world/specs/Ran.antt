-- A world that has run its script.
use Rattle.std.specs.Prelude.{◌≡◌, List, map, All, Contains}
use Rattle.std.specs.List.Sorted.{IsStrictlyIncreasing}
use Rattle.std.specs.FinMap.{empty}
use Rattle.sdb_world.specs.Types.{Event, Key, Outcome, Table, TxId}
use Rattle.sdb_record.specs.Coordinator.{coordinator_table}
use Rattle.sdb_model.specs.Catalogs.{catalog_after}
use Rattle.sdb_model.specs.Events.{IsTrace, StoreContents}
use Rattle.sdb_model.specs.Follows.{Follows}
use Rattle.sdb_model.specs.Serial.{IsRun}
use Rattle.sdb_model.specs.Transactions.{Recorded, point}
use Rattle.law_protocol.specs.Spread.{HoldAs}
use Rattle.sdb_stores.specs.Views.{Attached}
use Rattle.sdb_contents.specs.Board.{AreUsable, AreUsableFor, contents_of_views, known_before}
use Rattle.sdb_contents.specs.Held.{AreDumpsWhereKnown, AreWellFormedWhereKnown, IsOddIn}
use Rattle.law_runs.specs.World.{WorldAt}
use Rattle.sdb_client.specs.Execution.{IsExecution}
use Rattle.sdb_world.specs.Explained.{IsExplained}

-- A world has made all moves of its script on stores that held nothing of the script's tables to begin with: its events are an execution of
-- its clients, and a trace of the stores agrees with them.
pub record HasRun (w : WorldAt) (opening closing : List StoreContents) : Type 0 where
  pub executed : IsExecution w.script w.events
  pub follows : Follows w.script w.events
  pub moments : List (List StoreContents)
  pub traced : IsTrace w.script.places w.events opening moments closing
  pub nothing : HoldAs w.script.catalog w.script.places opening empty

-- A world has run its script on these stores, which are fit for it and have its places, and began with this.
pub record HasRunOn (w : WorldAt) (opening : List StoreContents) (stores : Attached) : Type 0 where
  pub fit : AreUsable w.script.catalog stores
  pub as_placed : stores.places ≡ w.script.places
  pub ran : HasRun w opening (contents_of_views stores.views)

-- The outcome is that of a run of a world's script, where the world has run it on stores that are fit for it.
abbrev pub IsOutcomeOf : WorldAt → Attached → Attached → Outcome → Type 0
IsOutcomeOf w old new o = (opening : List StoreContents) → HasRunOn w opening old → IsRun w.script opening (contents_of_views new.views) o

-- What an outcome says of stores of which not all need have known contents: the transactions of its order are each there with its point, by
-- rising points, and are recorded, where the coordinator's table is known; and there is one dump of each table of the catalog, which is that of
-- its committed images, where its store and the coordinator's are known. Where they are known each record of it is well formed.
pub record IsReadWhereKnown (catalog : List Table) (stores : Attached) (o : Outcome) : Type 0 where
  pub points : All (λ p. p.event ≡ point o.events p.id) o.order
  pub rising : IsStrictlyIncreasing (map (λ p. p.event) o.order)
  pub recorded : AreUsableFor coordinator_table stores → (id : TxId) → Contains (map (λ p. p.id) o.order) id → Recorded stores.places (contents_of_views stores.views) id
  pub dumped : AreDumpsWhereKnown catalog stores o.tables
  pub well_formed : AreWellFormedWhereKnown catalog stores

-- The record at a key breaks the rules of its table, as that is after a world's events, as far as contents were known.
abbrev pub IsOddAtEnd : WorldAt → Attached → Attached → Key → Type 0
IsOddAtEnd w old new = IsOddIn (catalog_after w.script.catalog w.events) (known_before old new)

-- A world has not run its script on stores that are fit for it.
abbrev pub HasNotRun : WorldAt → Attached → Type 0
HasNotRun w stores = (opening : List StoreContents) → HasRunOn w opening stores → ⊥

-- What the stores held at each moment of a world's run is explained by these events.
abbrev pub IsRunExplained : WorldAt → Attached → List Event → Type 0
IsRunExplained w stores events = (opening : List StoreContents) → HasRun w opening (contents_of_views stores.views) → IsExplained w.script events opening
