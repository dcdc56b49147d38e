-- Where the events of clients end.
use Rattle.std.specs.Prelude.{◌<◌, ◌^◌, All, List}
use Rattle.std.specs.FinMap.{empty}
use Rattle.law_runs.specs.Types.{Event, Point, Script}
use Rattle.sdb_model.specs.Events.{IsTrace, StoreContents}
use Rattle.sdb_model.specs.Follows.{Follows}
use Rattle.sdb_model.specs.Transactions.{IsOrder}
use Rattle.law_protocol.specs.Spread.{AreAbout, HoldAs}

-- Events follow a script's moves, about its tables and the coordinator's, and agree with stores that held nothing of these to begin
-- with; and this is the order of the transactions that are recorded in the end.
pub record IsEnd (script : Script) (events : List Event) (opening closing : List StoreContents) (order : List Point) : Type 0 where
  pub moments : List (List StoreContents)
  pub follows : Follows script events
  pub traced : IsTrace script.places events opening moments closing
  pub about : AreAbout script.catalog events
  pub nothing : HoldAs script.catalog script.places opening empty
  pub ordered : IsOrder script.places events closing order
  pub small : All (λ p. p.id.0 < 2 ^ 128) order
