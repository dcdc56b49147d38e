-- What the stores held while an execution went on.
use Rattle.std.specs.Prelude.{ℕ, List, take}
use Rattle.std.specs.FinMap.{empty}
use Rattle.sdb_model.specs.Events.{IsTrace, StoreContents, moment}
use Rattle.sdb_model.specs.Explained.{WritesPersist}
use Rattle.law_protocol.specs.Spread.{HoldAs}
use Rattle.law_runs.specs.Stores.{AreSound}
use Rattle.law_runs.specs.Laws.{ExecutionOf}

-- A trace of the stores that agrees with the events of an execution, from stores that held nothing of the script's tables.
pub record TraceOf (x : ExecutionOf) : Type 0 where
  pub opening : List StoreContents
  pub closing : List StoreContents
  pub moments : List (List StoreContents)
  pub trace : IsTrace x.script.places x.events opening moments closing
  pub nothing : HoldAs x.script.catalog x.script.places opening empty

-- After the first events of it each key that a transaction recorded by then had prepared shows what it left there, or what a later one did.
abbrev pub WritesPersistAfter : (x : ExecutionOf) → TraceOf x → ℕ → Type 0
WritesPersistAfter x t n = WritesPersist x.script.catalog x.script.places (take n x.events) t.opening (take n t.moments)

-- After them each record in the script's tables passes the checks, and each record in the coordinator's table is a well formed row.
abbrev pub IsSoundAfter : (x : ExecutionOf) → TraceOf x → ℕ → Type 0
IsSoundAfter x t n = AreSound x.script.catalog x.script.places (moment t.opening t.moments n)
