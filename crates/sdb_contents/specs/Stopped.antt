-- Why a call had no answer.
use Rattle.std.specs.Prelude.{◌≡◌, List, Option, Some}
use Rattle.sdb_contents.specs.Types.{Record, Request}
use Rattle.sdb_stores.specs.Views.{Attached, StoreView, HaveRisen}
use Rattle.sdb_contents.specs.Copying.{IsFirstBlocking, Passes, WasUnmet, key_asked}
use Rattle.sdb_contents.specs.Writes.{Write}
use Rattle.sdb_contents.specs.declared.retire_refused.RetireRefused.{RetireRefused}
use Rattle.sdb_contents.specs.declared.retire_refused.RetireRefused.TheVariants as refused

-- Why a call had no answer: a fault raised the count of the stores, or memory ran out.
abbrev pub IsStopped : List StoreView → List StoreView → RetireRefused → Type 0
IsStopped old new refused.StoreFault = HaveRisen old new
IsStopped old new (refused.BadRow key) = ⊥
IsStopped old new refused.NoMemory = Unit {0}

-- why the rows of a table were refused
abbrev pub IsBlockedIn : List Record → List Record → RetireRefused → Type 0
IsBlockedIn in_to in_from refused.StoreFault = ⊥
IsBlockedIn in_to in_from (refused.BadRow key) = IsFirstBlocking in_to in_from key
IsBlockedIn in_to in_from refused.NoMemory = Unit {0}

-- Why a write was not made, or not passed over: a fault raised the count of the stores, or it found another record.
abbrev pub IsUnwritten : List Write → Attached → List StoreView → RetireRefused → Type 0
IsUnwritten writes old new refused.StoreFault = HaveRisen old.views new
IsUnwritten writes old new (refused.BadRow key) = WasUnmet writes key old new
IsUnwritten writes old new refused.NoMemory = Unit {0}

-- A put found another record at its key.
abbrev pub IsUnmet : Request → Option Record → RetireRefused → Type 0
IsUnmet request found refused.StoreFault = ⊥
IsUnmet request found (refused.BadRow key) = (key_asked request ≡ Some key) × (Passes request found → ⊥)
IsUnmet request found refused.NoMemory = Unit {0}
