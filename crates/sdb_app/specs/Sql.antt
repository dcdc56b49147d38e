-- What the program promises of a session.
use Rattle.std.specs.Prelude.{◌≡◌, List, [], drop}
use Rattle.sdb_types.specs.Bytes.{HasRisen}
use Rattle.sdb_app.specs.Types.{CatalogRefused, Place, SessionRefused, Table}
use Rattle.sdb_stores.specs.Views.{Attached, StoreView as Counted}
use Rattle.sdb_catalog.specs.Calls.{IsOpened, IsUnread, ContentsAreUnchanged}
use Rattle.sdb_catalog.specs.Known.{IsKnownBad, IsKnownCatalog}
use Rattle.sdb_script.specs.declared.fault.LineFault.TheVariants.{Text}
use Rattle.sdb_shell.specs.declared.refused.SessionRefused.TheVariants as refused
use Rattle.sdb_shell.specs.Session.{IsCutSession, IsWhole}
use Rattle.sdb_app.specs.declared.status.InputFault.TheVariants.{Line}
use Rattle.sdb_app.specs.declared.status.Status.{Status}
use Rattle.sdb_app.specs.declared.status.Status.TheVariants as status
use Rattle.sdb_app.specs.Ends.{Ends, Work}
use Rattle.sdb_app.specs.Schema.{status_of_catalog}

---- the catalog

-- The stores of a call with these places, when they showed this.
abbrev pub stores_with : Work → List Place → List Counted → Attached
stores_with work places store_contents = record { places = places; views = store_contents; known = work.old.known }

-- The catalog of the first store was opened, and its namespaces are placed so. The stores hold what they held.
pub record IsCatalogOpened (work : Work) (catalog : List Table) (places : List Place) (mid : List Counted) : Type 0 where
  pub opened : IsOpened work.old (stores_with work places mid) catalog
  pub known : IsKnownCatalog work.old (stores_with work places mid) catalog
  pub unchanged : ContentsAreUnchanged work.old (stores_with work places mid)
  pub others : drop 1 mid ≡ drop 1 work.old.views

-- It was not opened, for this cause. The stores hold what they held.
pub record IsCatalogUnopened (work : Work) (cause : CatalogRefused) : Type 0 where
  pub refused : IsUnread work.old work.left cause
  pub bad : IsKnownBad work.old cause
  pub unchanged : ContentsAreUnchanged work.old (stores_with work [] work.left)
  pub others : drop 1 work.left ≡ drop 1 work.old.views

---- the session

-- how the program ends where a session stopped
abbrev pub status_of_session : SessionRefused → Status
status_of_session refused.ReadFault = status.ReadFault
status_of_session refused.WriteFault = status.WriteFault
status_of_session (refused.BadLine n) = status.BadInput n (Line Text)
status_of_session (refused.Limit n which) = status.Limit n which
status_of_session refused.NoMemory = status.NoMemory

-- A fault of the source or the sink comes only where its count rose.
abbrev pub IfFault : Ends → SessionRefused → Type 0
IfFault run refused.ReadFault = HasRisen run.work.input.faults run.work.rest.faults
IfFault run refused.WriteFault = HasRisen run.output.faults run.written.faults
IfFault run (refused.BadLine n) = Unit {0}
IfFault run (refused.Limit n which) = Unit {0}
IfFault run refused.NoMemory = Unit {0}

-- A whole session over this catalog, from stores that showed this to what they show in the end.
abbrev pub IsWholeSession : List Table → List Place → List Counted → Ends → Type 0
IsWholeSession catalog places mid run =
    IsWhole catalog (stores_with run.work places mid) (stores_with run.work places run.work.left) run.clock run.clock_then run.ids run.ids_then run.output.bytes run.written.bytes run.work.input.bytes run.work.rest.bytes

-- A session that stopped for this cause.
abbrev pub IsStoppedSession : List Table → List Place → List Counted → Ends → SessionRefused → Type 0
IsStoppedSession catalog places mid run cause =
    IsCutSession catalog (stores_with run.work places mid) (stores_with run.work places run.work.left) run.clock run.clock_then run.ids run.ids_then run.output.bytes run.written.bytes run.work.input.bytes run.work.rest.bytes cause

-- `sql` ends so: the catalog was not opened, and nothing was read or written; or it was, and there was a session, to the end of the input
-- or up to where it stopped.
pub data HasEndedSession (run : Ends) (s : Status) : Type 0 where
  Unopened : (cause : CatalogRefused) → IsCatalogUnopened run.work cause → s ≡ status_of_catalog cause → run.work.rest ≡ run.work.input → run.written ≡ run.output → HasEndedSession run s
  Whole : (catalog : List Table) (places : List Place) (mid : List Counted) → IsCatalogOpened run.work catalog places mid → IsWholeSession catalog places mid run → s ≡ status.Done → HasEndedSession run s
  Cut : (catalog : List Table) (places : List Place) (mid : List Counted) (cause : SessionRefused) → IsCatalogOpened run.work catalog places mid → IsStoppedSession catalog places mid run cause → IfFault run cause → s ≡ status_of_session cause → HasEndedSession run s
