-- VACUUM: the rows of a table are read, each unresolved one is resolved, and each tombstone is removed.
use Rattle.std.specs.Prelude.{◌≡◌, ℤ, true, if◌then◌else◌, List, [], ◌∷◌, Option, Some, None}
use Rattle.std.specs.List.{AllByRecursion}
use Rattle.law_clients.specs.Types.{Meta, Record, RecoverPhase, RecoverStep, Reply, Request, Span, TxId}
use Rattle.sdb_types.specs.declared.record.Reply.TheVariants as reply
use Rattle.sdb_types.specs.declared.record.Request.TheVariants as ask
use Rattle.sdb_record.specs.declared.access.Access.TheVariants as access
use Rattle.sdb_record.specs.Meta.{id_in}
use Rattle.sdb_record.specs.Rolls.{is_tombstone, remove_request}
use Rattle.law_protocol.specs.History.{Action, Other, Removes}
use Rattle.law_protocol.specs.Lawful.{Labelled}
use Rattle.sdb_phases.specs.declared.step.RecoverStep.TheVariants as steps
use Rattle.sdb_phases.specs.declared.step.RecoverPhase.TheVariants as phase
use Rattle.sdb_phases.specs.Recover.{recover_next, recover_request_at}
use Rattle.law_clients.specs.Reader.{RecoverOk, recover_action}
use Rattle.law_clients.specs.ReadAt.{IsImage, IsLeft, IsOfData}
use Rattle.sdb_txn.specs.Read.{Kind, Firm, Open, Bad, kind_of}
use Rattle.sdb_model.specs.Tables.{is_data}

---- the model

-- Where a VACUUM is: the rows of a table are asked for; it resolves a record, with the rows left; it removes a tombstone,
-- with the rows left; or no call is pending: a table is done, or it has failed.
pub data VacuumModel : Type 0 where
  Scanning : (span : Span) → VacuumModel
  Resolving : (rec : Record) (meta : Meta) (phase : RecoverPhase) (left : List Record) → VacuumModel
  Removing : (tombstone : Record) (left : List Record) → VacuumModel
  Between : VacuumModel

-- the call that is pending
abbrev pub vacuum_call : VacuumModel → Option Request
vacuum_call (Scanning span) = Some (ask.Scan span)
vacuum_call (Resolving rec meta p left) = recover_request_at rec meta p
vacuum_call (Removing b left) = remove_request b
vacuum_call Between = None

-- a committed record is removed where it is a tombstone
abbrev pub remove_or : Record → List Record → VacuumModel → VacuumModel
remove_or b left rest = if is_tombstone b then Removing b left else rest

-- one row: removed where it is a tombstone, resolved where it is unresolved; a record of no transaction ends the VACUUM
abbrev pub vacuum_one : Kind → Record → List Record → VacuumModel → VacuumModel
vacuum_one Firm r left rest = remove_or r left rest
vacuum_one (Open meta) r left rest = Resolving r meta phase.Look left
vacuum_one Bad r left rest = Between

-- rows up to the first that is a tombstone or unresolved need no call
abbrev pub vacuum_rows : List Record → VacuumModel
vacuum_rows [] = Between
vacuum_rows (r ∷ left) = vacuum_one (kind_of r) r left (vacuum_rows left)

-- A record whose transaction may still decide is passed over. Any other end of a recovery but an image ends the VACUUM.
abbrev pub vacuum_resolved : Record → Meta → List Record → RecoverPhase × RecoverStep → VacuumModel
vacuum_resolved rec meta left (p, steps.More) = Resolving rec meta p left
vacuum_resolved rec meta left (p, steps.Image None) = vacuum_rows left
vacuum_resolved rec meta left (p, steps.Image (Some b)) = remove_or b left (vacuum_rows left)
vacuum_resolved rec meta left (p, steps.Busy id at) = vacuum_rows left
vacuum_resolved rec meta left (p, s) = Between

-- the rows of a scan
abbrev pub vacuum_scanned : Reply → VacuumModel
vacuum_scanned (reply.Rows rows) = vacuum_rows rows
vacuum_scanned r = Between

-- after a removal that was applied or not met it continues
abbrev pub vacuum_removed : List Record → Reply → VacuumModel
vacuum_removed left reply.Applied = vacuum_rows left
vacuum_removed left (reply.NotMet found) = vacuum_rows left
vacuum_removed left r = Between

-- where a reply at a moment leads
abbrev pub vacuum_model_step : VacuumModel → ℤ → Reply → VacuumModel
vacuum_model_step (Scanning span) now r = vacuum_scanned r
vacuum_model_step (Resolving rec meta p left) now r = vacuum_resolved rec meta left (recover_next rec meta p now r)
vacuum_model_step (Removing b left) now r = vacuum_removed left r
vacuum_model_step Between now r = Between

-- the part of a removal
abbrev pub removes_action : Record → Option TxId → Action
removes_action b None = Other
removes_action b (Some id) = Removes b.key id.0

-- the action of its call
abbrev pub vacuum_action : VacuumModel → Reply → Action
vacuum_action (Scanning span) r = Other
vacuum_action (Resolving rec meta p left) r = recover_action rec meta p r
vacuum_action (Removing b left) r = removes_action b (id_in b.columns)
vacuum_action Between r = Other

---- what its client knows

-- What the client knows where a VACUUM is: of the record in hand, and of each row left.
abbrev pub VacuumModelOk : List Labelled → VacuumModel → Type 0
VacuumModelOk past (Scanning span) = IsOfData (access.Scan span)
VacuumModelOk past (Resolving rec meta p left) = RecoverOk past rec meta p × AllByRecursion (IsLeft past) left
VacuumModelOk past (Removing b left) = IsImage past b × (is_tombstone b ≡ true) × (is_data b.key ≡ true) × AllByRecursion (IsLeft past) left
VacuumModelOk past Between = Unit {0}
