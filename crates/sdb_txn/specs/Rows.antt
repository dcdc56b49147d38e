-- What the rows of a read have come to, as the code holds it.
use Rattle.std.specs.Prelude.{◌≡◌, ◌≢◌, List, [], Option, Some, None, Result, Ok, Err}
use Rattle.sdb_txn.specs.Types.{Record, Reply}
use Rattle.sdb_phases.specs.declared.step.RecoverPhase.TheVariants as phase
use Rattle.sdb_phases.specs.Recover.{Recovers}
use Rattle.sdb_txn.specs.declared.read.ReadStep.{ReadStep}
use Rattle.sdb_txn.specs.declared.read.ReadStep.TheVariants as step
use Rattle.sdb_txn.specs.declared.row_kinds.Sort.{Sort}
use Rattle.sdb_txn.specs.declared.row_kinds.Sort.TheVariants as sort
use Rattle.sdb_txn.specs.declared.row_kinds.Settled.{Settled}
use Rattle.sdb_txn.specs.declared.row_kinds.Settled.TheVariants as settled
use Rattle.sdb_txn.specs.Read.{Kind, Firm, Open, Bad, ReadStage, Asking, Resolving, Ended, answered, kind_of, settle}

abbrev pub sort_of : Kind → Sort
sort_of Firm = sort.Firm
sort_of (Open meta) = sort.Open
sort_of Bad = sort.Bad

-- the row that is to be resolved is unresolved
abbrev pub IsOpen : Settled → Type 0
IsOpen settled.All = Unit {0}
IsOpen (settled.Open r) = sort_of (kind_of r) ≡ sort.Open
IsOpen (settled.Bad key) = Unit {0}

abbrev pub open_stage : Kind → List Record → Record → List Record → ReadStage
open_stage Firm images r left = Ended step.NoMemory
open_stage (Open meta) images r left = Resolving images r meta phase.Look left
open_stage Bad images r left = Ended step.NoMemory

abbrev pub settled_stage : Settled → List Record → List Record → ReadStage
settled_stage settled.All images left = Ended (step.Images images)
settled_stage (settled.Open r) images left = open_stage (kind_of r) images r left
settled_stage (settled.Bad key) images left = Ended (step.BadRecord key)

-- the rows of a reply, or how it ends the read: out of memory may be returned in place of rows
abbrev pub AreRowsOf : Reply → Result (List Record) ReadStep → Type 0
AreRowsOf r (Ok rows) = answered r ≡ settle [] rows
AreRowsOf r (Err s) = (s ≢ step.More) × (s ≢ step.NoMemory → answered r ≡ Ended s)

abbrev pub stage_in : Option Recovers → List Record → List Record → ReadStage
stage_in None images left = Asking
stage_in (Some r) images left = Resolving images r.rec r.meta r.phase left
