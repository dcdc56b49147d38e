-- What a client's calls are about: the tables of a catalog, and the coordinator's.
use Rattle.std.specs.Prelude.{◌≡◌, true, List, Option, Some, None, is_some, IfSome}
use Rattle.std.specs.List.{AllByRecursion}
use Rattle.law_clients.specs.Types.{Access, Doing, Key, Read, ReadStep, Record, Scan, Span, Table, TableName, Write}
use Rattle.sdb_model.specs.Exec.{find_table}
use Rattle.sdb_exec.specs.Plans.{Planned}
use Rattle.sdb_model.specs.Reads.{access_of}
use Rattle.sdb_phases.specs.Work.{Work}
use Rattle.sdb_txn.specs.declared.read.ReadStep.TheVariants as step
use Rattle.sdb_txn.specs.Read.{Asking, Ended, ReadAt, ReadStage, Resolving, request_of}
use Rattle.sdb_snapshot.specs.Reads.{ReadRecord}
use Rattle.sdb_snapshot.specs.Seen.{Seen}
use Rattle.sdb_txn.specs.declared.txn.Doing.TheVariants as doing
use Rattle.sdb_vacuum.specs.Vacuum.{Over, Removing, Resolving as Resolves, Scanning, VacuumAt, VacuumStage}
use Rattle.sdb_client.specs.Client.{ClientAt as Client}

-- the catalog has a table of that name
abbrev pub IsListed : List Table → TableName → Type 0
IsListed catalog table = is_some (find_table catalog table) ≡ true

-- a key is of a table of the catalog
abbrev pub IsIn : List Table → Key → Type 0
IsIn catalog key = IsListed catalog key.table

abbrev pub IsRecordIn : List Table → Option Record → Type 0
IsRecordIn catalog found = IfSome found (λ r. IsIn catalog r.key)

abbrev pub AreRecordsIn : List Table → List Record → Type 0
AreRecordsIn catalog rs = AllByRecursion (λ r. IsIn catalog r.key) rs

-- a key that was read, and the record found there
abbrev pub AreReadItemsIn : List Table → List ReadRecord → Type 0
AreReadItemsIn catalog read_set = AllByRecursion (λ e. IsIn catalog e.0 × IsRecordIn catalog e.1) read_set

-- a write, and its base
abbrev pub AreWritesIn : List Table → List Write → Type 0
AreWritesIn catalog ws = AllByRecursion (λ w. IsIn catalog w.key × IsRecordIn catalog w.base) ws

abbrev pub AreReadsIn : List Table → List Read → Type 0
AreReadsIn catalog reads = AllByRecursion (λ r. IsIn catalog r.key) reads

abbrev pub AreScansIn : List Table → List Scan → Type 0
AreScansIn catalog scans = AllByRecursion (λ s. IsListed catalog s.span.table) scans

-- what a transaction has read and written
pub record IsSeenIn (catalog : List Table) (s : Seen) : Type 0 where
  pub read_set : AreReadItemsIn catalog s.read_set
  pub reads : AreReadsIn catalog s.reads
  pub scans : AreScansIn catalog s.scans
  pub writes : AreWritesIn catalog s.writes

-- what a COMMIT takes
pub record IsWorkIn (catalog : List Table) (p : Work) : Type 0 where
  pub writes : AreWritesIn catalog p.writes
  pub reads : AreReadsIn catalog p.reads
  pub scans : AreScansIn catalog p.scans

abbrev pub IsStepIn : List Table → ReadStep → Type 0
IsStepIn catalog (step.Images images) = AreRecordsIn catalog images
IsStepIn catalog s = Unit {0}

-- the record that is resolved, the images before it and the records left; the images at the end
abbrev pub IsStageIn : List Table → ReadStage → Type 0
IsStageIn catalog Asking = Unit {0}
IsStageIn catalog (Resolving images rec meta phase left) = AreRecordsIn catalog images × IsIn catalog rec.key × AreRecordsIn catalog left
IsStageIn catalog (Ended s) = IsStepIn catalog s

-- A statement reads by its plan: the rows of the access of its statement, on a table of the catalog.
pub record IsReadIn (catalog : List Table) (p : Planned) (a : Access) (x : ReadAt) : Type 0 where
  pub table : IsListed catalog p.table.name
  pub access : a ≡ access_of p.table p.statement
  pub asked : x.request ≡ request_of a
  pub stage : IsStageIn catalog x.stage

-- what a transaction has read and written and does, with the plan of the statement that reads
abbrev pub IsDoingIn : List Table → Seen → Doing → Option Planned → Type 0
IsDoingIn catalog s doing.Idle p = IsSeenIn catalog s
IsDoingIn catalog s (doing.Read a x) None = ⊥
IsDoingIn catalog s (doing.Read a x) (Some p) = IsSeenIn catalog s × IsReadIn catalog p a x
IsDoingIn catalog s (doing.Commit k) p = IsWorkIn catalog k.work
IsDoingIn catalog s doing.Over p = Unit {0}

-- spans of tables of the catalog
abbrev pub AreListed : List Table → List Span → Type 0
AreListed catalog spans = AllByRecursion (λ s. IsListed catalog s.table) spans

-- the record in hand and the rows left of a VACUUM
abbrev pub IsVacuumStageIn : List Table → VacuumStage → Type 0
IsVacuumStageIn catalog (Scanning span) = IsListed catalog span.table
IsVacuumStageIn catalog (Resolves rec meta phase left) = IsIn catalog rec.key × AreRecordsIn catalog left
IsVacuumStageIn catalog (Removing b left) = IsIn catalog b.key × AreRecordsIn catalog left
IsVacuumStageIn catalog Over = Unit {0}

abbrev pub IsVacuumIn : List Table → VacuumAt → Type 0
IsVacuumIn catalog v = IsVacuumStageIn catalog v.stage × AreListed catalog v.spans

-- A client is about tables of the catalog: all that its open transaction has read, found, written and does is of them, and also
-- what its VACUUM scans, resolves and removes.
pub record IsOfTables (catalog : List Table) (c : Client) : Type 0 where
  pub txn : IfSome c.txn (λ t. IsDoingIn catalog t.seen t.doing c.plan)
  pub vacuum : IfSome c.vacuum (IsVacuumIn catalog)
