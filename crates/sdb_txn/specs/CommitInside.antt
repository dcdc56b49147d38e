-- The representation of a COMMIT under way, and its invariant.
use Rattle.std.specs.Prelude.{◌≡◌, ◌<◌, ℕ, Bool, if◌then◌else◌, Option, Some, None, IsSome}
use Rattle.sdb_txn.specs.Types.{AbortPhase, Outcome}
use Rattle.sdb_phases.specs.declared.step.Outcome.TheVariants as outcome
use Rattle.sdb_phases.specs.declared.step.AbortPhase.TheVariants as abort
use Rattle.sdb_phases.specs.declared.step.DecidePhase.TheVariants as decide
use Rattle.sdb_record.specs.Groups.{AreGroups, grouped}
use Rattle.sdb_phases.specs.Work.{Work, prepares, forwards, backs, abort_of, writes_before}
use Rattle.sdb_phases.specs.Checks.{checks}
use Rattle.sdb_phases.specs.Steps.{Aborting}
use Rattle.sdb_phases.specs.Commit.{Stage, Preparing, Checking, Deciding, Forward, Stopping, Back, Over}
use Rattle.sdb_txn.specs.declared.commit_phases.Phase.{Phase}
use Rattle.sdb_txn.specs.declared.commit_phases.Phase.TheVariants as phase
use Rattle.sdb_txn.specs.declared.commit_phases.CommitPhases.TheInside.{Inside}
use Rattle.sdb_txn.specs.Phases.{CommitAt}

abbrev pub work_of : Inside → Work
work_of c = record { id = c.id; now = c.moment; writes = c.writes; reads = c.reads; scans = c.scans }

abbrev pub undo_stage : Outcome → AbortPhase → Aborting → Stage
undo_stage a abort.Rolling u = Back a u.upto u.at
undo_stage a abort.Row u = Stopping a u.upto
undo_stage a abort.Idle u = Stopping a u.upto

-- the stage of an abort that keeps what it will answer
abbrev pub abort_stage : Option Outcome → Inside → Stage
abort_stage None c = Over outcome.NoMemory
abort_stage (Some a) c = undo_stage a c.abort.phase c.abort

abbrev pub stage_of : Phase → Inside → Stage
stage_of phase.Prepare c = Preparing c.prepare.at
stage_of phase.Validate c = Checking c.validate.at
stage_of phase.Decide c = Deciding c.decide.phase
stage_of phase.Forward c = Forward c.commit.at
stage_of phase.Abort c = abort_stage c.answer c
stage_of phase.Ended c = Over outcome.NoMemory

abbrev pub commit_of : Inside → CommitAt
commit_of c = record { work = work_of c; stage = stage_of c.phase c }

abbrev pub IsAbortPending : AbortPhase → Aborting → Type 0
IsAbortPending abort.Idle u = ⊥
IsAbortPending abort.Row u = u.at ≡ 0
IsAbortPending abort.Rolling u = u.at < u.upto

-- The phases to come are at their start.
abbrev pub IsReady : Phase → Inside → Type 0
IsReady phase.Prepare c = (c.prepare.asks ≡ prepares (work_of c)) × (c.prepare.touched ≡ writes_before (work_of c) c.prepare.at) × (c.validate.at ≡ 0) × (c.decide.phase ≡ decide.Put) × (c.commit.at ≡ 0) × (c.abort.phase ≡ abort.Idle)
IsReady phase.Validate c = (c.decide.phase ≡ decide.Put) × (c.commit.at ≡ 0) × (c.abort.phase ≡ abort.Idle)
IsReady phase.Decide c = (c.commit.at ≡ 0) × (c.abort.phase ≡ abort.Idle)
IsReady phase.Forward c = Unit {0}
IsReady phase.Abort c = IsAbortPending c.abort.phase c.abort × IsSome c.answer
IsReady phase.Ended c = Unit {0}

-- The requests of each phase are those of what is committed.
pub record IsCommit (c : Inside) : Type 0 where
  pub checks_are : c.validate.checks ≡ checks (work_of c)
  pub id_is : c.decide.id ≡ c.id
  pub moment_is : c.decide.moment ≡ c.moment
  pub forwards_are : c.commit.asks ≡ forwards (work_of c)
  pub backs_are : c.abort.asks ≡ backs (work_of c)
  pub row_is : c.abort.row ≡ abort_of c.id c.moment
  pub groups : AreGroups (grouped c.writes)
  pub ready : IsReady c.phase c

abbrev pub IsPreparing : Stage → Type 0
IsPreparing (Preparing i) = Unit {0}
IsPreparing s = ⊥

abbrev pub IsChecking : Stage → Type 0
IsChecking (Checking i) = Unit {0}
IsChecking s = ⊥

abbrev pub IsDeciding : Stage → Type 0
IsDeciding (Deciding d) = Unit {0}
IsDeciding s = ⊥

abbrev pub IsForward : Stage → Type 0
IsForward (Forward i) = Unit {0}
IsForward s = ⊥

abbrev pub IsUndoing : Stage → Type 0
IsUndoing (Stopping b n) = Unit {0}
IsUndoing (Back b n i) = Unit {0}
IsUndoing s = ⊥

-- The phase that a COMMIT begins with: the prepares where it writes, else the checks where it has read, else the decision.
abbrev pub first : (writes reads : Bool) → Phase
first writes reads = if writes then phase.Prepare else (if reads then phase.Validate else phase.Decide)
