-- Where a client at work has had a call that faulted, so that it may be answered as after a fault without another one.
use Rattle.std.specs.Prelude.{◌≡◌, true, Option, Some, None}
use Rattle.law_clients.specs.Types.{Answer, DecidePhase, Doing, Outcome, ReadStep, RecoverPhase}
use Rattle.sdb_phases.specs.declared.step.DecidePhase.TheVariants as decides
use Rattle.sdb_phases.specs.declared.step.Outcome.TheVariants as outcome
use Rattle.sdb_phases.specs.declared.step.RecoverPhase.TheVariants as phase
use Rattle.sdb_phases.specs.Commit.{Back, Deciding, Over, Stage, Stopping}
use Rattle.sdb_txn.specs.declared.read.ReadStep.TheVariants as step
use Rattle.sdb_txn.specs.Read.{Asking, Ended, ReadStage, Resolving}
use Rattle.sdb_txn.specs.declared.txn.Doing.TheVariants as doing
use Rattle.sdb_txn.specs.Txn.{TxnAt}
use Rattle.sdb_vacuum.specs.Vacuum.{Resolving as SweepResolving, VacuumAt, VacuumStage}
use Rattle.sdb_client.specs.Client.{ClientAt}
use Rattle.law_clients.specs.Session.{is_of_fault}

-- a COMMIT ends so only after a fault
abbrev pub IsOutcomeOfFault : Outcome → Type 0
IsOutcomeOfFault outcome.Faulted = Unit {0}
IsOutcomeOfFault (outcome.Unknown id) = Unit {0}
IsOutcomeOfFault a = ⊥

-- the row of a COMMIT is asked for only where its put faulted
abbrev pub DecidesAfterFault : DecidePhase → Type 0
DecidesAfterFault decides.Put = ⊥
DecidesAfterFault d = Unit {0}

-- A COMMIT asks for its row, or has stopped to end so.
abbrev pub CommitsAfterFault : Stage → Type 0
CommitsAfterFault (Deciding d) = DecidesAfterFault d
CommitsAfterFault (Stopping a n) = IsOutcomeOfFault a
CommitsAfterFault (Back a n i) = IsOutcomeOfFault a
CommitsAfterFault (Over a) = IsOutcomeOfFault a
CommitsAfterFault s = ⊥

-- a recovery asks for a row a second time only where its put faulted
abbrev pub RecoversAfterFault : RecoverPhase → Type 0
RecoversAfterFault phase.Again = Unit {0}
RecoversAfterFault p = ⊥

abbrev pub IsReadFaulted : ReadStep → Type 0
IsReadFaulted step.Faulted = Unit {0}
IsReadFaulted s = ⊥

abbrev pub ReadsAfterFault : ReadStage → Type 0
ReadsAfterFault Asking = ⊥
ReadsAfterFault (Resolving images rec meta p left) = RecoversAfterFault p
ReadsAfterFault (Ended s) = IsReadFaulted s

abbrev pub VacuumsAfterFault : VacuumStage → Type 0
VacuumsAfterFault (SweepResolving rec meta p left) = RecoversAfterFault p
VacuumsAfterFault s = ⊥

abbrev pub DoesAfterFault : Doing → Type 0
DoesAfterFault (doing.Read a x) = ReadsAfterFault x.stage
DoesAfterFault (doing.Commit k) = CommitsAfterFault k.stage
DoesAfterFault d = ⊥

abbrev pub WorksAfterFault : Option VacuumAt → Option TxnAt → Type 0
WorksAfterFault (Some v) t = VacuumsAfterFault v.stage
WorksAfterFault None (Some t) = DoesAfterFault t.doing
WorksAfterFault None None = ⊥

-- A call of its statement has faulted.
abbrev pub IsAfterFault : ClientAt → Type 0
IsAfterFault c = WorksAfterFault c.vacuum c.txn

-- A statement has an answer that comes only after a call faulted; or it waits for a reply after a fault.
abbrev pub IsOfFault : Option Answer → ClientAt → Type 0
IsOfFault (Some z) d = is_of_fault z ≡ true
IsOfFault None d = IsAfterFault d
