-- The representation of a VACUUM under way, and its invariant.
use Rattle.std.specs.Prelude.{◌≡◌, List, Option, Some, None}
use Rattle.sdb_vacuum.specs.Types.{Record, Request}
use Rattle.sdb_types.specs.declared.record.Request.TheVariants as ask
use Rattle.sdb_phases.specs.Recover.{Recovers, recover_request}
use Rattle.sdb_vacuum.specs.declared.work.Doing.{Doing}
use Rattle.sdb_vacuum.specs.declared.work.Doing.TheVariants as doing
use Rattle.sdb_vacuum.specs.declared.work.Work.{Work}
use Rattle.sdb_vacuum.specs.Vacuum.{VacuumAt, VacuumStage, Scanning, Resolving, Removing, Over, pending_at}
use Rattle.sdb_record.specs.Rolls.{remove_request}

abbrev pub scan_stage : Request → VacuumStage
scan_stage (ask.Scan span) = Scanning span
scan_stage q = Over

abbrev pub stage_in : Doing → List Record → VacuumStage
stage_in (doing.Scanning q) left = scan_stage q
stage_in (doing.Resolving r) left = Resolving r.rec r.meta r.phase left
stage_in (doing.Removing b q) left = Removing b left
stage_in doing.Over left = Over

abbrev pub at_of : Work → Doing → VacuumAt
at_of w d = record { stage = stage_in d w.left.items; spans = w.spans.items; removed = w.removed }

abbrev pub doing_pending : Doing → Option Request
doing_pending (doing.Scanning q) = Some q
doing_pending (doing.Resolving r) = recover_request r
doing_pending (doing.Removing b q) = Some q
doing_pending doing.Over = None

-- the call that it holds is the one that is pending
abbrev pub IsDoing : Doing → Type 0
IsDoing (doing.Scanning q) = pending_at (scan_stage q) ≡ Some q
IsDoing (doing.Resolving r) = Unit {0}
IsDoing (doing.Removing b q) = remove_request b ≡ Some q
IsDoing doing.Over = Unit {0}

abbrev pub IsRecovering : Doing → Type 0
IsRecovering (doing.Resolving r) = Unit {0}
IsRecovering d = ⊥

abbrev pub IfRecovering : Doing → (Recovers → Type 0) → Type 0
IfRecovering (doing.Resolving r) P = P r
IfRecovering d P = Unit {0}
