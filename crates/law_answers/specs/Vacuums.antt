-- The stage of a VACUUM by its calls, and why it ends so.
use Rattle.std.specs.Prelude.{◌≡◌, List}
use Rattle.std.specs.List.{count_by}
use Rattle.sdb_model.specs.Calls.{StoreCall}
use Rattle.sdb_model.specs.Causes.{HasReply, removes}
use Rattle.sdb_vacuum.specs.declared.work.VacuumStep.{VacuumStep}
use Rattle.sdb_vacuum.specs.declared.work.VacuumStep.TheVariants as step
use Rattle.sdb_vacuum.specs.Vacuum.{VacuumAt, VacuumStage, Scanning, Resolving, Removing, Over}
use Rattle.law_answers.specs.Commits.{ObservesBad}
use Rattle.law_answers.specs.Reads.{IsFoundBy, ResolvesBy}
use Rattle.sdb_types.specs.Replies.{is_fault}

-- The rows that are left were found by a read among the calls, and so was the record that is resolved.
abbrev pub VacuumStageBy : List StoreCall → VacuumStage → Type 0
VacuumStageBy calls (Scanning span) = Unit {0}
VacuumStageBy calls (Resolving rec meta p left) = ResolvesBy calls rec meta p left
VacuumStageBy calls (Removing b left) = IsFoundBy calls left
VacuumStageBy calls Over = Unit {0}

-- It has counted the deletes of committed records that took effect.
abbrev pub VacuumBy : List StoreCall → VacuumAt → Type 0
VacuumBy calls v = (v.removed ≡ count_by removes calls) × VacuumStageBy calls v.stage

-- Why it is answered so.
abbrev pub VacuumEndBy : List StoreCall → VacuumStep → Type 0
VacuumEndBy calls step.More = Unit {0}
VacuumEndBy calls (step.Count n) = n ≡ count_by removes calls
VacuumEndBy calls step.Faulted = HasReply is_fault calls
VacuumEndBy calls (step.BadRecord key) = ObservesBad calls key
VacuumEndBy calls step.NoMemory = Unit {0}
