-- What the laws of a VACUUM speak of.
use Rattle.std.specs.Prelude.{List}
use Rattle.sdb_vacuum.specs.Types.{Record, Table}
use Rattle.sdb_phases.specs.Recover.{Received}
use Rattle.sdb_vacuum.specs.declared.work.VacuumStep.{VacuumStep}
use Rattle.sdb_vacuum.specs.Calls.{VacuumReplies, rows_scanned, vacuum_answer}

-- A VACUUM of a catalog's tables, and replies that its calls could get, newest first.
pub record VacuumRun : Type 0 where
  pub catalog : List Table
  pub past : List Received
  pub correct : VacuumReplies catalog past

-- what it answers to the newest reply
abbrev pub answer_of : VacuumRun → VacuumStep
answer_of r = vacuum_answer r.catalog r.past

-- the rows that its scans found
abbrev pub rows_found : VacuumRun → List Record
rows_found r = rows_scanned r.past
