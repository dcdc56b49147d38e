-- A VACUUM after any replies, and its calls.
use Rattle.std.specs.Prelude.{ℕ, ◌+◌, Bool, false, ◌&&◌, if◌then◌else◌, List, [], ◌∷◌, ◌++◌, Option, Some, length}
use Rattle.std.specs.List.{filter}
use Rattle.sdb_vacuum.specs.Types.{Condition, Record, Reply, Request, Table}
use Rattle.sdb_types.specs.declared.record.Reply.TheVariants as reply
use Rattle.sdb_types.specs.declared.record.Request.TheVariants as ask
use Rattle.sdb_types.specs.declared.record.Condition.TheVariants as condition
use Rattle.sdb_record.specs.Meta.{is_committed}
use Rattle.sdb_record.specs.Rolls.{is_tombstone}
use Rattle.sdb_phases.specs.Recover.{Received}
use Rattle.sdb_phases.specs.Steps.{CanGet}
use Rattle.sdb_vacuum.specs.declared.work.VacuumStep.{VacuumStep}
use Rattle.sdb_vacuum.specs.Vacuum.{VacuumAt, begun, next_table, spans_of, vacuum_pending, vacuum_step}
use Rattle.sdb_types.specs.Replies.{is_applied}

-- where the replies lead a VACUUM of a catalog, the newest first
abbrev pub vacuum_after : List Table → List Received → VacuumAt
vacuum_after catalog [] = begun catalog
vacuum_after catalog (c ∷ past) = (vacuum_step (vacuum_after catalog past) c.now c.reply).0

-- what it answers to the newest reply; before the first, what it begins with
abbrev pub vacuum_answer : List Table → List Received → VacuumStep
vacuum_answer catalog [] = (next_table (spans_of catalog) 0).1
vacuum_answer catalog (c ∷ past) = (vacuum_step (vacuum_after catalog past) c.now c.reply).1

-- the call that is pending after them
abbrev pub pending_after : List Table → List Received → Option Request
pending_after catalog past = vacuum_pending (vacuum_after catalog past)

-- each reply is one that the call pending could get
abbrev pub VacuumReplies : List Table → List Received → Type 0
VacuumReplies catalog [] = Unit {0}
VacuumReplies catalog (c ∷ past) = VacuumReplies catalog past × CanGet (pending_after catalog past) c.reply

---- counts

abbrev pub rows_in : Reply → List Record
rows_in (reply.Rows rows) = rows
rows_in r = []

-- the rows that its scans were answered with
abbrev pub rows_scanned : List Received → List Record
rows_scanned [] = []
rows_scanned (c ∷ past) = rows_in c.reply ++ rows_scanned past

abbrev pub of_committed : Condition → Bool
of_committed condition.Absent = false
of_committed (condition.Version id state) = is_committed state

-- a delete of a committed record
abbrev pub is_removal : Option Request → Bool
is_removal (Some (ask.DeleteIf key c)) = of_committed c
is_removal q = false

-- how many deletes of committed records were answered Applied
abbrev pub removals : List Table → List Received → ℕ
removals catalog [] = 0
removals catalog (c ∷ past) = removals catalog past + (if is_removal (pending_after catalog past) && is_applied c.reply then 1 else 0)

-- how many of some records are tombstones
abbrev pub tombstones : List Record → ℕ
tombstones rs = length (filter is_tombstone rs)
