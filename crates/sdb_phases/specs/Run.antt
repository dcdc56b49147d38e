-- What the laws of the phases speak of.
use Rattle.std.specs.Prelude.{◌<◌, ◌^◌, List}
use Rattle.sdb_phases.specs.Types.{Meta, Record, Reply}
use Rattle.sdb_phases.specs.declared.step.RecoverPhase.{RecoverPhase}
use Rattle.sdb_phases.specs.declared.step.RecoverStep.{RecoverStep}
use Rattle.sdb_phases.specs.Work.{Work}
use Rattle.sdb_phases.specs.Commit.{Stage, after}
use Rattle.sdb_phases.specs.CommitLaws.{IsWork, AreReplies, Seen, seen}
use Rattle.sdb_phases.specs.Recover.{Received, AreRecoverReplies, recover_after, recover_answer}

-- A COMMIT of a transaction's work, and replies that its calls could get, newest first.
pub record CommitRun : Type 0 where
  pub work : Work
  pub past : List Reply
  pub sound : IsWork work
  pub correct : AreReplies work past

-- where the replies lead it
abbrev pub stage_after : CommitRun → Stage
stage_after r = after r.work r.past

-- what was learned from them
abbrev pub seen_in : CommitRun → Seen
seen_in r = seen r.work r.past

-- A recovery of a record with its metadata, and replies that its calls could get, newest first. The id has 128 bits.
pub record RecoverRun : Type 0 where
  pub found : Record
  pub meta : Meta
  pub past : List Received
  pub fits : meta.id.0 < 2 ^ 128
  pub correct : AreRecoverReplies found meta past

-- where the replies lead it
abbrev pub phase_after : RecoverRun → RecoverPhase
phase_after r = recover_after r.found r.meta r.past

-- what it answers to the newest reply
abbrev pub answer_of : RecoverRun → RecoverStep
answer_of r = recover_answer r.found r.meta r.past
