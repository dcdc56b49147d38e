-- The representation of a recovery, and its invariant.
use Rattle.std.specs.Prelude.{◌≡◌, true, Option, Some, None, Ok}
use Rattle.sdb_types.specs.declared.record.Record.{Record}
use Rattle.sdb_types.specs.declared.record.Request.{Request}
use Rattle.sdb_types.specs.declared.record.Request.TheVariants as ask
use Rattle.sdb_types.specs.declared.record.Reply.{Reply}
use Rattle.sdb_types.specs.declared.record.Reply.TheVariants as reply
use Rattle.sdb_phases.specs.declared.step.RecoverStep.{RecoverStep}
use Rattle.sdb_phases.specs.declared.step.RecoverStep.TheVariants as steps
use Rattle.sdb_record.specs.declared.meta.Meta.{Meta}
use Rattle.sdb_record.specs.Meta.{checked, is_unresolved}
use Rattle.sdb_record.specs.Parts.{before_record}
use Rattle.sdb_phases.specs.declared.step.RecoverPhase.{RecoverPhase}
use Rattle.sdb_phases.specs.declared.step.RecoverPhase.TheVariants as phase
use Rattle.sdb_phases.specs.Work.{abort_of, look_of}
use Rattle.sdb_phases.specs.Recover.{recover_forward, recover_back}
use Rattle.sdb_recover.specs.declared.recover.Recover.TheInside.{Inside}

-- the call that was made for a phase, from what a reply showed
abbrev pub IsMade : Record → Meta → RecoverPhase → Option Request → Type 0
IsMade rec meta (phase.Abort now) made = made ≡ Some (abort_of meta.id now)
IsMade rec meta (phase.Forward created_at) made = made ≡ Some (recover_forward rec meta created_at)
IsMade rec meta p made = Unit {0}

-- the record that it may be rolled back to
abbrev pub IsBase : Record → RecoverPhase → Option Record → Type 0
IsBase rec phase.Ended base = Unit {0}
IsBase rec p base = base ≡ before_record rec

pub record IsRecovering (r : Inside) : Type 0 where
  pub look : r.look ≡ look_of r.meta.id
  pub back : r.back ≡ recover_back r.rec r.meta
  pub base : IsBase r.rec r.phase r.base
  pub made : IsMade r.rec r.meta r.phase r.made

-- the record that a call puts
abbrev pub record_put : Option Request → Option Record
record_put (Some (ask.PutIf rec condition)) = Some rec
record_put q = None

-- what the reply to a roll gives
abbrev pub rolled : Option Record → Reply → RecoverStep
rolled image reply.Applied = steps.Image image
rolled image (reply.NotMet found) = steps.Image image
rolled image reply.Fault = steps.Faulted
rolled image r = steps.NoMemory
