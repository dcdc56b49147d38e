-- The step of each phase of a COMMIT, from a reply.
use Rattle.std.specs.Prelude.{ℕ, ℤ, ◌+◌, Bool, true, false, if◌then◌else◌, List, [], drop, length, nat_lt, sum_by, Option, Some, None, Result, Ok, Err, slice_get}
use Rattle.std.specs.Option.{option_map, option_map_or}
use Rattle.sdb_phases.specs.Types.{Decided, Key, Record, Reply, Request, TxId}
use Rattle.sdb_types.specs.declared.record.Request.TheVariants as ask
use Rattle.sdb_types.specs.declared.record.Reply.TheVariants as reply
use Rattle.sdb_types.specs.Contents.{CanAnswer, put_at}
use Rattle.sdb_record.specs.declared.coordinator.Decision.TheVariants as decision
use Rattle.sdb_record.specs.Coordinator.{coordinator_key_of, decision_in}
use Rattle.sdb_phases.specs.declared.check.Check.{Check}
use Rattle.sdb_phases.specs.declared.step.PrepareStep.{PrepareStep}
use Rattle.sdb_phases.specs.declared.step.PrepareStep.TheVariants as prepare
use Rattle.sdb_phases.specs.declared.step.ValidateStep.{ValidateStep}
use Rattle.sdb_phases.specs.declared.step.ValidateStep.TheVariants as validate
use Rattle.sdb_phases.specs.declared.step.DecideStep.{DecideStep}
use Rattle.sdb_phases.specs.declared.step.DecideStep.TheVariants as decide
use Rattle.sdb_phases.specs.declared.step.DecidePhase.{DecidePhase}
use Rattle.sdb_phases.specs.declared.step.DecidePhase.TheVariants as phase
use Rattle.sdb_phases.specs.declared.step.AbortPhase.{AbortPhase}
use Rattle.sdb_phases.specs.declared.step.AbortPhase.TheVariants as abort
use Rattle.sdb_phases.specs.Work.{decide_of, abort_of, look_of}
use Rattle.sdb_phases.specs.Checks.{difference_in}

-- The reply is one that the pending request can get; without one there is none.
abbrev pub CanGet : Option Request → Reply → Type 0
CanGet None r = ⊥
CanGet (Some q) r = CanAnswer q r

---- Prepare

-- requests in turn, and how many of the writes, from the first, may have accepted effect
pub record Prepares : Type 0 where
  pub asks : List Request
  pub at : ℕ
  pub touched : ℕ

abbrev pub prepare_request : Prepares → Option Request
prepare_request p = slice_get p.asks p.at

-- the conflict at the key of the put of that place, from 1
abbrev pub refused : Option Request → ℕ → Option Record → PrepareStep
refused (Some (ask.PutIf rec condition)) k found = prepare.Conflict rec.key found
refused (Some (ask.PutAll batch)) k found = option_map_or (λ p. prepare.Conflict p.rec.key found) (put_at batch k) prepare.NoMemory
refused q k found = prepare.NoMemory

-- A prepare that isn't met is a conflict at the key whose condition failed, with what is there.
abbrev pub prepare_step : (more : Bool) → Option Request → Reply → PrepareStep
prepare_step more q reply.Applied = if more then prepare.More else prepare.Done
prepare_step more q (reply.NotMet found) = refused q 1 found
prepare_step more q (reply.NotAll k found) = refused q k found
prepare_step more q reply.Fault = prepare.Faulted
prepare_step more q r = prepare.NoMemory

-- how many records a prepare puts
abbrev pub puts_of : Option Request → ℕ
puts_of (Some (ask.PutAll batch)) = length batch
puts_of q = 1

-- how many records the prepares from that place on put
abbrev pub puts_from : List Request → ℕ → ℕ
puts_from asks at = sum_by (λ q. puts_of (Some q)) (drop at asks)

-- The writes of a prepare that was applied or faulted may have accepted effect.
abbrev pub touched_after : Option Request → ℕ → Reply → ℕ
touched_after q n reply.Applied = n + puts_of q
touched_after q n reply.Fault = n + puts_of q
touched_after q n r = n

abbrev pub prepare_result : Prepares → Reply → PrepareStep
prepare_result p r = prepare_step (nat_lt (p.at + 1) (length p.asks)) (prepare_request p) r

abbrev pub prepare_left : Prepares → Reply → List Request
prepare_left p reply.Applied = p.asks
prepare_left p r = []

abbrev pub prepare_at : Prepares → Reply → ℕ
prepare_at p reply.Applied = p.at + 1
prepare_at p r = 0

-- it continues where the prepare was applied, and else has ended
abbrev pub prepare_next : Prepares → Reply → Prepares
prepare_next p r = record { asks = prepare_left p r; at = prepare_at p r; touched = touched_after (prepare_request p) p.touched r }

---- Validate

pub record Validates : Type 0 where
  pub checks : List Check
  pub at : ℕ

abbrev pub validate_request : Validates → Option Request
validate_request v = option_map (λ c. c.request) (slice_get v.checks v.at)

abbrev pub judged : (more : Bool) → Option (Key × Option Record) → ValidateStep
judged more None = if more then validate.More else validate.Valid
judged more (Some d) = validate.Conflict d.0 d.1

-- A check that doesn't find what it is to find is a conflict at the first such key, with what is there.
abbrev pub validate_step : (more : Bool) → Option Check → Reply → ValidateStep
validate_step more c reply.Fault = validate.Faulted
validate_step more c reply.NoMemory = validate.NoMemory
validate_step more None r = validate.NoMemory
validate_step more (Some c) r = judged more (difference_in c r)

abbrev pub validate_result : Validates → Reply → ValidateStep
validate_result v r = validate_step (nat_lt (v.at + 1) (length v.checks)) (slice_get v.checks v.at) r

abbrev pub validate_at : Validates → ValidateStep → ℕ
validate_at v validate.More = v.at + 1
validate_at v s = length v.checks

-- it continues where a check passed and another is left, and else has ended
abbrev pub validate_next : Validates → ValidateStep → Validates
validate_next v s = record v { at = validate_at v s }

-- A conflict's key is copied: out of memory may be returned in its place.
abbrev pub may_starve : ValidateStep → Bool
may_starve (validate.Conflict key found) = true
may_starve validate.NoMemory = true
may_starve s = false

---- Decide

pub record Decides : Type 0 where
  pub id : TxId
  pub moment : ℤ
  pub phase : DecidePhase

abbrev pub decide_request_at : TxId → ℤ → DecidePhase → Option Request
decide_request_at id now phase.Put = Some (decide_of id now)
decide_request_at id now phase.Look = Some (look_of id)
decide_request_at id now phase.Abort = Some (abort_of id now)
decide_request_at id now phase.Again = Some (look_of id)
decide_request_at id now phase.Ended = None

abbrev pub decide_request : Decides → Option Request
decide_request d = decide_request_at d.id d.moment d.phase

abbrev pub step_of_row : TxId → DecideStep → Result Decided (List ℕ) → DecideStep
step_of_row id aborted (Err column) = decide.BadRecord (coordinator_key_of id)
step_of_row id aborted (Ok d) = elim d.decision [ decision.Committed ↦ decide.Committed | decision.Aborted ↦ aborted ]

-- what a coordinator row says, where ABORTED gives that answer
abbrev pub followed : TxId → DecideStep → Record → DecideStep
followed id aborted row = step_of_row id aborted (decision_in row)

-- Where the deciding put is applied, or a row says COMMITTED, the transaction is committed, and where a row says ABORTED it
-- is not. Where the put faulted the row is looked for, and where there is none ABORTED is put; where that faulted too it is
-- looked for a second time.
abbrev pub decide_next : TxId → DecidePhase → Reply → DecidePhase × DecideStep
decide_next id phase.Put reply.Applied = (phase.Ended, decide.Committed)
decide_next id phase.Put (reply.NotMet (Some row)) = (phase.Ended, followed id (decide.Expired id) row)
decide_next id phase.Put reply.Fault = (phase.Look, decide.More)
decide_next id phase.Put r = (phase.Ended, decide.NoMemory)
decide_next id phase.Look (reply.Found None) = (phase.Abort, decide.More)
decide_next id phase.Look (reply.Found (Some row)) = (phase.Ended, followed id (decide.Expired id) row)
decide_next id phase.Look r = (phase.Ended, decide.Unknown id)
decide_next id phase.Abort reply.Applied = (phase.Ended, decide.Faulted)
decide_next id phase.Abort (reply.NotMet (Some row)) = (phase.Ended, followed id (decide.Expired id) row)
decide_next id phase.Abort reply.Fault = (phase.Again, decide.More)
decide_next id phase.Abort r = (phase.Ended, decide.Unknown id)
decide_next id phase.Again (reply.Found (Some row)) = (phase.Ended, followed id decide.Faulted row)
decide_next id phase.Again r = (phase.Ended, decide.Unknown id)
decide_next id phase.Ended r = (phase.Ended, decide.Unknown id)

---- Commit: requests in turn

pub record Walk : Type 0 where
  pub asks : List Request
  pub at : ℕ

abbrev pub walk_request : Walk → Option Request
walk_request w = slice_get w.asks w.at

---- Abort

-- the put of the row ABORTED, the roll backs, where it is, the next roll back, and how many there are to be
pub record Aborting : Type 0 where
  pub row : Request
  pub asks : List Request
  pub phase : AbortPhase
  pub at : ℕ
  pub upto : ℕ

abbrev pub abort_request_at : AbortPhase → Aborting → Option Request
abort_request_at abort.Idle a = None
abort_request_at abort.Row a = Some a.row
abort_request_at abort.Rolling a = if nat_lt a.at a.upto then slice_get a.asks a.at else None

abbrev pub abort_request : Aborting → Option Request
abort_request a = abort_request_at a.phase a

-- the records are rolled back where the put of ABORTED was applied or found a row
abbrev pub abort_next_at : AbortPhase → Aborting → Reply → Aborting
abort_next_at abort.Row a reply.Applied = record a { phase = abort.Rolling; at = 0 }
abort_next_at abort.Row a (reply.NotMet found) = record a { phase = abort.Rolling; at = 0 }
abort_next_at abort.Row a r = record a { phase = abort.Rolling; at = a.upto }
abort_next_at abort.Rolling a r = record a { at = a.at + 1 }
abort_next_at abort.Idle a r = a

abbrev pub abort_next : Aborting → Reply → Aborting
abort_next a r = abort_next_at a.phase a r

abbrev pub abort_phase : (with_row : Bool) → AbortPhase
abort_phase with_row = if with_row then abort.Row else abort.Rolling

abbrev pub aborts_more_at : AbortPhase → Aborting → Bool
aborts_more_at abort.Idle a = false
aborts_more_at abort.Row a = true
aborts_more_at abort.Rolling a = nat_lt a.at a.upto

-- a call is left
abbrev pub aborts_more : Aborting → Bool
aborts_more a = aborts_more_at a.phase a
