-- A whole COMMIT, as a function of the replies so far.
use Rattle.std.specs.Prelude.{ℕ, ◌+◌, Bool, true, false, if◌then◌else◌, List, [], ◌∷◌, length, nat_lt, Option, Some, None, slice_get}
use Rattle.std.specs.Option.{option_map}
use Rattle.sdb_phases.specs.Types.{Reply, Request}
use Rattle.sdb_types.specs.declared.record.Reply.TheVariants as reply
use Rattle.sdb_phases.specs.declared.step.Outcome.{Outcome}
use Rattle.sdb_phases.specs.declared.step.Outcome.TheVariants as outcome
use Rattle.sdb_phases.specs.declared.step.PrepareStep.{PrepareStep}
use Rattle.sdb_phases.specs.declared.step.PrepareStep.TheVariants as prepare
use Rattle.sdb_phases.specs.declared.step.ValidateStep.{ValidateStep}
use Rattle.sdb_phases.specs.declared.step.ValidateStep.TheVariants as validate
use Rattle.sdb_phases.specs.declared.step.DecideStep.{DecideStep}
use Rattle.sdb_phases.specs.declared.step.DecideStep.TheVariants as decide
use Rattle.sdb_phases.specs.declared.step.DecidePhase.{DecidePhase}
use Rattle.sdb_phases.specs.declared.step.DecidePhase.TheVariants as phase
use Rattle.sdb_phases.specs.Work.{Work, prepares, forwards, backs, abort_of, groups_of, writes_before}
use Rattle.sdb_phases.specs.Checks.{checks}
use Rattle.sdb_phases.specs.Steps.{prepare_step, touched_after, validate_step, decide_request_at, decide_next}

-- Where a COMMIT is: at a prepare; at a check; at a call of the decision; at a roll forward; having stopped, at the put
-- of ABORTED; at a roll back; ended. A stop keeps what it will answer, and how many writes may have accepted effect.
pub data Stage : Type 0 where
  Preparing : (i : ℕ) → Stage
  Checking : (i : ℕ) → Stage
  Deciding : (phase : DecidePhase) → Stage
  Forward : (i : ℕ) → Stage
  Stopping : (answer : Outcome) (touched : ℕ) → Stage
  Back : (answer : Outcome) (touched i : ℕ) → Stage
  Over : (answer : Outcome) → Stage

abbrev pub checking : Work → ℕ → Stage
checking p i = if nat_lt i (length (checks p)) then Checking i else Deciding phase.Put

abbrev pub preparing : Work → ℕ → Stage
preparing p i = if nat_lt i (groups_of p) then Preparing i else checking p 0

abbrev pub forward : Work → ℕ → Stage
forward p i = if nat_lt i (groups_of p) then Forward i else Over outcome.Committed

abbrev pub back : Outcome → (touched i : ℕ) → Stage
back a n i = if nat_lt i n then Back a n i else Over a

-- The call that is pending.
abbrev pub pending : Work → Stage → Option Request
pending p (Preparing i) = slice_get (prepares p) i
pending p (Checking i) = option_map (λ c. c.request) (slice_get (checks p) i)
pending p (Deciding d) = decide_request_at p.id p.now d
pending p (Forward i) = slice_get (forwards p) i
pending p (Stopping a n) = Some (abort_of p.id p.now)
pending p (Back a n i) = slice_get (backs p) i
pending p (Over a) = None

-- Where a stop of prepare or of a check leads: to the put of ABORTED, and then to the roll back of each write that may have
-- accepted effect.
abbrev pub after_prepare : Work → (i touched : ℕ) → PrepareStep → Stage
after_prepare p i n prepare.More = Preparing (i + 1)
after_prepare p i n prepare.Done = checking p 0
after_prepare p i n (prepare.Conflict key found) = Stopping (outcome.Conflict key found) n
after_prepare p i n prepare.Faulted = Stopping outcome.Faulted n
after_prepare p i n prepare.NoMemory = Stopping outcome.NoMemory n

abbrev pub after_check : Work → ℕ → ValidateStep → Stage
after_check p i validate.More = Checking (i + 1)
after_check p i validate.Valid = Deciding phase.Put
after_check p i (validate.Conflict key found) = Stopping (outcome.Conflict key found) (length p.writes)
after_check p i validate.Faulted = Stopping outcome.Faulted (length p.writes)
after_check p i validate.NoMemory = Stopping outcome.NoMemory (length p.writes)

abbrev pub after_decide : Work → DecidePhase → DecideStep → Stage
after_decide p d decide.More = Deciding d
after_decide p d decide.Committed = forward p 0
after_decide p d (decide.Expired id) = back (outcome.Expired id) (length p.writes) 0
after_decide p d decide.Faulted = back outcome.Faulted (length p.writes) 0
after_decide p d (decide.Unknown id) = Over (outcome.Unknown id)
after_decide p d (decide.BadRecord key) = Over (outcome.BadRecord key)
after_decide p d decide.NoMemory = Stopping outcome.NoMemory (length p.writes)

abbrev pub decided : Work → DecidePhase × DecideStep → Stage
decided p n = after_decide p n.0 n.1

abbrev pub after_abort : Outcome → ℕ → Reply → Stage
after_abort a n reply.Applied = back a n 0
after_abort a n (reply.NotMet found) = back a n 0
after_abort a n r = Over a

-- where a reply leads
abbrev pub step : Work → Stage → Reply → Stage
step p (Preparing i) r =
    after_prepare p i (touched_after (slice_get (prepares p) i) (writes_before p i) r) (prepare_step (nat_lt (i + 1) (groups_of p)) (slice_get (prepares p) i) r)
step p (Checking i) r =
    after_check p i (validate_step (nat_lt (i + 1) (length (checks p))) (slice_get (checks p) i) r)
step p (Deciding d) r = decided p (decide_next p.id d r)
step p (Forward i) r = forward p (i + 1)
step p (Stopping a n) r = after_abort a n r
step p (Back a n i) r = back a n (i + 1)
step p (Over a) r = Over a

-- where the replies lead, the newest first
abbrev pub after : Work → List Reply → Stage
after p [] = preparing p 0
after p (r ∷ past) = step p (after p past) r

---- out of memory in place of a conflict

abbrev pub out_of_memory_answer : Outcome → Outcome
out_of_memory_answer (outcome.Conflict key found) = outcome.NoMemory
out_of_memory_answer a = a

-- The same stage, but that a conflict that a check found is answered as out of memory. Its calls are the same.
abbrev pub out_of_memory : Stage → Stage
out_of_memory (Stopping a n) = Stopping (out_of_memory_answer a) n
out_of_memory (Back a n i) = Back (out_of_memory_answer a) n i
out_of_memory (Over a) = Over (out_of_memory_answer a)
out_of_memory s = s

-- it has stopped, and rolls back or has ended
abbrev pub has_stopped : Stage → Bool
has_stopped (Stopping a n) = true
has_stopped (Back a n i) = true
has_stopped (Over a) = true
has_stopped s = false
