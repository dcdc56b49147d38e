-- What holds of a COMMIT after any replies.
use Rattle.std.specs.Prelude.{◌≡◌, ◌<◌, ◌≤◌, ◌^◌, ℕ, ◌+◌, ◌*◌, ◌&&◌, ◌||◌, Bool, true, false, List, [], ◌∷◌, length, Option, Some, None, Result, Ok, Err, is_err, slice_get}
use Rattle.sdb_phases.specs.Types.{Decided, Decision, Record, Reply, Request, TxId}
use Rattle.sdb_types.specs.declared.record.Request.TheVariants as ask
use Rattle.sdb_types.specs.declared.record.Reply.TheVariants as reply
use Rattle.sdb_record.specs.declared.coordinator.Decision.TheVariants as decision
use Rattle.sdb_record.specs.Coordinator.{coordinator_key_of, decision_in, same_decision}
use Rattle.sdb_record.specs.Meta.{is_moment}
use Rattle.sdb_phases.specs.declared.step.Outcome.{Outcome}
use Rattle.sdb_phases.specs.declared.step.Outcome.TheVariants as outcome
use Rattle.sdb_phases.specs.declared.step.ValidateStep.{ValidateStep}
use Rattle.sdb_phases.specs.declared.step.ValidateStep.TheVariants as validate
use Rattle.sdb_phases.specs.declared.step.DecidePhase.TheVariants as phase
use Rattle.sdb_phases.specs.Work.{Work, groups_of}
use Rattle.sdb_phases.specs.Checks.{checks}
use Rattle.sdb_phases.specs.Steps.{CanGet, validate_step}
use Rattle.sdb_phases.specs.Commit.{Stage, Preparing, Checking, Deciding, Forward, Stopping, Back, Over, pending, after}
use Rattle.sdb_types.specs.Replies.{is_fault, is_applied}
use Rattle.sdb_types.specs.Order.{same_key}

-- ids have 128 bits, and moments are from 0 to 2^53
pub record IsWork (p : Work) : Type 0 where
  pub id : p.id.0 < 2 ^ 128
  pub now : is_moment p.now ≡ true

-- each reply is one that the call pending could get
abbrev pub AreReplies : Work → List Reply → Type 0
AreReplies p [] = Unit {0}
AreReplies p (r ∷ past) = AreReplies p past × CanGet (pending p (after p past)) r

---- what was learned of a transaction's row

abbrev pub is_decision : Decision → Result Decided (List ℕ) → Bool
is_decision d (Err column) = false
is_decision d (Ok decided) = same_decision d decided.decision

-- a record is the transaction's row, and says that
abbrev pub is_row_with : TxId → Decision → Record → Bool
is_row_with id d row = same_key row.key (coordinator_key_of id) && is_decision d (decision_in row)

-- The reply to a call shows that the transaction's row says that: a get found it, a put of it was applied, or a put was not
-- met and found it.
abbrev pub observes_decision : TxId → Decision → Option Request → Reply → Bool
observes_decision id d (Some (ask.Get key)) (reply.Found (Some row)) = is_row_with id d row
observes_decision id d (Some (ask.PutIf rec condition)) reply.Applied = is_row_with id d rec
observes_decision id d (Some (ask.PutIf rec condition)) (reply.NotMet (Some row)) = is_row_with id d row
observes_decision id d q r = false

-- a record is at the transaction's coordinator key, and isn't a well formed row
abbrev pub is_malformed : TxId → Record → Bool
is_malformed id row = same_key row.key (coordinator_key_of id) && is_err (decision_in row)

-- the reply holds such a record: a get found it, or a put was not met and found it
abbrev pub holds_malformed : TxId → Reply → Bool
holds_malformed id (reply.Found (Some row)) = is_malformed id row
holds_malformed id (reply.NotMet (Some row)) = is_malformed id row
holds_malformed id r = false

---- what the replies so far show

pub record Seen : Type 0 where
  -- how many they are
  pub calls : ℕ
  -- each prepare was applied, and each check passed
  pub passed : Bool
  -- the row was learned to be COMMITTED
  pub committed : Bool
  -- the row was learned to be ABORTED
  pub aborted : Bool
  -- the reply to the deciding put
  pub put : Option Reply
  -- one was Fault
  pub faulted : Bool
  -- after a stop the put of ABORTED was applied, or found a row
  pub stopped : Bool
  -- after the deciding put, a call for the row was answered Fault or NoMemory
  pub failed : Bool
  -- the newest holds a record at the coordinator key that isn't a well formed row
  pub malformed : Bool

abbrev pub is_more : ValidateStep → Bool
is_more validate.More = true
is_more s = false

-- a prepare is applied, and a check finds what it is to find
abbrev pub as_wished : Work → Stage → Reply → Bool
as_wished p (Preparing i) r = is_applied r
as_wished p (Checking i) r = is_more (validate_step true (slice_get (checks p) i) r)
as_wished p s r = true

abbrev pub put_after : Stage → Reply → Option Reply → Option Reply
put_after (Deciding phase.Put) r o = Some r
put_after s r o = o

abbrev pub is_stop : Stage → Reply → Bool
is_stop (Stopping a n) reply.Applied = true
is_stop (Stopping a n) (reply.NotMet found) = true
is_stop s r = false

-- a look for the row, or the put of ABORTED, after a fault of the deciding put
abbrev pub fails_later : Stage → Reply → Bool
fails_later (Deciding phase.Put) r = false
fails_later (Deciding d) reply.Fault = true
fails_later (Deciding d) reply.NoMemory = true
fails_later s r = false

abbrev pub item : Work → Stage → Seen → Reply → Seen
item p s h r = record {
  calls = h.calls + 1;
  passed = as_wished p s r && h.passed;
  committed = observes_decision p.id decision.Committed (pending p s) r || h.committed;
  aborted = observes_decision p.id decision.Aborted (pending p s) r || h.aborted;
  put = put_after s r h.put;
  faulted = is_fault r || h.faulted;
  stopped = is_stop s r || h.stopped;
  failed = fails_later s r || h.failed;
  malformed = holds_malformed p.id r;
}

abbrev pub nothing_seen : Seen
nothing_seen =
    record { calls = 0; passed = true; committed = false; aborted = false; put = None; faulted = false; stopped = false; failed = false; malformed = false }

abbrev pub seen : Work → List Reply → Seen
seen p [] = nothing_seen
seen p (r ∷ past) = item p (after p past) (seen p past) r

-- the deciding put was not made, or had no effect: out of memory changes nothing
abbrev pub without_effect : Option Reply → Bool
without_effect None = true
without_effect (Some reply.NoMemory) = true
without_effect (Some r) = false

-- The transaction isn't committed, and never will be by this COMMIT: the deciding put had no effect, or the row is ABORTED.
abbrev pub is_unrecorded : Seen → Bool
is_unrecorded h = without_effect h.put || h.aborted

-- Its records may be rolled back: the row is ABORTED, or there is a row, and the deciding put had no effect.
abbrev pub may_undo : Seen → Bool
may_undo h = h.aborted || (h.stopped && without_effect h.put)

-- how many keys it writes
abbrev pub writes_of : Work → ℕ
writes_of p = length p.writes

-- how many extra reads it makes: a get of each key read by a get and not written, and each scan
abbrev pub reads_of : Work → ℕ
reads_of p = length (checks p)

-- the most calls that a COMMIT makes
abbrev pub most_calls : Work → ℕ
most_calls p = groups_of p + writes_of p + reads_of p + 4

-- the calls of a COMMIT that is answered Committed, where none faulted
abbrev pub exact_calls : Work → ℕ
exact_calls p = 2 * groups_of p + reads_of p + 1

-- Why a COMMIT that isn't committed is answered so: a conflict is of a prepare that was not met or of a check that failed;
-- another has put the row ABORTED; a call faulted. Out of memory needs no reason.
abbrev pub IsCaused : Work → Seen → Outcome → Type 0
IsCaused p h (outcome.Conflict key found) = h.passed ≡ false
IsCaused p h (outcome.Expired id) = (id ≡ p.id) × (h.aborted ≡ true)
IsCaused p h outcome.Faulted = h.faulted ≡ true
IsCaused p h outcome.NoMemory = Unit {0}
IsCaused p h a = ⊥

-- What an answer says: Committed comes only where COMMITTED was learned; Unknown only where the deciding put faulted and a
-- later call for the row failed; BadRecord only over a row that isn't well formed; with every other answer the transaction
-- isn't committed.
abbrev pub EndsSo : Work → Seen → Outcome → Type 0
EndsSo p h outcome.Committed = (h.committed ≡ true) × (h.calls ≤ most_calls p) × (h.faulted ≡ false → h.calls ≡ exact_calls p)
EndsSo p h (outcome.Unknown id) = (id ≡ p.id) × (h.put ≡ Some reply.Fault) × (h.failed ≡ true) × (h.calls ≤ most_calls p)
EndsSo p h (outcome.BadRecord key) = (key ≡ coordinator_key_of p.id) × (h.malformed ≡ true) × (h.calls ≤ most_calls p)
EndsSo p h a = (is_unrecorded h ≡ true) × (h.calls ≤ most_calls p) × IsCaused p h a

-- what a COMMIT answers that isn't committed, and knows it
abbrev pub IsLost : Outcome → Type 0
IsLost (outcome.Conflict key found) = Unit {0}
IsLost (outcome.Expired id) = Unit {0}
IsLost outcome.Faulted = Unit {0}
IsLost outcome.NoMemory = Unit {0}
IsLost a = ⊥

-- What holds at a stage, by what the replies show.
abbrev pub StageInvariant : Work → Seen → Stage → Type 0
StageInvariant p h (Preparing i) = (h.calls ≡ i) × (i < groups_of p) × (h.passed ≡ true) × (h.put ≡ None)
StageInvariant p h (Checking i) = (h.calls ≡ groups_of p + i) × (i < reads_of p) × (h.passed ≡ true) × (h.put ≡ None)
StageInvariant p h (Deciding phase.Put) = (h.calls ≡ groups_of p + reads_of p) × (h.passed ≡ true) × (h.put ≡ None)
StageInvariant p h (Deciding phase.Look) = (h.calls ≡ groups_of p + reads_of p + 1) × (h.faulted ≡ true) × (h.put ≡ Some reply.Fault)
StageInvariant p h (Deciding phase.Abort) = (h.calls ≡ groups_of p + reads_of p + 2) × (h.faulted ≡ true) × (h.put ≡ Some reply.Fault)
StageInvariant p h (Deciding phase.Again) = (h.calls ≡ groups_of p + reads_of p + 3) × (h.faulted ≡ true) × (h.put ≡ Some reply.Fault) × (h.failed ≡ true)
StageInvariant p h (Deciding phase.Ended) = ⊥
StageInvariant p h (Forward i) = (i < groups_of p) × (h.committed ≡ true) × (h.calls ≤ groups_of p + reads_of p + 4 + i) × (h.faulted ≡ false → h.calls ≡ groups_of p + reads_of p + 1 + i)
StageInvariant p h (Stopping a n) = (without_effect h.put ≡ true) × IsCaused p h a × (n ≤ writes_of p) × (h.calls ≤ groups_of p + reads_of p + 1)
StageInvariant p h (Back a n i) = (may_undo h ≡ true) × IsCaused p h a × (i < n) × (n ≤ writes_of p) × (h.calls ≤ groups_of p + reads_of p + 4 + i)
StageInvariant p h (Over a) = EndsSo p h a
