-- Where a COMMIT under way is, and where a reply may lead it.
use Rattle.std.specs.Prelude.{◌≡◌, ℕ, ◌+◌, length, nat_lt, Option, Some, None, slice_get}
use Rattle.sdb_txn.specs.Types.{Outcome, Reply, ValidateStep}
use Rattle.sdb_phases.specs.Work.{Work}
use Rattle.sdb_phases.specs.Checks.{checks}
use Rattle.sdb_phases.specs.Steps.{validate_step}
use Rattle.sdb_phases.specs.Commit.{Stage, Preparing, Checking, Deciding, Forward, Stopping, Back, Over, after_check, step}
use Rattle.sdb_validate.specs.Inside.{Judges}

-- what is committed, and the stage of its COMMIT
pub record CommitAt : Type 0 where
  pub work : Work
  pub stage : Stage

-- the answer of a COMMIT that has ended
abbrev pub ended_at : Stage → Option Outcome
ended_at (Over a) = Some a
ended_at s = None

-- A reply leads to the next stage of the protocol. The conflict that an extra read finds may be returned as out of memory.
abbrev pub IsNext : Work → Stage → Reply → Stage → Type 0
IsNext p (Checking i) r next = (v : ValidateStep) × Judges (validate_step (nat_lt (i + 1) (length (checks p))) (slice_get (checks p) i) r) v × (next ≡ after_check p i v)
IsNext p (Preparing i) r next = next ≡ step p (Preparing i) r
IsNext p (Deciding d) r next = next ≡ step p (Deciding d) r
IsNext p (Forward i) r next = next ≡ step p (Forward i) r
IsNext p (Stopping a n) r next = next ≡ step p (Stopping a n) r
IsNext p (Back a n i) r next = next ≡ step p (Back a n i) r
IsNext p (Over a) r next = next ≡ step p (Over a) r
