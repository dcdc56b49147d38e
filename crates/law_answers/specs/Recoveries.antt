-- The calls of a recovery with their replies, and how it ends where none of them fails.
use Rattle.std.specs.Prelude.{◌≡◌, ◌<◌, ◌^◌, ℤ, true, false, List, [], ◌∷◌, ◌++◌, Option, Some, None, is_some}
use Rattle.std.specs.List.{AllByRecursion}
use Rattle.law_answers.specs.Types.{Meta, Record, RecoverStep, Reply, Request}
use Rattle.sdb_phases.specs.declared.step.RecoverPhase.TheVariants as phase
use Rattle.sdb_phases.specs.declared.step.RecoverStep.TheVariants as steps
use Rattle.sdb_phases.specs.Recover.{Received, AreRecoverReplies, recover_after, recover_pending}
use Rattle.sdb_phases.specs.RecoverLaws.{found_pending}
use Rattle.sdb_phases.specs.CommitLaws.{holds_malformed}
use Rattle.law_answers.specs.Ends.{is_served}

-- a call of a recovery: what was asked, the reply, and the moment at which it was digested
pub record RecoverCall : Type 0 where
  pub request : Request
  pub reply : Reply
  pub now : ℤ

-- what was received of it
abbrev pub received_of : RecoverCall → Received
received_of c = record { reply = c.reply; now = c.now }

abbrev pub with_recover_call : Option Request → Received → List RecoverCall → List RecoverCall
with_recover_call None c calls = calls
with_recover_call (Some q) c calls = calls ++ record { request = q; reply = c.reply; now = c.now } ∷ []

-- The calls of a recovery over the replies so far, the oldest first.
abbrev pub calls_of_recovery : Record → Meta → List Received → List RecoverCall
calls_of_recovery rec meta [] = []
calls_of_recovery rec meta (c ∷ past) = with_recover_call (recover_pending rec meta past) c (calls_of_recovery rec meta past)

-- no call faulted, was out of memory, or observed a record in the row's place that isn't a well formed row
abbrev pub HaveNoFailure : Meta → List RecoverCall → Type 0
HaveNoFailure meta calls = AllByRecursion (λ c. (is_served c.reply ≡ true) × (holds_malformed meta.id c.reply ≡ false)) calls

-- A recovery over replies that its calls can get; its transaction's id has 128 bits.
pub record RecoveryRun (rec : Record) (meta : Meta) (past : List Received) : Type 0 where
  pub small : meta.id.0 < 2 ^ 128
  pub correct : AreRecoverReplies rec meta past

-- and none of its calls failed
pub record RecoveryRunsWell (rec : Record) (meta : Meta) (past : List Received) : Type 0 where
  pub plays : RecoveryRun rec meta past
  pub valid : HaveNoFailure meta (calls_of_recovery rec meta past)

abbrev pub HasEnded : Record → Meta → List Received → Type 0
HasEnded rec meta past = recover_after rec meta past ≡ phase.Ended

-- It goes on to a call, or ends with its image, or is busy: the first look found no row before the record has expired.
abbrev pub Resolves : Record → Meta → List Received → RecoverStep → Type 0
Resolves rec meta past steps.More = is_some (recover_pending rec meta past) ≡ true
Resolves rec meta past (steps.Image image) = Unit {0}
Resolves rec meta past (steps.Busy id prepared_at) = found_pending meta past ≡ true
Resolves rec meta past a = ⊥
