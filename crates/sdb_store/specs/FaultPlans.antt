-- Which calls of a store in memory fail, and what comes of a call.
use Rattle.std.specs.Prelude.{◌≡◌, ◌⊎◌, ◌==◌, ◌+◌, ◌-◌, ◌^◌, ℕ, nat_lt, if◌then◌else◌, List, Option, Some, None, Result, Ok, Err, find}
use Rattle.sdb_types.specs.declared.memory.NoMemory.{NoMemory}
use Rattle.sdb_types.specs.declared.record.Request.{Request}
use Rattle.sdb_types.specs.declared.record.Reply.{Reply}
use Rattle.sdb_types.specs.declared.record.Reply.TheVariants as reply
use Rattle.sdb_types.specs.Contents.{Contents, after}
use Rattle.sdb_store.specs.declared.fail.Fail.{Fail}
use Rattle.sdb_store.specs.declared.fail.FaultPlan.{FaultPlan}
use Rattle.sdb_store.specs.declared.fail.FaultPlan.TheVariants as fate
use Rattle.sdb_store.specs.Store.{Answers, StoreState}
use Rattle.sdb_types.specs.Draws.{counted as next_number}

abbrev pub listed_plan : Option Fail → FaultPlan
listed_plan None = fate.Answers
listed_plan (Some fail) = if fail.after then fate.FailsAfter else fate.FailsBefore

-- What becomes of the call with that number: the first entry that lists it says whether it fails before its effect or
-- after it. The call numbered 2^64 - 1 and later ones never fail.
abbrev pub plan_of_call : ℕ → List Fail → FaultPlan
plan_of_call n failing = if nat_lt n (2 ^ 64 - 1) then listed_plan (find (λ fail. fail.call == n) failing) else fate.Answers

-- the reply to a call that fails after its effect, by the answer that it would have had
abbrev pub reply_after : Result Reply NoMemory → Reply
reply_after (Ok r) = reply.Fault
reply_after (Err e) = reply.NoMemory

-- how many calls have failed then
abbrev pub failed_after : Result Reply NoMemory → ℕ → ℕ
failed_after (Ok r) failed = failed + 1
failed_after (Err e) failed = failed

-- A store in memory as its callers see it: what it holds, which calls fail, how many were made and how many failed.
pub record Held : Type 0 where
  pub contents : Contents
  pub failing : List Fail
  pub made : ℕ
  pub failed : ℕ

-- A store in memory as any store: it always has known contents.
abbrev pub memory_state : Held → StoreState
memory_state held = record { known = Unit {0}; contents = held.contents; faults = held.failed; calls = held.made }

-- A call for which there is no memory changes nothing.
pub record Starves (r : Reply) (old new : Held) : Type 0 where
  pub reply : r ≡ reply.NoMemory
  pub contents : new.contents ≡ old.contents
  pub failed : new.failed ≡ old.failed

-- A call whose reply is the map's.
pub record Replies (q : Request) (r : Reply) (old new : Held) : Type 0 where
  pub answer : Answers q r old.contents new.contents
  pub failed : new.failed ≡ old.failed

-- A call that fails and leaves these contents.
pub record Faulted (r : Reply) (left : Contents) (old new : Held) : Type 0 where
  pub reply : r ≡ reply.Fault
  pub contents : new.contents ≡ left
  pub failed : new.failed ≡ old.failed + 1

abbrev pub IsOutcomeOf : FaultPlan → Request → Reply → Held → Held → Type 0
IsOutcomeOf fate.Answers q r old new = Replies q r old new ⊎ Starves r old new
IsOutcomeOf fate.FailsBefore q r old new = Faulted r old.contents old new
IsOutcomeOf fate.FailsAfter q r old new = Faulted r (after q old.contents) old new ⊎ Starves r old new

-- One call of a store in memory: it fails exactly where it is listed, and has its effect first where the entry says so.
-- Otherwise it answers as the map does. Out of memory is returned in place of both, and then nothing changes.
pub record Serves (q : Request) (r : Reply) (old new : Held) : Type 0 where
  pub failing : new.failing ≡ old.failing
  pub made : new.made ≡ next_number old.made
  pub outcome : IsOutcomeOf (plan_of_call (old.made + 1) old.failing) q r old new
