-- The calls of a COMMIT of an execution are those of a COMMIT of its transaction over their replies.
use Rattle.std.specs.Prelude.{◌≡◌, ◌⊎◌, ℕ, true, false, List, [], map, Some, None, Contains}
use Rattle.law_runs.specs.Types.{Answer, Event, Outcome}
use Rattle.sdb_model.specs.declared.answer.Answer.TheVariants as answer
use Rattle.sdb_model.specs.Calls.{StoreCall, calls_of, clock_at}
use Rattle.sdb_model.specs.Causes.{IsCommitOf, refused}
use Rattle.sdb_model.specs.Sql.{reads_commit}
use Rattle.sdb_model.specs.Transactions.{Executed, statements_by}
use Rattle.sdb_phases.specs.declared.step.Outcome.TheVariants as outcome
use Rattle.sdb_phases.specs.Commit.{Stage}
use Rattle.sdb_phases.specs.Work.{Work, forwards}
use Rattle.law_answers.specs.Paths.{Call, Asks, EndsIn, Makes, is_over}
use Rattle.law_answers.specs.Ends.{IsUndone}

-- what a call asked, and its reply
abbrev pub as_call : StoreCall → Call
as_call m = record { request = m.request; reply = m.reply }

-- the calls of a statement so
abbrev pub path_calls : List Event → ℕ → Executed → List Call
path_calls events client s = map as_call (calls_of events client s)

-- The answer of a COMMIT that ends so: its own, or out of memory in place of a conflict.
abbrev pub IsAnswerOf : Outcome → Answer → Type 0
IsAnswerOf outcome.Committed a = a ≡ answer.Committed
IsAnswerOf (outcome.Conflict key found) a = (a ≡ answer.Conflict key found) ⊎ (a ≡ answer.NoMemory)
IsAnswerOf (outcome.Expired id) a = a ≡ answer.Expired id
IsAnswerOf outcome.Faulted a = a ≡ answer.Faulted
IsAnswerOf (outcome.Unknown id) a = a ≡ answer.Unknown id
IsAnswerOf (outcome.BadRecord key) a = a ≡ answer.BadRecord key
IsAnswerOf outcome.NoMemory a = a ≡ answer.NoMemory

-- What a COMMIT that is answered so has rolled: each write forward; or back each that may have been prepared; or none. It has no other answer.
abbrev pub RollsAs : Work → List Call → Answer → Type 0
RollsAs p calls answer.Committed = Asks p calls (forwards p)
RollsAs p calls (answer.Conflict key found) = IsUndone p calls
RollsAs p calls (answer.Expired id) = IsUndone p calls
RollsAs p calls answer.Faulted = IsUndone p calls
RollsAs p calls answer.NoMemory = IsUndone p calls
RollsAs p calls (answer.Unknown id) = Asks p calls []
RollsAs p calls (answer.BadRecord key) = Asks p calls []
RollsAs p calls a = ⊥

-- The statement is the COMMIT of a transaction, whose work it takes at the moment when it was accepted.
pub record TakesWork (events : List Event) (client : ℕ) (s : Executed) (p : Work) : Type 0 where
  pub commit : IsCommitOf events client s p.id
  pub moment : p.now ≡ clock_at events s.accepted

-- Its calls are those of a COMMIT of that work, which ends with that answer, and rolls as it says.
pub record IsCommitPath (events : List Event) (client : ℕ) (s : Executed) (a : Answer) : Type 0 where
  pub work : Work
  pub takes : TakesWork events client s work
  pub outcome : Outcome
  pub ends : EndsIn work (path_calls events client s) outcome
  pub answers : IsAnswerOf outcome a
  pub rolls : RollsAs work (path_calls events client s) a

-- It was answered as it was accepted, without a call: it was out of memory, or no transaction was open.
pub record IsAtOnce (events : List Event) (client : ℕ) (s : Executed) (a : Answer) : Type 0 where
  pub none : calls_of events client s ≡ []
  pub once : s.reached ≡ s.accepted
  pub answers : (a ≡ answer.NoMemory) ⊎ (a ≡ refused 5)

-- Its calls so far are those of a COMMIT of that work, which hasn't ended.
pub record IsOpenCommitPath (events : List Event) (client : ℕ) (s : Executed) : Type 0 where
  pub work : Work
  pub takes : TakesWork events client s work
  pub stage : Stage
  pub makes : Makes work (path_calls events client s) stage
  pub goes_on : is_over stage ≡ false

-- Each COMMIT that is answered is answered at once, or after the calls of such a COMMIT.
abbrev pub CommitsArePaths : List Event → Type 0
CommitsArePaths events =
    (client : ℕ) (s : Executed) (a : Answer) → Contains (statements_by client events) s → reads_commit s.text ≡ true → s.answer ≡ Some a → IsAtOnce events client s a ⊎ IsCommitPath events client s a

-- Each that isn't has made the first calls of one.
abbrev pub OpenCommitsArePaths : List Event → Type 0
OpenCommitsArePaths events = (client : ℕ) (s : Executed) → Contains (statements_by client events) s → reads_commit s.text ≡ true → s.answer ≡ None → IsOpenCommitPath events client s
