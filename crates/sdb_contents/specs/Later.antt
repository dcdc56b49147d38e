-- A client's statements, as its events are read from the last.
use Rattle.std.specs.Prelude.{◌≡◌, ℕ, Bool, true, false, ◌&&◌, ◌||◌, ◌==◌, if◌then◌else◌, List, [], ◌∷◌, reverse, Option, Some, None}
use Rattle.std.specs.Option.{option_map}
use Rattle.sdb_model.specs.declared.answer.Answer.{Answer}
use Rattle.sdb_model.specs.declared.answer.Answer.TheVariants as answer
use Rattle.sdb_model.specs.declared.event.Event.TheVariants as event
use Rattle.sdb_model.specs.Sql.{reads_begin, reads_commit, reads_rollback}
use Rattle.sdb_model.specs.Transactions.{Executed as SaidOf}
use Rattle.sdb_contents.specs.Types.{Event}
use Rattle.sdb_contents.specs.declared.commits.Later.{Later}
use Rattle.sdb_contents.specs.declared.commits.Outcome.{Outcome}
use Rattle.sdb_contents.specs.declared.commits.Outcome.TheVariants as outcome
use Rattle.sdb_contents.specs.Commits.{commits_of, first_commit}

---- outcomes

-- what an answer does to the transaction of its statement
abbrev pub outcome_of : Answer → Outcome
outcome_of answer.Done = outcome.Done
outcome_of (answer.Conflict key found) = outcome.Conflict
outcome_of _ = outcome.Other

abbrev pub is_done : Option Outcome → Bool
is_done (Some outcome.Done) = true
is_done _ = false

abbrev pub is_conflict : Option Outcome → Bool
is_conflict (Some outcome.Conflict) = true
is_conflict _ = false

-- a statement with this text and outcome begins a transaction
abbrev pub begins_with : List ℕ → Option Outcome → Bool
begins_with text o = reads_begin text && is_done o

-- the event that took the COMMIT by which an open transaction ends, where this statement, taken by event n, comes before the others
abbrev pub first_with : ℕ → List ℕ → Option Outcome → ℕ → ℕ
first_with n text o later = if reads_commit text || is_conflict o || (reads_rollback text && is_done o) then (if reads_commit text then n else 0) else later

-- the later of two, where it is there
abbrev pub or_earlier : {A : Type 0} → Option A → Option A → Option A
or_earlier None earlier = earlier
or_earlier (Some later) earlier = Some later

---- one more event, from the last

-- the last answer to a statement that was taken before, with the event that has it
abbrev pub answer_before : ℕ → ℕ × Event → Option (ℕ × Answer) → Option (ℕ × Answer)
answer_before client (n, event.Take c text answer) later = if c == client then None else later
answer_before client (n, event.Call c store q how r (Some a)) later = if c == client then or_earlier later (Some (n, a)) else later
answer_before client _ later = later

-- a statement, answered later
abbrev pub with_later : SaidOf → Option (ℕ × Answer) → SaidOf
with_later s None = s
with_later s (Some p) = record { accepted = s.accepted; text = s.text; answer = Some p.1; reached = p.0 }

-- the statements, with that which the event takes
abbrev pub taken : ℕ → ℕ × Event → Option (ℕ × Answer) → List SaidOf → List SaidOf
taken client (n, event.Take c text answer) later ss = if c == client then with_later (record { accepted = n; text = text; answer = answer; reached = n }) later ∷ ss else ss
taken client _ later ss = ss

---- all events

abbrev pub later_answer : ℕ → List (ℕ × Event) → Option (ℕ × Answer)
later_answer client [] = None
later_answer client (e ∷ es) = answer_before client e (later_answer client es)

abbrev pub later_statements : ℕ → List (ℕ × Event) → List SaidOf
later_statements client [] = []
later_statements client (e ∷ es) = taken client e (later_answer client es) (later_statements client es)

-- What is known is that of these events: the COMMITs of the client's transactions, last to first, that of one that is open before,
-- and the outcome of a statement that was taken before.
pub record IsLater (client : ℕ) (es : List (ℕ × Event)) (later : Later) : Type 0 where
  pub commits : later.commits.items ≡ reverse (commits_of (later_statements client es))
  pub first : later.first ≡ first_commit (later_statements client es)
  pub outcome : later.outcome ≡ option_map (λ p. outcome_of p.1) (later_answer client es)
