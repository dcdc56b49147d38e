-- What placed tokens are read as, one after another.
use Rattle.std.specs.Prelude.{ℕ, List, [], ◌∷◌, length, Option, Some, None, Result, Ok, Err}
use Rattle.sdb_sqltext.specs.Types.{Placed, Refusal, Statement}
use Rattle.sdb_model.specs.SqlTokens.{Fault, Bad, Wide, Lexed, lexed}
use Rattle.sdb_sqltext.specs.States.{State}
use Rattle.sdb_sqltext.specs.States as state
use Rattle.sdb_sqltext.specs.Machine.{untested, filtered, step}

-- the statement that was read, where it may end there
abbrev pub finish : State → Option Statement
finish (state.Ended st) = Some st
finish (state.Closed st) = Some st
finish (state.Target h) = Some (filtered (untested h) None)
finish (state.TestEnd f) = Some (filtered f None)
finish _ = None

abbrev pub or_at : {A : Type 0} → ℕ → Option A → Result A ℕ
or_at place (Some x) = Ok x
or_at place None = Err place

abbrev pub then : {A B : Type 0} → Result A ℕ → (A → Result B ℕ) → Result B ℕ
then (Ok x) f = f x
then (Err e) f = Err e

-- the statement that tokens make of what was read before them, or the place where none goes on
abbrev pub parse_from : State → List Placed → ℕ → Result Statement ℕ
parse_from s [] end = or_at end (finish s)
parse_from s (p ∷ ps) end = then (or_at p.at (step s p.token)) (λ n. parse_from n ps end)

abbrev pub no_statement : ℕ → Refusal
no_statement at = record { kind = 2; place = at }

abbrev pub of_tokens : Result Statement ℕ → Result Statement Refusal
of_tokens (Ok st) = Ok st
of_tokens (Err at) = Err (no_statement at)

abbrev pub of_fault : Fault → ℕ → Refusal
of_fault Bad at = record { kind = 1; place = at }
of_fault Wide at = record { kind = 3; place = at }

-- the statement of what a text was lexed to, or the first refusal
abbrev pub parsed_by : ℕ → Lexed → Result Statement Refusal
parsed_by end (Ok ps) = of_tokens (parse_from state.Start ps end)
parsed_by end (Err f) = Err (of_fault f.0 f.1)

abbrev pub parsed : List ℕ → Result Statement Refusal
parsed text = parsed_by (length text) (lexed text)
