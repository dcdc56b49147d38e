-- When the COMMITs of a client's transactions were accepted.
use Rattle.std.specs.Prelude.{ℕ, zero, suc, if◌then◌else◌, List, [], ◌∷◌, map, unwrap_or, slice_get}
use Rattle.sdb_model.specs.Sql.{reads_commit}
use Rattle.sdb_model.specs.Transactions.{Executed as SaidOf, begins, ends}
use Rattle.sdb_contents.specs.declared.executed.Executed.{Executed}

-- an executed statement, as the definitions have it
abbrev pub executed_of : Executed → SaidOf
executed_of s = record { accepted = s.accepted; text = s.text; answer = s.answer; reached = s.reached }

abbrev pub all_executed : List Executed → List SaidOf
all_executed = map executed_of

-- the event that took the COMMIT by which an open transaction ends, where one more statement comes before the others
abbrev pub take_where : SaidOf → ℕ → ℕ
take_where s later = if ends s then (if reads_commit s.text then s.accepted else 0) else later

-- the event that took the COMMIT by which an open transaction ends, and 0 where it has none
unfoldable pub first_commit : List SaidOf → ℕ
first_commit [] = 0
first_commit (s ∷ ss) = take_where s (first_commit ss)

-- of each transaction that begins, in order, the event that took its COMMIT, and 0 where it has none
unfoldable pub commits_of : List SaidOf → List ℕ
commits_of [] = []
commits_of (s ∷ ss) = if begins s then first_commit ss ∷ commits_of ss else commits_of ss

-- of the k-th, k from 1
abbrev pub commit_at : ℕ → List ℕ → ℕ
commit_at zero commits = 0
commit_at (suc k) commits = unwrap_or (slice_get commits k) 0
