-- The lines of a session's answers.
use Rattle.std.specs.Prelude.{ℕ, ◌≤◌, List, [], ◌∷◌, ◌++◌, length, take, Option}
use Rattle.sdb_types.specs.Bytes.{Appends}
use Rattle.sdb_model.specs.declared.answer.Answer.{Answer}
use Rattle.sdb_model.specs.Texts.{answer_text_of}

-- an answer's text and LF
abbrev pub answer_line_of : Answer → List ℕ
answer_line_of a = answer_text_of a ++ 10 ∷ []

-- a prefix of these bytes was added
abbrev pub IsPrefix : List ℕ → Option (List ℕ) → Option (List ℕ) → Type 0
IsPrefix bytes old new = (k : ℕ) × (k ≤ length bytes) × Appends (take k bytes) old new
