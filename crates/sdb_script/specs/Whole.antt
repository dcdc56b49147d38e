-- A text is a script, or is refused because of a line.
use Rattle.std.specs.Prelude.{◌≡◌, ◌⊎◌, ℕ, ◌+◌, ◌≤◌, ◌<◌, ◌==◌, Bool, true, List, length, take, count_by}
use Rattle.sdb_model.specs.declared.script.Script.{Script}
use Rattle.sdb_model.specs.declared.script.Which.TheVariants as which
use Rattle.sdb_model.specs.Form.{lines_of}
use Rattle.sdb_script.specs.declared.fault.LineRefused.TheVariants as refused
use Rattle.sdb_script.specs.declared.fault.ScriptRefused.{ScriptRefused}
use Rattle.sdb_script.specs.declared.fault.ScriptRefused.TheVariants.{BadLine, Limit, NoMemory as OutOfMemory}
use Rattle.sdb_script.specs.Lines.{most_bytes}
use Rattle.sdb_script.specs.Begun.{Draft, IsBegun, IsFirstWrong}

-- what the lines of a whole script say
abbrev pub whole : Bool → Script → Draft
whole described s = record { places = s.places; described = described; catalog = s.catalog; clients = s.clients; ran = true; moves = s.moves }

-- The text of a script over these attached stores: at most 67,108,864 bytes, whose lines begin a script and have `run`.
pub record IsScript (stores : List (List ℕ)) (text : List ℕ) (s : Script) : Type 0 where
  pub small : length text ≤ most_bytes
  pub described : Bool
  pub lines : IsBegun stores (lines_of text) (whole described s)

-- the line that holds the first byte past the limit
abbrev pub last_line : List ℕ → ℕ
last_line text = count_by (λ b. b == 10) (take most_bytes text) + 1

-- A text is refused so: for its length, before any line is read, or because of the first line that may not come.
abbrev pub IsRefused : List (List ℕ) → List ℕ → ScriptRefused → Type 0
IsRefused stores text (BadLine n f) = (length text ≤ most_bytes) × IsFirstWrong stores (lines_of text) n (refused.Bad f)
IsRefused stores text (Limit n w) =
    ((most_bytes < length text) × (w ≡ which.InputBytes) × (n ≡ last_line text))
    ⊎ ((length text ≤ most_bytes) × IsFirstWrong stores (lines_of text) n (refused.Limit w))
IsRefused stores text OutOfMemory = ⊥
