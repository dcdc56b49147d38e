-- The lines of a session's input.
use Rattle.std.specs.Prelude.{◌≡◌, ℕ, ◌+◌, ◌≤◌, ◌==◌, Bool, false, List, [], ◌∷◌, ◌++◌, length, Option}
use Rattle.std.specs.List.{list_any}
use Rattle.sdb_types.specs.Bytes.{IsAtEnd, Takes}
use Rattle.sdb_shell.specs.declared.bytes.ByteRefused.{ByteRefused}
use Rattle.sdb_shell.specs.declared.bytes.ByteRefused.TheVariants as byte_refused
use Rattle.sdb_shell.specs.declared.lines.LineEnd.{LineEnd}
use Rattle.sdb_shell.specs.declared.lines.LineEnd.TheVariants as line_end
use Rattle.sdb_shell.specs.declared.lines.LineStop.{LineStop}
use Rattle.sdb_shell.specs.declared.lines.LineStop.TheVariants as line_stop

-- bytes of a line, without its LF
abbrev pub most_line : ℕ
most_line = 65536

-- bytes of an input
abbrev pub most_input : ℕ
most_input = 1073741824

-- there is a byte more
abbrev pub HasMore : Option (List ℕ) → Type 0
HasMore left = (b : ℕ) × (rest : Option (List ℕ)) × Takes (b ∷ []) left rest

abbrev pub stop_of : ByteRefused → LineStop
stop_of byte_refused.Failed = line_stop.Failed
stop_of byte_refused.TooMany = line_stop.TooMany

abbrev pub has_lf : List ℕ → Bool
has_lf bytes = list_any (λ b. b == 10) bytes

-- a line with what ends it
abbrev pub with_end : LineEnd → List ℕ → List ℕ
with_end line_end.Lf line = line ++ 10 ∷ []
with_end line_end.Input line = line

abbrev pub EndsAt : LineEnd → Option (List ℕ) → Type 0
EndsAt line_end.Lf left = Unit {0}
EndsAt line_end.Input left = IsAtEnd left

-- A line was read of what was left: no LF is among its bytes, which are as many as a line may have at most. So many bytes were used then.
pub record IsLine (old new : Option (List ℕ)) (used used_then : ℕ) (end : LineEnd) (line : List ℕ) : Type 0 where
  pub accepted : Takes (with_end end line) old new
  pub ends : EndsAt end new
  pub one : has_lf line ≡ false
  pub fits : length line ≤ most_line
  pub counted : used_then ≡ used + length (with_end end line)

-- Why no line was read, after these bytes of it.
abbrev pub IsStop : LineStop → List ℕ → Option (List ℕ) → ℕ → Type 0
IsStop line_stop.Failed read new used = Unit {0}
IsStop line_stop.Long read new used = length read ≡ most_line + 1
IsStop line_stop.TooMany read new used = (used ≡ most_input) × HasMore new
IsStop line_stop.NoMemory read new used = Unit {0}

-- These bytes of a line were read, without an LF, and no more.
pub record IsCut (old new : Option (List ℕ)) (used used_then : ℕ) (why : LineStop) : Type 0 where
  pub read : List ℕ
  pub accepted : Takes read old new
  pub one : has_lf read ≡ false
  pub counted : used_then ≡ used + length read
  pub stop : IsStop why read new used_then
