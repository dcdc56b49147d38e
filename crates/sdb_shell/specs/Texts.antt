-- The texts of a session's input, line by line.
use Rattle.std.specs.Prelude.{◌≡◌, ◌≢◌, ℕ, true, false, List, [], Option, Some, None}
use Rattle.std.specs.Str.{is_utf8}
use Rattle.sdb_model.specs.declared.script.Which.TheVariants as which
use Rattle.sdb_shell.specs.declared.lines.LineEnd.{LineEnd}
use Rattle.sdb_shell.specs.declared.lines.LineStop.{LineStop}
use Rattle.sdb_shell.specs.declared.lines.LineStop.TheVariants as line_stop
use Rattle.sdb_shell.specs.declared.refused.SessionRefused.{SessionRefused}
use Rattle.sdb_shell.specs.declared.refused.SessionRefused.TheVariants as refused
use Rattle.sdb_shell.specs.declared.texts.Next.{Next}
use Rattle.sdb_shell.specs.Lines.{IsCut, IsLine}

-- the text of a line, if it isn't empty: it is UTF-8
abbrev pub IsText : List ℕ → Option (List ℕ) → Type 0
IsText line None = line ≡ []
IsText line (Some text) = (text ≡ line) × (line ≢ []) × (is_utf8 line ≡ true)

-- why a line that was read has no text: it isn't UTF-8, or there was no memory
abbrev pub IsBad : ℕ → List ℕ → SessionRefused → Type 0
IsBad n line refused.NoMemory = Unit {0}
IsBad n line (refused.BadLine m) = (m ≡ n) × (is_utf8 line ≡ false)
IsBad n line r = ⊥

abbrev pub refused_at : ℕ → LineStop → SessionRefused
refused_at n line_stop.Failed = refused.ReadFault
refused_at n line_stop.Long = refused.Limit n which.LineBytes
refused_at n line_stop.TooMany = refused.Limit n which.InputBytes
refused_at n line_stop.NoMemory = refused.NoMemory

-- The next line was read, and this is its text.
pub record IsNext (old new : Option (List ℕ)) (used used_then : ℕ) (next : Next) : Type 0 where
  pub line : List ℕ
  pub read : IsLine old new used used_then next.end line
  pub text : IsText line next.text

-- The line of a number stops a session: it couldn't be read so far, or was read and has no text.
pub data IsRefusedAt (n : ℕ) (old new : Option (List ℕ)) (used used_then : ℕ) (why : SessionRefused) : Type 0 where
  Stops : (stop : LineStop) (is : why ≡ refused_at n stop) (cut : IsCut old new used used_then stop) → IsRefusedAt n old new used used_then why
  Bad : (end : LineEnd) (line : List ℕ) (read : IsLine old new used used_then end line) (bad : IsBad n line why) → IsRefusedAt n old new used used_then why
