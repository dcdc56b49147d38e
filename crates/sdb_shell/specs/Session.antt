-- A session: the lines of an input, accepted as statements and answered one after the other.
use Rattle.std.specs.Prelude.{◌≡◌, ℕ, ℤ, ◌+◌, nat_le, nat_lt, Bool, true, not, ◌&&◌, List, [], ◌∷◌, ◌++◌, filter, length, Option, ◌≢◌, ◌⊎◌, ◌≤◌, option_map}
use Rattle.std.specs.List.{flat_map, list_all}
use Rattle.std.specs.Str.{is_utf8}
use Rattle.sdb_types.specs.Bytes.{Appends, IsAtEnd, Takes}
use Rattle.sdb_shell.specs.Types.{Answer, Table}
use Rattle.sdb_model.specs.Form.{lines_of}
use Rattle.sdb_stores.specs.Views.{Attached, StoreView}
use Rattle.sdb_contents.specs.Board.{HoldTheSame}
use Rattle.sdb_client.specs.Client.{Parses}
use Rattle.law_clients.specs.Session.{Exchange}
use Rattle.sdb_shell.specs.Sessions.{HasAnswered, IsSession, IsSessionSoFar, SessionAt}
use Rattle.sdb_shell.specs.Answers.{IsPrefix, answer_line_of}
use Rattle.sdb_shell.specs.Handed.{Handed, Reading}
use Rattle.sdb_shell.specs.declared.lines.LineEnd.{LineEnd}
use Rattle.sdb_shell.specs.declared.refused.SessionRefused.{SessionRefused}
use Rattle.sdb_shell.specs.declared.refused.SessionRefused.TheVariants as refused
use Rattle.sdb_shell.specs.Texts.{IsRefusedAt}
use Rattle.sdb_shell.specs.Lines.{IsLine, has_lf, most_input, most_line, with_end}

-- lines, each with its LF
abbrev pub with_lfs : List (List ℕ) → List ℕ
with_lfs lines = flat_map (λ l. l ++ 10 ∷ []) lines

abbrev pub is_text : List ℕ → Bool
is_text [] = true
is_text (b ∷ bytes) = is_utf8 (b ∷ bytes)

-- a line: empty or UTF-8, without an LF, of at most 65,536 bytes
abbrev pub is_line : List ℕ → Bool
is_line line = not (has_lf line) && (nat_le (length line) most_line && is_text line)

-- the lines that aren't empty
abbrev pub filled : List (List ℕ) → List (List ℕ)
filled lines = filter (λ l. nat_lt 0 (length l)) lines

-- each of these lines was accepted as a statement, in turn
abbrev pub AreExecutedFrom : List (List ℕ) → List Exchange → Type 0
AreExecutedFrom [] [] = Unit {0}
AreExecutedFrom (l ∷ ls) (e ∷ es) = Parses l e.says × AreExecutedFrom ls es
AreExecutedFrom ls es = ⊥

-- the lines of the answers
abbrev pub answer_lines : List Exchange → List ℕ
answer_lines es = flat_map (λ e. answer_line_of e.answer) es

-- A statement was accepted and answered, and the line of its answer was written.
pub record HasReplied (catalog : List Table) (text : List ℕ) (u : Handed) (s t : SessionAt) : Type 0 where
  pub answer : Answer
  pub answered : HasAnswered catalog text u.old u.new u.clock u.clock_then u.ids u.ids_then s answer t
  pub put : Appends (answer_line_of answer) u.written u.written_then

-- why the line of an answer isn't written whole
abbrev pub IsUnwritten : SessionRefused → Type 0
IsUnwritten refused.WriteFault = Unit {0}
IsUnwritten refused.NoMemory = Unit {0}
IsUnwritten r = ⊥

-- A statement stops a session: it was out of memory before its answer, and nothing was written; or it was answered, and a prefix of the
-- line of its answer was written.
pub data HasStopped (catalog : List Table) (text : List ℕ) (u : Handed) (s t : SessionAt) (why : SessionRefused) : Type 0 where
  OutOfMemory : (is : why ≡ refused.NoMemory) (written_same : u.written_then ≡ u.written) → HasStopped catalog text u s t why
  Unwritten : (kind : IsUnwritten why) (answer : Answer) (answered : HasAnswered catalog text u.old u.new u.clock u.clock_then u.ids u.ids_then s answer t) (put : IsPrefix (answer_line_of answer) u.written u.written_then) → HasStopped catalog text u s t why

-- Nothing was done: an empty line was read.
pub record HasPassed (u : Handed) (s t : SessionAt) : Type 0 where
  pub held : HoldTheSame u.old u.new
  pub clock_same : u.clock_then ≡ u.clock
  pub ids_same : u.ids_then ≡ u.ids
  pub written_same : u.written_then ≡ u.written
  pub same : t ≡ s

-- A line was read; its statement was answered, or it is empty.
pub record HasExecutedLine (catalog : List Table) (u : Handed) (r : Reading) (s t : SessionAt) (end : LineEnd) : Type 0 where
  pub line : List ℕ
  pub read : IsLine r.left r.left_then r.used r.used_then end line
  pub done : ((line ≡ []) × HasPassed u s t) ⊎ ((line ≢ []) × (is_utf8 line ≡ true) × HasReplied catalog line u s t)

-- A line was read that isn't empty, and its statement stops a session.
pub record HasStoppedLine (catalog : List Table) (u : Handed) (r : Reading) (s t : SessionAt) (why : SessionRefused) : Type 0 where
  pub line : List ℕ
  pub end : LineEnd
  pub read : IsLine r.left r.left_then r.used r.used_then end line
  pub some : line ≢ []
  pub utf8 : is_utf8 line ≡ true
  pub stopped : HasStopped catalog line u s t why

-- A line stops a session: nothing was done and the line is refused; or its statement stops it.
abbrev pub IsCutLine : List Table → ℕ → Handed → Reading → SessionAt → SessionAt → SessionRefused → Type 0
IsCutLine catalog n u r s t why = (HasPassed u s t × IsRefusedAt n r.left r.left_then r.used r.used_then why) ⊎ HasStoppedLine catalog u r s t why

-- A session so far, before the line of a number: each line so far ends with LF.
pub record IsSoFar (catalog : List Table) (old new : Attached) (clock clock_then : Option (List ℤ)) (ids ids_then : Option (List ℕ)) (written written_then : Option (List ℕ)) (left left_then : Option (List ℕ)) (used n : ℕ) (s : SessionAt) : Type 0 where
  pub lines : List (List ℕ)
  pub es : List Exchange
  pub accepted : Takes (with_lfs lines) left left_then
  pub fit : list_all is_line lines ≡ true
  pub counted : used ≡ length (with_lfs lines)
  pub number : n ≡ length lines + 1
  pub answered : AreExecutedFrom (filled lines) es
  pub output : Appends (answer_lines es) written written_then
  pub session : IsSessionSoFar catalog old new clock clock_then ids ids_then es s

-- A whole session: the text of its input is read to its end, and each of its lines that isn't empty is accepted as a statement and answered
-- by one line of the output; and these statements are a session.
pub record IsWhole (catalog : List Table) (old new : Attached) (clock clock_then : Option (List ℤ)) (ids ids_then : Option (List ℕ)) (written written_then : Option (List ℕ)) (remaining remaining_then : Option (List ℕ)) : Type 0 where
  pub text : List ℕ
  pub es : List Exchange
  pub accepted : Takes text remaining remaining_then
  pub ends : IsAtEnd remaining_then
  pub most : length text ≤ most_input
  pub fit : list_all is_line (lines_of text) ≡ true
  pub answered : AreExecutedFrom (filled (lines_of text)) es
  pub output : Appends (answer_lines es) written written_then
  pub session : IsSession catalog old new clock clock_then ids ids_then es

-- A session before the line of a number, as its callers know it: these lines were read, each that isn't empty was accepted as a statement and
-- answered by one line of the output, and these statements are a session.
pub record IsAnsweredSoFar (catalog : List Table) (old new : Attached) (clock clock_then : Option (List ℤ)) (ids ids_then : Option (List ℕ)) (written written_then : Option (List ℕ)) (left left_then : Option (List ℕ)) (used n : ℕ) : Type 0 where
  pub lines : List (List ℕ)
  pub es : List Exchange
  pub accepted : Takes (with_lfs lines) left left_then
  pub fit : list_all is_line lines ≡ true
  pub counted : used ≡ length (with_lfs lines)
  pub number : n ≡ length lines + 1
  pub answered : AreExecutedFrom (filled lines) es
  pub output : Appends (answer_lines es) written written_then
  pub session : IsSession catalog old new clock clock_then ids ids_then es

-- A session that its input stopped: the lines before that of a number were answered, and this line is refused, after the bytes `ahead` were
-- read and not used.
pub record IsRefused (catalog : List Table) (old new : Attached) (clock clock_then : Option (List ℤ)) (ids ids_then : Option (List ℕ)) (written written_then : Option (List ℕ)) (remaining remaining_then : Option (List ℕ)) (why : SessionRefused) : Type 0 where
  pub n : ℕ
  pub used : ℕ
  pub used_then : ℕ
  pub left : Option (List ℕ)
  pub ahead : List ℕ
  pub before : IsAnsweredSoFar catalog old new clock clock_then ids ids_then written written_then remaining left used n
  pub refused : IsRefusedAt n left (option_map (λ rest. ahead ++ rest) remaining_then) used used_then why

-- A session whose last answer wasn't written whole: its lines were answered, and the answers of those before the last were written, then
-- a prefix of the line of the last one's. The bytes `ahead` were read and not used.
pub record IsCutShort (catalog : List Table) (old new : Attached) (clock clock_then : Option (List ℤ)) (ids ids_then : Option (List ℕ)) (written written_then : Option (List ℕ)) (remaining remaining_then : Option (List ℕ)) : Type 0 where
  pub lines : List (List ℕ)
  pub line : List ℕ
  pub end : LineEnd
  pub es : List Exchange
  pub last : Exchange
  pub ahead : List ℕ
  pub written_mid : Option (List ℕ)
  pub accepted : Takes (with_lfs lines ++ with_end end line) remaining (option_map (λ rest. ahead ++ rest) remaining_then)
  pub fit : list_all is_line lines ≡ true
  pub fits : is_line line ≡ true
  pub some : line ≢ []
  pub answered : AreExecutedFrom (filled lines ++ line ∷ []) (es ++ last ∷ [])
  pub output : Appends (answer_lines es) written written_mid
  pub prefix : IsPrefix (answer_line_of last.answer) written_mid written_then
  pub session : IsSession catalog old new clock clock_then ids ids_then (es ++ last ∷ [])

-- More calls of a statement, or more lines, than can be counted are out of memory: the lines before that of a number were answered, the
-- stores held this then, and nothing was written after their answers.
pub record IsOutOfMemory (catalog : List Table) (old : Attached) (clock : Option (List ℤ)) (ids : Option (List ℕ)) (written written_then : Option (List ℕ)) (remaining : Option (List ℕ)) : Type 0 where
  pub n : ℕ
  pub used : ℕ
  pub left : Option (List ℕ)
  pub held : List StoreView
  pub clock_mid : Option (List ℤ)
  pub ids_mid : Option (List ℕ)
  pub before : IsAnsweredSoFar catalog old (record old { views = held }) clock clock_mid ids ids_mid written written_then remaining left used n

-- Why a session has no end: its input stopped it, the line of an answer wasn't written whole, or it was out of memory. The output has the
-- answers of the lines before, and then at most a prefix of one more.
pub data IsCutSession (catalog : List Table) (old new : Attached) (clock clock_then : Option (List ℤ)) (ids ids_then : Option (List ℕ)) (written written_then : Option (List ℕ)) (remaining remaining_then : Option (List ℕ)) (why : SessionRefused) : Type 0 where
  Refused : (refused : IsRefused catalog old new clock clock_then ids ids_then written written_then remaining remaining_then why) → IsCutSession catalog old new clock clock_then ids ids_then written written_then remaining remaining_then why
  CutShort : (kind : IsUnwritten why) (cut : IsCutShort catalog old new clock clock_then ids ids_then written written_then remaining remaining_then) → IsCutSession catalog old new clock clock_then ids ids_then written written_then remaining remaining_then why
  Starves : (is : why ≡ refused.NoMemory) (out_of_memory : IsOutOfMemory catalog old clock ids written written_then remaining) → IsCutSession catalog old new clock clock_then ids ids_then written written_then remaining remaining_then why

---- in contracts

-- a session from an input to what is left of it is whole, or has no end
abbrev pub IsDone : List Table → Handed → Option (List ℕ) → Option (List ℕ) → Type 0
IsDone catalog u remaining remaining_then = IsWhole catalog u.old u.new u.clock u.clock_then u.ids u.ids_then u.written u.written_then remaining remaining_then

abbrev pub IsCutOff : List Table → Handed → Option (List ℕ) → Option (List ℕ) → SessionRefused → Type 0
IsCutOff catalog u remaining remaining_then why = IsCutSession catalog u.old u.new u.clock u.clock_then u.ids u.ids_then u.written u.written_then remaining remaining_then why
