-- What each command promises, and how a call of the program may end.
use Rattle.std.specs.Prelude.{◌≡◌, ℕ, ◌≤◌, true, List, length, take, Option}
use Rattle.sdb_types.specs.Bytes.{Appends, HasRisen}
use Rattle.sdb_record.specs.Parts.{is_column_name}
use Rattle.sdb_stores.specs.Views.{names_of}
use Rattle.sdb_model.specs.Rows.{Name}
use Rattle.sdb_words.specs.declared.command.Command.{Command}
use Rattle.sdb_words.specs.declared.command.Command.TheVariants as command
use Rattle.sdb_words.specs.Commands.{AreWordsOf, IsWithin, most_rows, most_transactions}
use Rattle.sdb_app.specs.declared.status.Status.{Status}
use Rattle.sdb_app.specs.declared.status.Status.TheVariants as status
use Rattle.sdb_app.specs.Ends.{AreUnchanged, Draws, Ends, IsUndrawn, Stream, Work, draws_of}
use Rattle.sdb_app.specs.Run.{IsReplayed, StopsReplay}
use Rattle.sdb_app.specs.Bench.{IsBenched, StopsBench}
use Rattle.sdb_app.specs.Schema.{IsSchemaKept, StopsSchema}
use Rattle.sdb_app.specs.Sql.{HasEndedSession}
use Rattle.sdb_app.specs.Load.{IsLoaded, StopsLoad}
use Rattle.sdb_app.specs.Export.{IsExported, StopsExport}
use Rattle.sdb_app.specs.Retire.{IsStoreRetired, StopsRetire}
use Rattle.sdb_app.specs.Alter.{IsColumnAnswered, StopsAlter}
use Rattle.sdb_contents.specs.Dropped.{MayRetire}
use Rattle.sdb_contents.specs.Retired.{sides}

-- What a command promises of the text that it answers, and why it ends otherwise, before anything is written.
pub record Promise : Type 1 where
  pub answers : List ℕ → Type 0
  pub stops : Status → Type 0

-- The command is not there yet.
abbrev pub IsNotThere : Work → Status → Type 0
IsNotThere work s = (s ≡ status.Usage) × AreUnchanged work × (work.rest ≡ work.input)

abbrev pub not_there : Work → Promise
not_there work = record { answers = λ text. ⊥; stops = IsNotThere work }

-- The command answers one text at its end. Its numbers are within their limits, of stores of these names it retires one that may be, and it adds
-- a column whose name is an identifier of at most 64 bytes.
abbrev pub AnswersOnce : List Name → Command → Type 0
AnswersOnce stores command.Replay = Unit {0}
AnswersOnce stores (command.Bench n) = n ≤ most_transactions
AnswersOnce stores (command.Schema places) = Unit {0}
AnswersOnce stores command.Sql = ⊥
AnswersOnce stores (command.Load table mode n) = IsWithin most_rows n
AnswersOnce stores (command.Export table) = Unit {0}
AnswersOnce stores (command.Retire from to) = MayRetire stores (sides from to)
AnswersOnce stores (command.Alter table column kind) = is_column_name column ≡ true
AnswersOnce stores command.Audit = Unit {0}

-- The command may drop the store of that name: it retires it.
abbrev pub Drops : Command → Name → Type 0
Drops c name = (to : Name) × (c ≡ command.Retire name to)

-- These words do.
abbrev pub WordsDrop : List Name → List (List ℕ) → Name → Type 0
WordsDrop stores words name = (to : Name) × AreWordsOf stores (command.Retire name to) words

-- no text at all
abbrev pub unanswered : Promise
unanswered = record { answers = λ text. ⊥; stops = λ s. ⊥ }

-- The same promise, and nothing is asked of the clock or the ids.
abbrev pub undrawn : Draws → Promise → Promise
undrawn d p = record { answers = λ text. p.answers text × IsUndrawn d; stops = λ s. p.stops s × IsUndrawn d }

-- The promise of each command that answers one text.
abbrev pub promise_of : Command → Work → Draws → Promise
promise_of command.Replay work d = undrawn d (record { answers = IsReplayed work; stops = StopsReplay work })
promise_of (command.Bench n) work d = undrawn d (record { answers = IsBenched n work; stops = StopsBench n work })
promise_of (command.Schema places) work d = undrawn d (record { answers = IsSchemaKept places work; stops = StopsSchema places work })
promise_of command.Sql work d = unanswered
promise_of (command.Load table mode n) work d = record { answers = IsLoaded table mode n work d; stops = StopsLoad table mode n work d }
promise_of (command.Export table) work d = record { answers = IsExported table work d; stops = StopsExport table work d }
promise_of (command.Retire from to) work d = undrawn d (record { answers = IsStoreRetired (sides from to) work; stops = StopsRetire (sides from to) work })
promise_of (command.Alter table column kind) work d = undrawn d (record { answers = IsColumnAnswered table (record { name = column; kind = kind }) work; stops = StopsAlter table (record { name = column; kind = kind }) work })
promise_of command.Audit work d = undrawn d (not_there work)

---- what is written

-- A prefix of a text was added to the output.
abbrev pub IsPrefixAdded : List ℕ → Option (List ℕ) → Option (List ℕ) → Type 0
IsPrefixAdded text output written = (size : ℕ) × (size ≤ length text) × Appends (take size text) output written

-- How the writing of a text ends.
abbrev pub IsWritten : List ℕ → Stream → Stream → Status → Type 0
IsWritten text output written status.Done = Appends text output.bytes written.bytes
IsWritten text output written status.WriteFault = HasRisen output.faults written.faults × IsPrefixAdded text output.bytes written.bytes
IsWritten text output written status.NoMemory = IsPrefixAdded text output.bytes written.bytes
IsWritten text output written _ = ⊥

-- The command's work was done, and the writing of its answer ended so.
pub record IsAnswered (promise : Promise) (output written : Stream) (s : Status) : Type 0 where
  pub text : List ℕ
  pub answer : promise.answers text
  pub ended : IsWritten text output written s

-- The command's work was not done, and nothing was written.
pub record IsStopped (promise : Promise) (output written : Stream) (s : Status) : Type 0 where
  pub cause : promise.stops s
  pub unwritten : written ≡ output

-- One of both.
pub data EndsOnce (c : Command) (work : Work) (d : Draws) (output written : Stream) (s : Status) : Type 0 where
  Answered : IsAnswered (promise_of c work d) output written s → EndsOnce c work d output written s
  Stopped : IsStopped (promise_of c work d) output written s → EndsOnce c work d output written s

---- how a call ends

-- Words are those of no command over stores of these names; or memory ran out before that was known.
abbrev pub IsNoCommand : List Name → List (List ℕ) → Status → Type 0
IsNoCommand stores words status.Usage = (c : Command) → AreWordsOf stores c words → ⊥
IsNoCommand stores words status.NoMemory = Unit {0}
IsNoCommand stores words _ = ⊥

-- Nothing that a call is handed was touched.
pub record IsUntouched (run : Ends) : Type 0 where
  pub unchanged : AreUnchanged run.work
  pub unread : run.work.rest ≡ run.work.input
  pub unwritten : run.written ≡ run.output
  pub undrawn : IsUndrawn (draws_of run)

-- A command ends so: its work was done and its answer written, or it was stopped before that; or it is a session, which answers line by
-- line.
pub data EndsAs (c : Command) (run : Ends) (s : Status) : Type 0 where
  Once : EndsOnce c run.work (draws_of run) run.output run.written s → EndsAs c run s
  Session : c ≡ command.Sql → HasEndedSession run s → EndsAs c run s

-- A call of the program on these words ends so: as the command of these words may end, or as words of no command do.
pub data HasEnded (words : List (List ℕ)) (run : Ends) (s : Status) : Type 0 where
  OfCommand : (c : Command) → AreWordsOf (names_of run.work.old.views) c words → EndsAs c run s → HasEnded words run s
  NoCommand : IsNoCommand (names_of run.work.old.views) words s → IsUntouched run → HasEnded words run s
