-- A table's rows that are read as one transaction and written as CSV.
use Rattle.std.specs.Prelude.{◌≡◌, ℕ, Bool, true, false, List, [], ◌∷◌, ◌++◌, Some}
use Rattle.sdb_shell.specs.Types.{Answer, Statement, Table}
use Rattle.sdb_data.specs.Printed.{printed}
use Rattle.sdb_stores.specs.Views.{Attached}
use Rattle.sdb_contents.specs.Board.{GoOn}
use Rattle.sdb_model.specs.declared.answer.Answer.TheVariants as answer
use Rattle.sdb_model.specs.declared.statement.Statement.TheVariants as statement
use Rattle.sdb_model.specs.Transactions.{is_committed_answer, is_done}
use Rattle.law_clients.specs.Session.{Exchange}
use Rattle.sdb_shell.specs.declared.export_refused.ExportRefused.{ExportRefused}
use Rattle.sdb_shell.specs.declared.export_refused.ExportRefused.TheVariants as refused
use Rattle.sdb_shell.specs.Ends.{Ends, IsSessionBefore, IsSessionOver}
use Rattle.sdb_shell.specs.Groups.{AreAnswered, IsOf}
use Rattle.sdb_shell.specs.Statements.{select_all}
use Rattle.sdb_shell.specs.Turns.{AreExecutedBetween, IsExecuted, Point, Turn}
use Rattle.sdb_client.specs.Client.{is_out_of_memory}

-- the statements of an export
abbrev pub export_statements : Table → List Statement
export_statements t = statement.Begin ∷ select_all t ∷ statement.Commit ∷ []

abbrev pub is_rows : Answer → Bool
is_rows (answer.Rows rows) = true
is_rows a = false

-- the answer after which an export goes on: Done of BEGIN, Rows of SELECT, Committed of COMMIT
abbrev pub is_wanted : Statement → Answer → Bool
is_wanted statement.Begin a = is_done (Some a)
is_wanted (statement.Select s) a = is_rows a
is_wanted statement.Commit a = is_committed_answer (Some a)
is_wanted st a = false

-- the rows of an answer as CSV
abbrev pub IsTextOf : Table → Answer → List ℕ → Type 0
IsTextOf t (answer.Rows rows) text = text ≡ printed t rows
IsTextOf t a text = ⊥

-- A table was read as one transaction that was committed, and the text is its rows as CSV; the statements that were accepted are a session.
pub record IsExport (catalog : List Table) (t : Table) (e : Ends) (text : List ℕ) : Type 0 where
  pub begin : Exchange
  pub select : Exchange
  pub commit : Exchange
  pub accepted : AreAnswered is_wanted (export_statements t) (begin ∷ select ∷ commit ∷ [])
  pub observed : IsTextOf t select.answer text
  pub session : IsSessionOver catalog e (begin ∷ select ∷ commit ∷ [])

-- The statements of an export up to one that wasn't answered as it should be; those before it were.
pub record IsCutAt (t : Table) (es : List Exchange) (last : Exchange) (a : Answer) : Type 0 where
  pub front : List Statement
  pub st : Statement
  pub back : List Statement
  pub statements : export_statements t ≡ front ++ st ∷ back
  pub accepted : AreAnswered is_wanted front es
  pub stops : IsOf st last
  pub other : is_wanted st last.answer ≡ false
  pub answer : last.answer ≡ a

-- An export ended at a statement of its transaction that got this answer, and none was accepted after it.
pub record IsCutExport (catalog : List Table) (t : Table) (e : Ends) (a : Answer) : Type 0 where
  pub es : List Exchange
  pub last : Exchange
  pub cut : IsCutAt t es last a
  pub session : IsSessionOver catalog e (es ++ last ∷ [])

-- Memory ran out in an export: its first statements were answered as they should be, and are a session.
pub record IsExportOutOfMemory (catalog : List Table) (t : Table) (e : Ends) : Type 0 where
  pub front : List Statement
  pub back : List Statement
  pub es : List Exchange
  pub statements : export_statements t ≡ front ++ back
  pub accepted : AreAnswered is_wanted front es
  pub session : IsSessionBefore catalog e es

-- Why there is no text: a statement got an answer that isn't the one wanted; or memory ran out.
abbrev pub IsNotExported : List Table → Table → Ends → ExportRefused → Type 0
IsNotExported catalog t e (refused.NotCommitted a) = (is_out_of_memory a ≡ false) × IsCutExport catalog t e a
IsNotExported catalog t e refused.NoMemory = IsExportOutOfMemory catalog t e

---- between two points

-- A statement was accepted and got the answer that is wanted.
abbrev pub IsAnsweredAsExpected : {S : Type 0} → (S → Attached) → List Table → Statement → Point S → Point S → Answer → Type 0
IsAnsweredAsExpected state catalog st p q a = IsExecuted state catalog st p a q × (is_wanted st a ≡ true)

-- Why it didn't.
abbrev pub IsLeftUnanswered : {S : Type 0} → (S → Attached) → List Table → Statement → Point S → Point S → ExportRefused → Type 0
IsLeftUnanswered state catalog st p q (refused.NotCommitted a) = (is_out_of_memory a ≡ false) × IsExecuted state catalog st p a q × (is_wanted st a ≡ false)
IsLeftUnanswered state catalog st p q refused.NoMemory = Unit {0}

-- The statements of an export were accepted between two points, and this is the answer of SELECT.
pub record HaveRead {S : Type 0} (state : S → Attached) (catalog : List Table) (t : Table) (p q : Point S) (a : Answer) : Type 0 where
  pub begin : Exchange
  pub select : Exchange
  pub commit : Exchange
  pub are : AreAnswered is_wanted (export_statements t) (begin ∷ select ∷ commit ∷ [])
  pub observed : select.answer ≡ a
  pub accepted : AreExecutedBetween state catalog p q (begin ∷ select ∷ commit ∷ [])

-- Those up to one that wasn't answered as it should be were accepted between two points.
pub record IsCutRead {S : Type 0} (state : S → Attached) (catalog : List Table) (t : Table) (p q : Point S) (a : Answer) : Type 0 where
  pub es : List Exchange
  pub last : Exchange
  pub cut : IsCutAt t es last a
  pub accepted : AreExecutedBetween state catalog p q (es ++ last ∷ [])

-- Memory ran out: the first ones were accepted between two points, each answered as it should be, and the stores went on to a third.
pub record IsReadOutOfMemory {S : Type 0} (state : S → Attached) (catalog : List Table) (t : Table) (p q : Point S) : Type 0 where
  pub mid : Point S
  pub front : List Statement
  pub back : List Statement
  pub es : List Exchange
  pub statements : export_statements t ≡ front ++ back
  pub are : AreAnswered is_wanted front es
  pub accepted : AreExecutedBetween state catalog p mid es
  pub before : GoOn (state p.stores) (state mid.stores)
  pub goes : GoOn (state mid.stores) (state q.stores)

-- why no rows were read
abbrev pub HaveNotRead : {S : Type 0} → (S → Attached) → List Table → Table → Point S → Point S → ExportRefused → Type 0
HaveNotRead state catalog t p q (refused.NotCommitted a) = (is_out_of_memory a ≡ false) × IsCutRead state catalog t p q a
HaveNotRead state catalog t p q refused.NoMemory = IsReadOutOfMemory state catalog t p q

---- in contracts

abbrev pub IsAnsweredAsWanted : {S : Type 0} → (S → Attached) → List Table → Statement → Turn S → Answer → Type 0
IsAnsweredAsWanted state catalog st x a = IsAnsweredAsExpected state catalog st x.from x.to a

abbrev pub IsNotAnswered : {S : Type 0} → (S → Attached) → List Table → Statement → Turn S → ExportRefused → Type 0
IsNotAnswered state catalog st x why = IsLeftUnanswered state catalog st x.from x.to why

abbrev pub IsTableRead : {S : Type 0} → (S → Attached) → List Table → Table → Turn S → Answer → Type 0
IsTableRead state catalog t x a = HaveRead state catalog t x.from x.to a

abbrev pub IsTableUnread : {S : Type 0} → (S → Attached) → List Table → Table → Turn S → ExportRefused → Type 0
IsTableUnread state catalog t x why = HaveNotRead state catalog t x.from x.to why
