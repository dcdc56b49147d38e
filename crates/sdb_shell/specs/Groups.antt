-- A group of rows that is loaded as one transaction.
use Rattle.std.specs.Prelude.{◌≡◌, ℕ, ◌==◌, Bool, true, false, List, [], ◌∷◌, ◌++◌, map, count_by, is_some, Some, Ok}
use Rattle.sdb_shell.specs.Types.{Answer, Statement, Value}
use Rattle.sdb_model.specs.declared.answer.Answer.TheVariants as answer
use Rattle.sdb_model.specs.declared.statement.Statement.TheVariants as statement
use Rattle.sdb_model.specs.Sql.{statement_text_of}
use Rattle.sdb_model.specs.Transactions.{is_done}
use Rattle.sdb_client.specs.Client.{Parses}
use Rattle.law_clients.specs.Session.{Exchange, parts_of}
use Rattle.sdb_shell.specs.declared.load.Load.{Load}
use Rattle.sdb_shell.specs.Statements.{row_statement}

---- statements that are accepted

-- A statement was accepted, by the text that it is printed as.
abbrev pub IsOf : Statement → Exchange → Type 0
IsOf st e = Parses (statement_text_of st) e.says

-- A statement that is printed like this is parsed as itself.
abbrev pub IsParsedAsItself : Statement → Type 0
IsParsedAsItself st = (e : Exchange) → IsOf st e → e.says ≡ Ok st

-- These statements were accepted, in turn, and each was answered as it should be.
abbrev pub AreAnswered : (Statement → Answer → Bool) → List Statement → List Exchange → Type 0
AreAnswered good [] [] = Unit {0}
AreAnswered good (st ∷ sts) (e ∷ es) = IsOf st e × (good st e.answer ≡ true) × AreAnswered good sts es
AreAnswered good sts es = ⊥

-- A transaction is open after these statements.
abbrev pub is_open : List Exchange → Bool
is_open es = is_some (parts_of es).opened

-- ROLLBACK was accepted where a transaction was open, and else nothing.
abbrev pub IsRolledBackIf : Bool → List Exchange → Type 0
IsRolledBackIf true es = (e : Exchange) × (es ≡ e ∷ []) × IsOf statement.Rollback e
IsRolledBackIf false es = es ≡ []

---- a group

-- A group of rows: the statements that were accepted for it, how many rows were written, and the answer that ended it.
pub record Group : Type 0 where
  pub rows : List (List Value)
  pub exchanges : List Exchange
  pub written : ℕ
  pub answer : Answer

-- The answer of a row's statement after which the next is accepted: the row was written, or no row has its key, or one had it before.
abbrev pub is_loaded : Answer → Bool
is_loaded (answer.Count n) = true
is_loaded (answer.Duplicate key) = true
is_loaded a = false

-- one row was written
abbrev pub is_written : Answer → Bool
is_written (answer.Count n) = n == 1
is_written a = false

abbrev pub written_in : List Exchange → ℕ
written_in es = count_by (λ e. is_written e.answer) es

abbrev pub AreLoaded : List Statement → List Exchange → Type 0
AreLoaded = AreAnswered (λ st a. is_loaded a)

abbrev pub statements_of : Load → List (List Value) → List Statement
statements_of load rows = map (row_statement load) rows

-- BEGIN was answered otherwise than Done, which ends the group.
pub record IsNotBegun (before : List Exchange) (g : Group) : Type 0 where
  pub begin : Exchange
  pub undone : List Exchange
  pub exchanges : g.exchanges ≡ begin ∷ undone
  pub begins : IsOf statement.Begin begin
  pub other : is_done (Some begin.answer) ≡ false
  pub rolled_back : IsRolledBackIf (is_open (before ++ begin ∷ [])) undone
  pub written : g.written ≡ 0
  pub ends : g.answer ≡ begin.answer

-- A row's statement was answered neither Count nor Duplicate, which ends the group; those of the rows before it were.
pub record IsStopped (load : Load) (before : List Exchange) (g : Group) : Type 0 where
  pub begin : Exchange
  pub loaded : List Exchange
  pub last : Exchange
  pub undone : List Exchange
  pub front : List (List Value)
  pub row : List Value
  pub back : List (List Value)
  pub exchanges : g.exchanges ≡ begin ∷ (loaded ++ last ∷ undone)
  pub begins : IsOf statement.Begin begin
  pub begun : is_done (Some begin.answer) ≡ true
  pub rows : g.rows ≡ front ++ row ∷ back
  pub loads : AreLoaded (statements_of load front) loaded
  pub stops : IsOf (row_statement load row) last
  pub bad : is_loaded last.answer ≡ false
  pub rolled_back : IsRolledBackIf (is_open (before ++ begin ∷ (loaded ++ last ∷ []))) undone
  pub written : g.written ≡ written_in loaded
  pub ends : g.answer ≡ last.answer

-- The statement of each row was answered Count or Duplicate, and the answer of COMMIT ends the group.
pub record IsEnded (load : Load) (g : Group) : Type 0 where
  pub begin : Exchange
  pub loaded : List Exchange
  pub commit : Exchange
  pub exchanges : g.exchanges ≡ begin ∷ (loaded ++ commit ∷ [])
  pub begins : IsOf statement.Begin begin
  pub begun : is_done (Some begin.answer) ≡ true
  pub loads : AreLoaded (statements_of load g.rows) loaded
  pub commits : IsOf statement.Commit commit
  pub written : g.written ≡ written_in loaded
  pub ends : g.answer ≡ commit.answer

-- How a group of rows was loaded, after the statements before it.
pub data IsGroup (load : Load) (before : List Exchange) (g : Group) : Type 0 where
  NotBegun : (is : IsNotBegun before g) → IsGroup load before g
  Stopped : (is : IsStopped load before g) → IsGroup load before g
  Ended : (is : IsEnded load g) → IsGroup load before g

-- These groups were loaded one after the other, after the statements before them.
abbrev pub AreGroups : Load → List Exchange → List Group → Type 0
AreGroups load before [] = Unit {0}
AreGroups load before (g ∷ gs) = IsGroup load before g × AreGroups load (before ++ g.exchanges) gs
