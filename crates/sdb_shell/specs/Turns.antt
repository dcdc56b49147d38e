-- The statements of a call, between two of its points.
use Rattle.std.specs.Prelude.{◌≡◌, ℕ, ℤ, true, false, is_some, List, [], ◌∷◌, ◌++◌, Option, Some, None}
use Rattle.sdb_shell.specs.Types.{Answer, Statement, Table, Value}
use Rattle.sdb_stores.specs.Views.{Attached}
use Rattle.sdb_model.specs.declared.statement.Statement.TheVariants as statement
use Rattle.sdb_model.specs.Sql.{statement_text_of}
use Rattle.sdb_model.specs.Transactions.{is_done}
use Rattle.law_clients.specs.Session.{Exchange}
use Rattle.sdb_shell.specs.Sessions.{HasAnswered, IsSessionSoFar, SessionAt}
use Rattle.sdb_shell.specs.declared.group.Ending.{Ending}
use Rattle.sdb_shell.specs.declared.load.Load.{Load}
use Rattle.sdb_shell.specs.declared.loaded_rows.RowsTaken.{RowsTaken}
use Rattle.sdb_shell.specs.Ends.{Ends}
use Rattle.sdb_shell.specs.Groups.{AreLoaded, Group, IsGroup, IsOf, IsRolledBackIf, is_loaded, statements_of, written_in}
use Rattle.sdb_shell.specs.Statements.{row_statement}

-- A point of a call: its stores, what the clock and the ids have answered, and its session.
pub record Point (S : Type 0) : Type 0 where
  pub stores : S
  pub clock : Option (List ℤ)
  pub ids : Option (List ℕ)
  pub session : SessionAt

abbrev pub point : {S C I : Type 0} → (C → Option (List ℤ)) → (I → Option (List ℕ)) → S → C → I → SessionAt → Point S
point clock ids s c i session = record { stores = s; clock = clock c; ids = ids i; session = session }

-- two points of a call, one after the other
pub record Turn (S : Type 0) : Type 0 where
  pub from : Point S
  pub to : Point S

abbrev pub turn : {S C I : Type 0} → (C → Option (List ℤ)) → (I → Option (List ℕ)) → S → S → C → C → I → I → SessionAt → SessionAt → Turn S
turn clock ids s0 s1 c0 c1 i0 i1 b0 b1 = record { from = point clock ids s0 c0 i0 b0; to = point clock ids s1 c1 i1 b1 }

-- these statements were accepted since a first point
abbrev pub IsSoFar : {S : Type 0} → (S → Attached) → List Table → Point S → Point S → List Exchange → Type 0
IsSoFar state catalog first p es = IsSessionSoFar catalog (state first.stores) (state p.stores) first.clock p.clock first.ids p.ids es p.session

-- what a call begins with and ends with
abbrev pub ends_between : {S : Type 0} → (S → Attached) → Point S → Point S → Ends
ends_between state p q = record { old = state p.stores; new = state q.stores; clock = p.clock; clock_then = q.clock; ids = p.ids; ids_then = q.ids }

-- A statement was accepted and answered between two points.
abbrev pub IsExecuted : {S : Type 0} → (S → Attached) → List Table → Statement → Point S → Answer → Point S → Type 0
IsExecuted state catalog st p a q = HasAnswered catalog (statement_text_of st) (state p.stores) (state q.stores) p.clock q.clock p.ids q.ids p.session a q.session

-- These statements were accepted between two points: whatever was accepted before, so were they after it.
abbrev pub AreExecutedBetween : {S : Type 0} → (S → Attached) → List Table → Point S → Point S → List Exchange → Type 0
AreExecutedBetween state catalog p q es = (first : Point _) (before : List Exchange) → IsSoFar state catalog first p before → IsSoFar state catalog first q (before ++ es)

-- ROLLBACK was accepted between two points where a transaction was open, and else nothing.
pub record AreRolledBack {S : Type 0} (state : S → Attached) (catalog : List Table) (p q : Point S) : Type 0 where
  pub es : List Exchange
  pub are : IsRolledBackIf (is_some p.session.client.txn) es
  pub accepted : AreExecutedBetween state catalog p q es

---- the rows of a group

-- The statement of each row was accepted between two points, and was answered Count or Duplicate.
pub record AreAllExecuted {S : Type 0} (state : S → Attached) (catalog : List Table) (load : Load) (rows : List (List Value)) (p q : Point S) (written : ℕ) : Type 0 where
  pub es : List Exchange
  pub loads : AreLoaded (statements_of load rows) es
  pub counted : written ≡ written_in es
  pub accepted : AreExecutedBetween state catalog p q es

-- The statement of a row was answered otherwise, and those before it so; no more was accepted between two points.
pub record AreStopped {S : Type 0} (state : S → Attached) (catalog : List Table) (load : Load) (rows : List (List Value)) (p q : Point S) (written : ℕ) (a : Answer) : Type 0 where
  pub loaded : List Exchange
  pub last : Exchange
  pub front : List (List Value)
  pub row : List Value
  pub back : List (List Value)
  pub split : rows ≡ front ++ row ∷ back
  pub loads : AreLoaded (statements_of load front) loaded
  pub stops : IsOf (row_statement load row) last
  pub answer : last.answer ≡ a
  pub bad : is_loaded last.answer ≡ false
  pub counted : written ≡ written_in loaded
  pub accepted : AreExecutedBetween state catalog p q (loaded ++ last ∷ [])

abbrev pub AreExecutedBy : {S : Type 0} → (S → Attached) → List Table → Load → List (List Value) → Point S → Point S → ℕ → Option Answer → Type 0
AreExecutedBy state catalog load rows p q written None = AreAllExecuted state catalog load rows p q written
AreExecutedBy state catalog load rows p q written (Some a) = AreStopped state catalog load rows p q written a

abbrev pub HaveLoadedRows : {S : Type 0} → (S → Attached) → List Table → Load → List (List Value) → Point S → Point S → RowsTaken → Type 0
HaveLoadedRows state catalog load rows p q t = AreExecutedBy state catalog load rows p q t.written t.bad

---- the end of a group

-- After the rows of a group: COMMIT, or where an answer stopped them ROLLBACK.
abbrev pub EndBy : {S : Type 0} → (S → Attached) → List Table → ℕ → Option Answer → Point S → Point S → Ending → Type 0
EndBy state catalog written None p q ending = (ending.written ≡ written) × IsExecuted state catalog statement.Commit p ending.answer q
EndBy state catalog written (Some a) p q ending = (ending.written ≡ written) × (ending.answer ≡ a) × AreRolledBack state catalog p q

abbrev pub HaveEnded : {S : Type 0} → (S → Attached) → List Table → RowsTaken → Point S → Point S → Ending → Type 0
HaveEnded state catalog t p q ending = EndBy state catalog t.written t.bad p q ending

abbrev pub group_of : List (List Value) → Ending → List Exchange → Group
group_of rows ending es = record { rows = rows; exchanges = es; written = ending.written; answer = ending.answer }

-- A group of rows was loaded after these statements; of its own some were accepted before, and others since.
pub record IsLoadedAfter {S : Type 0} (state : S → Attached) (catalog : List Table) (load : Load) (rows : List (List Value)) (first : Point S) (before front : List Exchange) (q : Point S) (ending : Ending) : Type 0 where
  pub es : List Exchange
  pub is : IsGroup load before (group_of rows ending (front ++ es))
  pub so : IsSoFar state catalog first q (before ++ (front ++ es))

-- A group of rows that was begun was loaded between two points, whatever was accepted before.
abbrev pub HaveLoaded : {S : Type 0} → (S → Attached) → List Table → Load → List (List Value) → Point S → Point S → Ending → Type 0
HaveLoaded state catalog load rows p q ending =
    (first : Point _) (before : List Exchange) (begin : Exchange) → IsOf statement.Begin begin → is_done (Some begin.answer) ≡ true → IsSoFar state catalog first p (before ++ begin ∷ [])
    → IsLoadedAfter state catalog load rows first before (begin ∷ []) q ending

-- A group of rows was loaded between two points, whatever was accepted before.
abbrev pub HasLoaded : {S : Type 0} → (S → Attached) → List Table → Load → List (List Value) → Point S → Point S → Ending → Type 0
HasLoaded state catalog load rows p q ending = (first : Point _) (before : List Exchange) → IsSoFar state catalog first p before → IsLoadedAfter state catalog load rows first before [] q ending

---- in contracts

abbrev pub IsAnsweredIn : {S : Type 0} → (S → Attached) → List Table → Statement → Turn S → Answer → Type 0
IsAnsweredIn state catalog st t a = IsExecuted state catalog st t.from a t.to

abbrev pub IsRolledBackIn : {S : Type 0} → (S → Attached) → List Table → Turn S → Type 0
IsRolledBackIn state catalog t = AreRolledBack state catalog t.from t.to

abbrev pub AreRowsLoaded : {S : Type 0} → (S → Attached) → List Table → Load → List (List Value) → Turn S → RowsTaken → Type 0
AreRowsLoaded state catalog load rows t accepted = HaveLoadedRows state catalog load rows t.from t.to accepted

abbrev pub IsEndedIn : {S : Type 0} → (S → Attached) → List Table → RowsTaken → Turn S → Ending → Type 0
IsEndedIn state catalog accepted t ending = HaveEnded state catalog accepted t.from t.to ending

abbrev pub IsBegunLoaded : {S : Type 0} → (S → Attached) → List Table → Load → List (List Value) → Turn S → Ending → Type 0
IsBegunLoaded state catalog load rows t ending = HaveLoaded state catalog load rows t.from t.to ending

abbrev pub IsGroupLoaded : {S : Type 0} → (S → Attached) → List Table → Load → List (List Value) → Turn S → Ending → Type 0
IsGroupLoaded state catalog load rows t ending = HasLoaded state catalog load rows t.from t.to ending
