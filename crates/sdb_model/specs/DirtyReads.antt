-- Which rows a client may observe: a row is its transaction's own, or it was committed while the statement that read it was
-- answered.
use Rattle.std.specs.Prelude.{◌≡◌, ◌≤◌, ◌<◌, ℕ, true, List, [], ◌∷◌, ◌++◌, map, filter, fold, Option, Some, None, IfSome, Contains, false}
use Rattle.std.specs.Option.{option_and_then}
use Rattle.std.specs.List.{AllByRecursion}
use Rattle.std.specs.FinMap.{get, insert, empty}
use Rattle.sdb_model.specs.Types.{Decided, Image, Key, Pair, Place, Record, Request, Table, TxId, Value}
use Rattle.sdb_types.specs.declared.record.State.TheVariants as state
use Rattle.sdb_types.specs.declared.record.Request.TheVariants as ask
use Rattle.sdb_types.specs.Contents.{in_span}
use Rattle.sdb_record.specs.Meta.{id_in, is_in}
use Rattle.sdb_record.specs.Rolls.{image_under, row_of_image}
use Rattle.sdb_model.specs.declared.answer.Answer.{Answer}
use Rattle.sdb_model.specs.declared.answer.Answer.TheVariants as answer
use Rattle.sdb_model.specs.declared.event.Event.{Event}
use Rattle.sdb_model.specs.declared.statement.Select.{Select}
use Rattle.sdb_model.specs.declared.statement.Statement.{Statement}
use Rattle.sdb_model.specs.declared.statement.Statement.TheVariants as statement
use Rattle.sdb_model.specs.Sql.{Reads}
use Rattle.sdb_model.specs.Exec.{Tables, exec, find_table, projected}
use Rattle.sdb_model.specs.Catalogs.{catalog_after}
use Rattle.sdb_model.specs.Causes.{before}
use Rattle.sdb_model.specs.Events.{StoreContents, moment}
use Rattle.sdb_model.specs.Explained.{Observes}
use Rattle.sdb_model.specs.Images.{row_at}
use Rattle.sdb_model.specs.ReadSet.{meaning_of, has_read}
use Rattle.sdb_model.specs.Transactions.{Executed, client_of, is_effective, statements_of}
use Rattle.sdb_model.specs.Serial.{AreRead}
use Rattle.sdb_model.specs.Calls.{StoreCall, calls_of, decision_observed, end_of}

---- what the stores contained, and what calls observed

-- a call reads a key: it asks for it, or scans a span over it
abbrev pub ReadsKey : Key → Request → Type 0
ReadsKey key (ask.Get k) = k ≡ key
ReadsKey key (ask.Scan span) = in_span span key ≡ true
ReadsKey key (ask.PutIf rec condition) = ⊥
ReadsKey key (ask.DeleteIf k condition) = ⊥
ReadsKey key (ask.PutAll b) = ⊥

-- A statement read a key, and the row is that of its committed image at a moment between the statement's Take and its answer.
pub record WasCommitted (places : List Place) (events : List Event) (opening : List StoreContents) (moments : List (List StoreContents)) (client : ℕ) (s : Executed) (key : Key) (row : Option (List Pair)) : Type 0 where
  pub call : StoreCall
  pub at : ℕ
  pub read : Contains (calls_of events client s) call × ReadsKey key call.request
  pub within : (s.accepted ≤ at) × (at < end_of events s)
  pub image : row_at places (moment opening moments at) key ≡ row

-- What a record that isn't committed means to a statement is what the decision on its transaction makes of it, which a call of the statement
-- showed.
pub record IsMeantBy (calls : List StoreCall) (r : Record) : Type 0 where
  pub id : TxId
  pub decided : Decided
  pub look : StoreCall
  pub writer : id_in r.columns ≡ Some id
  pub looks : Contains calls look × (decision_observed id look ≡ Some decided)
  pub means : meaning_of calls r ≡ image_under r (Some decided)

-- A statement's calls showed a row at a key: one of them read the key, and what it found there means this row.
pub record WasFound (calls : List StoreCall) (key : Key) (row : Option (List Pair)) : Type 0 where
  pub call : StoreCall
  pub found : Option Record
  pub among : Contains calls call
  pub shows : Observes call.request call.reply key found
  pub agrees : row ≡ option_and_then row_of_image (option_and_then (meaning_of calls) found)
  pub meant : IfSome found (λ r. is_in state.Committed r.columns ≡ false → IsMeantBy calls r)

-- the calls of a statement did
abbrev pub FoundBy : List Event → ℕ → Executed → Key → Option (List Pair) → Type 0
FoundBy events client s key row = WasFound (calls_of events client s) key row

-- a statement read the committed row
abbrev pub CommittedBy : List Place → List Event → List StoreContents → List (List StoreContents) → ℕ → Executed → Key → Option (List Pair) → Type 0
CommittedBy places events opening moments client s key row = WasCommitted places events opening moments client s key row

---- what a transaction made of it

-- tables with one row at most
abbrev pub one_row : Key → Option (List Pair) → Tables
one_row key None = empty
one_row key (Some columns) = insert empty key columns

-- what a statement makes of the row at a key
abbrev pub row_left : List Table → Statement → Key → Option (List Pair) → Option (List Pair)
row_left catalog st key row = get (exec catalog st (one_row key row)).1 key

abbrev pub StartsWith : Executed → List Executed → Type 0
StartsWith s [] = ⊥
StartsWith s (x ∷ xs) = s ≡ x

-- A transaction has a row at a key when it takes a statement: a statement of it, this one or one before, whose read has finished, observed
-- a row there, in the given way, and the effective statements from that one on made this of it.
pub record HasRow (catalog : List Table) (was : Executed → Key → Option (List Pair) → Type 0) (events : List Event) (id : TxId) (s : Executed) (key : Key) (row : Option (List Pair)) : Type 0 where
  pub first : Executed
  pub earlier : List Executed
  pub changing : List Executed
  pub later : List Executed
  pub sts : List Statement
  pub base : Option (List Pair)
  pub parts : statements_of events id ≡ earlier ++ changing ++ s ∷ later
  pub begins : StartsWith first (changing ++ s ∷ [])
  pub finished : has_read events (client_of id) first ≡ true
  pub observed : was first key base
  pub read : AreRead (filter is_effective changing) sts
  pub made : row ≡ fold (λ r st. row_left (catalog_after catalog (before s events)) st key r) base sts

---- the rows of answers

-- Rows that a SELECT is answered are rows that its transaction has.
abbrev pub RowsAreOf : List Table → (Executed → Key → Option (List Pair) → Type 0) → List Event → TxId → Executed → List (List Value) → Type 0
RowsAreOf catalog was events id s rows =
    (t : Table) × (select : Select) × (images : List Image) × Reads s.text (statement.Select select) × (find_table (catalog_after catalog (before s events)) select.table ≡ Some t) × (rows ≡ map (projected t select.columns) images)
    × AllByRecursion (λ image. HasRow catalog was events id s image.key (Some image.columns)) images

-- The key of a Duplicate has a row.
abbrev pub KeyHasRow : List Table → (Executed → Key → Option (List Pair) → Type 0) → List Event → TxId → Executed → Key → Type 0
KeyHasRow catalog was events id s key = (columns : List Pair) × HasRow catalog was events id s key (Some columns)

abbrev pub AnswersAreOf : List Table → (Executed → Key → Option (List Pair) → Type 0) → List Event → TxId → Executed → Answer → Type 0
AnswersAreOf catalog was events id s (answer.Rows rows) = RowsAreOf catalog was events id s rows
AnswersAreOf catalog was events id s (answer.Duplicate key) = KeyHasRow catalog was events id s key
AnswersAreOf catalog was events id s a = Unit {0}

-- The rows in answers are rows that their transactions have, where each read observed rows in that way.
abbrev pub AnswersHaveRows : List Table → (ℕ → Executed → Key → Option (List Pair) → Type 0) → List Event → Type 0
AnswersHaveRows catalog was events = (id : TxId) (s : Executed) (a : Answer) → Contains (statements_of events id) s → s.answer ≡ Some a → AnswersAreOf catalog (was (client_of id)) events id s a

-- No transaction, recorded or not, observed a row that was neither its own nor committed when it was read.
abbrev pub NoDirtyReads : List Table → List Place → List Event → List StoreContents → List (List StoreContents) → Type 0
NoDirtyReads catalog places events opening moments = AnswersHaveRows catalog (CommittedBy places events opening moments) events
