-- Which rows a transaction has, by what its statements so far observed, and by what they made of it, under the catalog with which it runs.
use Rattle.std.specs.Prelude.{◌≡◌, ℕ, true, false, List, [], ◌∷◌, ◌++◌, map, filter, fold, Option, Some, IfSome, Contains}
use Rattle.std.specs.List.{AllByRecursion}
use Rattle.law_answers.specs.Types.{Answer, Doing, Event, Image, Key, Pair, Select, Statement, Table, TxId, Value}
use Rattle.sdb_model.specs.declared.answer.Answer.TheVariants as answer
use Rattle.sdb_model.specs.declared.statement.Statement.TheVariants as statement
use Rattle.sdb_model.specs.Catalogs.{catalog_after}
use Rattle.sdb_model.specs.Causes.{before}
use Rattle.sdb_model.specs.Exec.{find_table, projected}
use Rattle.sdb_model.specs.Explained.{IsTableKey}
use Rattle.sdb_model.specs.ReadSet.{has_read}
use Rattle.sdb_model.specs.DirtyReads.{FoundBy, AnswersAreOf, StartsWith, row_left}
use Rattle.sdb_model.specs.Sql.{Reads, reads_vacuum}
use Rattle.sdb_model.specs.Serial.{AreRead}
use Rattle.sdb_model.specs.Transactions.{Executed, client_of, ends, from_begin, is_effective, rest_of, statements_by, statements_of}
use Rattle.sdb_snapshot.specs.Reads.{is_key_read}
use Rattle.sdb_snapshot.specs.Seen.{Seen, row_seen}
use Rattle.sdb_txn.specs.declared.txn.Doing.TheVariants as doing
use Rattle.sdb_txn.specs.Txn.{TxnAt}
use Rattle.sdb_client.specs.Client.{ClientAt}
use Rattle.law_answers.specs.Unfit.{fits_if_any}

---- the row of a key

-- A statement that is no VACUUM has finished its read, and its calls showed a row at a key of a table of the catalog.
pub record FoundFor (catalog : List Table) (events : List Event) (c : ℕ) (s : Executed) (key : Key) (row : Option (List Pair)) : Type 0 where
  pub answered : has_read events c s ≡ true
  pub no_vacuum : reads_vacuum s.text ≡ false
  pub table : IsTableKey catalog key
  pub found : FoundBy events c s key row

-- A statement of the client found such a row.
abbrev pub WasRead : List Table → List Event → ℕ → Executed → Key → Option (List Pair) → Type 0
WasRead catalog events c s key row = Contains (statements_by c events) s × FoundFor catalog events c s key row

-- A transaction has a row at a key when it takes a statement after those of a body: one of these, or that statement, observed a row
-- there, and the effective ones from there on made this of it.
pub record HasBefore (catalog : List Table) (events : List Event) (c : ℕ) (body : List Executed) (s : Executed) (key : Key) (row : Option (List Pair)) : Type 0 where
  pub first : Executed
  pub earlier : List Executed
  pub changing : List Executed
  pub sts : List Statement
  pub base : Option (List Pair)
  pub parts : body ≡ earlier ++ changing
  pub begins : StartsWith first (changing ++ s ∷ [])
  pub observed : FoundFor catalog events c first key base
  pub read : AreRead (filter is_effective changing) sts
  pub made : row ≡ fold (λ r st. row_left catalog st key r) base sts

-- And so it has it after them, where one of them observed it.
pub record HasAfter (catalog : List Table) (events : List Event) (c : ℕ) (body : List Executed) (key : Key) (row : Option (List Pair)) : Type 0 where
  pub first : Executed
  pub earlier : List Executed
  pub changing : List Executed
  pub sts : List Statement
  pub base : Option (List Pair)
  pub parts : body ≡ earlier ++ changing
  pub begins : StartsWith first changing
  pub observed : FoundFor catalog events c first key base
  pub read : AreRead (filter is_effective changing) sts
  pub made : row ≡ fold (λ r st. row_left catalog st key r) base sts

---- what a statement is answered

-- Rows that a SELECT after a body is answered are rows that its transaction has.
abbrev pub GivesRows : List Table → List Event → ℕ → List Executed → Executed → List (List Value) → Type 0
GivesRows catalog events c body s rows =
    (t : Table) × (select : Select) × (images : List Image) × Reads s.text (statement.Select select) × (find_table catalog select.table ≡ Some t) × (rows ≡ map (projected t select.columns) images)
    × AllByRecursion (λ image. HasBefore catalog events c body s image.key (Some image.columns)) images

-- the key of a Duplicate has a row
abbrev pub GivesKey : List Table → List Event → ℕ → List Executed → Executed → Key → Type 0
GivesKey catalog events c body s key = (columns : List Pair) × HasBefore catalog events c body s key (Some columns)

abbrev pub GivesOwn : List Table → List Event → ℕ → List Executed → Executed → Answer → Type 0
GivesOwn catalog events c body s (answer.Rows rows) = GivesRows catalog events c body s rows
GivesOwn catalog events c body s (answer.Duplicate key) = GivesKey catalog events c body s key
GivesOwn catalog events c body s a = Unit {0}

-- This holds of each statement of each transaction, up to the one that ended it.
abbrev pub AllGiveOwn : List Table → List Event → ℕ → List Executed → Type 0
AllGiveOwn catalog events c answered = (n : ℕ) (begin : Executed) (body : List Executed) (s : Executed) (tail : List Executed) (a : Answer) → from_begin n answered ≡ begin ∷ (body ++ s ∷ tail) → AllByRecursion (λ x. ends x ≡ false) body → s.answer ≡ Some a → GivesOwn (catalog_after catalog (before s events)) events c body s a

---- an open transaction

-- At each key that was read a transaction sees the row that it has, unless that doesn't fit its table.
abbrev pub SeesOwn : List Table → List Event → ℕ → List Executed → Seen → Type 0
SeesOwn catalog events c body s = (key : Key) → is_key_read s.read_set key ≡ true → fits_if_any catalog key (row_seen s.read_set s.writes key) ≡ true → HasAfter catalog events c body key (row_seen s.read_set s.writes key)

-- This holds of a transaction whose COMMIT is not accepted yet.
abbrev pub SeesOwnIn : List Table → List Event → ℕ → List Executed → Seen → Doing → Type 0
SeesOwnIn catalog events c body s (doing.Commit k) = Unit {0}
SeesOwnIn catalog events c body s d = SeesOwn catalog events c body s

abbrev pub IsViewOf : List Table → List Event → ℕ → List Executed → TxnAt → Type 0
IsViewOf catalog events c body t = SeesOwnIn catalog events c body t.seen t.doing

-- What a client's statements were answered, and what its open transaction sees, which runs under that catalog.
pub record ViewBy (catalog under : List Table) (events : List Event) (c : ℕ) (answered : List Executed) (h : ClientAt) : Type 0 where
  pub given_own : AllGiveOwn catalog events c answered
  pub sees_own : IfSome h.txn (IsViewOf under events c (rest_of (from_begin h.begun answered)))

---- what follows of the events

-- each answer of a client shows rows that its transaction has, by what calls showed to statements whose reads have finished
abbrev pub ClientHasOwnRows : List Table → List Event → ℕ → Type 0
ClientHasOwnRows catalog events c = (id : TxId) (s : Executed) (a : Answer) → client_of id ≡ c → Contains (statements_of events id) s → s.answer ≡ Some a → AnswersAreOf catalog (WasRead catalog events c) events id s a

abbrev pub RowsAreOwn : List Table → List Event → Type 0
RowsAreOwn catalog events = (c : ℕ) → ClientHasOwnRows catalog events c
