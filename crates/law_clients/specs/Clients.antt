-- What holds of a client that is alone, between two of its statements and while one of them waits for a reply.
use Rattle.std.specs.Prelude.{◌≡◌, ◌<◌, ◌^◌, ℤ, true, false, List, [], ◌∷◌, ◌++◌, Some, None, map, Bool}
use Rattle.law_clients.specs.Types.{Access, Answer, Key, Next, Record, Statement, Table, TxId}
use Rattle.sdb_types.specs.declared.record.State.TheVariants as state
use Rattle.sdb_record.specs.Meta.{id_in, is_in}
use Rattle.sdb_schema.specs.Catalog.{is_catalog}
use Rattle.sdb_model.specs.Access.{in_access}
use Rattle.sdb_model.specs.Causes.{refused}
use Rattle.sdb_model.specs.Exec.{Tables, named_table}
use Rattle.sdb_model.specs.Serial.{run_body}
use Rattle.sdb_model.specs.Refused.{refusal_of}
use Rattle.sdb_model.specs.Transactions.{changes_nothing, is_answered_from_rows}
use Rattle.sdb_model.specs.declared.answer.Answer.TheVariants as answer
use Rattle.sdb_exec.specs.Plans.{Planned, has_all_literals}
use Rattle.sdb_model.specs.Reads.{access_of}
use Rattle.sdb_txn.specs.Read.{ReadAt}
use Rattle.sdb_txn.specs.declared.txn.Doing.TheVariants as doing
use Rattle.sdb_txn.specs.Txn.{TxnAt}
use Rattle.sdb_client.specs.declared.next.Next.TheVariants as next
use Rattle.law_protocol.specs.Lawful.{Labelled}
use Rattle.sdb_snapshot.specs.Seen.{Seen}
use Rattle.law_clients.specs.Body.{BodyOk}
use Rattle.law_clients.specs.Fitting.{tables_are_well_typed}
use Rattle.law_clients.specs.Database.{Database, is_listed}
use Rattle.law_clients.specs.Recovers.{IsUndecided}
use Rattle.law_clients.specs.SessionReads.{IsOfTables, ReadAlone, IsBusyRecord}
use Rattle.law_clients.specs.Keys.{is_too_many, keys_of_body, passes_most}
use Rattle.law_clients.specs.Seen.{SeenAlone, AreImagesOf}

-- No row decides on a transaction of an id, and no unresolved record is its.
pub record IsUnused (catalog : List Table) (g : Database) (id : TxId) : Type 0 where
  pub fits : id.0 < 2 ^ 128
  pub undecided : IsUndecided g id
  pub unused : (k : Key) (r : Record) → is_listed catalog k ≡ true → g k ≡ Some r → is_in state.Committed r.columns ≡ false → id_in r.columns ≡ Some id → ⊥

-- An open transaction between two of its statements: what it has read is current, and what it wrote is what the statements of its body come
-- to, with their answers.
pub record OpenAlone (catalog : List Table) (g : Database) (statements : List Statement) (answers : List Answer) (id : TxId) (s : Seen) : Type 0 where
  pub past : List Labelled
  pub seen : SeenAlone catalog past g s
  pub body : BodyOk catalog (tables_are_well_typed catalog) statements answers s
  pub keys : (d : Tables) → AreImagesOf catalog g d → tables_are_well_typed catalog d ≡ true → keys_of_body catalog statements d [] ≡ map (λ w. w.key) s.writes
  pub new : IsUnused catalog g id

-- Why a statement on a table was answered as one that changed nothing: it met an unresolved record that may still be decided, its writes
-- are too many, a call faulted, or memory ran out.
abbrev pub IdleAlone : Database → Access → ℤ → Answer → Type 0
IdleAlone g a now (answer.Busy key id at) = (in_access a key ≡ true) × IsBusyRecord g now key id at
IdleAlone g a now (answer.Refused r) = answer.Refused r ≡ refused 15
IdleAlone g a now answer.Faulted = Unit {0}
IdleAlone g a now answer.NoMemory = Unit {0}
IdleAlone g a now z = ⊥

-- On plain tables that are the images, a statement after others would make the writes of a transaction too many; or not.
abbrev pub Passes : List Table → Database → List Statement → Statement → Bool → Type 0
Passes catalog g statements st b = (d : Tables) → AreImagesOf catalog g d → tables_are_well_typed catalog d ≡ true → passes_most catalog st (run_body catalog statements d).1 (keys_of_body catalog statements d []) ≡ b

-- What a statement was answered, and where that leaves its transaction: as it was, or with the statement in its body.
pub data AnsweredAlone (catalog : List Table) (g : Database) (statements : List Statement) (answers : List Answer) (st : Statement) (a : Access) (now : ℤ) (id : TxId) (z : Answer) (s : Seen) : Type 0 where
  Kept : (nothing : changes_nothing z ≡ true) (why : IdleAlone g a now z) (many : is_too_many z ≡ true → Passes catalog g statements st true) (opened : OpenAlone catalog g statements answers id s) → AnsweredAlone catalog g statements answers st a now id z s
  Added : (rows : is_answered_from_rows z ≡ true) (few : Passes catalog g statements st false) (opened : OpenAlone catalog g (statements ++ st ∷ []) (answers ++ z ∷ []) id s) → AnsweredAlone catalog g statements answers st a now id z s

-- Where the reply to a read leads: to another call, or its statement is answered; it never ends the transaction.
abbrev pub LedAlone : List Table → Database → List Statement → List Answer → Planned → Access → ℤ → ReadAt → TxId → Next → TxnAt → Type 0
LedAlone catalog g statements answers p a now x id next.Call u = OpenAlone catalog g statements answers id u.seen × (u.id ≡ id) × (y : ReadAt) × (u.doing ≡ doing.Read a y) × (y.request ≡ x.request) × ReadAlone catalog g a now y.stage
LedAlone catalog g statements answers p a now x id (next.Answer z) u = (u.doing ≡ doing.Idle) × (u.id ≡ id) × AnsweredAlone catalog g statements answers p.statement a now id z u.seen
LedAlone catalog g statements answers p a now x id (next.End z) u = ⊥

-- a statement on a table that the catalog doesn't refuse, and where it reads
pub record IsAskedFor (catalog : List Table) (p : Planned) (a : Access) : Type 0 where
  pub is : is_catalog catalog ≡ true
  pub named : named_table catalog p.statement ≡ Some p.table
  pub asked : p.asked ≡ true
  pub accepted : refusal_of catalog p.statement ≡ None
  pub literals : has_all_literals p.statement ≡ true
  pub access : a ≡ access_of p.table p.statement
  pub tables : IsOfTables catalog a
