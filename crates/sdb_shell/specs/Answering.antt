-- A statement of a client, from its text to its answer, over any stores; and where the client is alone over known contents.
use Rattle.std.specs.Prelude.{◌≡◌, ℕ, ℤ, Bool, true, is_some, List, Option, Some, None, Result, Ok}
use Rattle.sdb_shell.specs.Types.{Answer, Refusal, Reply, Request, Statement, Table, TxId}
use Rattle.sdb_types.specs.Contents.{CanAnswer}
use Rattle.sdb_record.specs.Meta.{is_moment}
use Rattle.sdb_model.specs.Events.{table_asked}
use Rattle.sdb_stores.specs.Views.{Attached, HaveCause, HaveRisen}
use Rattle.sdb_contents.specs.Board.{AreUsable, AreUsableFor, IsCalled, contents_of_views}
use Rattle.sdb_client.specs.Client.{ClientAt, ReplyPost, Parses, client_pending}
use Rattle.law_clients.specs.About.{IsOfTables}
use Rattle.law_clients.specs.Database.{Database, database_of}
use Rattle.law_clients.specs.Between.{Between, OpenTransaction, StatementEnds, Waits}
use Rattle.law_clients.specs.Chain.{Exchanged}
use Rattle.law_clients.specs.Clients.{IsUnused}
use Rattle.law_clients.specs.Session.{Exchange, is_of_fault, rejected}
use Rattle.law_clients.specs.Faults.{IsAfterFault}
use Rattle.law_clients.specs.SessionTurns.{IsWellFormed}
use Rattle.law_clients.specs.Working.{IsAtWork, IsEnded}

-- the record at each key of the tables of stores
abbrev pub database_in : Attached → Database
database_in stores = database_of stores.places (contents_of_views stores.views)

-- a statement with its answer
abbrev pub exchange : Result Statement Refusal → ℤ → TxId → Answer → Exchange
exchange says now fresh a = record { says = says; moment = now; id = fresh; answer = a }

-- A client's pending call was made on the store of its table, and the client took the reply.
pub record HasCalled (now : ℤ) (old : Attached) (c : ClientAt) (result : Option Answer) (new : Attached) (d : ClientAt) : Type 0 where
  pub request : Request
  pub reply : Reply
  pub pending : client_pending c ≡ Some request
  pub can : CanAnswer request reply
  pub called : AreUsableFor (table_asked request) old → IsCalled request reply old new
  pub cause : HaveCause reply old.views new.views
  pub took : ReplyPost c c.vacuum reply now result d

-- A client is at work on a statement that wasn't turned away.
pub record IsWorking (c : ClientAt) : Type 0 where
  pub catalog : List Table
  pub statement : Statement
  pub opened : Bool
  pub stays : rejected catalog opened (Ok statement) ≡ None
  pub works : IsAtWork statement opened c

-- A statement of a client that is alone waits for a reply, over fit stores.
pub record WaitsOver (now : ℤ) (stores : Attached) (c : ClientAt) : Type 0 where
  pub catalog : List Table
  pub fit : AreUsable catalog stores
  pub about : IsOfTables catalog c
  pub was : Database
  pub well_formed : IsWellFormed catalog was
  pub time : is_moment now ≡ true
  pub fresh : TxId
  pub statement : Statement
  pub opened : Option OpenTransaction
  pub waits : Waits catalog was now statement (database_in stores) opened c

-- The calls of a client were made until its statement was answered: it has ended so, whatever the stores answered, Faulted and Unknown come
-- only where a count of faults rose, and it has ended as the statement of a client that is alone where it was one.
pub record AreMade (now : ℤ) (old : Attached) (c : ClientAt) (a : Answer) (new : Attached) (d : ClientAt) : Type 0 where
  pub ended : (w : IsWorking c) (moment : ℤ) (id : TxId) → IsEnded w.catalog w.opened (exchange (Ok w.statement) moment id a) d
  pub about : (catalog : List Table) → IsOfTables catalog c → IsOfTables catalog d
  pub fault : IsWorking c → (IsAfterFault c → ⊥) → is_of_fault a ≡ true → HaveRisen old.views new.views
  pub alone : (w : WaitsOver now old c) → StatementEnds w.catalog w.was w.fresh now (Ok w.statement) (database_in new) w.opened a d

-- A client that is alone is between two statements, over fit stores whose contents are sound, and the id at hand is new.
pub record IsAlone (catalog : List Table) (fresh : TxId) (now : ℤ) (stores : Attached) (c : ClientAt) : Type 0 where
  pub fit : AreUsable catalog stores
  pub about : IsOfTables catalog c
  pub well_formed : IsWellFormed catalog (database_in stores)
  pub time : is_moment now ≡ true
  pub opened : Option OpenTransaction
  pub between : Between catalog (database_in stores) opened c
  pub new : IsUnused catalog (database_in stores) fresh

-- A text was accepted and answered: it has ended as its answer says, whatever the stores answered, Faulted and Unknown come only where a count
-- of faults rose, and it has ended as the statement of a client that is alone where it was one.
pub record IsAnswered (catalog : List Table) (text : List ℕ) (fresh : TxId) (now : ℤ) (old : Attached) (c : ClientAt) (a : Answer) (new : Attached) (d : ClientAt) : Type 0 where
  pub says : Result Statement Refusal
  pub reads : Parses text says
  pub ended : IsEnded catalog (is_some c.txn) (exchange says now fresh a) d
  pub about : IsOfTables catalog c → IsOfTables catalog d
  pub fault : is_of_fault a ≡ true → HaveRisen old.views new.views
  pub alone : (w : IsAlone catalog fresh now old c) → Exchanged catalog (database_in old) w.opened (exchange says now fresh a) (database_in new) d
