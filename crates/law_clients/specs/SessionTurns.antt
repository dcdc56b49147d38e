-- What the laws of a client that is alone speak of: a statement that it takes, and a reply to its call.
use Rattle.std.specs.Prelude.{◌≡◌, ℕ, ℤ, true, false, List, [], ◌∷◌, ◌++◌, Option, Some, Result}
use Rattle.law_clients.specs.Types.{Answer, How, Meta, Place, Record, RecoverPhase, Refusal, Reply, Request, Statement, Table, TxId}
use Rattle.sdb_record.specs.Meta.{is_moment}
use Rattle.sdb_schema.specs.Catalog.{is_catalog}
use Rattle.sdb_model.specs.declared.answer.Answer.TheVariants as answer
use Rattle.sdb_model.specs.Events.{IsCall, StoreContents}
use Rattle.sdb_model.specs.Exec.{Tables}
use Rattle.sdb_model.specs.Rows.{Name}
use Rattle.sdb_client.specs.Client.{ClientAt, ReplyPost, ParsedPost, Parses, Taking, client_pending}
use Rattle.law_clients.specs.Fitting.{tables_are_well_typed}
use Rattle.law_clients.specs.Database.{AreOwn, Called, Database}
use Rattle.law_clients.specs.OnlyResolves.{IsApart, IsSound}
use Rattle.law_clients.specs.Seen.{AreImagesOf}
use Rattle.law_clients.specs.Clients.{IsUnused}
use Rattle.law_clients.specs.Recovers.{RecoverAlone}
use Rattle.law_clients.specs.Commits.{CommitAlone}
use Rattle.law_clients.specs.Session.{AreNewIds, Exchange, IsSerialSession, begun_ids, is_vacuum, no_parts}
use Rattle.law_clients.specs.Chain.{Chain, Exchanged, open_after}
use Rattle.sdb_phases.specs.Work.{Work}
use Rattle.sdb_phases.specs.Commit.{Stage, pending}
use Rattle.sdb_phases.specs.Recover.{recover_request_at}
use Rattle.law_clients.specs.Between.{Between, OpenTransaction, Waits}

-- The database where a statement is accepted: it is sound, and has plain tables that fit.
pub record IsWellFormed (catalog : List Table) (g : Database) : Type 0 where
  pub apart : IsApart catalog
  pub is : is_catalog catalog ≡ true
  pub sound : IsSound catalog g
  pub tables : Tables
  pub are_images : AreImagesOf catalog g tables
  pub fit : tables_are_well_typed catalog tables ≡ true

-- The reply to the pending call of a recovery.
pub record RecoveryReplied : Type 0 where
  pub catalog : List Table
  pub apart : IsApart catalog
  pub g : Database
  pub h : Database
  pub sound : IsSound catalog g
  pub found : Record
  pub meta : Meta
  pub now : ℤ
  pub time : is_moment now ≡ true
  pub phase : RecoverPhase
  pub alone : RecoverAlone catalog g found meta phase
  pub request : Request
  pub asked : recover_request_at found meta phase ≡ Some request
  pub reply : Reply
  pub called : Called request reply g h

-- The reply to the pending call of a COMMIT.
pub record CommitReplied : Type 0 where
  pub catalog : List Table
  pub apart : IsApart catalog
  pub start : Database
  pub sound : IsSound catalog start
  pub work : Work
  pub stage : Stage
  pub g : Database
  pub h : Database
  pub alone : CommitAlone catalog start work g stage
  pub request : Request
  pub asked : pending work stage ≡ Some request
  pub reply : Reply
  pub called : Called request reply g h

-- A client between two statements takes a text; no other client is there, and the id of a transaction that it may begin is new.
pub record ExecutedAlone : Type 0 where
  pub taking : Taking
  pub g : Database
  pub well_formed : IsWellFormed taking.catalog g
  pub vacuums : taking.gate.vacuum_runs ≡ false
  pub opens : taking.gate.open_elsewhere ≡ false
  pub time : is_moment taking.now ≡ true
  pub opened : Option OpenTransaction
  pub before : ClientAt
  pub between : Between taking.catalog g opened before
  pub new : IsUnused taking.catalog g taking.fresh
  pub text : List ℕ
  pub says : Result Statement Refusal
  pub reads : Parses text says
  pub result : Option Answer
  pub after : ClientAt
  pub took : ParsedPost taking says before result after

-- A client that waits gets the reply to its call.
pub record RepliedAlone : Type 0 where
  pub catalog : List Table
  pub was : Database
  pub well_formed : IsWellFormed catalog was
  pub fresh : TxId
  pub now : ℤ
  pub time : is_moment now ≡ true
  pub statement : Statement
  pub g : Database
  pub h : Database
  pub own : AreOwn g
  pub own_then : AreOwn h
  pub request : Request
  pub reply : Reply
  pub called : Called request reply g h
  pub opened : Option OpenTransaction
  pub before : ClientAt
  pub asked : client_pending before ≡ Some request
  pub waits : Waits catalog was now statement g opened before
  pub result : Option Answer
  pub after : ClientAt
  pub took : ReplyPost before before.vacuum reply now result after

-- Statements of a client that is alone, over a sound database with plain tables that fit: they were answered one after the other, and the
-- ids of the transactions that they began are new.
pub record SessionAlone : Type 0 where
  pub catalog : List Table
  pub apart : IsApart catalog
  pub opening : Database
  pub sound : IsSound catalog opening
  pub before : Tables
  pub are_images : AreImagesOf catalog opening before
  pub fit : tables_are_well_typed catalog before ≡ true
  pub exchanges : List Exchange
  pub last : Database
  pub new : AreNewIds catalog opening (begun_ids exchanges)
  pub chain : Chain catalog opening no_parts exchanges last

-- A session of one VACUUM.
pub record VacuumSession : Type 0 where
  pub catalog : List Table
  pub opening : Database
  pub last : Database
  pub before : Tables
  pub vacuum : Exchange
  pub is : is_vacuum vacuum.says ≡ true
  pub serial : IsSerialSession catalog opening last before (vacuum ∷ [])

-- A call on stores with these places, as an event has it.
pub record StoresCalled : Type 0 where
  pub places : List Place
  pub store : Name
  pub request : Request
  pub how : How
  pub reply : Reply
  pub old : List StoreContents
  pub new : List StoreContents
  pub is : IsCall places store request how reply old new

-- A client between two statements takes a text and is out of memory.
pub record ExecutedOutOfMemory : Type 0 where
  pub catalog : List Table
  pub g : Database
  pub opened : Option OpenTransaction
  pub before : ClientAt
  pub between : Between catalog g opened before
  pub text : List ℕ
  pub exchange : Exchange
  pub reads : Parses text exchange.says
  pub memory : exchange.answer ≡ answer.NoMemory

-- One statement was answered after others.
pub record ExchangedNext : Type 0 where
  pub catalog : List Table
  pub g : Database
  pub h : Database
  pub exchanges : List Exchange
  pub exchange : Exchange
  pub after : ClientAt
  pub exchanged : Exchanged catalog g (open_after exchanges) exchange h after

abbrev pub with_next : ExchangedNext → List Exchange
with_next n = n.exchanges ++ n.exchange ∷ []

-- And those were answered one after the other.
pub record ChainMore : Type 0 where
  pub next : ExchangedNext
  pub start : Database
  pub chain : Chain next.catalog start no_parts next.exchanges next.g
  pub own : AreOwn next.h
