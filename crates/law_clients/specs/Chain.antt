-- Statements of a client that is alone, one after the other.
use Rattle.law_clients.specs.Clients.{IsUnused}
use Rattle.law_clients.specs.Seen.{AreImagesOf}
use Rattle.law_clients.specs.OnlyResolves.{IsSound}
use Rattle.law_clients.specs.Fitting.{tables_are_well_typed}
use Rattle.sdb_model.specs.Exec.{Tables}
use Rattle.law_clients.specs.Types.{Table, TxId}
use Rattle.std.specs.List.{AllByRecursion}
use Rattle.std.specs.Prelude.{◌≡◌, true, false, List, [], ◌∷◌, Option, Some, None, ◌≢◌}
use Rattle.sdb_model.specs.declared.answer.Answer.TheVariants as answer
use Rattle.sdb_client.specs.Client.{ClientAt}
use Rattle.law_clients.specs.Database.{AreOwn, Database}
use Rattle.law_clients.specs.Between.{Between, StatementEnds, OpenTransaction}
use Rattle.law_clients.specs.Session.{Exchange, Part, Parts, answers_in, is_commit, parts_after, statements_in, begun_ids, parts_of, tables_after}

-- an open transaction of a session: its id, statements and answers
abbrev pub transaction_of : Part → OpenTransaction
transaction_of t = record { id = t.id; statements = statements_in t.inside; answers = answers_in t.inside }

abbrev pub open_of : Option Part → Option OpenTransaction
open_of None = None
open_of (Some t) = Some (transaction_of t)

-- the transaction that is open after these statements of a session
abbrev pub open_after : List Exchange → Option OpenTransaction
open_after es = open_of (parts_of es).opened

-- A statement was answered; or memory ran out as it was accepted: then a COMMIT ended its transaction, and all else is as before.
pub data Exchanged (catalog : List Table) (g : Database) (o : Option OpenTransaction) (e : Exchange) (h : Database) (c : ClientAt) : Type 0 where
  Answers : (ends : StatementEnds catalog g e.id e.moment e.says h o e.answer c) → Exchanged catalog g o e h c
  OutOfMemory : (no : e.answer ≡ answer.NoMemory) (same : h ≡ g) (commit : is_commit e.says ≡ true → Between catalog h None c) (other : is_commit e.says ≡ false → Between catalog h o c) → Exchanged catalog g o e h c

-- each statement was answered so, one after the other, from the first database to the last, in each of which a record is at its own key
abbrev pub Chain : List Table → Database → Parts → List Exchange → Database → Type 0
Chain catalog g p [] last = last ≡ g
Chain catalog g p (e ∷ es) last = (h : Database) × (c : ClientAt) × AreOwn h × Exchanged catalog g (open_of p.opened) e h c × Chain catalog h (parts_after p e) es last

-- What holds after these statements: the database is sound, plain tables that fit are its images, and an id that was new, and that none
-- of them used, is new.
pub record IsReached (catalog : List Table) (start last : Database) (before : Tables) (es : List Exchange) : Type 0 where
  pub sound : IsSound catalog last
  pub are_images : AreImagesOf catalog last (tables_after catalog last before (parts_of es).ended)
  pub fit : tables_are_well_typed catalog (tables_after catalog last before (parts_of es).ended) ≡ true
  pub unused : (id : TxId) → IsUnused catalog start id → AllByRecursion (λ x. x ≢ id) (begun_ids es) → IsUnused catalog last id
