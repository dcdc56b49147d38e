-- A session: one client, whose statements are accepted and answered one after the other, each of whose calls takes effect at once or never,
-- and its meaning over whatever the stores contained.
use Rattle.std.specs.Prelude.{◌≡◌, ◌≢◌, ◌⊎◌, ℕ, ℤ, Bool, true, false, ◌&&◌, ◌||◌, is_some, if◌then◌else◌, List, [], ◌∷◌, ◌++◌, map, filter, fold, count_by, Option, Some, None, Result, Ok, Err, IfSome, Contains}
use Rattle.std.specs.Option.{option_map, option_map_or}
use Rattle.std.specs.List.{AllByRecursion}
use Rattle.law_clients.specs.Types.{Answer, Key, Record, Refusal, Statement, Table, TxId}
use Rattle.sdb_types.specs.declared.record.State.TheVariants as state
use Rattle.sdb_record.specs.declared.coordinator.Decision.TheVariants as decision
use Rattle.sdb_record.specs.Coordinator.{coordinator_key_of, is_expired, same_decision}
use Rattle.sdb_record.specs.Meta.{id_in, is_in, moment_in}
use Rattle.sdb_record.specs.Names.{tx_prepared_at}
use Rattle.sdb_record.specs.Rolls.{is_tombstone}
use Rattle.sdb_model.specs.declared.answer.Answer.TheVariants as answer
use Rattle.sdb_model.specs.declared.statement.Statement.TheVariants as statement
use Rattle.sdb_model.specs.Causes.{refused}
use Rattle.sdb_model.specs.Exec.{Tables, table_of}
use Rattle.sdb_model.specs.Refused.{refusal_of}
use Rattle.sdb_model.specs.Serial.{Body, run_body, serial}
use Rattle.sdb_model.specs.Transactions.{changes_nothing, is_conflict, is_done}
use Rattle.law_clients.specs.Database.{Database, decided_in, is_listed}
use Rattle.law_clients.specs.Clients.{IsUnused}
use Rattle.law_clients.specs.Keys.{is_too_many, keys_of_body, passes_most}
use Rattle.law_clients.specs.Seen.{AreImagesOf}
use Rattle.law_clients.specs.Tombstones.{HasVacuumed, HasWritten, OnlyRemoves, SameImages, is_among}

---- what was accepted and answered

-- A statement that was accepted: what its text says, the moment and the id at hand, and its answer.
pub record Exchange : Type 0 where
  pub says : Result Statement Refusal
  pub moment : ℤ
  pub id : TxId
  pub answer : Answer

abbrev pub is_begin : Result Statement Refusal → Bool
is_begin (Ok statement.Begin) = true
is_begin x = false

abbrev pub is_commit : Result Statement Refusal → Bool
is_commit (Ok statement.Commit) = true
is_commit x = false

abbrev pub is_rollback : Result Statement Refusal → Bool
is_rollback (Ok statement.Rollback) = true
is_rollback x = false

abbrev pub is_vacuum : Result Statement Refusal → Bool
is_vacuum (Ok statement.Vacuum) = true
is_vacuum x = false

---- its transactions

-- A transaction: its id, the statements after its BEGIN, and the one that ended it, if one did.
pub record Part : Type 0 where
  pub id : TxId
  pub inside : List Exchange
  pub last : Option Exchange

-- the transactions that ended, and the one that is open
pub record Parts : Type 0 where
  pub ended : List Part
  pub opened : Option Part

abbrev pub no_parts : Parts
no_parts = record { ended = []; opened = None }

abbrev pub begins : Exchange → Bool
begins e = is_begin e.says && is_done (Some e.answer)

-- COMMIT ends an open transaction, and so does ROLLBACK that is answered Done, or Conflict.
abbrev pub ends : Exchange → Bool
ends e = is_commit e.says || (is_conflict (Some e.answer) || (is_rollback e.says && is_done (Some e.answer)))

-- one statement more
abbrev pub part_after : List Part → Option Part → Exchange → Parts
part_after ts None e = record { ended = ts; opened = if begins e then Some (record { id = e.id; inside = []; last = None }) else None }
part_after ts (Some t) e =
    if ends e then record { ended = ts ++ record { id = t.id; inside = t.inside; last = Some e } ∷ []; opened = None }
    else record { ended = ts; opened = Some (record { id = t.id; inside = t.inside ++ e ∷ []; last = None }) }

abbrev pub parts_after : Parts → Exchange → Parts
parts_after p e = part_after p.ended p.opened e

abbrev pub parts_of : List Exchange → Parts
parts_of es = fold parts_after no_parts es

-- all of them, in order, the open one last
abbrev pub all_parts : Parts → List Part
all_parts p = p.ended ++ option_map_or (λ t. t ∷ []) p.opened []

---- bodies

-- a statement that isn't answered as one that changed nothing, nor refused by its text
abbrev pub in_body : Exchange → Option (Statement × Answer)
in_body e = if changes_nothing e.answer then None else elim e.says [ Ok st ↦ Some (st, e.answer) | Err r ↦ None ]

abbrev pub body_in : List Exchange → List (Statement × Answer)
body_in [] = []
body_in (e ∷ es) = option_map_or (λ b. b ∷ body_in es) (in_body e) (body_in es)

-- the statements of a transaction's body, and what they were answered
abbrev pub statements_in : List Exchange → List Statement
statements_in es = map (λ b. b.0) (body_in es)

abbrev pub answers_in : List Exchange → List Answer
answers_in es = map (λ b. b.1) (body_in es)

---- which are recorded

-- a transaction's row says COMMITTED
abbrev pub is_recorded_in : Database → TxId → Bool
is_recorded_in last id = option_map_or (λ d. same_decision d.decision decision.Committed) (decided_in last id) false

-- A transaction is recorded where its COMMIT is answered Committed, or Unknown and the last contents hold its row COMMITTED.
abbrev pub is_recorded_by : Database → TxId → Answer → Bool
is_recorded_by last id answer.Committed = true
is_recorded_by last id (answer.Unknown x) = is_recorded_in last id
is_recorded_by last id a = false

abbrev pub is_recorded : Database → Part → Bool
is_recorded last t = option_map_or (λ e. is_recorded_by last t.id e.answer) t.last false

-- the tables that the recorded ones of some transactions leave, run whole one after the other
abbrev pub tables_after : List Table → Database → Tables → List Part → Tables
tables_after catalog last d [] = d
tables_after catalog last d (t ∷ ts) = tables_after catalog last (if is_recorded last t then (run_body catalog (statements_in t.inside) d).1 else d) ts

---- why each answer, over any stores

-- The answer with which a statement is turned away as it is accepted, inside of a transaction or outside: it is no statement, is on the
-- wrong side, or the catalog refuses it; VACUUM has to be outside.
abbrev pub rejected : List Table → Bool → Result Statement Refusal → Option Answer
rejected catalog opened (Err r) = Some (answer.Refused r)
rejected catalog opened (Ok statement.Begin) = if opened then Some (refused 4) else None
rejected catalog opened (Ok statement.Vacuum) = if opened then Some answer.OpenTransactions else None
rejected catalog opened (Ok statement.Commit) = if opened then None else Some (refused 5)
rejected catalog opened (Ok statement.Rollback) = if opened then None else Some (refused 5)
rejected catalog opened (Ok st) = if opened then option_map (λ r. answer.Refused r) (refusal_of catalog st) else Some (refused 5)

-- The answer of a statement that isn't turned away: of the refusals only that for too many writes, and nothing that other clients cause.
abbrev pub MayAnswer : Answer → Type 0
MayAnswer answer.Vacuuming = ⊥
MayAnswer answer.OpenTransactions = ⊥
MayAnswer (answer.Refused r) = is_too_many (answer.Refused r) ≡ true
MayAnswer a = Unit {0}

-- Turned away exactly where it has to be, unless memory ran out.
pub record IsAccepted (catalog : List Table) (opened : Bool) (e : Exchange) : Type 0 where
  pub away : (a : Answer) → rejected catalog opened e.says ≡ Some a → (e.answer ≡ a) ⊎ (e.answer ≡ answer.NoMemory)
  pub stays : rejected catalog opened e.says ≡ None → MayAnswer e.answer

-- The same for each statement, by whether a transaction is open before it.
abbrev pub AreAccepted : List Table → List Exchange → Type 0
AreAccepted catalog es = (front : List Exchange) (e : Exchange) (back : List Exchange) → es ≡ front ++ e ∷ back → IsAccepted catalog (is_some (parts_of front).opened) e

-- an answer that comes only after a call faulted
abbrev pub is_of_fault : Answer → Bool
is_of_fault answer.Faulted = true
is_of_fault (answer.Unknown id) = true
is_of_fault a = false

abbrev pub faults_in : List Exchange → ℕ
faults_in es = count_by (λ e. is_of_fault e.answer) es

---- why each answer, over stores of known contents

-- These never come to a client that is alone on sound stores.
abbrev pub IsImpossible : Answer → Type 0
IsImpossible (answer.Conflict key found) = Unit {0}
IsImpossible (answer.Expired id) = Unit {0}
IsImpossible (answer.BadRecord key) = Unit {0}
IsImpossible a = ⊥

-- Busy: the opening holds the record, unresolved, and no row of its transaction ..
pub record IsOfOpening (opening : Database) (key : Key) (id : TxId) (at : ℤ) : Type 0 where
  pub r : Record
  pub present : opening key ≡ Some r
  pub loose : is_in state.Committed r.columns ≡ false
  pub writer : id_in r.columns ≡ Some id
  pub moment : moment_in r.columns tx_prepared_at ≡ Some at
  pub undecided : opening (coordinator_key_of id) ≡ None

abbrev pub leaves_records : Answer → Bool
leaves_records answer.Faulted = true
leaves_records (answer.Unknown id) = true
leaves_records answer.NoMemory = true
leaves_records a = false

-- .. or a COMMIT of this session left it, at its moment.
pub record IsOfSession (earlier : List Part) (id : TxId) (at : ℤ) : Type 0 where
  pub t : Part
  pub e : Exchange
  pub among : Contains earlier t
  pub own : t.id ≡ id
  pub commit : t.last ≡ Some e
  pub commits : is_commit e.says ≡ true
  pub left : leaves_records e.answer ≡ true
  pub moment : e.moment ≡ at

pub record IsBusyAlone (opening : Database) (earlier : List Part) (e : Exchange) (key : Key) (id : TxId) (at : ℤ) : Type 0 where
  pub st : Statement
  pub says : e.says ≡ Ok st
  pub names : table_of st ≡ Some key.table
  pub origin : IsOfOpening opening key id at ⊎ IsOfSession earlier id at
  pub early : is_expired at e.moment ≡ false

abbrev pub IfBusy : Answer → (Key → TxId → ℤ → Type 0) → Type 0
IfBusy (answer.Busy key id at) P = P key id at
IfBusy a P = Unit {0}

abbrev pub IfUnknown : Answer → (TxId → Type 0) → Type 0
IfUnknown (answer.Unknown id) P = P id
IfUnknown a P = Unit {0}

-- One statement of a transaction that isn't turned away is refused for too many writes exactly where it would make them, unless it is
-- answered that it changed nothing for another cause.
pub record IsLimited (catalog : List Table) (d : Tables) (front : List Exchange) (e : Exchange) : Type 0 where
  pub fits : (st : Statement) → e.says ≡ Ok st → rejected catalog true e.says ≡ None → passes_most catalog st (run_body catalog (statements_in front) d).1 (keys_of_body catalog (statements_in front) d []) ≡ true → changes_nothing e.answer ≡ true
  pub too_many : (st : Statement) → e.says ≡ Ok st → rejected catalog true e.says ≡ None → is_too_many e.answer ≡ true → passes_most catalog st (run_body catalog (statements_in front) d).1 (keys_of_body catalog (statements_in front) d []) ≡ true

abbrev pub AreLimited : List Table → Tables → List Exchange → List Exchange → Type 0
AreLimited catalog d front [] = Unit {0}
AreLimited catalog d front (e ∷ es) = IsLimited catalog d front e × AreLimited catalog d (front ++ e ∷ []) es

-- One transaction, recorded or not, on the tables that the recorded ones before it left: its body gives the answers that came; each
-- Busy has its cause, and so has a refusal for too many writes; and Unknown names it.
pub record IsSerialPart (catalog : List Table) (opening : Database) (earlier : List Part) (d : Tables) (t : Part) : Type 0 where
  pub answers : (run_body catalog (statements_in t.inside) d).0 ≡ answers_in t.inside
  pub busy : AllByRecursion (λ e. IfBusy e.answer (IsBusyAlone opening earlier e)) t.inside
  pub many : AreLimited catalog d [] t.inside
  pub last : IfSome t.last (λ e. IfUnknown e.answer (λ id. id ≡ t.id))

-- it holds of each transaction of a list, after others
abbrev pub AreSerialParts : List Table → Database → Database → List Part → Tables → List Part → Type 0
AreSerialParts catalog opening last earlier d [] = Unit {0}
AreSerialParts catalog opening last earlier d (t ∷ ts) = IsSerialPart catalog opening earlier d t × AreSerialParts catalog opening last (earlier ++ t ∷ []) (tables_after catalog last d (t ∷ [])) ts

---- what each statement leaves

-- an open transaction's COMMIT, by which it is recorded
abbrev pub is_recorded_commit : Database → Option Part → Exchange → Bool
is_recorded_commit now opened e = is_commit e.says && option_map_or (λ t. is_recorded_by now t.id e.answer) opened false

-- whether a transaction's body writes a key, on plain tables
abbrev pub is_written_by : List Table → Tables → Part → Key → Bool
is_written_by catalog d t k = is_among (keys_of_body catalog (statements_in t.inside) d []) k

-- One statement over a database with these plain tables. A COMMIT that is recorded writes the keys that its body writes; a VACUUM removes
-- tombstones, and where it is answered Count, so many of them; each other statement leaves each committed image as it is.
pub record IsStep (catalog : List Table) (was : Database) (d : Tables) (opened : Option Part) (e : Exchange) (now : Database) : Type 0 where
  pub committed : (t : Part) → opened ≡ Some t → is_recorded_commit now opened e ≡ true → HasWritten catalog (is_written_by catalog d t) was now
  pub removed : is_vacuum e.says ≡ true → OnlyRemoves catalog was now
  pub counted : (n : ℕ) → is_vacuum e.says ≡ true → e.answer ≡ answer.Count n → HasVacuumed catalog was now e.moment n
  pub same : is_recorded_commit now opened e ≡ false → is_vacuum e.says ≡ false → SameImages catalog was now

-- The same for each statement, from a first database to the last one, through one after each statement, whose rows are the tables that the
-- recorded transactions so far left.
abbrev pub AreSteps : List Table → Tables → Database → Parts → List Exchange → Database → Type 0
AreSteps catalog before g p [] last = last ≡ g
AreSteps catalog before g p (e ∷ es) last =
    (h : Database) × AreImagesOf catalog h (tables_after catalog h before (parts_after p e).ended) × IsStep catalog g (tables_after catalog g before p.ended) p.opened e h × AreSteps catalog before h (parts_after p e) es last

-- Where VACUUM comes last and is answered Count, no tombstone is left in a table of the catalog.
abbrev pub IsVacuumed : List Table → Database → Type 0
IsVacuumed catalog last = (k : Key) (r : Record) → is_listed catalog k ≡ true → last k ≡ Some r → is_in state.Committed r.columns ≡ true → is_tombstone r ≡ false

abbrev pub is_count : Answer → Bool
is_count (answer.Count n) = true
is_count a = false

-- the recorded ones, in the order of their COMMITs
abbrev pub recorded_of : Database → List Part → List Part
recorded_of last ts = filter (is_recorded last) ts

-- A session from an opening database to a last one, and from plain tables that are the opening's images: its recorded transactions, in the
-- order of their COMMITs and run whole, give their answers and the last images; they are those whose row says COMMITTED at the end; each of
-- its transactions, recorded or not, was answered as it is after the recorded ones before it; Conflict, Expired and BadRecord never came;
-- each statement left of the images what it may, a VACUUM has counted the tombstones that it removed, and a last one left none.
pub record IsSerialSession (catalog : List Table) (opening last : Database) (before : Tables) (es : List Exchange) : Type 0 where
  pub serial : serial catalog (map (λ t. Body (statements_in t.inside)) (recorded_of last (parts_of es).ended)) before ≡ (map (λ t. answers_in t.inside) (recorded_of last (parts_of es).ended), tables_after catalog last before (parts_of es).ended)
  pub images : AreImagesOf catalog last (tables_after catalog last before (parts_of es).ended)
  pub rows : AllByRecursion (λ t. is_recorded_in last t.id ≡ is_recorded last t) (parts_of es).ended
  pub parts : AreSerialParts catalog opening last [] before (all_parts (parts_of es))
  pub never : AllByRecursion (λ e. IsImpossible e.answer → ⊥) es
  pub steps : AreSteps catalog before opening no_parts es last
  pub vacuumed : (front : List Exchange) (e : Exchange) → es ≡ front ++ e ∷ [] → is_vacuum e.says ≡ true → is_count e.answer ≡ true → IsVacuumed catalog last

---- the premises

-- an id of which the opening has no row and no unresolved record
abbrev pub IsNewId : List Table → Database → TxId → Type 0
IsNewId catalog opening id = IsUnused catalog opening id

-- The ids of transactions differ from each other, and the opening has no row and no unresolved record of them.
abbrev pub AreNewIds : List Table → Database → List TxId → Type 0
AreNewIds catalog opening [] = Unit {0}
AreNewIds catalog opening (x ∷ xs) = IsNewId catalog opening x × AllByRecursion (λ y. x ≢ y) xs × AreNewIds catalog opening xs

-- the ids at hand where a transaction began
abbrev pub begun_ids : List Exchange → List TxId
begun_ids [] = []
begun_ids (e ∷ es) = if begins e then e.id ∷ begun_ids es else begun_ids es
