-- What holds at every moment of a run of the protocol, stated about its events and the contents of the stores.
use Rattle.std.specs.Prelude.{◌≡◌, ◌≢◌, ◌⊎◌, ℕ, suc, ◌<◌, ◌≤◌, ◌^◌, true, false, List, ◌∷◌, ◌++◌, length, Option, Some, None, is_some, IsSomeAnd, Contains}
use Rattle.sdb_model.specs.Types.{Key, Place, Record, Reply, Request, Table, TxId}
use Rattle.sdb_types.specs.declared.record.Request.TheVariants as ask
use Rattle.sdb_types.specs.declared.record.Reply.TheVariants as reply
use Rattle.sdb_types.specs.declared.record.State.TheVariants as state
use Rattle.sdb_record.specs.declared.coordinator.Decision.TheVariants as decision
use Rattle.sdb_record.specs.Coordinator.{coordinator_key_of}
use Rattle.sdb_types.specs.Contents.{in_span, record_among}
use Rattle.sdb_record.specs.Meta.{id_in, is_in, is_transactional}
use Rattle.sdb_record.specs.Moved.{is_unchanged}
use Rattle.sdb_record.specs.Parts.{before_record}
use Rattle.sdb_model.specs.declared.answer.Answer.{Answer}
use Rattle.sdb_model.specs.declared.event.Event.{Event}
use Rattle.sdb_model.specs.declared.event.Event.TheVariants as event
use Rattle.sdb_model.specs.declared.event.How.{How}
use Rattle.sdb_model.specs.Requests.{records_put}
use Rattle.sdb_model.specs.Rows.{Name}
use Rattle.sdb_model.specs.Exec.{find_table}
use Rattle.sdb_model.specs.Events.{Contact, StoreContents, contact_of, stored_at, moment}
use Rattle.sdb_model.specs.Images.{decision_at, image_at}
use Rattle.sdb_model.specs.ReadSet.{ReadItem, read_set_of, version_read}
use Rattle.sdb_model.specs.Transactions.{Recorded, begun, is_prepared_record, point}

-- a key of a table of the catalog: the coordinator's rows are no records of transactions
abbrev pub IsTableKey : List Table → Key → Type 0
IsTableKey catalog key = is_some (find_table catalog key.table) ≡ true

---- at one moment

-- A record in state COMMITTED names a transaction that is recorded then.
abbrev pub CommittedRecorded : List Table → List Place → List StoreContents → Type 0
CommittedRecorded catalog places now = (key : Key) (r : Record) → IsTableKey catalog key → stored_at places now key ≡ Some r → is_in state.Committed r.columns ≡ true
    → (id : TxId) × (id_in r.columns ≡ Some id) × Recorded places now id

-- the coordinator's table holds a transaction's row, well formed, with the decision that it is aborted
abbrev pub IsAborted : List Place → List StoreContents → TxId → Type 0
IsAborted places now id = IsSomeAnd (decision_at places now id) (λ d. d.decision ≡ decision.Aborted)

-- Of a transaction whose row is ABORTED there is no record in state COMMITTED, and no unresolved record has one of it as its row
-- before.
pub record IsRemovedBy (id : TxId) (r : Record) : Type 0 where
  pub committed : is_in state.Committed r.columns ≡ true → id_in r.columns ≢ Some id
  pub before : (b : Record) → is_in state.Committed r.columns ≡ false → before_record r ≡ Some b → id_in b.columns ≢ Some id

abbrev pub AbortedRemoved : List Table → List Place → List StoreContents → Type 0
AbortedRemoved catalog places now = (id : TxId) (key : Key) (r : Record) → id.0 < 2 ^ 128 → IsAborted places now id → IsTableKey catalog key → stored_at places now key ≡ Some r → IsRemovedBy id r

---- from one moment to a later one

-- A row of the coordinator's table is never changed nor deleted.
abbrev pub RowsFinal : List Place → List StoreContents → List StoreContents → Type 0
RowsFinal places early late = (id : TxId) (row : Record) → id.0 < 2 ^ 128 → stored_at places early (coordinator_key_of id) ≡ Some row → stored_at places late (coordinator_key_of id) ≡ Some row

---- after so many events

-- An event asks a store for a prepare of a transaction that puts this record.
pub record IsPrepareOf (id : TxId) (r : Record) (e : Event) : Type 0 where
  pub contact : Contact
  pub asks : contact_of e ≡ Some contact
  pub puts : Contains (records_put contact.request) r
  pub prepare : is_prepared_record id r ≡ true

-- A prepare of a transaction put a record, by the event after `front`: just before it there was what the record is rolled back
-- to, and just after it the record.
pub record IsPreparedAfter (places : List Place) (events : List Event) (opening : List StoreContents) (moments : List (List StoreContents)) (id : TxId) (r : Record) (front : List Event) : Type 0 where
  pub event : Event
  pub back : List Event
  pub at : events ≡ front ++ event ∷ back
  pub put : IsPrepareOf id r event
  pub before : stored_at places (moment opening moments (length front)) r.key ≡ before_record r
  pub after : stored_at places (moment opening moments (suc (length front))) r.key ≡ Some r

-- An unresolved record was put there by a prepare of the transaction that it names, by one of the events so far.
abbrev pub UnresolvedPrepared : List Table → List Place → List Event → List StoreContents → List (List StoreContents) → ℕ → Type 0
UnresolvedPrepared catalog places events opening moments n = (key : Key) (r : Record) → IsTableKey catalog key → stored_at places (moment opening moments n) key ≡ Some r → is_in state.Committed r.columns ≡ false
    → (id : TxId) × (front : List Event) × (id_in r.columns ≡ Some id) × (length front < n) × IsPreparedAfter places events opening moments id r front

-- A record whose prepare was put by one of the events so far stays as long as its transaction has no row.
abbrev pub PreparedPersists : List Table → List Place → List Event → List StoreContents → List (List StoreContents) → ℕ → Type 0
PreparedPersists catalog places events opening moments n = (id : TxId) (r : Record) (front : List Event) → id.0 < 2 ^ 128 → IsTableKey catalog r.key → length front < n → IsPreparedAfter places events opening moments id r front
    → stored_at places (moment opening moments n) (coordinator_key_of id) ≡ None → stored_at places (moment opening moments n) r.key ≡ Some r

-- a read showed this at a key
abbrev pub Observes : Request → Reply → Key → Option Record → Type 0
Observes (ask.Get k) (reply.Found stored_at) key found = (k ≡ key) × (stored_at ≡ found)
Observes (ask.Scan span) (reply.Rows rows) key found = (in_span span key ≡ true) × (record_among rows key ≡ found)
Observes q r key found = ⊥

-- What a read found unchanged was resolved: each transaction whose prepare of the key was put before has its row by then.
abbrev pub UnchangedResolved : List Table → List Place → List Event → List StoreContents → List (List StoreContents) → Type 0
UnchangedResolved catalog places events opening moments =
    (front back : List Event) (client : ℕ) (store : Name) (q : Request) (how : How) (r : Reply) (answer : Option Answer) (key : Key) (found : Option Record) (version : Option TxId)
    → events ≡ front ++ event.Call client store q how r answer ∷ back → Observes q r key found → is_unchanged found version ≡ true → IsTableKey catalog key
    → (id : TxId) (x : Record) (before : List Event) → id.0 < 2 ^ 128 → x.key ≡ key → length before < length front → IsPreparedAfter places events opening moments id x before
    → stored_at places (moment opening moments (length front)) (coordinator_key_of id) ≢ None

---- after all events

abbrev pub closing_of : List Event → List StoreContents → List (List StoreContents) → List StoreContents
closing_of events opening moments = moment opening moments (length events)

-- A recorded transaction that wrote a key: a prepare of it put this record there.
pub record IsWriter (places : List Place) (events : List Event) (opening : List StoreContents) (moments : List (List StoreContents)) (key : Key) (id : TxId) : Type 0 where
  pub fits : id.0 < 2 ^ 128
  pub recorded : Recorded places (closing_of events opening moments) id
  pub r : Record
  pub front : List Event
  pub at : r.key ≡ key
  pub prepared : IsPreparedAfter places events opening moments id r front

-- what a writer left, which deleted the row where nothing is there
abbrev pub IsLeftBy : TxId → Record → Option Record → Type 0
IsLeftBy id r None = is_in state.Deleted r.columns ≡ true
IsLeftBy id r (Some image) = id_in image.columns ≡ Some id

-- The image of a key is of this transaction or of a later writer. There is none only where such a one deleted the row.
pub record IsOfOrLater (places : List Place) (events : List Event) (opening : List StoreContents) (moments : List (List StoreContents)) (key : Key) (id : TxId) (image : Option Record) : Type 0 where
  pub u : TxId
  pub writer : IsWriter places events opening moments key u
  pub later : (u ≡ id) ⊎ (point events id < point events u)
  pub left : IsLeftBy u writer.r image

-- What a recorded transaction wrote is there, or what a later one did: each key that it wrote shows so.
abbrev pub WritesPersist : List Table → List Place → List Event → List StoreContents → List (List StoreContents) → Type 0
WritesPersist catalog places events opening moments = (key : Key) (id : TxId) → IsTableKey catalog key → IsWriter places events opening moments key id → IsOfOrLater places events opening moments key id (image_at places (closing_of events opening moments) key)

-- It is the last writer of a key before a transaction's point.
pub record IsLastBefore (places : List Place) (events : List Event) (opening : List StoreContents) (moments : List (List StoreContents)) (key : Key) (id u : TxId) : Type 0 where
  pub writer : IsWriter places events opening moments key u
  pub before : point events u < point events id
  pub last : (v : TxId) → IsWriter places events opening moments key v → point events v < point events id → (v ≡ u) ⊎ (point events v < point events u)

-- The last writer before its point deleted the row, and was recorded before the transaction began.
pub record IsDeletedBefore (places : List Place) (events : List Event) (opening : List StoreContents) (moments : List (List StoreContents)) (key : Key) (id : TxId) : Type 0 where
  pub u : TxId
  pub last : IsLastBefore places events opening moments key id u
  pub deleted : is_in state.Deleted last.writer.r.columns ≡ true
  pub recorded : (n : ℕ) → begun events id ≡ Some n → Recorded places (moment opening moments n) u

-- A version of a key is current for a transaction: it is that of the last writer before its point. Without a version there is no such
-- writer, or the last one deleted the row before the transaction began.
abbrev pub IsCurrent : List Place → List Event → List StoreContents → List (List StoreContents) → Key → TxId → Option TxId → Type 0
IsCurrent places events opening moments key id (Some u) = IsLastBefore places events opening moments key id u
IsCurrent places events opening moments key id None = ((v : TxId) → IsWriter places events opening moments key v → point events v < point events id → ⊥) ⊎ IsDeletedBefore places events opening moments key id

-- What a recorded transaction read is current at its point.
abbrev pub ReadsCurrent : List Table → List Place → List Event → List StoreContents → List (List StoreContents) → Type 0
ReadsCurrent catalog places events opening moments = (id : TxId) (item : ReadItem) (key : Key) (version : Option TxId) → id.0 < 2 ^ 128 → Recorded places (closing_of events opening moments) id
    → Contains (read_set_of events id) item → version_read item key ≡ Some version → IsTableKey catalog key → IsCurrent places events opening moments key id version

---- the whole

-- Which records are there at every moment, and which events put them there.
pub record ContentsExplained (catalog : List Table) (places : List Place) (events : List Event) (opening : List StoreContents) (moments : List (List StoreContents)) : Type 0 where
  pub committed_recorded : (n : ℕ) → n ≤ length moments → CommittedRecorded catalog places (moment opening moments n)
  pub unresolved_prepared : (n : ℕ) → n ≤ length moments → UnresolvedPrepared catalog places events opening moments n
  pub prepared_stay : (n : ℕ) → n ≤ length moments → PreparedPersists catalog places events opening moments n
  pub writes_stand : WritesPersist catalog places events opening moments
  pub aborted_gone : (n : ℕ) → n ≤ length moments → AbortedRemoved catalog places (moment opening moments n)
  pub rows_final : (early late : ℕ) → early ≤ late → late ≤ length moments → RowsFinal places (moment opening moments early) (moment opening moments late)
  pub unchanged_resolved : UnchangedResolved catalog places events opening moments

-- The invariant: what holds of events and of the moments of a trace that agrees with them.
pub record Explained (catalog : List Table) (places : List Place) (events : List Event) (opening : List StoreContents) (moments : List (List StoreContents)) : Type 0 where
  pub stored_at : ContentsExplained catalog places events opening moments
  pub reads_current : ReadsCurrent catalog places events opening moments

-- At each moment every record that is at a key of a table passes the checks.
abbrev pub AreTransactional : List Table → List Place → List StoreContents → List (List StoreContents) → Type 0
AreTransactional catalog places opening moments = (n : ℕ) (key : Key) (r : Record) → n ≤ length moments → IsTableKey catalog key → stored_at places (moment opening moments n) key ≡ Some r → is_transactional r ≡ true
