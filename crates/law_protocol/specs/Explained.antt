-- What holds at every moment of a lawful run from empty stores.
use Rattle.std.specs.Prelude.{◌≡◌, ◌≢◌, ◌⊎◌, ℕ, ◌^◌, ◌<◌, true, false, List, [], ◌∷◌, fold, map, Option, Some, None}
use Rattle.std.specs.Option.{option_map_or}
use Rattle.law_protocol.specs.Types.{Event, Key, Place, Record}
use Rattle.sdb_types.specs.declared.record.State.TheVariants as state
use Rattle.sdb_record.specs.declared.coordinator.Decision.TheVariants.{Committed, Aborted}
use Rattle.sdb_record.specs.Coordinator.{coordinator_key_of, coordinator_row_of}
use Rattle.sdb_record.specs.Meta.{id_in, is_in}
use Rattle.sdb_record.specs.Parts.{before_record}
use Rattle.sdb_model.specs.declared.answer.Answer.TheVariants as answer
use Rattle.sdb_model.specs.Events.{StoreContents, stored_at}
use Rattle.sdb_model.specs.Images.{image_at}
use Rattle.sdb_model.specs.Transactions.{Recorded}
use Rattle.law_protocol.specs.Plan.{Plan, written, deletes, version_read_at}
use Rattle.law_protocol.specs.History.{History, base_of, IsLive, IsWriter, IsPrepared}
use Rattle.law_protocol.specs.Lawful.{Labelled, id, IsLawful, IsSettled, answer_of, is_denial, protocol_state}
use Rattle.law_protocol.specs.Trace.{IsTraced, StartsEmpty}
use Rattle.law_protocol.specs.Records.{record_prepared_by, record_left_by}
use Rattle.sdb_model.specs.Tables.{is_data}

-- A lawful list of events and a trace of it from empty stores, newest first.
pub record IsRunOf (plan : ℕ → Plan) (places : List Place) (opening : List StoreContents) (past : List Labelled) (ss : List (List StoreContents)) : Type 0 where
  pub empty : StartsEmpty places opening
  pub lawful : IsLawful plan past
  pub traced : IsTraced places opening past ss

---- rows of the coordinator

-- A transaction is recorded exactly where its put of COMMITTED took effect, and its row says when its COMMIT was accepted.
pub record IsRecorded (plan : ℕ → Plan) (places : List Place) (w : History) (store_contents : List StoreContents) (t : ℕ) : Type 0 where
  pub put : w.row t ≡ Some Committed
  pub row : stored_at places store_contents (coordinator_key_of (id t)) ≡ Some (coordinator_row_of (id t) Committed (plan t).now)
  pub wrote : (k : Key) → written (plan t) k ≢ None → (w.took_effect t k ≡ true) × (w.protocol.answered t k ≡ true)
  pub point : (w.protocol.begun t < w.protocol.point t) × (w.protocol.point t < w.decided_at t)

abbrev pub RecordedIsPut : (ℕ → Plan) → List Place → History → List StoreContents → Type 0
RecordedIsPut plan places w store_contents = (t : ℕ) → t < 2 ^ 128 → Recorded places store_contents (id t) → IsRecorded plan places w store_contents t

-- A row never changes.
abbrev pub RowsFinal : List Place → List StoreContents → List StoreContents → Type 0
RowsFinal places before now = (t : ℕ) (row : Record) → t < 2 ^ 128 → stored_at places before (coordinator_key_of (id t)) ≡ Some row → stored_at places now (coordinator_key_of (id t)) ≡ Some row

---- what is there

-- A record that is not in state 3 is what its transaction prepared at that key, and that prepare took effect.
pub record IsPreparedRecord (plan : ℕ → Plan) (w : History) (k : Key) (r : Record) : Type 0 where
  pub t : ℕ
  pub writer : id_in r.columns ≡ Some (id t)
  pub took_effect : w.took_effect t k ≡ true
  pub same : r ≡ record_prepared_by plan t k

abbrev pub UnresolvedPrepared : (ℕ → Plan) → List Place → History → List StoreContents → Type 0
UnresolvedPrepared plan places w store_contents = (k : Key) (r : Record) → is_data k ≡ true → stored_at places store_contents k ≡ Some r → is_in state.Committed r.columns ≡ false → IsPreparedRecord plan w k r

-- A record in state 3 is the one record that its transaction leaves at that key, and that transaction is recorded.
pub record IsCommittedRecord (plan : ℕ → Plan) (places : List Place) (w : History) (store_contents : List StoreContents) (k : Key) (r : Record) : Type 0 where
  pub t : ℕ
  pub writer : id_in r.columns ≡ Some (id t)
  pub recorded : Recorded places store_contents (id t)
  pub writes : IsWriter plan w k t
  pub same : r ≡ record_left_by plan t k

abbrev pub CommittedIsCanon : (ℕ → Plan) → List Place → History → List StoreContents → Type 0
CommittedIsCanon plan places w store_contents = (k : Key) (r : Record) → is_data k ≡ true → stored_at places store_contents k ≡ Some r → is_in state.Committed r.columns ≡ true → IsCommittedRecord plan places w store_contents k r

-- A record to which a read of a key came is the one that a recorded writer of the key leaves there.
abbrev pub SettledIsCommitted : (ℕ → Plan) → History → List Labelled → Type 0
SettledIsCommitted plan w past = (k : Key) (b : Record) → is_data k ≡ true → IsSettled past k b → (u : ℕ) × (u < 2 ^ 128) × IsWriter plan w k u × (b ≡ record_left_by plan u k)

-- What a transaction prepared stays while it has no row.
abbrev pub PreparedPersists : (ℕ → Plan) → List Place → History → List StoreContents → Type 0
PreparedPersists plan places w store_contents = (t : ℕ) (k : Key) → w.took_effect t k ≡ true → w.row t ≡ None → stored_at places store_contents k ≡ Some (record_prepared_by plan t k)

-- Of an aborted transaction nothing is in state 3, nor under a prepared record.
abbrev pub AbortedRemoved : (ℕ → Plan) → List Place → History → List StoreContents → Type 0
AbortedRemoved plan places w store_contents = (t : ℕ) (k : Key) (r : Record) → w.row t ≡ Some Aborted → is_data k ≡ true → stored_at places store_contents k ≡ Some r →
    ((is_in state.Committed r.columns ≡ true → id_in r.columns ≢ Some (id t))
    × ((b : Record) → is_in state.Committed r.columns ≡ false → before_record r ≡ Some b → id_in b.columns ≢ Some (id t)))

-- Every prepare that a recorded transaction asked was seen and applied.
abbrev pub RecordedAnswered : History → Type 0
RecordedAnswered w = (t : ℕ) (k : Key) → w.row t ≡ Some Committed → w.protocol.asked t k ≡ true → w.protocol.answered t k ≡ true

---- images

-- Of the recorded writers of a key it is the last by point.
pub record IsLastWriter (plan : ℕ → Plan) (w : History) (k : Key) (u : ℕ) : Type 0 where
  pub writer : IsWriter plan w k u
  pub last : (t : ℕ) → IsWriter plan w k t → (t ≡ u) ⊎ (w.protocol.point t < w.protocol.point u)

-- No record is observed: none was ever written, or the last recorded writer deleted the row, and its tombstone was removed.
abbrev pub IsNeverWritten : (ℕ → Plan) → History → Key → Type 0
IsNeverWritten plan w k = (t : ℕ) → IsWriter plan w k t → ⊥

pub record IsRemoved (plan : ℕ → Plan) (w : History) (k : Key) : Type 0 where
  pub u : ℕ
  pub last : IsLastWriter plan w k u
  pub deleted : deletes (plan u) k ≡ true
  pub removed : w.gone k ≡ Some u

-- The committed image of each key is the record that the last recorded writer by point left; or there is none.
abbrev pub ImageOf : (ℕ → Plan) → History → Key → Option Record → Type 0
ImageOf plan w k None = IsNeverWritten plan w k ⊎ IsRemoved plan w k
ImageOf plan w k (Some r) = (u : ℕ) × IsLastWriter plan w k u × (r ≡ record_left_by plan u k)

abbrev pub ImageIsLastWriter : (ℕ → Plan) → List Place → History → List StoreContents → Type 0
ImageIsLastWriter plan places w store_contents = (k : Key) → is_data k ≡ true → ImageOf plan w k (image_at places store_contents k)

-- Whose tombstone was removed was recorded before each transaction began that is open and whose client hasn't stopped.
abbrev pub RemovedBeforeBegin : History → Type 0
RemovedBeforeBegin w = (t : ℕ) (k : Key) (u : ℕ) → w.gone k ≡ Some u → IsLive w.protocol t → w.decided_at u < w.protocol.begun t

---- the order of writers

-- Of two transactions that prepared one key the first had its row before the second's prepare.
abbrev pub EarlierPrepareHadRow : History → Type 0
EarlierPrepareHadRow w = (t u : ℕ) (k : Key) → t ≢ u → w.took_effect t k ≡ true → w.took_effect u k ≡ true → w.prepared_at t k < w.prepared_at u k → (w.row t ≢ None) × (w.decided_at t < w.prepared_at u k)

-- Recorded writers of a key are in one order by prepare and by point.
abbrev pub WritersInOrder : (ℕ → Plan) → History → Type 0
WritersInOrder plan w = (t u : ℕ) (k : Key) → IsWriter plan w k t → IsWriter plan w k u → w.prepared_at t k < w.prepared_at u k → w.protocol.point t < w.protocol.point u

-- No two transactions have one point.
abbrev pub PointsDiffer : History → Type 0
PointsDiffer w = (t u : ℕ) → w.row t ≡ Some Committed → w.row u ≡ Some Committed → t ≢ u → w.protocol.point t ≢ w.protocol.point u

---- reads

-- What is found at a key, against the writer that was observed there: the same; or nothing, where there was none, or one who
-- deleted the row and was recorded before the finder began.
abbrev pub IsAsFound : (ℕ → Plan) → History → ℕ → Key → Option ℕ → Option ℕ → Type 0
IsAsFound plan w t k (Some u) x = x ≡ Some u
IsAsFound plan w t k None None = Unit {0}
IsAsFound plan w t k None (Some u) = (deletes (plan u) k ≡ true) × (w.decided_at u < w.protocol.begun t)

-- Event n saw, for transaction t, that writer at a key: every other that prepared the key before n had its row by then, and
-- the writer is the last by point of those recorded by then.
pub record SawLast (plan : ℕ → Plan) (w : History) (t : ℕ) (k : Key) (found : Option ℕ) (n : ℕ) (x : Option ℕ) : Type 0 where
  pub as_found : IsAsFound plan w t k found x
  pub writer : (u : ℕ) → x ≡ Some u → IsWriter plan w k u × (w.decided_at u < n)
  pub resolved : (u : ℕ) → u ≢ t → w.took_effect u k ≡ true → w.prepared_at u k < n → (w.row u ≢ None) × (w.decided_at u < n)
  pub last : (v : ℕ) → v ≢ t → IsWriter plan w k v → w.decided_at v < n → (u : ℕ) × (x ≡ Some u) × ((u ≡ v) ⊎ (w.protocol.point v < w.protocol.point u))

-- A check of a read of the read set that found all unchanged saw this, at each key that its transaction doesn't write.
abbrev pub CheckSaw : (ℕ → Plan) → History → Type 0
CheckSaw plan w = (t i : ℕ) (k : Key) (found : Option ℕ) → w.protocol.checked t i ≡ true → version_read_at (plan t) i k ≡ Some found → written (plan t) k ≡ None → SawLast plan w t k found (w.checked_at t i) (w.basis t i k)

-- A prepare that was seen and applied saw it of the write's base.
abbrev pub PrepareSaw : (ℕ → Plan) → History → Type 0
PrepareSaw plan w = (t : ℕ) (k : Key) → w.protocol.answered t k ≡ true → SawLast plan w t k (base_of (written (plan t) k)) (w.prepared_at t k) (w.under t k)

-- What a recorded transaction read at a key is of the last by point of the recorded writers before it; where it found none,
-- there is no such writer, or the last deleted the row and was recorded before the transaction began.
pub record IsCurrent (plan : ℕ → Plan) (w : History) (t : ℕ) (k : Key) (found : Option ℕ) : Type 0 where
  pub x : Option ℕ
  pub as_found : IsAsFound plan w t k found x
  pub writer : (u : ℕ) → x ≡ Some u → IsWriter plan w k u × (w.protocol.point u < w.protocol.point t)
  pub last : (v : ℕ) → v ≢ t → IsWriter plan w k v → w.protocol.point v < w.protocol.point t → (u : ℕ) × (x ≡ Some u) × ((u ≡ v) ⊎ (w.protocol.point v < w.protocol.point u))

abbrev pub ReadsCurrent : (ℕ → Plan) → History → Type 0
ReadsCurrent plan w = (t i : ℕ) (k : Key) (found : Option ℕ) → w.row t ≡ Some Committed → version_read_at (plan t) i k ≡ Some found → IsCurrent plan w t k found

-- A transaction without a row whose prepares were all seen and applied, and a recorded one with a later point: the later one
-- neither wrote nor read a key that the first writes, and the first read no version of the later one.
pub record AreApart (plan : ℕ → Plan) (w : History) (t v : ℕ) : Type 0 where
  pub writes : (k : Key) → written (plan t) k ≢ None → written (plan v) k ≡ None
  pub read_set : (i : ℕ) (k : Key) → written (plan t) k ≢ None → version_read_at (plan v) i k ≡ None
  pub never_read : (i : ℕ) (k : Key) → version_read_at (plan t) i k ≢ Some (Some v)

abbrev pub Middle : (ℕ → Plan) → History → Type 0
Middle plan w = (t v : ℕ) → w.row t ≡ None → w.protocol.accepted t ≡ true → IsPrepared plan w.protocol t → w.row v ≡ Some Committed → w.protocol.point t < w.protocol.point v → AreApart plan w t v

---- what clients are answered

-- Committed was answered to a transaction's COMMIT.
abbrev pub IsAnsweredCommitted : List Labelled → ℕ → Type 0
IsAnsweredCommitted [] t = ⊥
IsAnsweredCommitted (p ∷ past) t = ((answer_of p.event ≡ Some answer.Committed) × (p.ends ≡ Some t)) ⊎ IsAnsweredCommitted past t

-- A prepare that took effect was put over its base: before it there was what its record is rolled back to.
abbrev pub StoodBefore : (ℕ → Plan) → List Place → List StoreContents → ℕ → Key → Type 0
StoodBefore plan places before t k = stored_at places before k ≡ before_record (record_prepared_by plan t k)

---- the order of lists

-- a list turned round
abbrev pub newest_first : {X : Type 0} → List X → List X
newest_first xs = fold (λ newer x. x ∷ newer) [] xs

-- the events with their actions
abbrev pub events_of : List Labelled → List Event
events_of labelled = map (λ p. p.event) labelled

-- A COMMIT was answered, but neither Committed nor Unknown.
abbrev pub IsDenied : List Labelled → ℕ → Type 0
IsDenied [] t = ⊥
IsDenied (p ∷ past) t = ((option_map_or is_denial (answer_of p.event) false ≡ true) × (p.ends ≡ Some t) × ((protocol_state past).accepted t ≡ true)) ⊎ IsDenied past t
