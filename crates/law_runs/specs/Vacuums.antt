-- What a VACUUM does: which tables it scans, and which records it deletes.
use Rattle.std.specs.Prelude.{◌≡◌, ◌⊎◌, ◌<◌, ◌≤◌, ◌+◌, ◌*◌, ◌&&◌, ℕ, Bool, true, if◌then◌else◌, List, ◌++◌, filter, length, map, Option, Some, None, is_some, Contains}
use Rattle.std.specs.List.{count_by, filter_map, sum_by}
use Rattle.law_runs.specs.Types.{Event, Record, Request, Span, Table}
use Rattle.sdb_types.specs.declared.record.Request.TheVariants as ask
use Rattle.sdb_types.specs.declared.record.State.TheVariants as state
use Rattle.sdb_record.specs.Meta.{is_in, is_transactional}
use Rattle.sdb_record.specs.Rolls.{is_tombstone, remove_request}
use Rattle.sdb_model.specs.declared.answer.Answer.TheVariants as answer
use Rattle.sdb_model.specs.Calls.{StoreCall, calls_after, calls_of, is_removal, put_by, records_read}
use Rattle.sdb_model.specs.Causes.{removes}
use Rattle.sdb_model.specs.Counted.{unresolved_in}
use Rattle.sdb_model.specs.Sql.{reads_vacuum}
use Rattle.sdb_model.specs.Transactions.{Executed, statements_by}

-- the whole of each table of a catalog, in its order
abbrev pub whole_tables : List Table → List Span
whole_tables catalog = map (λ t. record { table = t.name; partition = None }) catalog

-- the span that a call scans
abbrev pub span_asked : Request → Option Span
span_asked (ask.Scan span) = Some span
span_asked (ask.Get key) = None
span_asked (ask.PutIf rec condition) = None
span_asked (ask.DeleteIf key condition) = None
span_asked (ask.PutAll batch) = None

-- the spans that calls scan, in order
abbrev pub spans_asked : List StoreCall → List Span
spans_asked calls = filter_map (λ m. span_asked m.request) calls

-- a committed record that is a tombstone
abbrev pub is_committed_tombstone : Record → Bool
is_committed_tombstone r = is_transactional r && is_in state.Committed r.columns && is_tombstone r

-- how many a call found, where it is a scan
abbrev pub tombstones_found : StoreCall → ℕ
tombstones_found m = if is_some (span_asked m.request) then length (filter is_committed_tombstone (records_read m.reply)) else 0

abbrev pub tombstones_in : List StoreCall → ℕ
tombstones_in calls = sum_by tombstones_found calls

-- One scan at most for each table, one delete for each tombstone that the scans found, and five calls for each unresolved record.
abbrev pub IsVacuumMost : List Table → List StoreCall → Type 0
IsVacuumMost catalog calls = length calls ≤ length catalog + (tombstones_in calls + 5 * length (unresolved_in calls))

-- A scan among the calls found a committed tombstone.
pub record FindsTombstone (calls : List StoreCall) (m : StoreCall) (r : Record) : Type 0 where
  pub among : Contains calls m
  pub scans : is_some (span_asked m.request) ≡ true
  pub found : Contains (records_read m.reply) r
  pub dead : is_committed_tombstone r ≡ true

-- A later call asks for the delete of that record, on condition that it is still there.
pub record IsDeletedAfter (calls : List StoreCall) (m : StoreCall) (r : Record) : Type 0 where
  pub delete : StoreCall
  pub later : Contains (calls_after m.at calls) delete
  pub asks : remove_request r ≡ Some delete.request

-- A call among the calls put a record: what an unresolved one was rolled to.
abbrev pub PutsTombstone : List StoreCall → StoreCall → Record → Type 0
PutsTombstone calls m r = Contains calls m × (put_by m.request ≡ Some r)

-- A call asks for the delete of a tombstone that an earlier call of the same VACUUM found, or put.
pub record IsDelete (calls : List StoreCall) (delete : StoreCall) : Type 0 where
  pub call : StoreCall
  pub dead : Record
  pub seen : FindsTombstone calls call dead ⊎ PutsTombstone calls call dead
  pub earlier : call.at < delete.at
  pub tombstone : is_tombstone dead ≡ true
  pub asks : remove_request dead ≡ Some delete.request

-- A VACUUM scans the tables whole, each once, from the first on; it deletes no committed record but tombstones that it found, or put. Where it
-- is answered Count it has scanned all tables and asked for the delete of each tombstone that its scans found; and it counts those applied.
pub record ScansTables (catalog : List Table) (s : Executed) (calls : List StoreCall) : Type 0 where
  pub in_order : (rest : List Span) × (spans_asked calls ++ rest ≡ whole_tables catalog)
  pub most : IsVacuumMost catalog calls
  pub deletes : (m : StoreCall) → Contains calls m → is_removal m.request ≡ true → IsDelete calls m
  pub scans : (n : ℕ) → s.answer ≡ Some (answer.Count n) → spans_asked calls ≡ whole_tables catalog
  pub deleted : (n : ℕ) (m : StoreCall) (r : Record) → s.answer ≡ Some (answer.Count n) → FindsTombstone calls m r → IsDeletedAfter calls m r
  pub counts : (n : ℕ) → s.answer ≡ Some (answer.Count n) → n ≡ count_by removes calls

-- This holds of each VACUUM.
abbrev pub VacuumsAreComplete : List Table → List Event → Type 0
VacuumsAreComplete catalog events = (client : ℕ) (s : Executed) → Contains (statements_by client events) s → reads_vacuum s.text ≡ true → ScansTables catalog s (calls_of events client s)
