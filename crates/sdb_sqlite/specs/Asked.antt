-- What the statements of each call are asked, and what comes of their answers.
use Rattle.std.specs.Prelude.{◌≡◌, ◌⊎◌, ℕ, ◌+◌, true, false, if◌then◌else◌, List, [], ◌∷◌, Option, Some, None, Result, Ok, Err, Vec, MatchResult}
use Rattle.std.specs.List.Sorted.{IsPermutation}
use Rattle.sdb_sqlite.specs.Types.{Condition, Error, Global, Key, Put, Record, Reply, Span, TableName}
use Rattle.sqlite.specs.declared.types.Value.TheVariants.{Text, Blob}
use Rattle.sqlite.specs.declared.rows.Row as row
use Rattle.sqlite.specs.Order.{Row, column}
use Rattle.sqlite.specs.Store.{Ghosts}
use Rattle.sqlite.specs.Held.{Held as Connected, state}
use Rattle.sqlite.specs.State.{HasCleanDisk, Shown, FailsToQuery, Executes}
use Rattle.sdb_types.specs.declared.value.Value.{Value as Cell}
use Rattle.sdb_types.specs.declared.record.Reply.TheVariants as reply
use Rattle.sdb_types.specs.Order.{table_text}
use Rattle.sdb_types.specs.Contents.{holds, in_span, rise}
use Rattle.sdb_codec.specs.Spelling.{key_bytes, record_bytes, KeyIsEncodable, RecordIsEncodable}
use Rattle.sdb_codec.specs.Reading.{key_in}
use Rattle.sdb_sqlite.specs.declared.calls.Written.{Written}
use Rattle.sdb_sqlite.specs.declared.calls.Written.TheVariants.{Applied, NotMet}
use Rattle.sdb_sqlite.specs.declared.batch.BatchWritten.{BatchWritten}
use Rattle.sdb_sqlite.specs.declared.batch.BatchWritten.TheVariants.{AllWritten, FirstUnmet}
use Rattle.sdb_sqlite.specs.declared.refused.Stopped.{Stopped}
use Rattle.sdb_sqlite.specs.declared.refused.Stopped.TheVariants as stopped
use Rattle.sdb_sqlite.specs.Stopping.{stopped_by, stop_reply}
use Rattle.sdb_sqlite.specs.Spans.{partition_key, SpanIsEncodable}
use Rattle.sdb_sqlite.specs.Rows.{blob_of, record_of_body}
use Rattle.sdb_sqlite.specs.Statements.{get_body, scan_table, scan_partition, add_row, change_row, remove_row, begin, commit, roll_back}

-- The query was asked with these parameters and answered so, where the disk returned what was written; nothing else was asked
-- between.
pub record Asked {S : Type 0} (g : Ghosts S) (text : List ℕ) (params : Row) (old new : Connected S) (answer : Result (List Row) Error) : Type 0 where
  pub reported : HasCleanDisk (state g new) → MatchResult answer (Shown text params (state g old) (state g new)) (FailsToQuery text params (state g old) (state g new))
  pub limit : new.step_limit ≡ old.step_limit

-- the same of a statement that writes
pub record Ran {S : Type 0} (g : Ghosts S) (text : List ℕ) (params : Row) (old new : Connected S) (answer : Result ℕ Error) : Type 0 where
  pub runs : HasCleanDisk (state g new) → Executes text params (state g old) (state g new) answer
  pub limit : new.step_limit ≡ old.step_limit

abbrev pub rows_of : Result (Vec row.Row Global) Error → Result (List Row) Error
rows_of (Ok rows) = Ok rows.items
rows_of (Err e) = Err e

-- what is due, unless memory runs out
abbrev pub IsDue : {X : Type 0} → Result X Stopped → Result X Stopped → Type 0
IsDue due result = (result ≡ due) ⊎ (result ≡ Err stopped.NoMemory)

-- nothing was asked, since memory ran out before
abbrev pub IsOutOfMemory : {S X : Type 0} → Connected S → Connected S → Result X Stopped → Type 0
IsOutOfMemory old new result = (new ≡ old) × (result ≡ Err stopped.NoMemory)

-- nothing was asked, since something does not fit its field
abbrev pub IsUnfit : {S X : Type 0} → Type 0 → Connected S → Connected S → Result X Stopped → Type 0
IsUnfit Fits old new result = (¬ Fits) × (new ≡ old) × (result ≡ Err stopped.Unfit)

---- a get

abbrev pub found_as : Key → Option (List ℕ) → Result (Option Record) Stopped
found_as key None = Err stopped.Refused
found_as key (Some body) = Ok (Some (record_of_body key body))

abbrev pub found_in : Key → List Row → Result (Option Record) Stopped
found_in key [] = Ok None
found_in key (row ∷ rows) = found_as key (blob_of (column row 0))

-- what a get finds, by the answer of its query
abbrev pub found_by : Key → Result (List Row) Error → Result (Option Record) Stopped
found_by key (Ok rows) = found_in key rows
found_by key (Err e) = Err (stopped_by e)

pub record IsGot {S : Type 0} (g : Ghosts S) (key : Key) (old new : Connected S) (result : Result (Option Record) Stopped) : Type 0 where
  pub answer : Result (List Row) Error
  pub asked : Asked g get_body (Blob (key_bytes key) ∷ []) old new answer
  pub due : IsDue (found_by key answer) result

-- A get of a key asks for the body of its row.
abbrev pub Gets : {S : Type 0} → Ghosts S → Key → Connected S → Connected S → Result (Option Record) Stopped → Type 0
Gets g key old new result = IsUnfit (KeyIsEncodable key) old new result ⊎ (KeyIsEncodable key × (IsOutOfMemory old new result ⊎ IsGot g key old new result))

---- a scan

abbrev pub span_text : Option (List Cell) → List ℕ
span_text None = scan_table
span_text (Some partition) = scan_partition

abbrev pub span_params : TableName → Option (List Cell) → Row
span_params table None = Text (table_text table) ∷ []
span_params table (Some partition) = Text (table_text table) ∷ Blob (key_bytes (partition_key table partition)) ∷ []

abbrev pub row_body : Key → Option (List ℕ) → Result Record Stopped
row_body key None = Err stopped.Refused
row_body key (Some body) = Ok (record_of_body key body)

-- a key that its bytes don't spell is a fault, and also one outside the span
abbrev pub row_keyed : Span → Result Key ℕ → Option (List ℕ) → Result Record Stopped
row_keyed span (Ok key) body = if in_span span key then row_body key body else Err stopped.Foreign
row_keyed span (Err place) body = Err stopped.Foreign

abbrev pub row_spelled : Span → Option (List ℕ) → Option (List ℕ) → Result Record Stopped
row_spelled span None body = Err stopped.Refused
row_spelled span (Some k) body = row_keyed span (key_in k) body

-- the record that a row of a scan's answer gives
abbrev pub row_record : Span → Row → Result Record Stopped
row_record span row = row_spelled span (blob_of (column row 0)) (blob_of (column row 1))

abbrev pub before : Record → Result (List Record) Stopped → Result (List Record) Stopped
before r (Ok rs) = Ok (r ∷ rs)
before r (Err s) = Err s

abbrev pub then_records : Result Record Stopped → Result (List Record) Stopped → Result (List Record) Stopped
then_records (Ok r) others = before r others
then_records (Err s) others = Err s

-- the records that the rows give, each row one, or the first that gives none
abbrev pub rows_records : Span → List Row → Result (List Record) Stopped
rows_records span [] = Ok []
rows_records span (row ∷ rows) = then_records (row_record span row) (rows_records span rows)

-- The records that the rows give, in the order of their keys, of which no two are the same.
abbrev pub IsInOrder : List Record → Result (List Record) Stopped → Type 0
IsInOrder all (Ok rows) = IsPermutation all rows × (rise rows ≡ true)
IsInOrder all (Err s) = (s ≡ stopped.NoMemory) ⊎ ((s ≡ stopped.Tied) × (sorted : List Record) × IsPermutation all sorted × (rise sorted ≡ false))

abbrev pub IsListedBy : Result (List Record) Stopped → Result (List Record) Stopped → Type 0
IsListedBy (Ok all) result = IsInOrder all result
IsListedBy (Err s) result = IsDue (Err s) result

-- what a scan lists of the rows of an answer
abbrev pub IsListedIn : Span → List Row → Result (List Record) Stopped → Type 0
IsListedIn span rows result = (result ≡ Err stopped.NoMemory) ⊎ IsListedBy (rows_records span rows) result

-- what a scan lists, by the answer of its query
abbrev pub IsListed : Span → Result (List Row) Error → Result (List Record) Stopped → Type 0
IsListed span (Ok rows) result = IsListedIn span rows result
IsListed span (Err e) result = IsDue (Err (stopped_by e)) result

pub record IsScanned {S : Type 0} (g : Ghosts S) (span : Span) (old new : Connected S) (result : Result (List Record) Stopped) : Type 0 where
  pub answer : Result (List Row) Error
  pub asked : Asked g (span_text span.partition) (span_params span.table span.partition) old new answer
  pub listed : IsListed span answer result

-- A scan of a span asks for the keys and bodies of the rows of its table, or of its partition.
abbrev pub Scans : {S : Type 0} → Ghosts S → Span → Connected S → Connected S → Result (List Record) Stopped → Type 0
Scans g span old new result = IsUnfit (SpanIsEncodable span) old new result ⊎ (IsOutOfMemory old new result ⊎ (SpanIsEncodable span × IsScanned g span old new result))

---- a put and a delete

abbrev pub written_by : Result ℕ Error → Result Written Stopped
written_by (Ok count) = Ok Applied
written_by (Err e) = Err (stopped_by e)

-- one statement that writes
pub record IsWritten {S : Type 0} (g : Ghosts S) (text : List ℕ) (params : Row) (old new : Connected S) (result : Result Written Stopped) : Type 0 where
  pub answer : Result ℕ Error
  pub ran : Ran g text params old new answer
  pub due : result ≡ written_by answer

-- one statement that writes, or none since memory ran out before
abbrev pub Writes : {S : Type 0} → Ghosts S → List ℕ → Row → Connected S → Connected S → Result Written Stopped → Type 0
Writes g text params old new result = IsOutOfMemory old new result ⊎ IsWritten g text params old new result

abbrev pub put_text : Option Record → List ℕ
put_text None = add_row
put_text (Some there) = change_row

abbrev pub put_params : Record → Option Record → Row
put_params r None = Blob (key_bytes r.key) ∷ Text (table_text r.key.table) ∷ Blob (key_bytes (partition_key r.key.table r.key.partition)) ∷ Blob (record_bytes r) ∷ []
put_params r (Some there) = Blob (key_bytes r.key) ∷ Blob (record_bytes r) ∷ []

abbrev pub IsUnmetBy : {S : Type 0} → Condition → Option Record → Connected S → Connected S → Result Written Stopped → Type 0
IsUnmetBy condition found old new result = (holds condition found ≡ false) × (new ≡ old) × (result ≡ Ok (NotMet found))

-- a put, after what is at its key was found
abbrev pub PutsOver : {S : Type 0} → Ghosts S → Record → Condition → Connected S → Connected S → Result Written Stopped → Option Record → Type 0
PutsOver g r condition old new result found =
    IsUnmetBy condition found old new result ⊎ ((holds condition found ≡ true) × Writes g (put_text found) (put_params r found) old new result)

-- a delete, after what is at its key was found: nothing is asked where nothing is there
abbrev pub RemovesThere : {S : Type 0} → Ghosts S → Key → Connected S → Connected S → Result Written Stopped → Option Record → Type 0
RemovesThere g key old new result None = (new ≡ old) × (result ≡ Ok Applied)
RemovesThere g key old new result (Some there) = IsWritten g remove_row (Blob (key_bytes key) ∷ []) old new result

abbrev pub RemovesOver : {S : Type 0} → Ghosts S → Key → Condition → Connected S → Connected S → Result Written Stopped → Option Record → Type 0
RemovesOver g key condition old new result found = IsUnmetBy condition found old new result ⊎ ((holds condition found ≡ true) × RemovesThere g key old new result found)

-- what follows a get inside of a put or a delete
abbrev pub Follows : {S : Type 0} → Connected S → Connected S → Result Written Stopped → (Option Record → Type 0) → Result (Option Record) Stopped → Type 0
Follows mid new result Next (Ok found) = Next found
Follows mid new result Next (Err s) = (new ≡ mid) × (result ≡ Err s)

pub record IsPut {S : Type 0} (g : Ghosts S) (r : Record) (condition : Condition) (old new : Connected S) (result : Result Written Stopped) : Type 0 where
  pub mid : Connected S
  pub found : Result (Option Record) Stopped
  pub got : IsGot g r.key old mid found
  pub next : Follows mid new result (PutsOver g r condition mid new result) found

pub record IsRemoved {S : Type 0} (g : Ghosts S) (key : Key) (condition : Condition) (old new : Connected S) (result : Result Written Stopped) : Type 0 where
  pub mid : Connected S
  pub found : Result (Option Record) Stopped
  pub got : IsGot g key old mid found
  pub next : Follows mid new result (RemovesOver g key condition mid new result) found

-- A put finds what is at its key, and writes in one statement where the condition holds of it.
abbrev pub Puts : {S : Type 0} → Ghosts S → Record → Condition → Connected S → Connected S → Result Written Stopped → Type 0
Puts g r condition old new result = IsUnfit (RecordIsEncodable r) old new result ⊎ (RecordIsEncodable r × (IsOutOfMemory old new result ⊎ IsPut g r condition old new result))

-- The same of a delete.
abbrev pub Removes : {S : Type 0} → Ghosts S → Key → Condition → Connected S → Connected S → Result Written Stopped → Type 0
Removes g key condition old new result = IsUnfit (KeyIsEncodable key) old new result ⊎ (KeyIsEncodable key × (IsOutOfMemory old new result ⊎ IsRemoved g key condition old new result))

---- a batch

-- what follows a put of a batch: the other puts, where it is applied
abbrev pub Continues : {S : Type 0} → ℕ → Connected S → Connected S → Result BatchWritten Stopped → Type 0 → Result Written Stopped → Type 0
Continues n mid new result More (Ok Applied) = More
Continues n mid new result More (Ok (NotMet found)) = (new ≡ mid) × (result ≡ Ok (FirstUnmet n found))
Continues n mid new result More (Err s) = (new ≡ mid) × (result ≡ Err s)

-- The puts are made one after another, up to the first that is not applied; the first of them has the place n.
abbrev pub PutsEach : {S : Type 0} → Ghosts S → ℕ → List Put → Connected S → Connected S → Result BatchWritten Stopped → Type 0
PutsEach g n [] old new result = (new ≡ old) × (result ≡ Ok AllWritten)
PutsEach {S} g n (p ∷ ps) old new result =
    (mid : Connected S) × (one : Result Written Stopped) × Puts g p.rec p.condition old mid one × Continues n mid new result (PutsEach g (n + 1) ps mid new result) one

-- a transaction is rolled back, whatever comes of that
abbrev pub RollsBack : {S : Type 0} → Ghosts S → Connected S → Connected S → Type 0
RollsBack g old new = (answer : Result ℕ Error) × Ran g roll_back [] old new answer

-- a transaction is committed, and rolled back where that is refused
abbrev pub Commits : {S : Type 0} → Ghosts S → Connected S → Connected S → Result BatchWritten Stopped → Type 0
Commits {S} g old new result =
    ((count : ℕ) × Ran g commit [] old new (Ok count) × (result ≡ Ok AllWritten))
    ⊎ ((e : Error) × (mid : Connected S) × Ran g commit [] old mid (Err e) × RollsBack g mid new × (result ≡ Err (stopped_by e)))

-- how the transaction of a batch ends, by what became of the puts
abbrev pub Ends : {S : Type 0} → Ghosts S → Connected S → Connected S → Result BatchWritten Stopped → Result BatchWritten Stopped → Type 0
Ends g old new result (Ok AllWritten) = Commits g old new result
Ends g old new result (Ok (FirstUnmet k found)) = RollsBack g old new × (result ≡ Ok (FirstUnmet k found))
Ends g old new result (Err s) = RollsBack g old new × (result ≡ Err s)

pub record IsBatchPut {S : Type 0} (g : Ghosts S) (b : List Put) (old new : Connected S) (result : Result BatchWritten Stopped) : Type 0 where
  pub count : ℕ
  pub begun : Connected S
  pub begins : Ran g begin [] old begun (Ok count)
  pub last : Connected S
  pub written : Result BatchWritten Stopped
  pub puts : PutsEach g 1 b begun last written
  pub ends : Ends g last new result written

-- A batch is put in one transaction, which is committed where each put is applied, and otherwise rolled back.
abbrev pub PutsAll : {S : Type 0} → Ghosts S → List Put → Connected S → Connected S → Result BatchWritten Stopped → Type 0
PutsAll g b old new result = ((e : Error) × Ran g begin [] old new (Err e) × (result ≡ Err (stopped_by e))) ⊎ IsBatchPut g b old new result

---- the reply of a call

abbrev pub got_reply : Result (Option Record) Stopped → Reply
got_reply (Ok found) = reply.Found found
got_reply (Err s) = stop_reply s

abbrev pub rows_reply : Result (List Record) Stopped → Reply
rows_reply (Ok rows) = reply.Rows rows
rows_reply (Err s) = stop_reply s

abbrev pub write_reply : Result Written Stopped → Reply
write_reply (Ok Applied) = reply.Applied
write_reply (Ok (NotMet found)) = reply.NotMet found
write_reply (Err s) = stop_reply s

abbrev pub batch_reply : Result BatchWritten Stopped → Reply
batch_reply (Ok AllWritten) = reply.Applied
batch_reply (Ok (FirstUnmet k found)) = reply.NotAll k found
batch_reply (Err s) = stop_reply s

-- what became of a call is that, and the reply is the one to that
abbrev pub IsAnswered : {X : Type 0} → (X → Reply) → (X → Type 0) → Reply → Type 0
IsAnswered {X} reply_to Is reply = (result : X) × Is result × (reply ≡ reply_to result)
