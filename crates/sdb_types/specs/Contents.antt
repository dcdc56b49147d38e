-- What a store holds, and what a call answers and leaves.
use Rattle.std.specs.Prelude.{◌≡◌, ℕ, ◌+◌, ◌-◌, ◌^◌, ◌<◌, ◌≤◌, ℤ, pos, Bool, true, false, ◌&&◌, if◌then◌else◌, List, [], ◌∷◌, map, filter, length, slice_get, Option, Some, None, is_none, IfSome, IsSomeAnd, codes, find}
use Rattle.std.specs.Option.{option_map}
use Rattle.std.specs.List.{list_all}
use Rattle.std.specs.Ordering.{is_eq, is_lt}
use Rattle.std.specs.Cmp.Lexicographic.{slice_cmp}
use Rattle.std.specs.FinMap.{FinMap, get, insert, remove, entries}
use Rattle.sdb_types.specs.declared.key.Key.{Key}
use Rattle.sdb_types.specs.declared.key.TableName.{TableName}
use Rattle.sdb_types.specs.declared.pair.Pair.{Pair}
use Rattle.sdb_types.specs.declared.value.Value.{Value}
use Rattle.sdb_types.specs.declared.value.Value.TheVariants as value
use Rattle.sdb_types.specs.Order.{key_cmp, table_cmp, value_cmp, same_key, are_distinct, in_one_partition}
use Rattle.sdb_types.specs.Columns.{column}
use Rattle.sdb_types.specs.declared.txid.TxId.{TxId}
use Rattle.sdb_types.specs.declared.record.Record.{Record}
use Rattle.sdb_types.specs.declared.record.Span.{Span}
use Rattle.sdb_types.specs.declared.record.State.{State}
use Rattle.sdb_types.specs.declared.record.State.TheVariants.{Prepared, Deleted, Committed, Aborted}
use Rattle.sdb_types.specs.declared.record.Condition.{Condition}
use Rattle.sdb_types.specs.declared.record.Condition.TheVariants.{Absent, Version}
use Rattle.sdb_types.specs.declared.record.Put.{Put}
use Rattle.sdb_types.specs.declared.record.Request.{Request}
use Rattle.sdb_types.specs.declared.record.Request.TheVariants as ask
use Rattle.sdb_types.specs.declared.record.Reply.{Reply}
use Rattle.sdb_types.specs.declared.record.Reply.TheVariants as reply
use Rattle.sdb_types.specs.TxId.{id_text}

-- What one store holds: a finite map from a record's key to its columns, so that a key and its record agree.
abbrev pub Contents : Type 0
Contents = FinMap key_cmp (List Pair)

abbrev pub record_of : Key × List Pair → Record
record_of e = record { key = e.0; columns = e.1 }

-- the record at a key, if there is one
abbrev pub record_at : Contents → Key → Option Record
record_at m key = option_map (λ columns. record_of (key, columns)) (get m key)

-- the record of a key among some
abbrev pub record_among : List Record → Key → Option Record
record_among rows key = find (λ r. same_key key r.key) rows

---- spans

abbrev pub is_partition : Option (List Value) → Key → Bool
is_partition None key = true
is_partition (Some part) key = is_eq (slice_cmp value_cmp part key.partition)

-- A key lies in a span: it is of the span's table, and of its partition where the span names one.
abbrev pub in_span : Span → Key → Bool
in_span span key = is_eq (table_cmp span.table key.table) && is_partition span.partition key

-- the records of a span among entries
abbrev pub rows_among : Span → List (Key × List Pair) → List Record
rows_among span es = map record_of (filter (λ e. in_span span e.0) es)

-- the records of a span, in the order of their keys
abbrev pub rows_in : Span → Contents → List Record
rows_in span m = rows_among span (entries m)

---- conditions

-- the number of a state, as `tx_state` has it
abbrev pub state_number : State → ℤ
state_number Prepared = pos 1
state_number Deleted = pos 2
state_number Committed = pos 3
state_number Aborted = pos 4

abbrev pub tx_id : List ℕ
tx_id = codes "tx_id"

abbrev pub tx_state : List ℕ
tx_state = codes "tx_state"

abbrev pub has_value : Option Value → Value → Bool
has_value None v = false
has_value (Some u) v = is_eq (value_cmp u v)

-- A record is the version of a transaction in a state: its `tx_id` is the transaction's text, and its `tx_state` the
-- state's number.
abbrev pub is_version : TxId → State → Record → Bool
is_version id state r =
    has_value (column r.columns tx_id) (value.Text (id_text id.0)) && has_value (column r.columns tx_state) (value.Int (state_number state))

-- The condition holds of what is at a key.
abbrev pub holds : Condition → Option Record → Bool
holds Absent None = true
holds Absent (Some r) = false
holds (Version id state) None = false
holds (Version id state) (Some r) = is_version id state r

---- several puts in one call

abbrev pub put_keys : List Put → List Key
put_keys b = map (λ p. p.rec.key) b

-- the table of the first of some puts, or one without a name where there are none
abbrev pub table_of_puts : List Put → TableName
table_of_puts [] = record { ns = []; table = [] }
table_of_puts (p ∷ ps) = p.rec.key.table

-- A batch that may be put: from 1 to 2^32 - 1 puts, whose keys differ and have one table and one partition.
pub record IsBatch (b : List Put) : Type 0 where
  pub some : 0 < length b
  pub few : length b < 2 ^ 32
  pub once : are_distinct (put_keys b) ≡ true
  pub one : in_one_partition (put_keys b) ≡ true

-- A request that may be made: a batch is one that may be put.
abbrev pub IsWellFormed : Request → Type 0
IsWellFormed (ask.Get key) = Unit {0}
IsWellFormed (ask.Scan span) = Unit {0}
IsWellFormed (ask.PutIf r condition) = Unit {0}
IsWellFormed (ask.DeleteIf key condition) = Unit {0}
IsWellFormed (ask.PutAll b) = IsBatch b

-- the condition of a put holds of what is at its key
abbrev pub is_met_by : Contents → Put → Bool
is_met_by m p = holds p.condition (record_at m p.rec.key)

-- the place of the first put whose condition fails, counted on from n, and what is at its key
abbrev pub unmet_from : ℕ → List Put → Contents → Option (ℕ × Option Record)
unmet_from n [] m = None
unmet_from n (p ∷ ps) m = if is_met_by m p then unmet_from (n + 1) ps m else Some (n, record_at m p.rec.key)

-- the contents with all records put
abbrev pub all_put : List Put → Contents → Contents
all_put [] m = m
all_put (p ∷ ps) m = all_put ps (insert m p.rec.key p.rec.columns)

-- What puts whose keys differ leave at a key: the record of the put of that key, or what was there.
abbrev pub left_at : List Put → Key → Option Record → Option Record
left_at [] q old = old
left_at (p ∷ ps) q old = if same_key q p.rec.key then Some p.rec else left_at ps q old

---- apply

abbrev pub put_reply : Condition → Option Record → Reply
put_reply condition found = if holds condition found then reply.Applied else reply.NotMet found

-- the reply to a batch, by the place of the first put whose condition fails, from 1, and what is at its key
abbrev pub batch_reply : Option (ℕ × Option Record) → Reply
batch_reply None = reply.Applied
batch_reply (Some first) = reply.NotAll first.0 first.1

-- the reply to a request
abbrev pub reply_to : Request → Contents → Reply
reply_to (ask.Get key) m = reply.Found (record_at m key)
reply_to (ask.Scan span) m = reply.Rows (rows_in span m)
reply_to (ask.PutIf r condition) m = put_reply condition (record_at m r.key)
reply_to (ask.DeleteIf key condition) m = put_reply condition (record_at m key)
reply_to (ask.PutAll b) m = batch_reply (unmet_from 1 b m)

-- the contents that it leaves
abbrev pub after : Request → Contents → Contents
after (ask.Get key) m = m
after (ask.Scan span) m = m
after (ask.PutIf r condition) m = if holds condition (record_at m r.key) then insert m r.key r.columns else m
after (ask.DeleteIf key condition) m = if holds condition (record_at m key) then remove m key else m
after (ask.PutAll b) m = if is_none (unmet_from 1 b m) then all_put b m else m

-- One request on what a store holds: its reply, and what the store then holds. A get finds the record or none, a scan
-- gives the span's records in the order of their keys. A put or a delete is applied and changes its key alone where its
-- condition holds of the record there, and otherwise is not met, with that record, and changes nothing. A batch is applied
-- and puts all its records, and changes no other key, where each condition holds. Otherwise its reply has the place of the
-- first put whose condition fails, with the record at its key, and it changes nothing.
abbrev pub apply : Request → Contents → Reply × Contents
apply q m = (reply_to q m, after q m)

---- what any store may answer, whether or not its contents are known

abbrev pub starts_after : Key → List Record → Bool
starts_after key [] = true
starts_after key (r ∷ rs) = is_lt (key_cmp key r.key)

-- the keys rise strictly
abbrev pub rise : List Record → Bool
rise [] = true
rise (r ∷ rs) = starts_after r.key rs && rise rs

-- the rows rise strictly by key, inside the span
abbrev pub are_rows_of : Span → List Record → Bool
are_rows_of span rs = rise rs && list_all (λ r. in_span span r.key) rs

-- what was not met: a record of that key, or none, of which the condition fails
abbrev pub IsUnmet : Condition → Key → Option Record → Type 0
IsUnmet condition key found = IfSome found (λ r. r.key ≡ key) × (holds condition found ≡ false)

-- The call that makes puts: one alone by itself, and else all at once.
abbrev pub sent : List Put → Request
sent [] = ask.PutAll []
sent (p ∷ []) = ask.PutIf p.rec p.condition
sent (p ∷ q ∷ ps) = ask.PutAll (p ∷ q ∷ ps)

-- the put of a place, counted from 1
abbrev pub put_at : List Put → ℕ → Option Put
put_at b k = slice_get b (k - 1)

-- the same of the put of a place, counted from 1
abbrev pub IsUnmetAt : List Put → ℕ → Option Record → Type 0
IsUnmetAt b k found = (1 ≤ k) × IsSomeAnd (put_at b k) (λ p. IsUnmet p.condition p.rec.key found)

-- A reply that a request can get, from any store. A record found has the key asked for; rows rise strictly by key
-- inside the span; the condition fails of what a refused write is answered with, and of a batch that of the place is the one
-- that fails.
abbrev pub CanAnswer : Request → Reply → Type 0
CanAnswer q reply.Fault = Unit {0}
CanAnswer q reply.NoMemory = Unit {0}
CanAnswer (ask.Get key) (reply.Found found) = IfSome found (λ r. r.key ≡ key)
CanAnswer (ask.Scan span) (reply.Rows rows) = are_rows_of span rows ≡ true
CanAnswer (ask.PutIf r condition) reply.Applied = Unit {0}
CanAnswer (ask.PutIf r condition) (reply.NotMet found) = IsUnmet condition r.key found
CanAnswer (ask.DeleteIf key condition) reply.Applied = Unit {0}
CanAnswer (ask.DeleteIf key condition) (reply.NotMet found) = IsUnmet condition key found
CanAnswer (ask.PutAll b) reply.Applied = Unit {0}
CanAnswer (ask.PutAll b) (reply.NotAll k found) = IsUnmetAt b k found
CanAnswer (ask.Get key) _ = ⊥
CanAnswer (ask.Scan span) _ = ⊥
CanAnswer (ask.PutIf r condition) _ = ⊥
CanAnswer (ask.DeleteIf key condition) _ = ⊥
CanAnswer (ask.PutAll b) _ = ⊥
