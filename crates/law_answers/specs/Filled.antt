-- How many keys an open transaction has written, and how many records it has read: no more than its statements counted and found.
use Rattle.std.specs.Prelude.{ℕ, ◌≤◌, List, filter, length, sum_by, is_some}
use Rattle.std.specs.List.{count_by}
use Rattle.law_answers.specs.Types.{Doing, Event}
use Rattle.sdb_model.specs.Calls.{calls_of}
use Rattle.sdb_model.specs.Causes.{records_found, rows_counted}
use Rattle.sdb_model.specs.ReadSet.{has_read}
use Rattle.sdb_model.specs.Transactions.{Executed, is_effective}
use Rattle.sdb_snapshot.specs.Reads.{ReadRecord}
use Rattle.sdb_snapshot.specs.Seen.{Seen}
use Rattle.sdb_txn.specs.declared.txn.Doing.TheVariants as doing
use Rattle.sdb_txn.specs.Txn.{TxnAt}

-- how many rows the statements of a transaction's body counted
abbrev pub rows_counted_by : List Executed → ℕ
rows_counted_by body = sum_by (λ b. rows_counted b.answer) (filter is_effective body)

-- how many records the calls of those whose reads have finished found
abbrev pub records_found_by : List Event → ℕ → List Executed → ℕ
records_found_by events c body = sum_by (λ b. records_found (calls_of events c b)) (filter (has_read events c) body)

-- at how many of the keys that were read there was a record
abbrev pub records_read_in : List ReadRecord → ℕ
records_read_in read_set = count_by (λ n. is_some n.1) read_set

-- No more keys are written than rows counted, and no more records read than found.
pub record IsFilledBy (counted found : ℕ) (s : Seen) : Type 0 where
  pub writes : length s.writes ≤ counted
  pub read_set : records_read_in s.read_set ≤ found

-- This holds of a transaction whose COMMIT is not accepted yet.
abbrev pub IsFilledIn : List Event → ℕ → List Executed → Seen → Doing → Type 0
IsFilledIn events c body s (doing.Commit k) = Unit {0}
IsFilledIn events c body s d = IsFilledBy (rows_counted_by body) (records_found_by events c body) s

abbrev pub IsFilled : List Event → ℕ → List Executed → TxnAt → Type 0
IsFilled events c body t = IsFilledIn events c body t.seen t.doing
