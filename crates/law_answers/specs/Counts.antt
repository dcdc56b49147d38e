-- How many calls a statement has made: against the unresolved records that its reads found, or against what a COMMIT is to make.
use Rattle.std.specs.Prelude.{◌≡◌, ◌≢◌, ◌≤◌, ◌<◌, ◌+◌, ◌*◌, ℕ, Bool, true, false, List, [], ◌∷◌, ◌++◌, filter, length, map, take, Option, Some, None, IfSome, Contains}
use Rattle.std.specs.List.{AllByRecursion, count_by}
use Rattle.law_answers.specs.Types.{Answer, DecidePhase, Doing, Event, Key, Read, Record, Scan, Table, TxId}
use Rattle.sdb_record.specs.Meta.{is_unresolved}
use Rattle.sdb_record.specs.Rolls.{IsWrite}
use Rattle.sdb_model.specs.declared.answer.Answer.TheVariants as answer
use Rattle.sdb_model.specs.Calls.{StoreCall, calls_of}
use Rattle.sdb_model.specs.Follows.{is_open_after}
use Rattle.sdb_model.specs.Counted.{IsReadCounted, IsVacuumCounted, is_checked_get, is_scan, is_seen, prepares_in, puts_prepared, removals_in, unresolved_in}
use Rattle.sdb_model.specs.ReadSet.{KeyRead, ReadItem, SpanRead, read_set_of}
use Rattle.sdb_model.specs.Sql.{reads_commit, reads_vacuum}
use Rattle.sdb_model.specs.Transactions.{Executed, begins, client_of, commit_of, ends, from_begin, id_of, rest_of, statements_by}
use Rattle.sdb_phases.specs.declared.step.DecidePhase.TheVariants as decide
use Rattle.sdb_phases.specs.declared.step.Outcome.TheVariants as outcome
use Rattle.law_answers.specs.Commits.{PutsOutOfMemory}
use Rattle.sdb_phases.specs.RecoverCalls.{calls_left}
use Rattle.sdb_phases.specs.Checks.{checks}
use Rattle.sdb_phases.specs.Commit.{Back, Checking, Deciding, Forward, Over, Preparing, Stage, Stopping}
use Rattle.sdb_phases.specs.Work.{Work, groups_of, prepares}
use Rattle.sdb_txn.specs.Read.{Asking, Ended, ReadStage, Resolving}
use Rattle.sdb_snapshot.specs.Seen.{Seen}
use Rattle.sdb_txn.specs.declared.txn.Doing.TheVariants as doing
use Rattle.sdb_txn.specs.Txn.{TxnAt}
use Rattle.sdb_vacuum.specs.Vacuum as vacuum
use Rattle.sdb_vacuum.specs.Vacuum.{VacuumAt, VacuumStage}
use Rattle.sdb_client.specs.Client.{ClientAt}
use Rattle.law_answers.specs.Changes.{read_items_of_body}
use Rattle.sdb_types.specs.Replies.{is_fault}

---- a statement that reads

-- how many of some records are unresolved
abbrev pub opens : List Record → ℕ
opens rows = length (filter is_unresolved rows)

-- It has made no call before its read, and then leaves four calls for each unresolved record that is left.
abbrev pub ReadCounted : List StoreCall → ReadStage → Type 0
ReadCounted calls Asking = calls ≡ []
ReadCounted calls (Resolving images rec meta p left) = length calls + (calls_left p + 4 * opens left) ≤ 1 + 4 * length (unresolved_in calls)
ReadCounted calls (Ended s) = IsReadCounted calls

---- VACUUM

-- How many calls, but deletes of tombstones, it makes at most from here on before it scans the next table.
abbrev pub rest_of_table : VacuumStage → ℕ
rest_of_table (vacuum.Scanning span) = 1
rest_of_table (vacuum.Resolving rec meta p left) = calls_left p + 5 * opens left
rest_of_table (vacuum.Removing b left) = 5 * opens left
rest_of_table vacuum.Over = 0

abbrev pub VacuumIsCounted : List Table → List StoreCall → VacuumAt → Type 0
VacuumIsCounted catalog calls v = length calls + (length v.spans + rest_of_table v.stage) ≤ length catalog + (removals_in calls + 5 * length (unresolved_in calls))

---- COMMIT

-- the keys that were recorded by gets
abbrev pub keys_got : List ReadItem → List Key
keys_got [] = []
keys_got (KeyRead r ∷ ns) = r.key ∷ keys_got ns
keys_got (SpanRead x ∷ ns) = keys_got ns

-- What was recorded is of the keys that a transaction read by gets, each once and in order, and of as many scans.
pub record ReadItemsAre (read_set : List ReadItem) (rs : List Read) (xs : List Scan) : Type 0 where
  pub reads : keys_got read_set ≡ map (λ r. r.key) rs
  pub scans : count_by is_scan read_set ≡ length xs

-- The checks that it is to make by what its transaction has read: one for each get of the read set of a key that isn't prepared, and one
-- for each scan of the read set.
abbrev pub checks_by : List ReadItem → TxId → List StoreCall → ℕ
checks_by read_set id calls = count_by (is_checked_get (prepares_in id calls)) read_set + count_by is_scan read_set

-- What its calls are to come to, but for the call that decides, where none faulted: two for each group that was prepared, and the checks.
abbrev pub wanted_by : List ReadItem → TxId → List StoreCall → ℕ
wanted_by read_set id calls = 2 * length (prepares_in id calls) + checks_by read_set id calls

-- What they come to at most, but for four: one for each prepare, one for each record that was prepared, and the checks.
abbrev pub allowed_by : List ReadItem → TxId → List StoreCall → ℕ
allowed_by read_set id calls = length (prepares_in id calls) + (puts_prepared id calls + checks_by read_set id calls)

abbrev pub NoneFaulted : List StoreCall → Type 0
NoneFaulted calls = AllByRecursion (λ m. is_fault m.reply ≡ false) calls

-- One that was answered Committed, none of whose calls faulted, made one call more than it is to make, and any other at most four more than
-- it is to make at most. One that
-- is answered that it was out of memory put its row COMMITTED only where that put was out of memory.
pub record CommitIsCounted (read_set : List ReadItem) (id : TxId) (given : Option Answer) (calls : List StoreCall) : Type 0 where
  pub exact : given ≡ Some answer.Committed → NoneFaulted calls → length calls ≡ wanted_by read_set id calls + 1
  pub most : length calls ≤ allowed_by read_set id calls + 4
  pub starved : given ≡ Some answer.NoMemory → PutsOutOfMemory id calls

-- so many of the groups were prepared, from the first
abbrev pub HasPut : Work → ℕ → List StoreCall → Type 0
HasPut p i calls = map (λ m. m.request) (prepares_in p.id calls) ≡ take i (prepares p)

-- all were
abbrev pub AllPut : Work → List StoreCall → Type 0
AllPut p calls = map (λ m. m.request) (prepares_in p.id calls) ≡ prepares p

-- a prepare for each group, each check, and so many calls more
abbrev pub later_by : Work → ℕ → ℕ
later_by p n = groups_of p + length (checks p) + n

-- how many calls of the decision were made
abbrev pub decides : DecidePhase → ℕ
decides decide.Put = 0
decides decide.Look = 1
decides decide.Abort = 2
decides decide.Again = 3
decides decide.Ended = 0

-- How many calls it has made, by where it is.
abbrev pub CommitCounted : List ReadItem → Work → List StoreCall → Stage → Type 0
CommitCounted read_set p calls (Preparing i) = (length calls ≡ i) × (length (prepares_in p.id calls) ≡ i) × HasPut p i calls
CommitCounted read_set p calls (Checking i) = AllPut p calls × (i < length (checks p)) × (length calls ≡ groups_of p + i)
CommitCounted read_set p calls (Deciding d) = AllPut p calls × (length calls ≡ later_by p (decides d)) × (NoneFaulted calls → decides d ≡ 0)
CommitCounted read_set p calls (Forward i) = AllPut p calls × (i < groups_of p) × (length calls ≤ later_by p 4 + i) × (NoneFaulted calls → length calls ≡ later_by p 1 + i)
CommitCounted read_set p calls (Stopping a n) = (a ≢ outcome.Committed) × (length calls + (1 + n) ≤ allowed_by read_set p.id calls + 4)
CommitCounted read_set p calls (Back a n i) = (i < n) × (a ≢ outcome.Committed) × (length calls + n ≤ allowed_by read_set p.id calls + 4 + i)
CommitCounted read_set p calls (Over a) = (length calls ≤ allowed_by read_set p.id calls + 4) × (a ≡ outcome.Committed → NoneFaulted calls → length calls ≡ wanted_by read_set p.id calls + 1)

---- statements

-- What the text of a statement that is no COMMIT says of how many calls it makes.
pub record IsCountedBy (catalog : List Table) (text : List ℕ) (calls : List StoreCall) : Type 0 where
  pub reads : reads_commit text ≡ false → reads_vacuum text ≡ false → IsReadCounted calls
  pub vacuums : reads_vacuum text ≡ true → IsVacuumCounted catalog calls

-- what the statements since the BEGIN of a transaction have read
abbrev pub read_items_since : List Event → ℕ → ℕ → List Executed → List ReadItem
read_items_since events c n answered = read_items_of_body events c (rest_of (from_begin n answered))

-- what an open transaction has read, by what it does
abbrev pub ReadByDoing : List ReadItem → Seen → Doing → Type 0
ReadByDoing read_set s (doing.Commit k) = ReadItemsAre read_set k.work.reads k.work.scans
ReadByDoing read_set s d = ReadItemsAre read_set s.reads s.scans

abbrev pub ReadByTxn : List ReadItem → Option TxnAt → Type 0
ReadByTxn read_set None = Unit {0}
ReadByTxn read_set (Some t) = ReadByDoing read_set t.seen t.doing

-- Of a statement that waits, by what the client does.
abbrev pub DoingCounted : List ℕ → TxId → List ReadItem → List StoreCall → Doing → Type 0
DoingCounted text id read_set calls (doing.Read a x) = (reads_commit text ≡ false) × ReadCounted calls x.stage
DoingCounted text id read_set calls (doing.Commit k) = (reads_commit text ≡ true) × (k.work.id ≡ id) × AllByRecursion IsWrite k.work.writes × CommitCounted read_set k.work calls k.stage
DoingCounted text id read_set calls doing.Idle = ⊥
DoingCounted text id read_set calls doing.Over = ⊥

abbrev pub OpenCounted : List ℕ → TxId → List ReadItem → List StoreCall → Option TxnAt → Type 0
OpenCounted text id read_set calls None = ⊥
OpenCounted text id read_set calls (Some t) = DoingCounted text id read_set calls t.doing

abbrev pub WaitCounted : List Table → List ℕ → TxId → List ReadItem → List StoreCall → Option VacuumAt → Option TxnAt → Type 0
WaitCounted catalog text id read_set calls None o = OpenCounted text id read_set calls o
WaitCounted catalog text id read_set calls (Some v) o = VacuumIsCounted catalog calls v

-- Each BEGIN that was answered Done was accepted where no transaction was open.
abbrev pub ArePaired : Bool → List Executed → Type 0
ArePaired was [] = Unit {0}
ArePaired was (s ∷ ss) = (begins s ≡ true → was ≡ false) × ArePaired (is_open_after was s) ss

-- each COMMIT that ended a transaction fits what that has read
abbrev pub CommitsAreCounted : List Event → ℕ → List Executed → Type 0
CommitsAreCounted events c answered = (n : ℕ) (begin : Executed) (body : List Executed) (s : Executed) (tail : List Executed) → from_begin n answered ≡ begin ∷ (body ++ s ∷ tail) → AllByRecursion (λ x. ends x ≡ false) body → reads_commit s.text ≡ true → CommitIsCounted (read_items_of_body events c body) (id_of c n) s.answer (calls_of events c s)

-- The calls of the statements that were answered, and of the one that waits.
pub record CountsBy (catalog : List Table) (events : List Event) (c : ℕ) (entries : List Executed) (waiting : Option Executed) (h : ClientAt) : Type 0 where
  pub answered : AllByRecursion (λ s. IsCountedBy catalog s.text (calls_of events c s)) entries
  pub commits : CommitsAreCounted events c entries
  pub paired : ArePaired false entries
  pub as_read : ReadByTxn (read_items_since events c h.begun entries) h.txn
  pub waits : IfSome waiting (λ w. WaitCounted catalog w.text (id_of c h.begun) (read_items_since events c h.begun entries) (calls_of events c w) h.vacuum h.txn)

-- The calls of all statements are counted, those of a COMMIT by what its transaction has read.
pub record CallsAreCounted (catalog : List Table) (events : List Event) : Type 0 where
  pub commits : (id : TxId) (s : Executed) → commit_of events id ≡ Some s → CommitIsCounted (read_set_of events id) id s.answer (calls_of events (client_of id) s)
  pub reads : (client : ℕ) (s : Executed) → Contains (statements_by client events) s → reads_commit s.text ≡ false → reads_vacuum s.text ≡ false → IsReadCounted (calls_of events client s)
  pub vacuums : (client : ℕ) (s : Executed) → Contains (statements_by client events) s → reads_vacuum s.text ≡ true → IsVacuumCounted catalog (calls_of events client s)

-- no call that was seen was answered a fault
abbrev pub SeenAreNoFaults : List Event → Type 0
SeenAreNoFaults events = (c : ℕ) (s : Executed) (m : StoreCall) → Contains (statements_by c events) s → Contains (calls_of events c s) m → is_seen m.how ≡ true → is_fault m.reply ≡ false
