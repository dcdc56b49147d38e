-- The keys that a transaction's statements write, and which of them its COMMIT prepares.
use Rattle.std.specs.Prelude.{◌≡◌, ◌<◌, ◌≤◌, ◌^◌, true, ℕ, ℤ, List, [], ◌∷◌, length, map, take, filter, Option, Some, None, Contains}
use Rattle.law_runs.specs.Types.{Event, Key, Record, Statement, Table, TxId, Write}
use Rattle.sdb_types.specs.declared.record.Reply.TheVariants as reply
use Rattle.sdb_types.specs.Replies.{is_applied}
use Rattle.sdb_record.specs.declared.coordinator.Decision.TheVariants as decision
use Rattle.sdb_model.specs.declared.event.How.TheVariants.{Seen}
use Rattle.sdb_record.specs.Groups.{grouped, keys_of_writes}
use Rattle.sdb_record.specs.declared.write.Change.TheVariants as change
use Rattle.sdb_model.specs.Calls.{StoreCall, calls_before, calls_of}
use Rattle.sdb_model.specs.Requests.{keys_asked}
use Rattle.sdb_model.specs.Causes.{IsCommitOf}
use Rattle.sdb_model.specs.Counted.{prepares_in, puts_prepared}
use Rattle.sdb_model.specs.Exec.{Tables}
use Rattle.sdb_model.specs.Transactions.{Executed, point, prepares}
use Rattle.law_clients.specs.Keys.{keys_written, with_keys}
use Rattle.law_runs.specs.Found.{AllRunAs, AreUnder, View, answered_inside, finds, nothing_found, run_found, with_found}
use Rattle.law_runs.specs.Laws.{row_put}

---- keys that are written

-- the keys that a statement that runs writes, or none
abbrev pub keys_by : List Table → Option Statement → Tables → List Key
keys_by catalog None d = []
keys_by catalog (Some s) d = keys_written catalog s d

-- The keys that statements write that run one after the other, each on what was found so far, with what it found itself: each once, in the
-- order in which they are first written, after those that were written before.
abbrev pub written_on_found : List Table → List (List (Key × Option Record)) → List (Option Statement) → View → List Key → List Key
written_on_found catalog [] ss v ks = ks
written_on_found catalog (f ∷ fs) [] v ks = ks
written_on_found catalog (f ∷ fs) (s ∷ ss) v ks =
    written_on_found catalog fs ss (run_found catalog s v f).1 (with_keys ks (keys_by catalog s (with_found catalog v f).rows))

-- those that statements of a client write, which run as these
abbrev pub keys_of : List Table → List Event → ℕ → List Executed → List (Option Statement) → List Key
keys_of catalog events client ss statements = written_on_found catalog (finds events client ss) statements nothing_found []

---- keys that are prepared

-- a write of a key, which makes it absent
abbrev pub write_of_key : Key → Write
write_of_key key = record { key = key; base = None; change = change.Delete }

-- keys in groups, as writes of them are grouped
abbrev pub groups_of_keys : List Key → List (List Key)
groups_of_keys keys = map keys_of_writes (grouped (map write_of_key keys))

-- the groups of keys for which calls prepare: those of each prepare, in the order of the calls
abbrev pub groups_prepared : TxId → List StoreCall → List (List Key)
groups_prepared id calls = map (λ m. keys_asked m.request) (prepares_in id calls)

-- those of the prepares that were applied
abbrev pub groups_applied : TxId → List StoreCall → List (List Key)
groups_applied id calls = groups_prepared id (filter (λ m. is_applied m.reply) calls)

-- a call puts a transaction's row COMMITTED, where there is none
abbrev pub PutsCommitted : TxId → StoreCall → Type 0
PutsCommitted id m = (now : ℤ) × (m.request ≡ row_put id decision.Committed now)

-- The calls of a COMMIT prepare these groups of keys, one in each call, each once, in their order, from the first; and all of them were applied
-- before a call that puts the transaction's row COMMITTED.
pub record PreparesAll (groups : List (List Key)) (id : TxId) (calls : List StoreCall) : Type 0 where
  pub count : ℕ
  pub prepared : groups_prepared id calls ≡ take count groups
  pub decided : (m : StoreCall) → Contains calls m → PutsCommitted id m → groups_applied id (calls_before m.at calls) ≡ groups

-- A COMMIT of a transaction, and what its answered statements run as, and under which catalog (`RunsOnFound` has them).
pub record CommitOf (catalog : List Table) (events : List Event) (client : ℕ) (s : Executed) (id : TxId) : Type 0 where
  pub commit : IsCommitOf events client s id
  pub under : List Table
  pub accepted : AreUnder catalog events under (answered_inside events id)
  pub statements : List (Option Statement)
  pub run : AllRunAs (answered_inside events id) statements

-- the keys that those statements wrote on what they found
abbrev pub written_before : (catalog : List Table) (events : List Event) (client : ℕ) (s : Executed) (id : TxId)
    → CommitOf catalog events client s id → List Key
written_before catalog events client s id x = keys_of x.under events client (answered_inside events id) x.statements

-- Each COMMIT, answered or not, prepares the keys that the statements of its transaction wrote, in groups.
abbrev pub CommitsPrepareWritten : List Table → List Event → Type 0
CommitsPrepareWritten catalog events =
    (client : ℕ) (s : Executed) (id : TxId) (x : CommitOf catalog events client s id)
    → PreparesAll (groups_of_keys (written_before catalog events client s id x)) id (calls_of events client s)

---- one that decides

-- A call of a transaction's COMMIT puts its row COMMITTED.
pub record Decides (events : List Event) (client : ℕ) (s : Executed) (id : TxId) (m : StoreCall) : Type 0 where
  pub commit : IsCommitOf events client s id
  pub fits : id.0 < 2 ^ 128
  pub call : Contains (calls_of events client s) m
  pub puts : PutsCommitted id m

-- Calls prepare as many groups as keys are in, and put as many records for them as there are keys.
pub record AreAsMany (keys : List Key) (id : TxId) (calls : List StoreCall) : Type 0 where
  pub groups : length (prepares_in id calls) ≡ length (groups_of_keys keys)
  pub records : puts_prepared id calls ≡ length keys

-- Such a COMMIT's do so for the keys that were written.
abbrev pub PreparesAreAsMany : List Table → List Event → Type 0
PreparesAreAsMany catalog events =
    (client : ℕ) (s : Executed) (id : TxId) (m : StoreCall) (x : CommitOf catalog events client s id) → Decides events client s id m
    → AreAsMany (written_before catalog events client s id x) id (calls_of events client s)

-- a call was seen and applied, at a transaction's point or before it
abbrev pub IsAppliedBy : List Event → TxId → StoreCall → Type 0
IsAppliedBy events id p = (p.how ≡ Seen) × (p.reply ≡ reply.Applied) × (p.at ≤ point events id)

-- Each prepare of the COMMIT was seen and applied, at the transaction's point or before it, and the call is after that.
pub record IsAfterPoint (events : List Event) (client : ℕ) (s : Executed) (id : TxId) (m : StoreCall) : Type 0 where
  pub prepared : (p : StoreCall) → Contains (calls_of events client s) p → prepares id p.request ≡ true → IsAppliedBy events id p
  pub decides : point events id < m.at

-- This holds of each.
abbrev pub DecisionsFollowPoints : List Event → Type 0
DecisionsFollowPoints events = (client : ℕ) (s : Executed) (id : TxId) (m : StoreCall) → Decides events client s id m → IsAfterPoint events client s id m
