-- The stage of a COMMIT by its calls so far, and why it ends so.
use Rattle.std.specs.Prelude.{◌≡◌, ◌⊎◌, ℕ, true, false, List, None, Err, MatchBool, Contains, All}
use Rattle.std.specs.List.{AllByRecursion}
use Rattle.law_answers.specs.Types.{Key, Outcome, Record, TxId}
use Rattle.sdb_types.specs.declared.record.Reply.TheVariants as reply
use Rattle.sdb_record.specs.declared.coordinator.Decision.TheVariants as decision
use Rattle.sdb_record.specs.Coordinator.{coordinator_key_of, decision_in, is_coordinator_table}
use Rattle.sdb_record.specs.Meta.{is_transactional}
use Rattle.sdb_model.specs.Calls.{StoreCall, calls_after, calls_before, decision_found, decision_learned, is_of_row, records_observed, records_read}
use Rattle.sdb_model.specs.Causes.{HasReply, IsDecided, PutsRow}
use Rattle.sdb_model.specs.ReadSet.{reads_rows}
use Rattle.sdb_phases.specs.declared.step.DecidePhase.TheVariants as phase
use Rattle.sdb_phases.specs.declared.step.Outcome.TheVariants as outcome
use Rattle.sdb_phases.specs.Work.{Work}
use Rattle.sdb_phases.specs.Commit.{Stage, Preparing, Checking, Deciding, Forward, Stopping, Back, Over}
use Rattle.sdb_types.specs.Replies.{is_fault}

-- no call was for a transaction's row
abbrev pub NoneOfRow : TxId → List StoreCall → Type 0
NoneOfRow id calls = AllByRecursion (λ m. is_of_row id m.request ≡ false) calls

-- the deciding put faulted
abbrev pub HasFaulted : TxId → List StoreCall → StoreCall → Type 0
HasFaulted id calls put = Contains calls put × PutsRow id decision.Committed put × (put.reply ≡ reply.Fault)

-- The deciding put faulted, no call observed a decision, and none has put the row ABORTED.
pub record IsUndecided (id : TxId) (calls : List StoreCall) : Type 0 where
  pub put : StoreCall
  pub deciding : HasFaulted id calls put
  pub none : decision_learned calls id ≡ None
  pub not_own : AllByRecursion (λ m. PutsRow id decision.Aborted m → ⊥) calls

-- The deciding put faulted, and a later call for the row faulted or was out of memory.
pub record HasFailed (id : TxId) (calls : List StoreCall) : Type 0 where
  pub put : StoreCall
  pub later : StoreCall
  pub deciding : HasFaulted id calls put
  pub failed : Contains (calls_after put.at calls) later × (is_of_row id later.request ≡ true) × ((later.reply ≡ reply.Fault) ⊎ (later.reply ≡ reply.NoMemory))

-- and no call observed a decision
pub record IsFailing (id : TxId) (calls : List StoreCall) : Type 0 where
  pub failed : HasFailed id calls
  pub none : decision_learned calls id ≡ None

-- A call found the row ABORTED, and none before it has put that.
pub record IsGivenUp (id : TxId) (calls : List StoreCall) : Type 0 where
  pub call : StoreCall
  pub among : Contains calls call
  pub aborted : IsDecided decision.Aborted (decision_found id call)
  pub not_own : All (λ m. PutsRow id decision.Aborted m → ⊥) (calls_before call.at calls)

-- a row of the coordinator that no decision can be read from, or a record that isn't one of a transaction
abbrev pub IsBadRow : Record → Type 0
IsBadRow r = MatchBool (is_coordinator_table r.key.table) ((name : List ℕ) × (decision_in r ≡ Err name)) (is_transactional r ≡ false)

-- A call showed such a record of a key: a row of the coordinator, or one that a read of rows found.
pub record ObservesBad (calls : List StoreCall) (key : Key) : Type 0 where
  pub call : StoreCall
  pub found : Record
  pub among : Contains calls call
  pub observed : Contains (records_observed call.reply) found
  pub same : found.key ≡ key
  pub bad : IsBadRow found
  pub place : (is_coordinator_table found.key.table ≡ true) ⊎ ((reads_rows call ≡ true) × Contains (records_read call.reply) found)

-- no call put the row COMMITTED
abbrev pub NoneDecides : TxId → List StoreCall → Type 0
NoneDecides id calls = AllByRecursion (λ m. PutsRow id decision.Committed m → ⊥) calls

-- each call that put it so was out of memory
abbrev pub PutsOutOfMemory : TxId → List StoreCall → Type 0
PutsOutOfMemory id calls = AllByRecursion (λ m. PutsRow id decision.Committed m → m.reply ≡ reply.NoMemory) calls

-- Why a COMMIT ends so.
abbrev pub EndsBy : TxId → List StoreCall → Outcome → Type 0
EndsBy id calls outcome.Committed = IsDecided decision.Committed (decision_learned calls id)
EndsBy id calls (outcome.Conflict key found) = NoneDecides id calls
EndsBy id calls (outcome.Expired u) = (u ≡ id) × IsGivenUp id calls
EndsBy id calls outcome.Faulted = HasReply is_fault calls
EndsBy id calls (outcome.Unknown u) = (u ≡ id) × HasFailed id calls
EndsBy id calls (outcome.BadRecord key) = (key ≡ coordinator_key_of id) × ObservesBad calls key
EndsBy id calls outcome.NoMemory = PutsOutOfMemory id calls

-- What the calls say where it is.
abbrev pub StageByCalls : Work → List StoreCall → Stage → Type 0
StageByCalls p calls (Preparing i) = NoneOfRow p.id calls
StageByCalls p calls (Checking i) = NoneOfRow p.id calls
StageByCalls p calls (Deciding phase.Put) = NoneOfRow p.id calls
StageByCalls p calls (Deciding phase.Look) = IsUndecided p.id calls
StageByCalls p calls (Deciding phase.Abort) = IsUndecided p.id calls
StageByCalls p calls (Deciding phase.Again) = IsFailing p.id calls
StageByCalls p calls (Deciding phase.Ended) = ⊥
StageByCalls p calls (Forward i) = EndsBy p.id calls outcome.Committed
StageByCalls p calls (Stopping a n) = EndsBy p.id calls a
StageByCalls p calls (Back a n i) = EndsBy p.id calls a
StageByCalls p calls (Over a) = EndsBy p.id calls a
