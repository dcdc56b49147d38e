-- The stage of a read by the calls of its statement, and why it ends so.
use Rattle.std.specs.Prelude.{◌≡◌, ◌<◌, ℤ, true, false, List, ◌∷◌, Contains, Some}
use Rattle.std.specs.List.{AllByRecursion}
use Rattle.law_answers.specs.Types.{Event, Key, Meta, ReadStep, Record, RecoverPhase, Request, TxId}
use Rattle.sdb_record.specs.Coordinator.{is_coordinator_table}
use Rattle.sdb_model.specs.Calls.{StoreCall, clock_at, is_read, records_read}
use Rattle.sdb_model.specs.Causes.{HasReply, IsEarly}
use Rattle.sdb_model.specs.Events.{table_asked}
use Rattle.sdb_phases.specs.declared.step.RecoverPhase.TheVariants as phase
use Rattle.sdb_txn.specs.declared.read.ReadStep.TheVariants as step
use Rattle.sdb_txn.specs.Read.{Asking, Ended, Open, ReadStage, Resolving, kind_of, read_pending_at}
use Rattle.law_answers.specs.Commits.{ObservesBad}
use Rattle.sdb_types.specs.Replies.{is_fault}

-- a read of a table among the calls found these records
pub record IsFoundBy (calls : List StoreCall) (rows : List Record) : Type 0 where
  pub read : StoreCall
  pub among : Contains calls read
  pub reads : is_read read.request ≡ true
  pub of_data : is_coordinator_table (table_asked read.request) ≡ false
  pub found : AllByRecursion (Contains (records_read read.reply)) rows

-- where the row is asked for again a call has faulted
abbrev pub IsPhaseBy : List StoreCall → RecoverPhase → Type 0
IsPhaseBy calls phase.Again = HasReply is_fault calls
IsPhaseBy calls p = Unit {0}

-- a record that was read is unresolved, and its transaction may still decide
pub record IsBusyBy (events : List Event) (calls : List StoreCall) (key : Key) (id : TxId) (at : ℤ) : Type 0 where
  pub read : StoreCall
  pub found : Record
  pub reads : Contains calls read × (is_read read.request ≡ true) × Contains (records_read read.reply) found × (found.key ≡ key)
  pub early : IsEarly events calls read found id at

-- Why a read ends so.
abbrev pub GivenBy : List Event → List StoreCall → ReadStep → Type 0
GivenBy events calls step.More = ⊥
GivenBy events calls (step.Images images) = Unit {0}
GivenBy events calls (step.Busy key id at) = IsBusyBy events calls key id at
GivenBy events calls step.Faulted = HasReply is_fault calls
GivenBy events calls (step.BadRecord key) = ObservesBad calls key
GivenBy events calls step.NoMemory = Unit {0}

-- the record that is resolved and those that are left were found, and it is unresolved
pub record ResolvesBy (calls : List StoreCall) (rec : Record) (meta : Meta) (p : RecoverPhase) (left : List Record) : Type 0 where
  pub found : IsFoundBy calls (rec ∷ left)
  pub is_open : kind_of rec ≡ Open meta
  pub phase : IsPhaseBy calls p

-- What the calls say while it hasn't ended.
abbrev pub ReadsBy : List StoreCall → ReadStage → Type 0
ReadsBy calls Asking = Unit {0}
ReadsBy calls (Resolving images rec meta p left) = ResolvesBy calls rec meta p left
ReadsBy calls (Ended s) = ⊥

-- What they say where a reply leads it.
abbrev pub LedBy : List Event → List StoreCall → ReadStage → Type 0
LedBy events calls (Ended s) = GivenBy events calls s
LedBy events calls s = ReadsBy calls s

-- The calls of a statement so far and its next one, which is after all of them, and the moment that the clock shows at it.
pub record NextCall : Type 0 where
  pub events : List Event
  pub calls : List StoreCall
  pub call : StoreCall
  pub now : ℤ
  pub later : AllByRecursion (λ m. m.at < call.at) calls
  pub clock : clock_at events call.at ≡ now

-- A read with that request is at a stage at which this call is pending.
pub record WaitingRead (q : Request) : Type 0 where
  pub stage : ReadStage
  pub call : StoreCall
  pub pending : read_pending_at q stage ≡ Some call.request
