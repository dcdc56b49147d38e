-- How the unresolved records that a statement found were rolled, by its calls.
use Rattle.std.specs.Prelude.{◌≡◌, ◌⊎◌, ℕ, ℤ, Bool, true, List, [], ◌∷◌, Option, Some, None, IfSome, Contains}
use Rattle.std.specs.List.{AllByRecursion}
use Rattle.law_answers.specs.Types.{Decided, Doing, Event, ReadStep, Record, RecoverPhase, State, TxId}
use Rattle.sdb_types.specs.declared.record.Condition.TheVariants as condition
use Rattle.sdb_record.specs.declared.coordinator.Decision.TheVariants as decision
use Rattle.sdb_record.specs.Meta.{id_in, is_moment, is_unresolved, state_in}
use Rattle.sdb_model.specs.declared.event.How.TheVariants.{Seen}
use Rattle.sdb_model.specs.Calls.{StoreCall, calls_after, calls_of, decision_observed, records_read}
use Rattle.sdb_model.specs.Causes.{IsEarly}
use Rattle.sdb_model.specs.Counted.{IsPassedOver, roll_by}
use Rattle.sdb_model.specs.ReadSet.{has_read, reads_rows}
use Rattle.sdb_model.specs.Sql.{reads_vacuum}
use Rattle.sdb_model.specs.Transactions.{Executed, statements_by}
use Rattle.sdb_phases.specs.declared.step.RecoverPhase.TheVariants as phase
use Rattle.sdb_txn.specs.declared.read.ReadStep.TheVariants as step
use Rattle.sdb_txn.specs.Read.{Asking, Ended, Open, ReadStage, Resolving, kind_of}
use Rattle.sdb_txn.specs.declared.txn.Doing.TheVariants as doing
use Rattle.sdb_txn.specs.Txn.{TxnAt}
use Rattle.sdb_vacuum.specs.Vacuum as vacuum
use Rattle.sdb_vacuum.specs.Vacuum.{VacuumAt, VacuumStage}
use Rattle.sdb_client.specs.Client.{ClientAt}
use Rattle.sdb_types.specs.Replies.{is_answered}

-- A call showed the decision on a record's transaction after the read that found it, and a later one asked for what that decision
-- makes of the record, on condition of what was found, and was answered.
pub record IsRolledBy (calls : List StoreCall) (read : StoreCall) (r : Record) : Type 0 where
  pub id : TxId
  pub state : State
  pub decided : Decided
  pub look : StoreCall
  pub roll : StoreCall
  pub writer : (id_in r.columns ≡ Some id) × (state_in r.columns ≡ Some state)
  pub looks : Contains (calls_after read.at calls) look × (decision_observed id look ≡ Some decided)
  pub rolls : Contains (calls_after look.at calls) roll × (roll.request ≡ roll_by r (condition.Version id state) decided)
  pub answered : is_answered roll.reply ≡ true

---- what holds of all events

-- Each statement whose read finished had each unresolved record that was found rolled first, but for those that a VACUUM passed over.
abbrev pub RecordsAreRolled : List Event → Type 0
RecordsAreRolled events = (c : ℕ) (s : Executed) (m : StoreCall) (r : Record) → Contains (statements_by c events) s → has_read events c s ≡ true
    → Contains (calls_of events c s) m → reads_rows m ≡ true → Contains (records_read m.reply) r → is_unresolved r ≡ true → IsRolledBy (calls_of events c s) m r ⊎ IsPassedOver events s (calls_of events c s) m r

-- each call that was answered Applied or NotMet was seen
abbrev pub AnsweredWereSeen : List Event → Type 0
AnsweredWereSeen events = (c : ℕ) (s : Executed) (m : StoreCall) → Contains (statements_by c events) s → Contains (calls_of events c s) m → is_answered m.reply ≡ true → m.how ≡ Seen

---- one statement

-- what became of a record that a read found: it was rolled, or passed over where the statement runs VACUUM
abbrev pub IsDealtWith : List Event → Bool → List StoreCall → StoreCall → Record → Type 0
IsDealtWith events vacuums calls read r = IsRolledBy calls read r ⊎ ((id : TxId) × (at : ℤ) × (vacuums ≡ true) × IsEarly events calls read r id at)

-- Each unresolved record that was found is dealt with, but for these that are left.
abbrev pub RolledBut : List Event → Bool → List StoreCall → List Record → Type 0
RolledBut events vacuums calls left = (m : StoreCall) (r : Record) → Contains calls m → reads_rows m ≡ true → Contains (records_read m.reply) r → is_unresolved r ≡ true → Contains left r ⊎ IsDealtWith events vacuums calls m r

-- a call showed this decision on a transaction, after each read of rows
pub record HasLooked (calls : List StoreCall) (id : TxId) (d : Decided) : Type 0 where
  pub look : StoreCall
  pub among : Contains calls look
  pub observed : decision_observed id look ≡ Some d
  pub later : (read : StoreCall) → Contains calls read → reads_rows read ≡ true → Contains (calls_after read.at calls) look

-- the decision by which a recovery rolls was observed
abbrev pub PhaseLooks : List StoreCall → TxId → RecoverPhase → Type 0
PhaseLooks calls id (phase.Abort n) = is_moment n ≡ true
PhaseLooks calls id (phase.Forward n) = (d : Decided) × HasLooked calls id d × (d.decision ≡ decision.Committed) × (d.created_at ≡ n)
PhaseLooks calls id phase.Back = (d : Decided) × HasLooked calls id d × (d.decision ≡ decision.Aborted)
PhaseLooks calls id p = Unit {0}

abbrev pub EndRolls : List Event → Bool → List StoreCall → ReadStep → Type 0
EndRolls events vacuums calls (step.Images images) = RolledBut events vacuums calls []
EndRolls events vacuums calls s = Unit {0}

-- What is dealt with where a read is.
abbrev pub ReadRolls : List Event → Bool → List StoreCall → ReadStage → Type 0
ReadRolls events vacuums calls Asking = RolledBut events vacuums calls []
ReadRolls events vacuums calls (Resolving images rec meta p left) = RolledBut events vacuums calls (rec ∷ left) × (kind_of rec ≡ Open meta) × PhaseLooks calls meta.id p
ReadRolls events vacuums calls (Ended s) = EndRolls events vacuums calls s

-- and where a VACUUM does
abbrev pub VacuumRolls : List Event → Bool → List StoreCall → VacuumStage → Type 0
VacuumRolls events vacuums calls (vacuum.Scanning span) = RolledBut events vacuums calls []
VacuumRolls events vacuums calls (vacuum.Resolving rec meta p left) = RolledBut events vacuums calls (rec ∷ left) × (kind_of rec ≡ Open meta) × PhaseLooks calls meta.id p
VacuumRolls events vacuums calls (vacuum.Removing b left) = RolledBut events vacuums calls left
VacuumRolls events vacuums calls vacuum.Over = Unit {0}

-- Of a statement that waits, by what the client does.
abbrev pub DoingRolls : List Event → Bool → List StoreCall → Doing → Type 0
DoingRolls events vacuums calls (doing.Read a x) = ReadRolls events vacuums calls x.stage
DoingRolls events vacuums calls d = Unit {0}

abbrev pub WaitRolls : List Event → Bool → List StoreCall → Option VacuumAt → Option TxnAt → Type 0
WaitRolls events vacuums calls None None = Unit {0}
WaitRolls events vacuums calls None (Some t) = DoingRolls events vacuums calls t.doing
WaitRolls events vacuums calls (Some v) o = VacuumRolls events vacuums calls v.stage

-- of one whose read finished
abbrev pub IsRolledIn : List Event → ℕ → Executed → Type 0
IsRolledIn events c s = has_read events c s ≡ true → RolledBut events (reads_vacuum s.text) (calls_of events c s) []

-- The records that the statements of a client found, those that were answered and the one that waits.
pub record RollsBy (events : List Event) (c : ℕ) (entries : List Executed) (waiting : Option Executed) (h : ClientAt) : Type 0 where
  pub answered : AllByRecursion (IsRolledIn events c) entries
  pub waits : IfSome waiting (λ w. WaitRolls events (reads_vacuum w.text) (calls_of events c w) h.vacuum h.txn)
