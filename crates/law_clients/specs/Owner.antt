-- The actions of a COMMIT in the law of the protocol, and what is known at each of its stages.
use Rattle.std.specs.Prelude.{◌≡◌, ◌≢◌, ◌⊎◌, ◌≤◌, ◌<◌, ◌^◌, ℕ, true, false, not, if◌then◌else◌, List, [], ◌∷◌, ◌++◌, map, filter, length, Option, Some, None, slice_get}
use Rattle.law_clients.specs.Types.{Check, Key, Outcome, Reply, Request, Write}
use Rattle.sdb_types.specs.declared.record.Request.TheVariants as ask
use Rattle.sdb_types.specs.Contents.{CanAnswer}
use Rattle.sdb_record.specs.declared.coordinator.Decision.TheVariants as decision
use Rattle.sdb_record.specs.Meta.{is_moment}
use Rattle.sdb_record.specs.Rolls.{IsWrite}
use Rattle.sdb_record.specs.Among.{is_written}
use Rattle.sdb_record.specs.Groups.{grouped, in_groups, keys_of_writes}
use Rattle.sdb_types.specs.Order.{are_distinct}
use Rattle.law_protocol.specs.Plan.{Plan, write_at, written, version_read_at}
use Rattle.sdb_model.specs.ReadSet.{ReadItem, KeyRead, SpanRead}
use Rattle.law_protocol.specs.History as laws
use Rattle.law_protocol.specs.History.{Action, Other, Prepares, Checks, Decides, Aborts, Rolls, ProtocolState}
use Rattle.law_protocol.specs.Lawful.{Labelled, id, protocol_state, ack_of, InCommit, IsUnchanged, IsKnownCommitted, IsKnownAborted, IsBadRow}
use Rattle.sdb_phases.specs.declared.step.Outcome.TheVariants as outcome
use Rattle.sdb_phases.specs.declared.step.DecidePhase.TheVariants as phase
use Rattle.sdb_phases.specs.Work.{Work, writes_before}
use Rattle.sdb_phases.specs.Checks.{checks}
use Rattle.sdb_phases.specs.Commit.{Stage, Preparing, Checking, Deciding, Forward, Stopping, Back, Over}
use Rattle.sdb_phases.specs.CommitLaws.{as_wished, IsLost}
use Rattle.sdb_model.specs.Tables.{is_data}

---- the plan of a COMMIT

-- the read items that are checked, in the order of the checks
abbrev pub checked_items : Work → List ReadItem
checked_items p = map KeyRead (filter (λ r. not (is_written p.writes r.key)) p.reads) ++ map SpanRead p.scans

-- the gets of keys that it writes, which are not checked
abbrev pub own_items : Work → List ReadItem
own_items p = map KeyRead (filter (λ r. is_written p.writes r.key) p.reads)

-- Its read set: first the items that are checked, and then the others.
abbrev pub items_of_work : Work → List ReadItem
items_of_work p = checked_items p ++ own_items p

-- The plan of a COMMIT: what it writes, its read set, and its moment.
abbrev pub plan_of : Work → Plan
plan_of p = record { writes = p.writes; read_set = items_of_work p; now = p.now }

---- the parts that its calls play

-- the part of the prepare of a group
abbrev pub prepare_action : ℕ → Option (List Write) → Reply → Action
prepare_action t None r = Other
prepare_action t (Some g) r = Prepares t (keys_of_writes g) (ack_of r)

-- the part of the roll forward of a group
abbrev pub forward_action : ℕ → Option (List Write) → Action
forward_action t None = Other
forward_action t (Some g) = Rolls t (keys_of_writes g) decision.Committed

-- the part of the roll back of a write
abbrev pub back_action : ℕ → Option Write → Action
back_action t None = Other
back_action t (Some w) = Rolls t (w.key ∷ []) decision.Aborted

-- The action of the call at a stage, with its reply. A check has one where it passes, and a look none.
abbrev pub action_of : Work → Stage → Reply → Action
action_of p (Preparing i) r = prepare_action p.id.0 (slice_get (grouped p.writes) i) r
action_of p (Checking i) r = if as_wished p (Checking i) r then Checks p.id.0 i else Other
action_of p (Deciding phase.Put) r = Decides p.id.0 (ack_of r)
action_of p (Deciding phase.Abort) r = Aborts p.id.0 p.now (ack_of r)
action_of p (Deciding d) r = Other
action_of p (Forward i) r = forward_action p.id.0 (slice_get (grouped p.writes) i)
action_of p (Stopping a n) r = Aborts p.id.0 p.now (ack_of r)
action_of p (Back a n i) r = back_action p.id.0 (slice_get (in_groups p.writes) i)
action_of p (Over a) r = Other

---- what holds of what it writes and has read, once and for all

-- what an item of the read set says of each key that is written is the version of the base
abbrev pub ItemAgrees : Work → ℕ → Type 0
ItemAgrees p j = (k : Key) (version base : Option ℕ) → version_read_at (plan_of p) j k ≡ Some version → written (plan_of p) k ≡ Some base → version ≡ base

-- A check that passes has found its read item unchanged.
pub record CheckPasses (p : Work) (i : ℕ) (q : Request) (r : Reply) : Type 0 where
  pub item : ReadItem
  pub at : slice_get (plan_of p).read_set i ≡ Some item
  pub unchanged : IsUnchanged (plan_of p) item q r
  pub agrees : ItemAgrees p i

-- a request that changes nothing
abbrev pub IsReading : Request → Type 0
IsReading (ask.Get key) = Unit {0}
IsReading (ask.Scan span) = Unit {0}
IsReading q = ⊥

-- What holds of what a COMMIT takes: it is a plan as the rules want it, and its checks are of the plan's read set.
pub record WorkOk (p : Work) : Type 0 where
  pub fits : p.id.0 < 2 ^ 128
  pub moment : is_moment p.now ≡ true
  pub valid : (i : ℕ) (w : Write) → slice_get (in_groups p.writes) i ≡ Some w → IsWrite w × (is_data w.key ≡ true)
  -- each key is written once
  pub at : (i : ℕ) (w : Write) → slice_get (in_groups p.writes) i ≡ Some w → write_at (plan_of p) w.key ≡ Some w
  pub once : are_distinct (keys_of_writes (in_groups p.writes)) ≡ true
  pub found : (k : Key) (w : Write) → write_at (plan_of p) k ≡ Some w → (i : ℕ) × (slice_get (in_groups p.writes) i ≡ Some w)
  -- checks read
  pub reads : (i : ℕ) (c : Check) → slice_get (checks p) i ≡ Some c → IsReading c.request
  -- what a rescan means
  pub is_known : (i : ℕ) (c : Check) (r : Reply) → slice_get (checks p) i ≡ Some c → CanAnswer c.request r → as_wished p (Checking i) r ≡ true → CheckPasses p i c.request r
  -- items that are not checked are of keys that are written, with the version of the base
  pub checked : (j : ℕ) (k : Key) (version : Option ℕ) → length (checks p) ≤ j → version_read_at (plan_of p) j k ≡ Some version → written (plan_of p) k ≢ None
  pub agrees : (j : ℕ) → length (checks p) ≤ j → ItemAgrees p j

---- what it knows at a stage

-- the prepares of the first so many writes, in the order of the groups, were seen and applied
abbrev pub AreAcknowledged : ProtocolState → Work → ℕ → Type 0
AreAcknowledged h p i = (j : ℕ) (w : Write) → j < i → slice_get (in_groups p.writes) j ≡ Some w → h.answered p.id.0 w.key ≡ true

-- the first so many were asked
abbrev pub AskedTo : ProtocolState → Work → ℕ → Type 0
AskedTo h p i = (j : ℕ) (w : Write) → j < i → slice_get (in_groups p.writes) j ≡ Some w → h.asked p.id.0 w.key ≡ true

-- none was asked from there on
abbrev pub UnaskedFrom : ProtocolState → Work → ℕ → Type 0
UnaskedFrom h p i = (j : ℕ) (w : Write) → i ≤ j → slice_get (in_groups p.writes) j ≡ Some w → h.asked p.id.0 w.key ≡ false

-- the first so many checks passed
abbrev pub CheckedTo : ProtocolState → Work → ℕ → Type 0
CheckedTo h p i = (j : ℕ) → j < i → h.checked p.id.0 j ≡ true

-- the first items say of keys that are written the version of the base
abbrev pub AgreesTo : Work → ℕ → Type 0
AgreesTo p i = (j : ℕ) → j < i → ItemAgrees p j

-- what has to be known where it answers
abbrev pub OverOk : (ℕ → Plan) → List Labelled → Work → Outcome → Type 0
OverOk plan past p outcome.Committed = IsKnownCommitted plan past p.id.0 p.now
OverOk plan past p (outcome.Unknown id) = id ≡ p.id
OverOk plan past p a = IsKnownAborted past p.id.0 ⊎ ((protocol_state past).risked p.id.0 ≡ false) ⊎ IsBadRow past p.id.0

-- The protocol's state where a COMMIT is at a stage.
abbrev pub StageOk : (ℕ → Plan) → List Labelled → Work → Stage → Type 0
StageOk plan past p (Preparing i) =
    ((protocol_state past).stage p.id.0 ≡ laws.Preparing)
    × AreAcknowledged (protocol_state past) p (writes_before p i) × AskedTo (protocol_state past) p (writes_before p i) × UnaskedFrom (protocol_state past) p (writes_before p i) × ((protocol_state past).risked p.id.0 ≡ false)
StageOk plan past p (Checking i) = ((protocol_state past).stage p.id.0 ≢ laws.Deciding) × AreAcknowledged (protocol_state past) p (length p.writes) × AskedTo (protocol_state past) p (length p.writes) × CheckedTo (protocol_state past) p i × AgreesTo p i × ((protocol_state past).risked p.id.0 ≡ false)
StageOk plan past p (Deciding phase.Put) = AreAcknowledged (protocol_state past) p (length p.writes) × AskedTo (protocol_state past) p (length p.writes) × CheckedTo (protocol_state past) p (length (checks p)) × AgreesTo p (length (checks p)) × ((protocol_state past).risked p.id.0 ≡ false)
StageOk plan past p (Deciding d) = AskedTo (protocol_state past) p (length p.writes)
StageOk plan past p (Forward i) = AskedTo (protocol_state past) p (length p.writes) × IsKnownCommitted plan past p.id.0 p.now
StageOk plan past p (Stopping a n) = AskedTo (protocol_state past) p n × ((protocol_state past).risked p.id.0 ≡ false) × IsLost a
StageOk plan past p (Back a n i) = AskedTo (protocol_state past) p n × IsKnownAborted past p.id.0 × IsLost a × (i < n)
StageOk plan past p (Over a) = OverOk plan past p a

-- A client's COMMIT is at a stage: it is open and its own, its plan is what it writes and has read, and the events show
-- what the stage needs.
pub record CommitOk (plan : ℕ → Plan) (past : List Labelled) (c : ℕ) (p : Work) (s : Stage) : Type 0 where
  pub work : WorkOk p
  pub within : InCommit (protocol_state past) c p.id.0
  pub begun : (protocol_state past).begun p.id.0 ≢ 0
  pub planned : plan p.id.0 ≡ plan_of p
  pub stage : StageOk plan past p s
