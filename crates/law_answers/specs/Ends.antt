-- Why a COMMIT continues or ends as it does, by its calls.
use Rattle.std.specs.Prelude.{◌≡◌, ◌≢◌, ◌⊎◌, ◌≤◌, ℕ, ◌+◌, ℤ, Bool, true, false, List, [], ◌∷◌, ◌++◌, nat_lt, Option, Some, None, Ok, Contains, slice_get}
use Rattle.std.specs.List.{AllByRecursion}
use Rattle.law_answers.specs.Types.{Check, Decision, Key, Read, Record, Reply, Request, Scan, TxId, Write}
use Rattle.sdb_types.specs.declared.record.Request.TheVariants as ask
use Rattle.sdb_types.specs.declared.record.Reply.TheVariants as reply
use Rattle.sdb_types.specs.Contents.{CanAnswer, record_among}
use Rattle.sdb_record.specs.declared.coordinator.Decision.TheVariants as decision
use Rattle.sdb_record.specs.Coordinator.{coordinator_key_of, decision_in}
use Rattle.sdb_record.specs.Moved.{IsChanged, version_of, same_version}
use Rattle.sdb_record.specs.Among.{is_written, version_among}
use Rattle.sdb_record.specs.Groups.{grouped}
use Rattle.sdb_validate.specs.Rescan.{base_in, reads_rise}
use Rattle.sdb_phases.specs.declared.step.Outcome.TheVariants as outcome
use Rattle.sdb_phases.specs.Work.{Work, groups_of, prepares, prepares_of, decide_of, abort_of}
use Rattle.sdb_phases.specs.Checks.{checks, difference_in}
use Rattle.sdb_phases.specs.Commit.{Stage, Preparing, Checking, Deciding, Forward, Over}
use Rattle.sdb_phases.specs.CommitLaws.{reads_of}
use Rattle.law_answers.specs.Paths.{Call, Asks, IsForRow, Makes, undone}

---- rolls

-- The newest call put the row ABORTED, and faulted or was out of memory.
pub record IsAbortFailed (p : Work) (calls : List Call) : Type 0 where
  pub before : List Call
  pub put : Call
  pub newest : calls ≡ before ++ put ∷ []
  pub asked : put.request ≡ abort_of p.id p.now
  pub failed : (put.reply ≡ reply.Fault) ⊎ (put.reply ≡ reply.NoMemory)

-- Each write of the groups that may have accepted effect is rolled back, in order, and no other; or none is, since the put of ABORTED failed.
abbrev pub IsUndone : Work → List Call → Type 0
IsUndone p calls = Asks p calls (undone p calls) ⊎ (IsAbortFailed p calls × Asks p calls [])

---- conflicts

-- The reply where the put of that place, from 0, of a group was not met: a group of one is put alone, and a larger one all at once.
abbrev pub unmet_reply : List Write → ℕ → Option Record → Reply
unmet_reply (w ∷ []) i found = reply.NotMet found
unmet_reply g i found = reply.NotAll (i + 1) found

-- the prepare of a group was not met at a write of the key: what is there is no longer its base
pub record IsPrepareChanged (p : Work) (c : Call) (key : Key) (found : Option Record) : Type 0 where
  pub group : List Write
  pub among : Contains (grouped p.writes) group
  pub place : ℕ
  pub write : Write
  pub there : slice_get group place ≡ Some write
  pub same : write.key ≡ key
  pub asked : c.request ≡ prepares_of p.id p.now group
  pub observed : c.reply ≡ unmet_reply group place found
  pub moved : IsChanged found (version_of write.base)

-- the get of a key that was read, and isn't written, found another version
pub record IsGetChanged (p : Work) (c : Call) (key : Key) (found : Option Record) : Type 0 where
  pub read : Read
  pub among : Contains p.reads read
  pub same : read.key ≡ key
  pub unwritten : is_written p.writes key ≡ false
  pub asked : c.request ≡ ask.Get key
  pub observed : c.reply ≡ reply.Found found
  pub moved : IsChanged found read.version

-- what is at a key has moved; at a written key of the span, the base isn't the version that the scan found
abbrev pub HasChangedThere : Option (Option TxId) → Option Record → Option TxId → Type 0
HasChangedThere None found version = IsChanged found version
HasChangedThere (Some base) found version = same_version base version ≡ false

-- the rescan found something else at a key than the scan, which found its rows in key order
pub record IsRescanChanged (p : Work) (c : Call) (key : Key) (found : Option Record) : Type 0 where
  pub scan : Scan
  pub rows : List Record
  pub among : Contains p.scans scan
  pub asked : c.request ≡ ask.Scan scan.span
  pub observed : c.reply ≡ reply.Rows rows
  pub there : found ≡ record_among rows key
  pub moved : reads_rise scan.found ≡ true → HasChangedThere (base_in scan.span p.writes key) found (version_among scan.found key)

-- A call of a prepare or of a check showed this at a key, and it isn't what was read there.
abbrev pub ObservesChange : Work → Key → Option Record → Call → Type 0
ObservesChange p key found c = IsPrepareChanged p c key found ⊎ (IsGetChanged p c key found ⊎ IsRescanChanged p c key found)

abbrev pub HasChangedBy : Work → List Call → Key → Option Record → Type 0
HasChangedBy p calls key found = (c : Call) × Contains calls c × ObservesChange p key found c

---- the row

-- the reply shows the transaction's row, with that decision of that moment
pub record ObservesRow (id : TxId) (d : Decision) (at : ℤ) (r : Reply) : Type 0 where
  pub row : Record
  pub key : row.key ≡ coordinator_key_of id
  pub says : decision_in row ≡ Ok (record { decision = d; created_at = at })
  pub observed : (r ≡ reply.Found (Some row)) ⊎ (r ≡ reply.NotMet (Some row))

-- a call for the row observed ABORTED, and none before it had put that
pub record IsGivenUp (p : Work) (calls : List Call) : Type 0 where
  pub before : List Call
  pub call : Call
  pub later : List Call
  pub whole : calls ≡ before ++ call ∷ later
  pub for_row : IsForRow p call.request
  pub at : ℤ
  pub observed : ObservesRow p.id decision.Aborted at call.reply
  pub not_own : AllByRecursion (λ c. c.request ≢ abort_of p.id p.now) before

-- the deciding put was applied, or a call for the row observed COMMITTED, of a moment
pub record IsLearned (p : Work) (calls : List Call) : Type 0 where
  pub call : Call
  pub among : Contains calls call
  pub for_row : IsForRow p call.request
  pub learned : ((call.request ≡ decide_of p.id p.now) × (call.reply ≡ reply.Applied)) ⊎ ((at : ℤ) × ObservesRow p.id decision.Committed at call.reply)

-- the deciding put, where it was asked, was out of memory
abbrev pub IsPutOutOfMemory : Work → List Call → Type 0
IsPutOutOfMemory p calls = AllByRecursion (λ c. c.request ≡ decide_of p.id p.now → c.reply ≡ reply.NoMemory) calls

-- the deciding put was not asked
abbrev pub IsUndecided : Work → List Call → Type 0
IsUndecided p calls = AllByRecursion (λ c. c.request ≢ decide_of p.id p.now) calls

---- what was applied and passed

-- the call in that place is the prepare of that group, and was applied
abbrev pub IsApplied : Work → List Call → ℕ → Type 0
IsApplied p calls i = (q : Request) → slice_get (prepares p) i ≡ Some q → slice_get calls i ≡ Some (record { request = q; reply = reply.Applied })

-- the store served the call: it neither failed nor was out of memory
abbrev pub is_served : Reply → Bool
is_served reply.Fault = false
is_served reply.NoMemory = false
is_served r = true

-- a check was made, and found what it is to find
pub record IsPassed (k : Check) (c : Call) : Type 0 where
  pub asked : c.request ≡ k.request
  pub fits : CanAnswer k.request c.reply
  pub served : is_served c.reply ≡ true
  pub same : difference_in k c.reply ≡ None

-- the call in its place after the prepares is that check, and passed
abbrev pub HasPassed : Work → List Call → ℕ → Type 0
HasPassed p calls i = (k : Check) → slice_get (checks p) i ≡ Some k → (c : Call) × (slice_get calls (groups_of p + i) ≡ Some c) × IsPassed k c

-- Every prepare was applied, and every check has passed.
pub record IsReady (p : Work) (calls : List Call) : Type 0 where
  pub prepared : (i : ℕ) → IsApplied p calls i
  pub checked : (i : ℕ) → HasPassed p calls i

-- It is at its decision or after it: every prepare was applied, and every check has passed.
abbrev pub has_passed : Stage → Bool
has_passed (Deciding d) = true
has_passed (Forward i) = true
has_passed (Over outcome.Committed) = true
has_passed (Over (outcome.Expired id)) = true
has_passed (Over (outcome.Unknown id)) = true
has_passed (Over (outcome.BadRecord key)) = true
has_passed s = false

-- it went on from that prepare
abbrev pub is_prepared : ℕ → Stage → Bool
is_prepared i (Preparing j) = nat_lt i j
is_prepared i (Checking j) = true
is_prepared i s = has_passed s

-- it went on from that check
abbrev pub is_checked : ℕ → Stage → Bool
is_checked i (Checking j) = nat_lt i j
is_checked i s = has_passed s

-- it rolls forward, or is answered Committed
abbrev pub has_committed : Stage → Bool
has_committed (Forward i) = true
has_committed (Over outcome.Committed) = true
has_committed s = false

---- a COMMIT that nothing stops

-- how many calls it makes before its deciding put
abbrev pub calls_before : Work → ℕ
calls_before p = groups_of p + reads_of p

abbrev pub is_unmet : Reply → Bool
is_unmet (reply.NotMet found) = true
is_unmet (reply.NotAll place found) = true
is_unmet r = false

-- No prepare, no check and no deciding put faulted, was out of memory or not met, and each check found what it is to find.
-- The rolls are not part of it.
pub record HasNoFailure (p : Work) (calls : List Call) : Type 0 where
  pub served : (i : ℕ) (c : Call) → slice_get calls i ≡ Some c → i ≤ calls_before p → is_served c.reply ≡ true
  pub met : (i : ℕ) (c : Call) → slice_get calls i ≡ Some c → i ≤ calls_before p → is_unmet c.reply ≡ false
  pub same : (i : ℕ) (k : Check) (c : Call) → slice_get (checks p) i ≡ Some k → slice_get calls (groups_of p + i) ≡ Some c → difference_in k c.reply ≡ None

-- A COMMIT makes these calls, all of them well, and is then at that stage.
pub record MakesWell (p : Work) (calls : List Call) (s : Stage) : Type 0 where
  pub makes : Makes p calls s
  pub well : HasNoFailure p calls
