-- What the records that a statement has read were settled as, which is what they mean by its calls.
use Rattle.std.specs.Prelude.{◌≡◌, ◌⊎◌, ◌<◌, ◌^◌, ℕ, Bool, true, false, List, [], ◌∷◌, ◌++◌, map, filter, find, Option, Some, IfSome, Contains}
use Rattle.std.specs.List.{AllByRecursion, filter_map, flat_map, list_all}
use Rattle.std.specs.Option.{option_and_then}
use Rattle.law_answers.specs.Types.{Decided, Decision, Event, Key, ReadStep, Record, RecoverPhase, Reply, Request, Span, TxId}
use Rattle.sdb_types.specs.declared.record.Reply.TheVariants as reply
use Rattle.sdb_types.specs.declared.record.Request.TheVariants as ask
use Rattle.sdb_types.specs.declared.record.State.TheVariants as state
use Rattle.sdb_types.specs.Contents.{CanAnswer, in_span, record_among, rise}
use Rattle.sdb_record.specs.declared.coordinator.Decision.TheVariants as decision
use Rattle.sdb_record.specs.Meta.{id_in, is_in, is_moment, is_transactional}
use Rattle.sdb_record.specs.Moved.{version_of}
use Rattle.sdb_record.specs.Rolls.{IsWrite, image_under}
use Rattle.sdb_model.specs.Calls.{StoreCall, calls_of, decision_observed, put_by, records_read}
use Rattle.sdb_model.specs.ReadSet.{KeyRead, ReadItem, SpanRead, meaning_of, read_items, reads_rows, rolls, version_read, has_read}
use Rattle.sdb_model.specs.Transactions.{Executed, ends, from_begin, id_of}
use Rattle.sdb_model.specs.declared.answer.Answer.TheVariants as answer
use Rattle.sdb_model.specs.Causes.{ConflictsAtCommit, HasChanged}
use Rattle.sdb_model.specs.Sql.{reads_commit}
use Rattle.sdb_phases.specs.declared.step.RecoverPhase.TheVariants as phase
use Rattle.sdb_phases.specs.Work.{Work}
use Rattle.sdb_txn.specs.declared.read.ReadStep.TheVariants as step
use Rattle.sdb_txn.specs.Read.{Asking, Ended, ReadStage, Resolving}
use Rattle.sdb_snapshot.specs.Seen.{Seen}
use Rattle.law_clients.specs.Calls.{IsUnrolled}
use Rattle.sdb_validate.specs.Rescan.{reads_rise}

-- a call showed this decision on a transaction
pub record HasObserved (calls : List StoreCall) (id : TxId) (d : Decided) : Type 0 where
  pub call : StoreCall
  pub among : Contains calls call
  pub observed : decision_observed id call ≡ Some d

-- A record was rolled: by a decision that a call showed on its transaction, and the call that rolled it put what this makes of it.
pub record IsRolledAs (calls : List StoreCall) (r : Record) (o : Option Record) : Type 0 where
  pub id : TxId
  pub decided : Decided
  pub roll : StoreCall
  pub open_still : is_in state.Committed r.columns ≡ false
  pub writer : id_in r.columns ≡ Some id
  pub observed : HasObserved calls id decided
  pub image : o ≡ image_under r (Some decided)
  pub rolled : find (rolls r) calls ≡ Some roll
  pub puts : put_by roll.request ≡ o

-- A record that was found, with what it was settled as: itself where it is committed, or what it was rolled to.
pub record IsSettledAs (calls : List StoreCall) (e : Record × Option Record) : Type 0 where
  pub key : IfSome e.1 (λ b. b.key ≡ e.0.key)
  pub by : ((is_in state.Committed e.0.columns ≡ true) × (e.1 ≡ Some e.0)) ⊎ IsRolledAs calls e.0 e.1

-- a decision of that kind was observed on a transaction
abbrev pub HasDecided : List StoreCall → TxId → Decision → (Decided → Type 0) → Type 0
HasDecided calls id w P = (d : Decided) × HasObserved calls id d × (d.decision ≡ w) × P d

-- What the calls showed where a recovery rolls.
abbrev pub PhaseObserves : List StoreCall → TxId → RecoverPhase → Type 0
PhaseObserves calls id (phase.Abort n) = is_moment n ≡ true
PhaseObserves calls id (phase.Forward n) = HasDecided calls id decision.Committed (λ d. d.created_at ≡ n)
PhaseObserves calls id phase.Back = HasDecided calls id decision.Aborted (λ d. Unit {0})
PhaseObserves calls id p = Unit {0}

-- a read that found what there is
abbrev pub IsRows : Reply → Type 0
IsRows (reply.Found found) = Unit {0}
IsRows (reply.Rows rows) = Unit {0}
IsRows r = ⊥

-- The first call asked for the rows, and no other reads rows of tables; the rows up to these that are left pass the checks and were
-- settled, and these are the images; no call rolled one that is left.
pub record HasRead (q : Request) (calls : List StoreCall) (images left : List Record) : Type 0 where
  pub first : StoreCall
  pub rest : List StoreCall
  pub calls_are : calls ≡ first ∷ rest
  pub request : first.request ≡ q
  pub can : CanAnswer q first.reply
  pub answered : IsRows first.reply
  pub others : AllByRecursion (λ m. reads_rows m ≡ false) rest
  pub steps : List (Record × Option Record)
  pub settled : AllByRecursion (IsSettledAs calls) steps
  pub transactional : AllByRecursion (λ e. is_transactional e.0 ≡ true) steps
  pub rows : records_read first.reply ≡ map (λ e. e.0) steps ++ left
  pub images_are : images ≡ filter_map (λ e. e.1) steps
  pub unrolled : AllByRecursion (IsUnrolled calls) left
  pub rises : rise left ≡ true

abbrev pub EndObserves : Request → List StoreCall → ReadStep → Type 0
EndObserves q calls (step.Images images) = HasRead q calls images []
EndObserves q calls s = Unit {0}

-- What the calls showed where a read is.
abbrev pub StageObserves : Request → List StoreCall → ReadStage → Type 0
StageObserves q calls Asking = calls ≡ []
StageObserves q calls (Resolving images rec meta p left) = HasRead q calls images (rec ∷ left) × PhaseObserves calls meta.id p
StageObserves q calls (Ended s) = EndObserves q calls s

---- what a transaction has read

-- What a transaction has read and scanned is recorded, and what a scan found lies in its span.
pub record SeenBy (read_set : List ReadItem) (s : Seen) : Type 0 where
  pub reads : AllByRecursion (λ r. Contains read_set (KeyRead r)) s.reads
  pub scans : AllByRecursion (λ x. Contains read_set (SpanRead x) × (list_all (λ r. in_span x.span r.key) x.found ≡ true)) s.scans

-- a version of a key is recorded
pub record IsReadAt (read_set : List ReadItem) (key : Key) (version : Option TxId) : Type 0 where
  pub item : ReadItem
  pub among : Contains read_set item
  pub as_read : version_read item key ≡ Some version

-- The same holds of what a COMMIT takes, with the version of the base of each write.
pub record WorkBy (read_set : List ReadItem) (p : Work) : Type 0 where
  pub reads : AllByRecursion (λ r. Contains read_set (KeyRead r)) p.reads
  pub scans : AllByRecursion (λ x. Contains read_set (SpanRead x) × (list_all (λ r. in_span x.span r.key) x.found ≡ true) × (reads_rise x.found ≡ true)) p.scans
  pub writes : AllByRecursion (λ w. IsReadAt read_set w.key (version_of w.base)) p.writes
  pub valid : AllByRecursion IsWrite p.writes

---- statements

-- the read set of these statements of a transaction
abbrev pub read_items_of_body : List Event → ℕ → List Executed → List ReadItem
read_items_of_body events c body = flat_map (λ s. read_items (calls_of events c s)) (filter (has_read events c) body)

-- What a scan of a statement found at a key, by what its rows mean, is something else than the read set has there.
abbrev pub ChangesAtScan : List StoreCall → List ReadItem → Key → Option Record → Type 0
ChangesAtScan calls read_set key found =
    (m : StoreCall) × (span : Span) × (rows : List Record) × Contains calls m × (m.request ≡ ask.Scan span) × (m.reply ≡ reply.Rows rows) × (in_span span key ≡ true)
    × (found ≡ option_and_then (meaning_of calls) (record_among rows key)) × HasChanged read_set key found

-- Why a statement found a change, by whether it is COMMIT: a call of the COMMIT found something else, or such a scan.
abbrev pub ChangesBy : Bool → TxId → List StoreCall → List ReadItem → Key → Option Record → Type 0
ChangesBy true id calls read_set key found = ConflictsAtCommit calls read_set id key found
ChangesBy false id calls read_set key found = ChangesAtScan calls read_set key found

-- A statement that was answered Conflict ended its transaction, and had found a change.
pub record IsChangedIn (events : List Event) (c : ℕ) (answered : List Executed) (s : Executed) (key : Key) (found : Option Record) : Type 0 where
  pub n : ℕ
  pub begin : Executed
  pub body : List Executed
  pub tail : List Executed
  pub since : from_begin n answered ≡ begin ∷ (body ++ s ∷ tail)
  pub goes_on : AllByRecursion (λ x. ends x ≡ false) body
  pub over : ends s ≡ true
  pub small : n < 2 ^ 64
  pub why : ChangesBy (reads_commit s.text) (id_of c n) (calls_of events c s) (read_items_of_body events c body) key found

-- each of these statements that was answered Conflict did so
abbrev pub AreChanged : List Event → ℕ → List Executed → List Executed → Type 0
AreChanged events c answered ss = AllByRecursion (λ s. (key : Key) (found : Option Record) → s.answer ≡ Some (answer.Conflict key found) → IsChangedIn events c answered s key found) ss
