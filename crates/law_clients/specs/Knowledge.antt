-- The events so far with the invariant of all clients, and its preservation by turns and moves.
use Rattle.std.specs.Prelude.{◌≡◌, ◌≢◌, ◌++◌, ℕ, List, ◌∷◌, Option, Some}
use Rattle.std.specs.List.{AllByRecursion}
use Rattle.law_clients.specs.Types.{Access, Answer, How, Meta, Record, RecoverPhase, Reply, Request, Span, TxId}
use Rattle.sdb_record.specs.declared.access.Access.TheVariants as access
use Rattle.sdb_model.specs.declared.answer.Answer.TheVariants as answer
use Rattle.sdb_model.specs.declared.event.Event.TheVariants as event
use Rattle.sdb_model.specs.Rows.{Name}
use Rattle.law_protocol.specs.History.{Action}
use Rattle.law_protocol.specs.Lawful.{IsEnabled, Labelled, WasDelayed, ends_with, labelled_with}
use Rattle.law_protocol.specs.Plan.{Plan}
use Rattle.sdb_phases.specs.Commit.{Stage, pending, step}
use Rattle.sdb_phases.specs.Recover.{recover_next, recover_request_at}
use Rattle.sdb_phases.specs.Work.{Work}
use Rattle.sdb_snapshot.specs.Seen.{Seen, nothing}
use Rattle.law_clients.specs.Reads.{with_read}
use Rattle.law_clients.specs.Reader.{RecoverOk, recover_action}
use Rattle.law_clients.specs.ReadAt.{AreInOrder, IsImage, IsLeft, IsOfData, ReadAt, ReadOk, keys_of, read_pending, read_action, read_step}
use Rattle.law_clients.specs.Vacuum.{VacuumModel, vacuum_call, vacuum_action, vacuum_model_step}
use Rattle.law_clients.specs.System.{ClientAt, ClientCall, Committing, EndsOwn, IsBegin, IsBy, IsReplyTo, NoneOpen, NoneRunVacuum, Open, Reading, Resting, RunsVacuum, SystemAt, SystemOk, call_event, commit_begun, next_id, take_labelled, with_begun, with_client, with_plan}

-- The events so far with their actions, plans with which they obey the rules, and the states of the clients: and what holds of these.
pub record Knowledge : Type 0 where
  pub plan : ℕ → Plan
  pub past : List Labelled
  pub sys : SystemAt
  pub ok : SystemOk plan past sys

-- It holds too of the clients with one of them elsewhere.
abbrev pub StepsTo : Knowledge → ℕ → ClientAt → Type 0
StepsTo k c x = SystemOk k.plan k.past (with_client k.sys c x)

-- It holds of these clients after one more event.
abbrev pub TurnsTo : Knowledge → Labelled → SystemAt → Type 0
TurnsTo k q sys = SystemOk k.plan (q ∷ k.past) sys

-- It holds after an event with which one of them comes to be there.
abbrev pub TurnsAt : Knowledge → Labelled → ℕ → ClientAt → Type 0
TurnsAt k q c x = TurnsTo k q (with_client k.sys c x)

-- It holds once the COMMIT of this work is accepted, which is its transaction's plan from then on.
abbrev pub StartsCommitWith : Knowledge → ℕ → List ℕ → Work → Type 0
StartsCommitWith k c text p = SystemOk (with_plan k.plan p) (take_labelled c text p ∷ k.past) (commit_begun k.sys c p)

---- where clients are

-- A client may begin a transaction.
pub record MayBegin (sys : SystemAt) (c : ℕ) (text : List ℕ) : Type 0 where
  pub rests : sys.clients c ≡ Resting
  pub begins : IsBegin sys c text
  pub none_run_vacuum : NoneRunVacuum sys

-- the clients once it has
abbrev pub with_opened : SystemAt → ℕ → SystemAt
with_opened sys c = with_begun sys c (Open (next_id sys c) nothing)

-- A client may begin to scan a span for VACUUM.
pub record MayScanSpan (sys : SystemAt) (c : ℕ) (span : Span) : Type 0 where
  pub rests : sys.clients c ≡ Resting
  pub none_open : NoneOpen sys
  pub of_data : IsOfData (access.Scan span)

-- A client with an open transaction, which makes no call.
pub record OpenClient (sys : SystemAt) : Type 0 where
  pub client : ℕ
  pub id : TxId
  pub seen : Seen
  pub is_open : sys.clients client ≡ Open id seen

-- A client whose statement reads, and how far it is.
pub record ReadingClient (sys : SystemAt) (stage : ReadAt) : Type 0 where
  pub client : ℕ
  pub id : TxId
  pub seen : Seen
  pub asked : Access
  pub reads : sys.clients client ≡ Reading id seen asked stage

-- what its transaction has read once these images are recorded
abbrev pub seen_with : {sys : SystemAt} {stage : ReadAt} → ReadingClient sys stage → List Record → Seen
seen_with r images = with_read r.seen r.asked images

---- replies

-- A reply to the pending call of a COMMIT.
pub record CommitReply (sys : SystemAt) : Type 0 where
  pub call : ClientCall
  pub work : Work
  pub stage : Stage
  pub commits : sys.clients call.client ≡ Committing work stage
  pub replies : IsReplyTo (pending work stage) call

-- the stage that it takes the COMMIT to
abbrev pub commit_next : {sys : SystemAt} → CommitReply sys → Stage
commit_next r = step r.work r.stage r.call.reply

-- A reply to the pending call of a read, and the answer to its statement, if it gives one.
pub record AnsweredRead (sys : SystemAt) : Type 0 where
  pub call : ClientCall
  pub id : TxId
  pub seen : Seen
  pub asked : Access
  pub stage : ReadAt
  pub reads : sys.clients call.client ≡ Reading id seen asked stage
  pub replies : IsReplyTo (read_pending asked stage) call
  pub answered : Option Answer
  pub other : answered ≢ Some answer.Committed

-- where it takes the read to
abbrev pub read_after : {sys : SystemAt} → AnsweredRead sys → ClientAt
read_after r = Reading r.id r.seen r.asked (read_step r.stage r.call.now r.call.reply)

-- its event, with its part
abbrev pub read_labelled : {sys : SystemAt} → AnsweredRead sys → Labelled
read_labelled r = labelled_with (read_action r.stage r.call.reply) (call_event r.call r.answered)

-- the same, where it ends the transaction
abbrev pub read_ended : {sys : SystemAt} → AnsweredRead sys → Labelled
read_ended r = ends_with r.id.0 (read_action r.stage r.call.reply) (call_event r.call r.answered)

-- A reply to the pending call of a VACUUM, and the answer to VACUUM, if it gives one.
pub record VacuumReplyAt (sys : SystemAt) : Type 0 where
  pub call : ClientCall
  pub stage : VacuumModel
  pub vacuums : sys.clients call.client ≡ RunsVacuum stage
  pub replies : IsReplyTo (vacuum_call stage) call
  pub answered : Option Answer
  pub other : answered ≢ Some answer.Committed

-- where it takes the VACUUM to
abbrev pub vacuum_after : {sys : SystemAt} → VacuumReplyAt sys → ClientAt
vacuum_after r = RunsVacuum (vacuum_model_step r.stage r.call.now r.call.reply)

-- its event, with its part
abbrev pub vacuum_labelled : {sys : SystemAt} → VacuumReplyAt sys → Labelled
vacuum_labelled r = labelled_with (vacuum_action r.stage r.call.reply) (call_event r.call r.answered)

-- A reply to the pending call of a recovery.
pub record RecoverReply (past : List Labelled) : Type 0 where
  pub call : ClientCall
  pub rec : Record
  pub meta : Meta
  pub phase : RecoverPhase
  pub ok : RecoverOk past rec meta phase
  pub replies : IsReplyTo (recover_request_at rec meta phase) call

-- its part
abbrev pub recovery_action : {past : List Labelled} → RecoverReply past → Action
recovery_action r = recover_action r.rec r.meta r.phase r.call.reply

-- the recovery knows what its next call needs
abbrev pub RecoversOn : {past : List Labelled} → RecoverReply past → Option Answer → Type 0
RecoversOn {past} r answered = RecoverOk (labelled_with (recovery_action r) (call_event r.call answered) ∷ past) r.rec r.meta (recover_next r.rec r.meta r.phase r.call.now r.call.reply).0

---- landings

-- A request whose call was delayed, with the action of this call, and its landing.
pub record Landing (past : List Labelled) : Type 0 where
  pub number : ℕ
  pub store : Name
  pub request : Request
  pub how : How
  pub reply : Reply
  pub action : Action
  pub was : WasDelayed past request action

-- the event, with this action
abbrev pub landing_labelled : {past : List Labelled} → Landing past → Labelled
landing_labelled l = labelled_with l.action (event.Land l.number l.store l.request l.how l.reply)

---- other clients and rows

-- The rules let an event of another client through, and it ends no transaction but its own client's.
pub record IsOthers (plan : ℕ → Plan) (past : List Labelled) (c d : ℕ) (q : Labelled) : Type 0 where
  pub apart : c ≢ d
  pub by : IsBy c q.event
  pub may : IsEnabled plan past q.event q.action
  pub ends : EndsOwn past c q

-- Images were observed at an access, and rows that are left, in their order.
pub record AreObserved (past : List Labelled) (a : Access) (images left : List Record) : Type 0 where
  pub each_image : AllByRecursion (IsImage past) images
  pub each_left : AllByRecursion (IsLeft past) left
  pub place : AreInOrder a (keys_of images ++ keys_of left)

-- A reply to the pending call of a read of data, whose rows are as they were observed.
pub record RowsReply (past : List Labelled) (a : Access) : Type 0 where
  pub call : ClientCall
  pub stage : ReadAt
  pub of_data : IsOfData a
  pub ok : ReadOk past a stage
  pub replies : IsReplyTo (read_pending a stage) call

-- its rows hold the same after it
abbrev pub SettlesOn : {past : List Labelled} {a : Access} → RowsReply past a → Option Answer → Type 0
SettlesOn {past} {a} r answered = ReadOk (labelled_with (read_action r.stage r.call.reply) (call_event r.call answered) ∷ past) a (read_step r.stage r.call.now r.call.reply)
