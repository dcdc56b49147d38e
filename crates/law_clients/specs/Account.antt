-- A client's history so far, and an event that extends it, as the laws of stories speak of them.
use Rattle.std.specs.Prelude.{◌≡◌, ◌++◌, ℕ, List, [], ◌∷◌, Option, Some, None, true}
use Rattle.law_clients.specs.Types.{Answer, Event, How, Reply, Request}
use Rattle.sdb_model.specs.declared.event.Event.TheVariants as event
use Rattle.sdb_model.specs.Rows.{Name}
use Rattle.sdb_model.specs.Sql.{reads_commit}
use Rattle.sdb_model.specs.Transactions.{Executed, statements_by}
use Rattle.law_protocol.specs.Lawful.{Labelled}
use Rattle.law_protocol.specs.Plan.{Plan}
use Rattle.law_clients.specs.System.{IsBy, SystemAt, SystemOk}
use Rattle.law_clients.specs.Story.{MayCome}
use Rattle.law_clients.specs.History.{AllStories, BeginsNext, IsOrdinary, IsAnswerOf, KeepsTxns, LeavesHold, OthersUnchanged, HistoryInvariant, ClientHistory, HistoryStep, executed_of_take, with_answered, with_waiting}

-- The events so far, where the clients are, and the story of one of them.
pub record Account : Type 0 where
  pub events : List Event
  pub past : List Labelled
  pub sys : SystemAt
  pub client : ℕ
  pub answered : ClientHistory
  pub story : HistoryInvariant events past sys client answered

-- After one more event this is its story.
abbrev pub IsExtendedBy : Account → Labelled → SystemAt → ClientHistory → Type 0
IsExtendedBy k q next x = HistoryStep k.events k.past q next k.client x

-- The event leaves what the client has in its hands, and is apart from its transactions.
abbrev pub Leaves : Account → Labelled → SystemAt → Type 0
Leaves k q next = LeavesHold k.past k.sys next k.client q

-- The event leaves the client's statements as they were.
abbrev pub IsUnchangedBy : Account → Labelled → Type 0
IsUnchangedBy k q = statements_by k.client (k.events ++ q.event ∷ []) ≡ statements_by k.client k.events

-- With the event this statement of the client has its answer.
abbrev pub IsExtendedWith : Account → Labelled → Executed → Type 0
IsExtendedWith k q s = IsAnswerOf k.events k.client k.answered q s

-- The statement is an ordinary one, and leaves the story in form.
pub record IsOrdinaryStatement (k : Account) (s : Executed) : Type 0 where
  pub may : MayCome k.answered.rest s
  pub ordinary : IsOrdinary k.answered.rest s

-- The event is the taking of a text while none waits.
pub record TakesTextAt (k : Account) (q : Labelled) (text : List ℕ) (answered : Option Answer) : Type 0 where
  pub none_waits : k.answered.waiting ≡ None
  pub takes : q.event ≡ event.Take k.client text answered

-- its statement waits
abbrev pub waits_with : Account → List ℕ → ClientHistory
waits_with k text = with_waiting k.answered (executed_of_take k.events text None)

-- or was answered as it was accepted
abbrev pub answered_with : Account → List ℕ → Answer → ClientHistory
answered_with k text a = with_answered k.answered (executed_of_take k.events text (Some a))

-- The text is the COMMIT of the client's open transaction, accepted while none waits.
pub record StartsCommit (k : Account) (next : SystemAt) (text : List ℕ) : Type 0 where
  pub none_waits : k.answered.waiting ≡ None
  pub commits : reads_commit text ≡ true
  pub keeps : KeepsTxns k.client k.sys next

-- The text is the BEGIN of its next transaction, accepted while none waits.
pub record StartsTransaction (k : Account) (next : SystemAt) (text : List ℕ) : Type 0 where
  pub none_waits : k.answered.waiting ≡ None
  pub begins : BeginsNext k.events k.past k.sys next k.client k.answered text

-- The event is a call whose reply answers the statement that waits.
pub record AnswersWaiting (k : Account) (q : Labelled) (a : Answer) : Type 0 where
  pub waiting : Executed
  pub store : Name
  pub ask : Request
  pub how : How
  pub reply : Reply
  pub waits : k.answered.waiting ≡ Some waiting
  pub calls : q.event ≡ event.Call k.client store ask how reply (Some a)

-- A turn of one client that keeps the invariant of all clients, leaves the others where they are, and extends its story.
pub record StoryTurn : Type 0 where
  pub plan : ℕ → Plan
  pub events : List Event
  pub past : List Labelled
  pub sys : SystemAt
  pub next : SystemAt
  pub client : ℕ
  pub turn : Labelled
  pub answered : ℕ → ClientHistory
  pub more : ClientHistory
  pub ok : SystemOk plan (turn ∷ past) next
  pub by : IsBy client turn.event
  pub others : OthersUnchanged client sys next
  pub stories : AllStories events past sys answered
  pub own : HistoryStep events past turn next client more
