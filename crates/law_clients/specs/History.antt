-- A client's history up to an event, and how the actions file it.
use Rattle.std.specs.Prelude.{◌≡◌, ◌≢◌, ◌<◌, ◌+◌, ◌^◌, ℕ, suc, true, false, List, [], ◌∷◌, ◌++◌, length, Option, Some, None, IfSome}
use Rattle.std.specs.List.{AllByRecursion}
use Rattle.law_clients.specs.Types.{Answer, Event, TxId}
use Rattle.sdb_model.specs.declared.answer.Answer.TheVariants as answer
use Rattle.sdb_model.specs.declared.event.Event.TheVariants as event
use Rattle.sdb_model.specs.Sql.{reads_commit}
use Rattle.sdb_model.specs.Transactions.{Executed, statements_by, begins, ends}
use Rattle.law_protocol.specs.History.{Action, Begins, Takes, Ends, at}
use Rattle.law_protocol.specs.Lawful.{Labelled, answer_of, id, protocol_state, labelled_with}
use Rattle.law_clients.specs.System.{SystemAt, Has}
use Rattle.law_clients.specs.Story.{Finished, Rest, Closed, Opened, settle, saids_of, statements_in, IsEndedTxn, IsRest, txn_ended_at}
use Rattle.law_clients.specs.Filed.{number, IsFiledAt}

---- what the events say

-- A client's history so far: the story of what was answered, and the statement that waits for its answer.
pub record ClientHistory : Type 0 where
  pub whole : List Finished
  pub rest : Rest
  pub waiting : Option Executed

-- before the first event
abbrev pub nothing_yet : ClientHistory
nothing_yet = record { whole = []; rest = Closed []; waiting = None }

-- the statement that waits, if one does
abbrev pub waiting_of : Option Executed → List Executed
waiting_of None = []
waiting_of (Some s) = s ∷ []

-- all of it, in order
abbrev pub all_statements : ClientHistory → List Executed
all_statements x = (saids_of x.whole ++ statements_in x.rest) ++ waiting_of x.waiting

-- with a statement that is accepted, and waits
abbrev pub with_waiting : ClientHistory → Executed → ClientHistory
with_waiting x s = record { whole = x.whole; rest = x.rest; waiting = Some s }

-- with a statement and its answer; none waits
abbrev pub with_answered : ClientHistory → Executed → ClientHistory
with_answered x s = record { whole = (settle x.whole x.rest s).whole; rest = (settle x.whole x.rest s).rest; waiting = None }

-- how many transactions are open
abbrev pub begun_in : Rest → ℕ
begun_in (Closed gap) = 0
begun_in (Opened gap b body) = 1

-- how many transactions have begun
abbrev pub count_of : ClientHistory → ℕ
count_of x = length x.whole + begun_in x.rest

---- how it is filed

-- What holds of an open transaction: it began with its BEGIN, and where its COMMIT was accepted, that waits.
abbrev pub OpenFiled : List Labelled → ℕ → ClientHistory → Rest → Type 0
OpenFiled past c x (Closed gap) = Unit {0}
OpenFiled past c x (Opened gap b body) =
    ((protocol_state past).begun (number c (length x.whole)) ≡ b.accepted)
    × ((protocol_state past).accepted (number c (length x.whole)) ≡ true → (s : Executed) × (x.waiting ≡ Some s) × (reads_commit s.text ≡ true) × (s.accepted ≡ (protocol_state past).accepted_at (number c (length x.whole))))

-- a transaction is open
abbrev pub IsOpened : Rest → Type 0
IsOpened (Closed gap) = ⊥
IsOpened (Opened gap b body) = Unit {0}

-- a transaction of a client has begun under that number
pub record HasBegun (past : List Labelled) (c k : ℕ) : Type 0 where
  pub begun : (protocol_state past).begun (number c k) ≢ 0
  pub owner : (protocol_state past).owner (number c k) ≡ c
  pub client : c < 2 ^ 64
  pub ordinal : suc k < 2 ^ 64

-- A client's history after the events so far: it has its statements, each transaction that ended is filed, and the one in the
-- client's hands is the one that is open.
pub record HistoryInvariant (events : List Event) (past : List Labelled) (sys : SystemAt) (c : ℕ) (x : ClientHistory) : Type 0 where
  pub now : (protocol_state past).now ≡ length events
  pub same : statements_by c events ≡ all_statements x
  pub ok : AllByRecursion IsEndedTxn x.whole
  pub rest_ok : IsRest x.rest
  pub waits : IfSome x.waiting (λ s. s.answer ≡ None)
  pub count : sys.begun c ≡ count_of x
  pub alive : (k : ℕ) → k < count_of x → HasBegun past c k
  pub filed : (k : ℕ) (f : Finished) → txn_ended_at x.whole k ≡ Some f → IsFiledAt past (number c k) f
  pub opened : OpenFiled past c x x.rest
  pub hold : (t : ℕ) → Has (sys.clients c) t → IsOpened x.rest × (t ≡ number c (length x.whole))

---- events

-- a part begins no transaction of that number and takes no COMMIT of it
abbrev pub IsNotOf : ℕ → Action → Type 0
IsNotOf t (Begins u c) = u ≢ t
IsNotOf t (Takes u) = u ≢ t
IsNotOf t action = Unit {0}

-- An event begins no transaction that a client has begun, nor takes a COMMIT of one.
abbrev pub IsApart : List Labelled → ℕ → Action → Type 0
IsApart past c action = (t : ℕ) → (protocol_state past).owner t ≡ c → (protocol_state past).begun t ≢ 0 → IsNotOf t action

-- Where the client is after it, it has begun as many transactions and has none in its hands that it hadn't.
pub record KeepsTxns (c : ℕ) (sys next : SystemAt) : Type 0 where
  pub begun : next.begun c ≡ sys.begun c
  pub hold : (t : ℕ) → Has (next.clients c) t → Has (sys.clients c) t

-- An event gives a statement of a client its answer: one that it takes, or the one that waited.
pub record IsAnswerOf (events : List Event) (c : ℕ) (x : ClientHistory) (q : Labelled) (s : Executed) : Type 0 where
  pub executed : statements_by c (events ++ q.event ∷ []) ≡ (saids_of x.whole ++ statements_in x.rest) ++ s ∷ []
  pub answer : answer_of q.event ≡ s.answer
  pub answered : s.reached ≡ length events + 1
  pub waited : (w : Executed) → x.waiting ≡ Some w → (s.text ≡ w.text) × (s.accepted ≡ w.accepted)

-- a statement that begins no transaction where none is open, and ends none where one is
abbrev pub IsOrdinary : Rest → Executed → Type 0
IsOrdinary (Closed gap) s = begins s ≡ false
IsOrdinary (Opened gap b body) s = ends s ≡ false

-- a client begins its next transaction, and has it in its hands
pub record BeginsHold (c : ℕ) (sys next : SystemAt) (t : ℕ) : Type 0 where
  pub begun : next.begun c ≡ sys.begun c + 1
  pub hold : (u : ℕ) → Has (next.clients c) u → u ≡ t

-- a client has no transaction in its hands any more
pub record EndsHold (c : ℕ) (sys next : SystemAt) : Type 0 where
  pub begun : next.begun c ≡ sys.begun c
  pub hold : (u : ℕ) → Has (next.clients c) u → ⊥

-- an event counts one more: only the end of a transaction isn't an event
abbrev pub IsCounted : Action → Type 0
IsCounted (Ends t) = ⊥
IsCounted r = Unit {0}

-- An event is apart from a client's transactions, and leaves the client with what it had in its hands, or less.
pub record LeavesHold (past : List Labelled) (sys next : SystemAt) (c : ℕ) (q : Labelled) : Type 0 where
  pub counts : IsCounted q.action
  pub apart : IsApart past c q.action
  pub keeps : KeepsTxns c sys next

-- a client's story after one event more
abbrev pub HistoryStep : List Event → List Labelled → Labelled → SystemAt → ℕ → ClientHistory → Type 0
HistoryStep events past q next c x = HistoryInvariant (events ++ q.event ∷ []) (q ∷ past) next c x

-- Unknown names the transaction
abbrev pub NamesIt : ℕ → Executed → Type 0
NamesIt t s = (u : TxId) → s.answer ≡ Some (answer.Unknown u) → u ≡ id t

-- the statement of a Take
abbrev pub executed_of_take : List Event → List ℕ → Option Answer → Executed
executed_of_take events text a = record { accepted = 1 + length events; text = text; answer = a; reached = 1 + length events }

-- the statement that waited, with its answer
abbrev pub executed_with_answer : List Event → Executed → Answer → Executed
executed_with_answer events w a = record { accepted = w.accepted; text = w.text; answer = Some a; reached = 1 + length events }

-- A BEGIN is answered Done to a client whose story has nothing open, under the number of its next transaction, which was not accepted.
pub record BeginsNext (events : List Event) (past : List Labelled) (sys next : SystemAt) (c : ℕ) (x : ClientHistory) (text : List ℕ) : Type 0 where
  pub gap : List Executed
  pub closed : x.rest ≡ Closed gap
  pub begin : begins (executed_of_take events text (Some answer.Done)) ≡ true
  pub client : c < 2 ^ 64
  pub ordinal : suc (length x.whole) < 2 ^ 64
  pub fresh : (protocol_state past).accepted (number c (length x.whole)) ≡ false
  pub hold : BeginsHold c sys next (number c (length x.whole))

-- the event
abbrev pub begun_labelled : ℕ → ClientHistory → List ℕ → Labelled
begun_labelled c x text = labelled_with (Begins (number c (length x.whole)) c) (event.Take c text (Some answer.Done))

-- the taking of the open transaction's COMMIT
abbrev pub commit_started : ℕ → ClientHistory → List ℕ → Labelled
commit_started c x text = labelled_with (Takes (number c (length x.whole))) (event.Take c text None)

-- An answer ends the open transaction of a story.
pub record EndsOpen (past : List Labelled) (sys next : SystemAt) (c : ℕ) (x : ClientHistory) (q : Labelled) (s : Executed) : Type 0 where
  pub gap : List Executed
  pub begin : Executed
  pub body : List Executed
  pub opened : x.rest ≡ Opened gap begin body
  pub plain : begins s ≡ false
  pub over : ends s ≡ true
  pub ending : q.ends ≡ Some (number c (length x.whole))
  pub names : NamesIt (number c (length x.whole)) s
  pub counts : IsCounted q.action
  pub apart : IsApart past c q.action
  pub hold : EndsHold c sys next

-- each client's story after the events so far
abbrev pub AllStories : List Event → List Labelled → SystemAt → (ℕ → ClientHistory) → Type 0
AllStories events past sys answered = (c : ℕ) → HistoryInvariant events past sys c (answered c)

-- with another history of one client
abbrev pub with_history : (ℕ → ClientHistory) → ℕ → ClientHistory → ℕ → ClientHistory
with_history answered c x d = at answered c x d

-- a turn of one client leaves where the others are, and how many transactions they have begun
pub record OthersUnchanged (c : ℕ) (sys next : SystemAt) : Type 0 where
  pub clients : (d : ℕ) → d ≢ c → next.clients d ≡ sys.clients d
  pub begun : (d : ℕ) → d ≢ c → next.begun d ≡ sys.begun d
