-- Turns of clients, and the cause invariant after them.
use Rattle.std.specs.Prelude.{◌≡◌, ℕ, ℤ, Bool, List, true}
use Rattle.law_answers.specs.Types.{Event, Script, Table}
use Rattle.sdb_model.specs.Catalogs.{catalog_after}
use Rattle.sdb_model.specs.Exec.{Tables}
use Rattle.sdb_model.specs.Follows.{Follows}
use Rattle.law_clients.specs.Invariant.{RunInvariant}
use Rattle.law_clients.specs.About.{IsOfTables}
use Rattle.law_clients.specs.States.{ClientState, doing_of, system_of}
use Rattle.law_clients.specs.Turns.{CallReplied, TextExecuted}
use Rattle.law_answers.specs.Invariant.{CauseInvariant, IsGate}
use Rattle.sdb_model.specs.Calls.{is_stored_reply}

-- The events so far over a catalog, the moment that the clock shows, and the clients, with the cause invariant of these.
pub record CauseInvariantAt : Type 0 where
  pub catalog : List Table
  pub events : List Event
  pub now : ℤ
  pub states : ℕ → ClientState
  pub tied : CauseInvariant catalog events now states

-- The run invariant holds of these clients with some events, such as those of the same run on other stores.
pub record AreReached (catalog : List Table) (states : ℕ → ClientState) : Type 0 where
  pub events : List Event
  pub fit : List Table → Tables → Bool
  pub running : RunInvariant catalog fit events (system_of states) (doing_of states)

-- A text is accepted by a client of these, under the catalog as it is after the events, where the gate says what the others do.
pub record IsGatedTake (catalog : List Table) (events : List Event) (t : TextExecuted) : Type 0 where
  pub gate : IsGate t.states t.client t.q.gate
  pub current : t.q.catalog ≡ catalog_after catalog events
  pub reached : AreReached catalog t.states

-- the cause invariant holds at its moment
abbrev pub CauseInvariantAtTake : List Table → TextExecuted → List Event → (ℕ → ClientState) → Type 0
CauseInvariantAtTake catalog t events states = CauseInvariant catalog events t.q.now states

-- A client takes a text where that gate and the cause invariant hold.
pub record TextWithCauses : Type 0 where
  pub catalog : List Table
  pub events : List Event
  pub taken : TextExecuted
  pub gated : IsGatedTake catalog events taken
  pub causes : CauseInvariantAtTake catalog taken events taken.states

-- A client of these that is on tables of the catalog as it is after the events gets a reply with records whose columns are as records hold
-- them.
pub record IsStoredReply (catalog : List Table) (events : List Event) (r : CallReplied) : Type 0 where
  pub stored : is_stored_reply r.call.reply ≡ true
  pub current : r.catalog ≡ catalog_after catalog events
  pub about : IsOfTables r.catalog (r.states r.call.client).client
  pub reached : AreReached catalog r.states

-- the cause invariant holds at its moment
abbrev pub CauseInvariantAtReply : List Table → CallReplied → List Event → (ℕ → ClientState) → Type 0
CauseInvariantAtReply catalog r events states = CauseInvariant catalog events r.call.now states

-- A client gets such a reply where the cause invariant holds.
pub record ReplyWithCauses : Type 0 where
  pub catalog : List Table
  pub events : List Event
  pub replied : CallReplied
  pub stored : IsStoredReply catalog events replied
  pub causes : CauseInvariantAtReply catalog replied events replied.states

-- Events follow the moves of a script.
pub record ScriptEvents : Type 0 where
  pub script : Script
  pub events : List Event
  pub follows : Follows script events
