-- Turns of a client, and the invariant after them.
use Rattle.std.specs.Prelude.{◌≡◌, ◌<◌, ◌^◌, ℕ, ℤ, None, true, List, Option, Some, is_some}
use Rattle.law_clients.specs.Types.{Access, Answer, Event, Key, Keyed, Reply, Request, Table}
use Rattle.sdb_record.specs.Meta.{is_moment}
use Rattle.sdb_schema.specs.Catalog.{is_catalog}
use Rattle.sdb_model.specs.declared.event.Event.TheVariants as event
use Rattle.sdb_model.specs.Catalogs.{catalog_after}
use Rattle.sdb_model.specs.Exec.{find_table, named_table}
use Rattle.sdb_model.specs.Refused.{refusal_of}
use Rattle.sdb_exec.specs.declared.plan.PlanStep.TheVariants.{Finished}
use Rattle.sdb_exec.specs.Plans.{Planned, has_all_literals, step_of}
use Rattle.sdb_model.specs.Reads.{access_of}
use Rattle.sdb_client.specs.Client.{ClientAt as Client, ReplyPost, Taking, client_pending, next_id, TextStep}
use Rattle.sdb_snapshot.specs.Seen.{Seen, overlay}
use Rattle.law_clients.specs.System.{ClientCall, call_event}
use Rattle.law_clients.specs.Invariant.{RunInvariant}
use Rattle.law_clients.specs.Fitting.{tables_are_well_typed}
use Rattle.law_clients.specs.States.{ClientState, IsCalled, IsGated, IsReady, doing_of, system_of, with_state}
use Rattle.sdb_model.specs.Tables.{is_data}

---- plans

-- A plan of a statement that a catalog takes, which finishes so on the rows that a transaction sees.
pub record FinishedPlan : Type 0 where
  pub catalog : List Table
  pub plan : Planned
  pub seen : Seen
  pub answer : Answer
  pub changes : List Keyed
  pub is : is_catalog catalog ≡ true
  pub named : named_table catalog plan.statement ≡ Some plan.table
  pub asked : plan.asked ≡ true
  pub accepted : refusal_of catalog plan.statement ≡ None
  pub literals : has_all_literals plan.statement ≡ true
  pub finished : step_of plan (overlay (access_of plan.table plan.statement) seen) ≡ Finished answer changes

-- where it reads
abbrev pub access_in : FinishedPlan → Access
access_in p = access_of p.plan.table p.plan.statement

---- one client

-- A reply to the call that a client has pending comes to that answer, or none, and to the client after it.
pub record ClientReplied : Type 0 where
  pub before : Client
  pub request : Request
  pub reply : Reply
  pub now : ℤ
  pub result : Option Answer
  pub after : Client
  pub pending : client_pending before ≡ Some request
  pub answered : ReplyPost before before.vacuum reply now result after

---- all clients

-- A catalog, of which no table is the coordinator's.
pub record IsDataCatalog (catalog : List Table) : Type 0 where
  pub is : is_catalog catalog ≡ true
  pub apart : (k : Key) → is_some (find_table catalog k.table) ≡ true → is_data k ≡ true

-- The run invariant holds of the events so far and the clients as they are, over tables that fit.
abbrev pub IsInvariantWith : List Table → List Event → (ℕ → ClientState) → Type 0
IsInvariantWith catalog events states = RunInvariant catalog tables_are_well_typed events (system_of states) (doing_of states)

-- A client takes a text, which comes to that answer, or none, and leaves the client so.
pub record TextExecuted : Type 0 where
  pub q : Taking
  pub states : ℕ → ClientState
  pub client : ℕ
  pub text : List ℕ
  pub result : Option Answer
  pub after : Client
  pub of_data : IsDataCatalog q.catalog
  pub moment : is_moment q.now ≡ true
  pub ready : IsReady states client
  pub few : after.begun < 2 ^ 64
  pub numbered : q.fresh ≡ next_id (states client).client
  pub takes : TextStep q text (states client).client result after

-- its event
abbrev pub take_event : TextExecuted → Event
take_event t = event.Take t.client t.text t.result

-- where the clients are with it
abbrev pub states_after_text : TextExecuted → ℕ → ClientState
states_after_text t = with_state t.states t.client t.after

-- the gate says so of the other clients
abbrev pub IsGatedText : TextExecuted → Type 0
IsGatedText t = IsGated t.q.gate t.states t.client

-- A client takes a text in a run: under the tables of the moment, where the gate says so of the other clients and the invariant holds.
pub record TextInRun : Type 0 where
  pub catalog : List Table
  pub events : List Event
  pub taken : TextExecuted
  pub current : taken.q.catalog ≡ catalog_after catalog events
  pub gated : IsGatedText taken
  pub invariant : IsInvariantWith catalog events taken.states

-- A client's call gets a reply, which comes to that answer, or none, and leaves the client so.
pub record CallReplied : Type 0 where
  pub catalog : List Table
  pub states : ℕ → ClientState
  pub call : ClientCall
  pub result : Option Answer
  pub after : Client
  pub of_data : IsDataCatalog catalog
  pub called : IsCalled catalog states call
  pub answered : ReplyPost (states call.client).client (states call.client).client.vacuum call.reply call.now result after

-- its event
abbrev pub reply_event : CallReplied → Event
reply_event r = call_event r.call r.result

-- where the clients are with it
abbrev pub states_after_reply : CallReplied → ℕ → ClientState
states_after_reply r = with_state r.states r.call.client r.after

-- It gets the reply in a run: under the tables of the moment, where the invariant holds.
pub record ReplyInRun : Type 0 where
  pub catalog : List Table
  pub events : List Event
  pub replied : CallReplied
  pub current : replied.catalog ≡ catalog_after catalog events
  pub invariant : IsInvariantWith catalog events replied.states
