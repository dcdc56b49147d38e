-- Events that follow a script's moves still do when their calls are moved to other stores.
use Rattle.std.proofs.Common.{◌≡◌, ℕ, ◌+◌, Bool, true, false, List, [], ◌∷◌, ◌++◌, Option, Some, None, ap, sym, subst, ◌∙◌, inl, inr}
use Rattle.std.specs.Prelude.{MatchBool, fold, is_none, ◌&&◌}
use Rattle.std.specs.List.{slice_get}
use Rattle.std.proofs.lemmas.List.{length-map}
use Rattle.law_protocol.specs.Types.{Act, Event, How, Move, Reply, Request, Script, ScriptClient, Table, TableName}
use Rattle.sdb_schema.specs.declared.table.Column.{Column}
use Rattle.sdb_schema.specs.Added.{column_refused}
use Rattle.sdb_model.specs.declared.event.Altered.{Altered}
use Rattle.sdb_model.specs.declared.event.Altered.TheVariants as altered
use Rattle.sdb_model.specs.declared.event.Event.TheVariants as event
use Rattle.sdb_model.specs.declared.script.Act.TheVariants as act
use Rattle.sdb_model.specs.declared.script.Move.TheVariants as move
use Rattle.sdb_model.specs.Rows.{Name}
use Rattle.sdb_model.specs.Follows.{has_work, is_pending, texts_of, IsCallOf, IsTakeOf, IsStep, IsHowOfStep, IsHowOfLose, IsHowOfDiscard, IsHowOfDelay, IsLanding, in_flight, IsActed, AreStepsOf, AllIdle, IsTurn, IsRest, IsOfMove, AreOfMoves, Follows, end_of, has_stopped, is_open, is_open_after, runs_vacuum, SomeClient, IsActive, IsAltered}
use Rattle.sdb_model.specs.Catalogs.{catalog_after}
use Rattle.sdb_model.specs.Sql.{reads_vacuum}
use Rattle.sdb_model.specs.Transactions.{statements_by}
use Rattle.law_protocol.specs.Spread.{relocated_event, relocated_events}
use Rattle.law_protocol.proofs.Moved.{moved_more, work_moved, pending_moved, taken_moved, flight_moved, stopped_moved, executed_moved, catalog_moved}

matched : {P Q P' Q' : Type 0} (b b' : Bool) → b' ≡ b → (P → P') → (Q → Q') → MatchBool b P Q → MatchBool b' P' Q'
matched true true e f g h = f h
matched false false e f g h = g h
matched true false e f g h = absurd (cc)
matched false true e f g h = absurd (cc)

call_moved : (at : Name → Name) (client : ℕ) (allowed : How → Reply → Type 0) (e : Event) → IsCallOf client allowed e → IsCallOf client allowed (relocated_event at e)
call_moved at client allowed (event.Call c store q how r given) h = h
call_moved at client allowed (event.Take c text given) h = h
call_moved at client allowed (event.Stop c) h = h
call_moved at client allowed (event.Clock m) h = h
call_moved at client allowed (event.Idle c) h = h
call_moved at client allowed (event.Land k store q how r) h = h
call_moved at client allowed (event.Alter table column kind altered) h = h

take_moved : (at : Name → Name) (clients : List ScriptClient) (client : ℕ) (past : List Event) (e : Event) → IsTakeOf clients client past e → IsTakeOf clients client (relocated_events at past) (relocated_event at e)
take_moved at clients client past (event.Take c text given) h = (h.0, ap (λ (n : ℕ). slice_get (texts_of clients client) n) (taken_moved at client past) ∙ h.1)
take_moved at clients client past (event.Call c store q how r given) h = h
take_moved at clients client past (event.Stop c) h = h
take_moved at clients client past (event.Clock m) h = h
take_moved at clients client past (event.Idle c) h = h
take_moved at clients client past (event.Land k store q how r) h = h
take_moved at clients client past (event.Alter table column kind altered) h = h

step_moved : (at : Name → Name) (clients : List ScriptClient) (client : ℕ) (allowed : How → Reply → Type 0) (past : List Event) (e : Event) → IsStep clients client allowed past e → IsStep clients client allowed (relocated_events at past) (relocated_event at e)
step_moved at clients client allowed past e h =
    matched (has_work clients client past) (has_work clients client (relocated_events at past)) (work_moved at clients client past)
    (matched (is_pending client past) (is_pending client (relocated_events at past)) (pending_moved at client past) (call_moved at client allowed e) (take_moved at clients client past e))
    (λ idle. ap (relocated_event at) idle) h

landing_moved : (at : Name → Name) (k : ℕ) (o : Option Request) (e : Event) → IsLanding k o e → IsLanding k o (relocated_event at e)
landing_moved at k None e h = ap (relocated_event at) h
landing_moved at k (Some q) (event.Land n store request how r) h = h
landing_moved at k (Some q) (event.Take c text given) h = h
landing_moved at k (Some q) (event.Call c store request how r given) h = h
landing_moved at k (Some q) (event.Stop c) h = h
landing_moved at k (Some q) (event.Clock m) h = h
landing_moved at k (Some q) (event.Idle c) h = h
landing_moved at k (Some q) (event.Alter table column kind altered) h = h

---- columns that are added

-- what holds of a client, where two lists of events agree on it
some_same : (is : List Event → ℕ → Bool) (past now : List Event) → ((c : ℕ) → has_stopped c now ≡ has_stopped c past) → ((c : ℕ) → is now c ≡ is past c) → SomeClient is past → SomeClient is now
some_same is past now stopped same s = (s.0, stopped s.0 ∙ s.1, same s.0 ∙ s.2)

active_same : (past now : List Event) → ((c : ℕ) → has_stopped c now ≡ has_stopped c past) → ((c : ℕ) → statements_by c now ≡ statements_by c past) → IsActive past → IsActive now
active_same past now stopped same (inl s) = inl (some_same is_open past now stopped (λ c. ap (fold is_open_after false) (same c)) s)
active_same past now stopped same (inr s) = inr (some_same runs_vacuum past now stopped (λ c. ap (fold (λ was s. reads_vacuum s.text && is_none s.answer) false) (same c)) s)

active_moved : (at : Name → Name) (past : List Event) → IsActive past → IsActive (relocated_events at past)
active_moved at past h = active_same past (relocated_events at past) (λ c. stopped_moved at c past) (λ c. executed_moved at c past) h

active_back : (at : Name → Name) (past : List Event) → IsActive (relocated_events at past) → IsActive past
active_back at past h = active_same (relocated_events at past) past (λ c. sym (stopped_moved at c past)) (λ c. sym (executed_moved at c past)) h

altered_moved : (at : Name → Name) (catalog : List Table) (past : List Event) (table : TableName) (c : Column) (a : Altered)
    → IsAltered (catalog_after catalog past) past table c a → IsAltered (catalog_after catalog (relocated_events at past)) (relocated_events at past) table c a
altered_moved at catalog past table c altered.Open h = active_moved at past h
altered_moved at catalog past table c (altered.Refused k) h = (λ active. h.0 (active_back at past active), ap (λ (ts : List Table). column_refused ts table c) (catalog_moved at catalog past) ∙ h.1)
altered_moved at catalog past table c altered.Done h = (λ active. h.0 (active_back at past active), ap (λ (ts : List Table). column_refused ts table c) (catalog_moved at catalog past) ∙ h.1)

---- acts

acted_moved : (at : Name → Name) (script : Script) (a : Act) (past : List Event) (e : Event) → IsActed script a past e → IsActed script a (relocated_events at past) (relocated_event at e)
acted_moved at script (act.Step client) past e h = step_moved at script.clients client IsHowOfStep past e h
acted_moved at script (act.Lose client) past e h = step_moved at script.clients client IsHowOfLose past e h
acted_moved at script (act.Discard client) past e h = step_moved at script.clients client IsHowOfDiscard past e h
acted_moved at script (act.Delay client) past e h = step_moved at script.clients client IsHowOfDelay past e h
acted_moved at script (act.Land k) past e h = subst (λ o. IsLanding k o (relocated_event at e)) (sym (flight_moved at k past)) (landing_moved at k (in_flight k past) e h)
acted_moved at script (act.Stop client) past e h = ap (relocated_event at) h
acted_moved at script (act.Clock moment) past e h = ap (relocated_event at) h
acted_moved at script (act.Alter table column kind) past e h = (h.0, ap (relocated_event at) h.1, altered_moved at script.catalog past table (record { name = column; kind = kind }) h.0 h.2)

steps_moved : (at : Name → Name) (clients : List ScriptClient) (client : ℕ) (past es : List Event) → AreStepsOf clients client past es → AreStepsOf clients client (relocated_events at past) (relocated_events at es)
steps_moved at clients client past [] h = tt
steps_moved at clients client past (e ∷ es) h = (
  step_moved at clients client IsHowOfStep past e h.0,
  subst (λ (front : List Event). AreStepsOf clients client front (relocated_events at es)) (moved_more at past (e ∷ [])) (steps_moved at clients client (past ++ e ∷ []) es h.1),
)

idle_moved : (at : Name → Name) (clients : List ScriptClient) (past : List Event) (low high : ℕ) → AllIdle clients past low high → AllIdle clients (relocated_events at past) low high
idle_moved at clients past low high h c among = work_moved at clients c past ∙ h c among

turn_moved : (at : Name → Name) (clients : List ScriptClient) (past : List Event) (from client : ℕ) → IsTurn clients past from client → IsTurn clients (relocated_events at past) from client
turn_moved at clients past from client t = (
  work_moved at clients client past ∙ t.0,
  elim t.1 [
    | inl a ↦ inl (a.0, idle_moved at clients past from client a.1)
    | inr b ↦ inr (b.0, idle_moved at clients past from (end_of clients) b.1, idle_moved at clients past 1 client b.2)
  ],
)

rest_moved : (at : Name → Name) (clients : List ScriptClient) (from : ℕ) (past es : List Event) → IsRest clients from past es → IsRest clients from (relocated_events at past) (relocated_events at es)
rest_moved at clients from past [] h = idle_moved at clients past 1 (end_of clients) h
rest_moved at clients from past (e ∷ es) h = (
  h.0,
  turn_moved at clients past from h.0 h.1,
  step_moved at clients h.0 IsHowOfStep past e h.2,
  subst (λ (front : List Event). IsRest clients (h.0 + 1) front (relocated_events at es)) (moved_more at past (e ∷ [])) (rest_moved at clients (h.0 + 1) (past ++ e ∷ []) es h.3),
)

move_moved : (at : Name → Name) (script : Script) (m : Move) (past es : List Event) → IsOfMove script m past es → IsOfMove script m (relocated_events at past) (relocated_events at es)
move_moved at script (move.Act a) past es h = (relocated_event at h.0, ap (relocated_events at) h.1, acted_moved at script a past h.0 h.2)
move_moved at script (move.Repeat client times) past es h = (length-map es (relocated_event at) ∙ h.0, steps_moved at script.clients client past es h.1)
move_moved at script move.Rest past es h = rest_moved at script.clients 1 past es h

moves_moved : (at : Name → Name) (script : Script) (ms : List Move) (past es : List Event) → AreOfMoves script ms past es → AreOfMoves script ms (relocated_events at past) (relocated_events at es)
moves_moved at script [] past es h = ap (relocated_events at) h
moves_moved at script (m ∷ ms) past es h = (
  relocated_events at h.0,
  relocated_events at h.1,
  ap (relocated_events at) h.2 ∙ moved_more at h.0 h.1,
  move_moved at script m past h.0 h.3,
  subst (λ (front : List Event). AreOfMoves script ms front (relocated_events at h.1)) (moved_more at past h.0) (moves_moved at script ms (past ++ h.0) h.1 h.4),
)

pub follows_moved : (at : Name → Name) (script : Script) (events : List Event) → Follows script events → Follows script (relocated_events at events)
follows_moved at script events h = moves_moved at script script.moves [] events h
