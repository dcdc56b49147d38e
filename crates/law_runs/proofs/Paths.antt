-- No text in an execution of statements without an LF has one, where the stores held nothing of its tables.
use Rattle.std.proofs.Common.{◌≡◌, ◌⊎◌, inl, inr, ℕ, zero, suc, true, List, [], ◌∷◌, ◌++◌, Option, Some, None, IfSome, slice_get, slice_set, refl, sym, ap, subst, ◌∙◌}
use Rattle.std.specs.List.{AllByRecursion}
use Rattle.std.specs.FinMap.{empty}
use Rattle.sdb_types.specs.Contents.{Contents}
use Rattle.law_runs.specs.Types.{Answer, ClientSlot, Event, How, Reply, Request, Script}
use Rattle.sdb_types.proofs.Public.{all_last, some_is}
use Rattle.sdb_model.specs.declared.event.Event.TheVariants as event
use Rattle.sdb_model.specs.declared.event.How.TheVariants.{Seen, Lost, Discarded, Delayed, Broken}
use Rattle.sdb_model.specs.Events.{IsCall, IsTrace, StoreContents}
use Rattle.sdb_model.specs.Follows.{IsHowOfStep}
use Rattle.sdb_model.specs.Plain.{is_one_line, HasLines}
use Rattle.sdb_model.specs.Rows.{Name}
use Rattle.law_protocol.specs.Spread.{HoldAs, relocated_events, one_store}
use Rattle.law_protocol.proofs.Public.{Single, contents_of, one_held, one_left, single}
use Rattle.sdb_client.specs.Execution.{AreFresh, CallStep, IsPath, State, TakeStep, client_after, client_stopped, flights_after, with_client_at, with_flights}
use Rattle.law_runs.specs.Laws.{ExecutionOf}
use Rattle.law_runs.specs.Moments.{TraceOf}
use Rattle.law_runs.proofs.Steps.{execution_about}
use Rattle.law_runs.proofs.Lists.{get_all}
use Rattle.law_runs.proofs.Clear.{ReplyClear, RequestClear}
use Rattle.law_runs.proofs.PlainStatements.{AnswerClear}
use Rattle.law_runs.proofs.Contents.{CallClear, HeldClear, nothing_held, performed_clear}
use Rattle.law_runs.proofs.Clients.{ClientClear, asks_clear, replies_clear, takes_clear}

abbrev pub EventClear : Event → Type 0
EventClear (event.Take client text given) = (is_one_line text ≡ true) × IfSome given AnswerClear
EventClear (event.Call client store q how r given) = RequestClear q × ReplyClear r × IfSome given AnswerClear
EventClear (event.Stop client) = Unit {0}
EventClear (event.Clock moment) = Unit {0}
EventClear (event.Idle client) = Unit {0}
EventClear (event.Alter table column kind altered) = Unit {0}
EventClear (event.Land number store q how r) = RequestClear q × ReplyClear r × ((how ≡ Seen) ⊎ (how ≡ Broken))

abbrev SeatClear : ClientSlot → Type 0
SeatClear s = ClientClear s.client

abbrev SeatsClear : List ClientSlot → Type 0
SeatsClear client_slots = AllByRecursion SeatClear client_slots

set_clear : (client_slots : List ClientSlot) (i : ℕ) (s : ClientSlot) → SeatsClear client_slots → SeatClear s → SeatsClear (slice_set client_slots i s)
set_clear [] i s h k = tt
set_clear (x ∷ xs) zero s h k = (k, h.1)
set_clear (x ∷ xs) (suc i) s h k = (h.0, set_clear xs i s h.1 k)

-- at a place of a state
state_clear : (s u : State) (i : ℕ) (client_slot : ClientSlot) (fs : List (Option Request)) → u ≡ with_flights (with_client_at s i client_slot) fs → SeatsClear s.client_slots → SeatClear client_slot → SeatsClear u.client_slots
state_clear s u i client_slot fs left h k = subst (λ (x : State). SeatsClear x.client_slots) (sym left) (set_clear s.client_slots i client_slot h k)

-- the requests in flight
abbrev LateClear : List (Option Request) → Type 0
LateClear fs = AllByRecursion (λ (o : Option Request). IfSome o RequestClear) fs

goes_clear : (fs : List (Option Request)) (how : How) (q : Request) → LateClear fs → RequestClear q → LateClear (flights_after fs how q)
goes_clear fs Seen q h k = h
goes_clear fs Lost q h k = h
goes_clear fs Discarded q h k = h
goes_clear fs Delayed q h k = all_last (λ (o : Option Request). IfSome o RequestClear) fs (Some q) h k
goes_clear fs Broken q h k = h

lands_clear : (fs : List (Option Request)) (i : ℕ) → LateClear fs → LateClear (slice_set fs i None)
lands_clear [] i h = tt
lands_clear (x ∷ xs) zero h = (tt, h.1)
lands_clear (x ∷ xs) (suc i) h = (h.0, lands_clear xs i h.1)

each_clear : (client_slots : List ClientSlot) → ((i : ℕ) (s : ClientSlot) → slice_get client_slots i ≡ Some s → SeatClear s) → SeatsClear client_slots
each_clear [] h = tt
each_clear (s ∷ ss) h = (h zero s refl, each_clear ss (λ i x e. h (suc i) x e))

fresh_clear : (count : ℕ) (client_slots : List ClientSlot) → AreFresh count client_slots → SeatsClear client_slots
fresh_clear count client_slots h = each_clear client_slots (λ i s e. subst SeatClear (sym (h.each i s e)) (record { txn = tt; plan = tt; vacuum = tt }))

---- steps

-- an event, the clients and the requests in flight after it
record StepClear (e : Event) (u : State) : Type 0 where
  event : EventClear e
  client_slots : SeatsClear u.client_slots
  flights : LateClear u.flights

take_clear : (script : Script) (past : List Event) (s u : State) (c : ℕ) (text : List ℕ) (a : Option Answer) → HasLines script → TakeStep script past s c text a u → SeatsClear s.client_slots → LateClear s.flights → StepClear (event.Take c text a) u
take_clear script past s u c text a lines t h late =
    let one : is_one_line text ≡ true = lines c t.client_slot.accepted text t.next in
    let so = takes_clear _ text t.client_slot.client one t.idle (get_all SeatClear s.client_slots t.place t.client_slot h t.at) a t.client t.takes in
    record { event = (one, so.answer); client_slots = state_clear s u t.place (client_after t.client_slot 1 t.client) s.flights t.left h so.client; flights = subst (λ (x : State). LateClear x.flights) (sym t.left) late }

asked_clear : (s u : State) (c : ℕ) (q : Request) (how : How) (r : Reply) (a : Option Answer) → CallStep s c q how r a u → SeatsClear s.client_slots → RequestClear q
asked_clear s u c q how r a t h = asks_clear t.client_slot.client q (get_all SeatClear s.client_slots t.place t.client_slot h t.at) t.pending

call_clear : (s u : State) (c : ℕ) (store : Name) (q : Request) (how : How) (r : Reply) (a : Option Answer) → CallStep s c q how r a u → SeatsClear s.client_slots → LateClear s.flights → ReplyClear r → StepClear (event.Call c store q how r a) u
call_clear s u c store q how r a t h late k =
    let so = replies_clear t.client_slot.client q r s.clock t.can k (get_all SeatClear s.client_slots t.place t.client_slot h t.at) a t.client t.takes in
    let asked = asked_clear s u c q how r a t h in
    record { event = (asked, k, so.answer); client_slots = state_clear s u t.place (client_after t.client_slot 0 t.client) (flights_after s.flights how q) t.left h so.client; flights = subst (λ (x : State). LateClear x.flights) (sym t.left) (goes_clear s.flights how q late asked) }

---- a call on the one store

record OneCall (name : Name) (r : Reply) (now : List StoreContents) : Type 0 where
  left : Contents
  clear : CallClear r left
  same : now ≡ one_store name left

one_call : (name : Name) (q : Request) (how : How) (r : Reply) (m : Contents) (now : List StoreContents) → RequestClear q → HeldClear m → IsCall [] name q how r (one_store name m) now → OneCall name r now
one_call name q how r m now k h c =
    let there : m ≡ c.held = some_is m c.held (sym (one_held name m) ∙ c.found) in
    record { left = c.left; clear = performed_clear q how r c.held c.left k (subst HeldClear there h) c.performed; same = c.others ∙ one_left name m c.left }

---- a whole execution

same_contents : (name : Name) (m last : Contents) → one_store name last ≡ one_store name m → last ≡ m
same_contents name m last e = ap contents_of e

-- a landing is seen, or its store failed
landed_how : (how : How) (r : Reply) → IsHowOfStep how r → (how ≡ Seen) ⊎ (how ≡ Broken)
landed_how Seen r h = inl refl
landed_how Broken r h = inr refl
landed_how Lost r h = absurd h
landed_how Discarded r h = absurd h
landed_how Delayed r h = absurd h

-- its events, and what the one store holds after them
pub record AllClear (es : List Event) (last : Contents) : Type 0 where
  pub events : AllByRecursion EventClear es
  pub held : HeldClear last

module _ (script : Script) (lines : HasLines script) (name : Name) where
  abbrev On : List Event → List StoreContents → List (List StoreContents) → Contents → Type 0
  On es before singles last = IsTrace [] (relocated_events (λ ns. name) es) before singles (one_store name last)

  more_clear : (e : Event) (es : List Event) (last : Contents) → EventClear e → AllClear es last → AllClear (e ∷ es) last
  more_clear e es last h k = record { events = (h, k.events); held = k.held }

  path_clear : (past es : List Event) (s t : State) (m last : Contents) (singles : List (List StoreContents)) → IsPath script past s es t → On es (one_store name m) singles last → SeatsClear s.client_slots → LateClear s.flights → HeldClear m → AllClear es last
  path_clear past [] s t m last [] p h client_slots late held = record { events = tt; held = subst HeldClear (sym (same_contents name m last h)) held }
  path_clear past [] s t m last (x ∷ xs) p h client_slots late held = absurd h
  path_clear past (e ∷ es) s t m last [] p h client_slots late held = absurd h
  path_clear past (event.Take c text a ∷ es) s t m last (x ∷ xs) p h client_slots late held =
      let so = take_clear script past s p.0 c text a lines p.1 client_slots late in
      more_clear (event.Take c text a) es last so.event (path_clear (past ++ event.Take c text a ∷ []) es p.0 t m last xs p.2 (subst (λ (b : List StoreContents). On es b xs last) h.0 h.1) so.client_slots so.flights held)
  path_clear past (event.Call c store q how r a ∷ es) s t m last (x ∷ xs) p h client_slots late held =
      let o = one_call name q how r m x (asked_clear s p.0 c q how r a p.1 client_slots) held h.0 in
      let so = call_clear s p.0 c store q how r a p.1 client_slots late o.clear.reply in
      more_clear (event.Call c store q how r a) es last so.event (path_clear (past ++ event.Call c store q how r a ∷ []) es p.0 t o.left last xs p.2 (subst (λ (b : List StoreContents). On es b xs last) o.same h.1) so.client_slots so.flights o.clear.left)
  path_clear past (event.Stop c ∷ es) s t m last (x ∷ xs) p h client_slots late held =
      let stopped = state_clear s p.0 p.1.place (client_stopped p.1.client_slot) s.flights p.1.left client_slots (get_all SeatClear s.client_slots p.1.place p.1.client_slot client_slots p.1.at) in
      more_clear (event.Stop c) es last tt (path_clear (past ++ event.Stop c ∷ []) es p.0 t m last xs p.2 (subst (λ (b : List StoreContents). On es b xs last) h.0 h.1) stopped (subst (λ (y : State). LateClear y.flights) (sym p.1.left) late) held)
  path_clear past (event.Clock moment ∷ es) s t m last (x ∷ xs) p h client_slots late held =
      more_clear (event.Clock moment) es last tt (path_clear (past ++ event.Clock moment ∷ []) es p.0 t m last xs p.2 (subst (λ (b : List StoreContents). On es b xs last) h.0 h.1) (subst (λ (y : State). SeatsClear y.client_slots) (sym p.1.1) client_slots) (subst (λ (y : State). LateClear y.flights) (sym p.1.1) late) held)
  path_clear past (event.Idle c ∷ es) s t m last (x ∷ xs) p h client_slots late held =
      more_clear (event.Idle c) es last tt (path_clear (past ++ event.Idle c ∷ []) es p.0 t m last xs p.2 (subst (λ (b : List StoreContents). On es b xs last) h.0 h.1) (subst (λ (y : State). SeatsClear y.client_slots) (sym p.1) client_slots) (subst (λ (y : State). LateClear y.flights) (sym p.1) late) held)
  path_clear past (event.Alter table column kind altered ∷ es) s t m last (x ∷ xs) p h client_slots late held =
      more_clear (event.Alter table column kind altered) es last tt (path_clear (past ++ event.Alter table column kind altered ∷ []) es p.0 t m last xs p.2 (subst (λ (b : List StoreContents). On es b xs last) h.0 h.1) (subst (λ (y : State). SeatsClear y.client_slots) (sym p.1.1) client_slots) (subst (λ (y : State). LateClear y.flights) (sym p.1.1) late) held)
  path_clear past (event.Land number store q how r ∷ es) s t m last (x ∷ xs) p h client_slots late held =
      let asked : RequestClear q = get_all (λ (o : Option Request). IfSome o RequestClear) s.flights p.1.place (Some q) late p.1.at in
      let o = one_call name q how r m x asked held h.0 in
      more_clear (event.Land number store q how r) es last (asked, o.clear.reply, landed_how how r p.1.allowed) (path_clear (past ++ event.Land number store q how r ∷ []) es p.0 t o.left last xs p.2 (subst (λ (b : List StoreContents). On es b xs last) o.same h.1) (subst (λ (y : State). SeatsClear y.client_slots) (sym p.1.left) client_slots) (subst (λ (y : State). LateClear y.flights) (sym p.1.left) (lands_clear s.flights p.1.place late)) o.clear.left)

-- the one store that holds what the stores of a trace hold, and all of its execution
pub record WholeClear (x : ExecutionOf) (closing : List StoreContents) : Type 0 where
  pub last : Contents
  pub same : HoldAs x.script.catalog x.script.places closing last
  pub clear : AllClear x.events last

pub execution_clear : (x : ExecutionOf) (t : TraceOf x) → HasLines x.script → WholeClear x t.closing
execution_clear x t lines =
    let s : Single x.script.catalog [] x.script.places x.events empty t.closing =
    single [] x.events t.opening t.moments t.closing t.trace (execution_about x.script x.events x.playable x.execution) t.nothing in
    record {
      last = s.last;
      same = s.same;
      clear = path_clear x.script lines [] [] x.events x.execution.first x.execution.last empty s.last s.singles x.execution.path s.traced (fresh_clear _ x.execution.first.client_slots x.execution.initial.fresh) (subst LateClear (sym x.execution.initial.none_late) tt) nothing_held;
    }
