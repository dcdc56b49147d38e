-- A transaction's point is the last of its prepares that were seen and applied, or else the event that took its COMMIT.
use Rattle.std.proofs.Common.{◌≡◌, ◌≢◌, ℕ, ℤ, ◌+◌, ◌<◌, ◌^◌, Bool, true, false, List, [], ◌∷◌, ◌++◌, suc, length, map, Option, Some, None, inl, inr, refl, sym, ap, subst, ◌∙◌, arith}
use Rattle.std.specs.Prelude.{fold, ◌||◌, ◌&&◌, ◌==◌, if◌then◌else◌, unwrap_or}
use Rattle.std.specs.Option.{option_map}
use Rattle.std.specs.List.{AllByRecursion, enumerate_from}
use Rattle.std.proofs.lemmas.List.{length-map}
use Rattle.std.proofs.lemmas.List.Sums.{fold-append}
use Rattle.law_protocol.specs.Types.{Answer, Change, Condition, Decision, Event, How, Key, Place, Record, Reply, Request, State, TxId}
use Rattle.sdb_types.specs.declared.record.State.TheVariants as state
use Rattle.sdb_types.specs.declared.record.Condition.TheVariants as condition
use Rattle.sdb_record.specs.Moved.{condition_of}
use Rattle.sdb_types.specs.declared.record.Request.TheVariants as ask
use Rattle.sdb_types.specs.declared.record.Reply.TheVariants as reply
use Rattle.sdb_types.specs.declared.record.Put.{Put}
use Rattle.sdb_types.specs.Contents.{is_version, Contents, sent}
use Rattle.sdb_record.specs.declared.coordinator.Decision.TheVariants.{Committed, Aborted}
use Rattle.sdb_record.specs.declared.write.Change.TheVariants as change
use Rattle.sdb_record.specs.Coordinator.{coordinator_row_of}
use Rattle.sdb_record.specs.Meta.{is_in}
use Rattle.sdb_record.specs.Puts.{prepares_of}
use Rattle.sdb_record.specs.Rolls.{state_of_change, undo}
use Rattle.sdb_record.proofs.Public.{prepared-version, version-writer}
use Rattle.sdb_model.specs.declared.event.Event.TheVariants as event
use Rattle.sdb_model.specs.declared.event.How.TheVariants.{Seen, Lost, Discarded, Delayed, Broken}
use Rattle.sdb_model.specs.Events.{StoreContents, Effect, IsPerformed, IsCall}
use Rattle.sdb_model.specs.Requests.{any_of}
use Rattle.sdb_model.specs.Transactions.{prepares, is_prepared_by, is_prepared_record, last_prepare}
use Rattle.law_protocol.specs.Plan.{Plan, written}
use Rattle.sdb_model.specs.Calls.{is_read}
use Rattle.law_protocol.specs.History.{Action, Other, Begins, Takes, Prepares, Checks, Decides, Aborts, Rolls, Removes, Ends, Stops, is_yes, ProtocolState, History, state_after_event, base_of}
use Rattle.law_protocol.specs.Lawful.{Labelled, protocol_state, ended, id, ack_of, IsEnabled, MayOccur}
use Rattle.law_protocol.specs.Records.{write_there, record_prepared_by, record_left_by}
use Rattle.law_protocol.specs.Flight.{HasForm, StaysAllowed, prepare_at, roll_forward_at}
use Rattle.law_protocol.specs.Trace.{closing, history}
use Rattle.law_protocol.specs.Explained.{IsRunOf, newest_first, events_of}
use Rattle.law_protocol.proofs.Canon.{held_writer, firm_committed, not_open_version, same_writer}
use Rattle.law_protocol.proofs.Known.{accepted_fits}
use Rattle.law_protocol.proofs.Settled.{Knows}
use Rattle.law_protocol.proofs.Changes.{Asks as Asked, called}
use Rattle.law_protocol.proofs.Each.{all_mapped, any_each, each_key, map_mapped, sent_records, weaker}
use Rattle.law_protocol.proofs.Landing.{form_of}
use Rattle.law_protocol.proofs.Occurring.{occurs_by}
use Rattle.law_protocol.proofs.Whole.{Whole, whole}
use Rattle.sdb_types.proofs.Public.{clash, tests}

---- which events are prepares

-- a request that prepares nothing of a transaction
no_prepare : (t : TxId) (client : ℕ) (store : List ℕ) (q : Request) (how : How) (r : Reply) (a : Option Answer) → prepares t q ≡ false → is_prepared_by t (event.Call client store q how r a) ≡ false
no_prepare t client store q Seen reply.Applied a h = h
no_prepare t client store q Seen (reply.NotMet found) a h = refl
no_prepare t client store q Seen reply.NoMemory a h = refl
no_prepare t client store q Seen (reply.Found found) a h = refl
no_prepare t client store q Seen (reply.Rows rows) a h = refl
no_prepare t client store q Seen (reply.NotAll place there) a h = refl
no_prepare t client store q Seen reply.Fault a h = refl
no_prepare t client store q Lost r a h = refl
no_prepare t client store q Discarded r a h = refl
no_prepare t client store q Delayed r a h = refl
no_prepare t client store q Broken r a h = refl

-- a committed record is no prepare
pub firm_no : (t : TxId) (r : Record) (c : Condition) → is_in state.Committed r.columns ≡ true → prepares t (ask.PutIf r c) ≡ false
firm_no t r c h = ap (λ b. b || is_version t state.Deleted r) (not_open_version t state.Prepared r refl h) ∙ not_open_version t state.Deleted r refl h

row_no : (t : TxId) (u : ℕ) (d : Decision) (m : ℤ) (c : Condition) → prepares t (ask.PutIf (coordinator_row_of (id u) d m) c) ≡ false
unfolding coordinator_row_of
row_no t u d m c = refl

-- a prepare is of its own transaction
or_version : (t : TxId) (r : Record) (c : Change) → is_version t (state_of_change c) r ≡ true → (is_version t state.Prepared r || is_version t state.Deleted r) ≡ true
or_version t r (change.Row columns) h = ap (λ b. b || is_version t state.Deleted r) h
or_version t r change.Delete h = ap (λ b. is_version t state.Prepared r || b) h ∙ true_right (is_version t state.Prepared r)
  where
    true_right : (b : Bool) → (b || true) ≡ true
    true_right true = refl
    true_right false = refl

held_version : (plan : ℕ → Plan) (u : ℕ) (k : Key) → is_version (id u) (state_of_change (write_there (plan u) k).change) (record_prepared_by plan u k) ≡ true
unfolding record_prepared_by
held_version plan u k = prepared-version (write_there (plan u) k) (id u) (plan u).now

pub held_prepares : (plan : ℕ → Plan) (t u : ℕ) (k : Key) (c : Condition) → t < 2 ^ 128 → u < 2 ^ 128 → prepares (id t) (ask.PutIf (record_prepared_by plan u k) c) ≡ (t == u)
held_prepares plan t u k c a b = by (t == u) refl
  where
    same : (t == u) ≡ true → t ≡ u
    same e = grind (arith, tests)

    equal : t ≡ u → (t == u) ≡ true
    equal e = grind (arith, tests)

    apart : (s : State) (x : Bool) → is_version (id t) s (record_prepared_by plan u k) ≡ x → (t == u) ≡ false → x ≡ false
    apart s true f e = clash (sym (equal (same_writer (record_prepared_by plan u k) t u (version-writer (record_prepared_by plan u k) (id t) s a f) (held_writer plan u k b))) ∙ e)
    apart s false f e = refl

    by : (x : Bool) → (t == u) ≡ x → prepares (id t) (ask.PutIf (record_prepared_by plan u k) c) ≡ (t == u)
    by true e = rw e (rw (same e) (or_version (id u) (record_prepared_by plan u k) (write_there (plan u) k).change (held_version plan u k)))
    by false e = rw e (ap (λ y. y || is_version (id t) state.Deleted (record_prepared_by plan u k)) (apart state.Prepared (is_version (id t) state.Prepared (record_prepared_by plan u k)) refl e) ∙ apart state.Deleted (is_version (id t) state.Deleted (record_prepared_by plan u k)) refl e)

-- a call that wasn't answered with a fault was seen
pub seen_is : (q : Request) (how : How) (r : Reply) (held left : Contents) → IsPerformed q how r held left → r ≢ reply.Fault → how ≡ Seen
seen_is q Seen r held left p n = refl
seen_is q Lost r held left p n = absurd (n p.0)
seen_is q Discarded r held left p n = absurd (n p.0)
seen_is q Delayed r held left p n = absurd (n p.0)
seen_is q Broken r held left p n = absurd (n p.0)

abbrev is_applied : Reply → Bool
is_applied r = is_yes (ack_of r)

-- a call that wasn't seen and applied
unseen : (t : TxId) (client : ℕ) (store : List ℕ) (q : Request) (how : How) (r : Reply) (a : Option Answer) → is_applied r ≡ false → is_prepared_by t (event.Call client store q how r a) ≡ false
unseen t client store q Seen reply.Applied a h = clash h
unseen t client store q Seen (reply.NotMet found) a h = refl
unseen t client store q Seen reply.NoMemory a h = refl
unseen t client store q Seen (reply.Found found) a h = refl
unseen t client store q Seen (reply.Rows rows) a h = refl
unseen t client store q Seen (reply.NotAll place there) a h = refl
unseen t client store q Seen reply.Fault a h = refl
unseen t client store q Lost r a h = refl
unseen t client store q Discarded r a h = refl
unseen t client store q Delayed r a h = refl
unseen t client store q Broken r a h = refl

applied_is : (r : Reply) → is_applied r ≡ true → r ≡ reply.Applied
applied_is reply.Applied h = refl
applied_is (reply.NotMet found) h = clash (sym h)
applied_is reply.NoMemory h = clash (sym h)
applied_is (reply.Found found) h = clash (sym h)
applied_is (reply.Rows rows) h = clash (sym h)
applied_is (reply.NotAll place there) h = clash (sym h)
applied_is reply.Fault h = clash (sym h)

told_prepare : (places : List Place) (t : TxId) (client : ℕ) (store : List ℕ) (q : Request) (how : How) (r : Reply) (a : Option Answer) (before now : List StoreContents) (b : Bool) → prepares t q ≡ b → IsCall places store q how r before now → is_prepared_by t (event.Call client store q how r a) ≡ (b && is_yes (ack_of r))
told_prepare places t client store q how r a before now b h c = by (is_applied r) refl
  where
    false_right : (b : Bool) → (b && false) ≡ false
    false_right true = refl
    false_right false = refl

    true_right : (b : Bool) → (b && true) ≡ b
    true_right true = refl
    true_right false = refl

    apart : reply.Applied ≡ reply.Fault → ⊥
    apart e = cc

    by : (x : Bool) → is_applied r ≡ x → is_prepared_by t (event.Call client store q how r a) ≡ (b && is_yes (ack_of r))
    by false e = unseen t client store q how r a e ∙ sym (ap (λ x. b && x) e ∙ false_right b)
    by true e =
        let applied = applied_is r e in
        ap (λ x. is_prepared_by t (event.Call client store q how x a)) applied
        ∙ ap (λ x. is_prepared_by t (event.Call client store q x reply.Applied a)) (seen_is q how r c.held c.left c.performed (λ f. apart (sym applied ∙ f)))
        ∙ h ∙ sym (ap (λ x. b && x) e ∙ true_right b)

-- the part of a answered prepare of t
abbrev tells_prepare : ℕ → Action → Bool
tells_prepare t (Prepares u ks word) = (t == u) && is_yes word
tells_prepare t _ = false

-- the transaction of which an action prepares keys
abbrev pub is_prepare_of : ℕ → Action → Bool
is_prepare_of t (Prepares u ks word) = t == u
is_prepare_of t _ = false

read_no : (t : TxId) (q : Request) → is_read q ≡ true → prepares t q ≡ false
read_no t (ask.Get key) h = refl
read_no t (ask.Scan span) h = refl
read_no t (ask.PutIf rec c) h = clash (sym h)
read_no t (ask.DeleteIf key c) h = clash (sym h)
read_no t (ask.PutAll batch) h = clash (sym h)

back_no : (plan : ℕ → Plan) (t : TxId) (k : Key) (u : ℕ) (s : State) (v : Option ℕ) → prepares t (undo (condition.Version (id u) s) k (option_map (λ x. record_left_by plan x k) v)) ≡ false
back_no plan t k u s None = refl
back_no plan t k u s (Some x) = firm_no t (record_left_by plan x k) (condition.Version (id u) s) (firm_committed plan x k)

abbrev pub WriterFits : Action → Type 0
WriterFits (Prepares u ks word) = u < 2 ^ 128
WriterFits _ = Unit {0}

-- Puts of a list prepare something of a transaction, or not, as each of them does.
puts_prepare : {X : Type 0} (t : TxId) (b : Bool) (f : X → Put) (xs : List X) → 0 < length xs → AllByRecursion (λ x. is_prepared_record t (f x).rec ≡ b) xs → prepares t (sent (map f xs)) ≡ b
puts_prepare t b f xs some all =
    ap (any_of (is_prepared_record t)) (sent_records (map f xs) ∙ map_mapped (λ (p : Put). p.rec) f xs)
    ∙ any_each (is_prepared_record t) b (map (λ x. (f x).rec) xs) (subst (λ n. 0 < n) (sym (length-map xs (λ x. (f x).rec))) some) (all_mapped (λ x. (f x).rec) _ xs all)

-- A request prepares what its action says.
pub form_prepares : (plan : ℕ → Plan) (t : ℕ) (q : Request) (action : Action) → t < 2 ^ 128 → WriterFits action → HasForm plan q action → prepares (id t) q ≡ is_prepare_of t action
form_prepares plan t q Other fits writer f = read_no (id t) q f
form_prepares plan t q (Checks u i) fits writer f = read_no (id t) q f
form_prepares plan t q (Prepares u ks word) fits writer f =
    ap (prepares (id t)) f.asks
    ∙ puts_prepare (id t) (t == u) (prepare_at plan u) ks f.some (each_key _ ks (λ k among. held_prepares plan t u k (condition_of (option_map id (base_of (written (plan u) k)))) fits writer))
form_prepares plan t q (Decides u word) fits writer f = ap (prepares (id t)) f ∙ row_no (id t) u Committed (plan u).now condition.Absent
form_prepares plan t q (Aborts u moment word) fits writer f = ap (prepares (id t)) f ∙ row_no (id t) u Aborted moment condition.Absent
form_prepares plan t q (Rolls u ks Committed) fits writer f =
    ap (prepares (id t)) f.asks
    ∙ puts_prepare (id t) false (roll_forward_at plan u) f.found (subst (λ n. 0 < n) (length-map f.found (λ (x : Key × State). x.0)) (subst (λ qs. 0 < length qs) f.keys f.some)) (weaker _ _ f.found (λ x loose. firm_no (id t) (record_left_by plan u x.0) (condition.Version (id u) x.1) (firm_committed plan u x.0)) f.unresolved)
form_prepares plan t q (Rolls u [] Aborted) fits writer f = absurd f
form_prepares plan t q (Rolls u (k ∷ []) Aborted) fits writer f = ap (prepares (id t)) f.2 ∙ back_no plan (id t) k u f.0 (base_of (written (plan u) k))
form_prepares plan t q (Rolls u (k ∷ l ∷ ks) Aborted) fits writer f = absurd f
form_prepares plan t q (Removes k u) fits writer f = ap (prepares (id t)) f
form_prepares plan t q (Begins u c) fits writer f = absurd f
form_prepares plan t q (Takes u) fits writer f = absurd f
form_prepares plan t q (Ends u) fits writer f = absurd f
form_prepares plan t q (Stops c) fits writer f = absurd f

-- an event whose request is no prepare
event_no : (t : TxId) (e : Event) → ((q : Request) (r : Reply) → Asked e q r → prepares t q ≡ false) → is_prepared_by t e ≡ false
event_no t (event.Call client store q how r given) h = no_prepare t client store q how r given (h q r (record { store = store; how = how; is = refl }))
event_no t (event.Take client text given) h = refl
event_no t (event.Stop client) h = refl
event_no t (event.Clock moment) h = refl
event_no t (event.Idle client) h = refl
event_no t (event.Alter table column kind altered) h = refl
event_no t (event.Land number store q how r) h = refl

enabled_prepares : (plan : ℕ → Plan) (places : List Place) (w : History) (past : List Labelled) (e : Event) (before now : List StoreContents) (r : Action) (t : ℕ) → Knows plan w past → Effect places e before now → MayOccur plan past e r → IsEnabled plan past e r → t < 2 ^ 128 → is_prepared_by (id t) e ≡ tells_prepare t r
enabled_prepares plan places w past e before now (Prepares u ks word) t knows effect o m fits =
    let accepted : w.protocol.accepted u ≡ true = subst (λ (x : ProtocolState). x.accepted u ≡ true) knows.talks m.within.accepted in
    let prepared = form_prepares plan t _ (Prepares u ks word) fits (accepted_fits w u knows.inv.begun knows.fits accepted) (form_of plan w past e (Prepares u ks word) _ m.r knows o (called e m.client _ m.r m.call)) in
    ap (is_prepared_by (id t)) m.call.call
    ∙ told_prepare places (id t) m.client m.call.store (prepares_of (id u) (plan u).now m.group) m.call.how m.r m.call.answer before now (t == u) prepared (subst (λ x. Effect places x before now) m.call.call effect)
    ∙ ap (λ x. (t == u) && is_yes x) (sym m.word_is)
enabled_prepares plan places w past e before now Other t knows effect o m fits = event_no (id t) e (λ q r a. form_prepares plan t q Other fits tt (form_of plan w past e Other q r knows o a))
enabled_prepares plan places w past e before now (Begins u c) t knows effect o m fits = event_no (id t) e (λ q r a. form_prepares plan t q (Begins u c) fits tt (form_of plan w past e (Begins u c) q r knows o a))
enabled_prepares plan places w past e before now (Takes u) t knows effect o m fits = event_no (id t) e (λ q r a. form_prepares plan t q (Takes u) fits tt (form_of plan w past e (Takes u) q r knows o a))
enabled_prepares plan places w past e before now (Checks u i) t knows effect o m fits = event_no (id t) e (λ q r a. form_prepares plan t q (Checks u i) fits tt (form_of plan w past e (Checks u i) q r knows o a))
enabled_prepares plan places w past e before now (Decides u word) t knows effect o m fits = event_no (id t) e (λ q r a. form_prepares plan t q (Decides u word) fits tt (form_of plan w past e (Decides u word) q r knows o a))
enabled_prepares plan places w past e before now (Aborts u moment word) t knows effect o m fits = event_no (id t) e (λ q r a. form_prepares plan t q (Aborts u moment word) fits tt (form_of plan w past e (Aborts u moment word) q r knows o a))
enabled_prepares plan places w past e before now (Rolls u ks d) t knows effect o m fits = event_no (id t) e (λ q r a. form_prepares plan t q (Rolls u ks d) fits tt (form_of plan w past e (Rolls u ks d) q r knows o a))
enabled_prepares plan places w past e before now (Removes k u) t knows effect o m fits = event_no (id t) e (λ q r a. form_prepares plan t q (Removes k u) fits tt (form_of plan w past e (Removes k u) q r knows o a))
enabled_prepares plan places w past e before now (Ends u) t knows effect o m fits = event_no (id t) e (λ q r a. form_prepares plan t q (Ends u) fits tt (form_of plan w past e (Ends u) q r knows o a))
enabled_prepares plan places w past e before now (Stops c) t knows effect o m fits = event_no (id t) e (λ q r a. form_prepares plan t q (Stops c) fits tt (form_of plan w past e (Stops c) q r knows o a))

-- what lands is not acknowledged
unanswered : (plan : ℕ → Plan) (w : History) (t : ℕ) (r : Action) → StaysAllowed plan w r → tells_prepare t r ≡ false
unanswered plan w t (Prepares u ks word) s = ap (λ x. (t == u) && is_yes x) s.1.1 ∙ off (t == u)
  where
    off : (b : Bool) → (b && false) ≡ false
    off true = refl
    off false = refl
unanswered plan w t Other s = refl
unanswered plan w t (Begins u c) s = refl
unanswered plan w t (Takes u) s = refl
unanswered plan w t (Checks u i) s = refl
unanswered plan w t (Decides u word) s = refl
unanswered plan w t (Aborts u moment word) s = refl
unanswered plan w t (Rolls u ks d) s = refl
unanswered plan w t (Removes k u) s = refl
unanswered plan w t (Ends u) s = refl
unanswered plan w t (Stops c) s = refl

prepared_by : (plan : ℕ → Plan) (places : List Place) (w : History) (past : List Labelled) (e : Event) (before now : List StoreContents) (r : Action) (t : ℕ) → Knows plan w past → Effect places e before now → MayOccur plan past e r → t < 2 ^ 128 → is_prepared_by (id t) e ≡ tells_prepare t r
prepared_by plan places w past e before now r t knows effect o fits = elim (occurs_by plan past e r o) [
  | inl m ↦ enabled_prepares plan places w past e before now r t knows effect o m fits
  | inr l ↦ ap (is_prepared_by (id t)) l.land ∙ sym (unanswered plan w t r (knows.delayed l.request r l.was).1)
]

---- counting

-- the events in order
abbrev pub in_order : List Labelled → List Event
in_order [] = []
in_order (p ∷ past) = in_order past ++ p.event ∷ []

enumerate_snoc : (n : ℕ) (es : List Event) (e : Event) → enumerate_from n (es ++ e ∷ []) ≡ enumerate_from n es ++ (n + length es, e) ∷ []
enumerate_snoc n [] e = ap (λ m. (m, e) ∷ []) (plus n)
  where
    plus : (n : ℕ) → n ≡ n + 0
    plus n = omega arith
enumerate_snoc n (x ∷ es) e = ap (λ xs. (n, x) ∷ xs) (enumerate_snoc (n + 1) es e ∙ ap (λ m. enumerate_from (n + 1) es ++ (m, e) ∷ []) (later n (length es)))
  where
    later : (n l : ℕ) → (n + 1) + l ≡ n + suc l
    later n l = omega arith

last_snoc : (es : List Event) (e : Event) (t : TxId) → last_prepare (es ++ e ∷ []) t ≡ (if is_prepared_by t e then Some (1 + length es) else last_prepare es t)
last_snoc es e t = ap (fold (λ (found : Option ℕ) (x : ℕ × Event). if is_prepared_by t x.1 then Some x.0 else found) None) (enumerate_snoc 1 es e) ∙ fold-append (λ (found : Option ℕ) (x : ℕ × Event). if is_prepared_by t x.1 then Some x.0 else found) None (enumerate_from 1 es) ((1 + length es, e) ∷ [])

-- what is counted at one moment
record Counted (h : ProtocolState) (es : List Event) (t : ℕ) : Type 0 where
  now : h.now ≡ length es
  none : h.accepted t ≡ false → last_prepare es (id t) ≡ None
  point : h.accepted t ≡ true → h.point t ≡ unwrap_or (last_prepare es (id t)) (h.accepted_at t)

abbrev Asks : ProtocolState → Action → Type 0
Asks h (Takes u) = h.accepted u ≡ false
Asks h (Prepares u k word) = h.accepted u ≡ true
Asks h (Ends u) = ⊥
Asks h _ = Unit {0}

count : (h : ProtocolState) (r : Action) (t : ℕ) (last next : Option ℕ) → Asks h r → next ≡ (if tells_prepare t r then Some (1 + h.now) else last) → (h.accepted t ≡ false → last ≡ None) → (h.accepted t ≡ true → h.point t ≡ unwrap_or last (h.accepted_at t))
    → ((state_after_event h r).now ≡ h.now + 1) × ((state_after_event h r).accepted t ≡ false → next ≡ None) × ((state_after_event h r).accepted t ≡ true → (state_after_event h r).point t ≡ unwrap_or next ((state_after_event h r).accepted_at t))
count h (Takes u) t last next a e none point = grind (arith, tests)
count h (Prepares u k word) t last next a e none point = grind (arith, tests)
count h (Ends u) t last next a e none point = absurd a
count h Other t last next a e none point = grind (arith, tests)
count h (Begins u c) t last next a e none point = grind (arith, tests)
count h (Checks u i) t last next a e none point = grind (arith, tests)
count h (Decides u word) t last next a e none point = grind (arith, tests)
count h (Aborts u m word) t last next a e none point = grind (arith, tests)
count h (Rolls u k d) t last next a e none point = grind (arith, tests)
count h (Removes k u) t last next a e none point = grind (arith, tests)
count h (Stops c) t last next a e none point = grind (arith, tests)

enabled_asks : (plan : ℕ → Plan) (past : List Labelled) (e : Event) (r : Action) → IsEnabled plan past e r → Asks (protocol_state past) r
enabled_asks plan past e (Takes u) m = m.fresh
enabled_asks plan past e (Prepares u ks word) m = m.within.accepted
enabled_asks plan past e (Ends u) m = m
enabled_asks plan past e Other m = tt
enabled_asks plan past e (Begins u c) m = tt
enabled_asks plan past e (Checks u i) m = tt
enabled_asks plan past e (Decides u word) m = tt
enabled_asks plan past e (Aborts u moment word) m = tt
enabled_asks plan past e (Rolls u k d) m = tt
enabled_asks plan past e (Removes k u) m = tt
enabled_asks plan past e (Stops c) m = tt

late_asks : (plan : ℕ → Plan) (w : History) (r : Action) → StaysAllowed plan w r → Asks w.protocol r
late_asks plan w (Prepares u ks word) s = s.0
late_asks plan w Other s = tt
late_asks plan w (Decides u word) s = tt
late_asks plan w (Aborts u moment word) s = tt
late_asks plan w (Rolls u ks d) s = tt
late_asks plan w (Removes k u) s = tt
late_asks plan w (Begins u c) s = absurd s
late_asks plan w (Takes u) s = absurd s
late_asks plan w (Checks u i) s = absurd s
late_asks plan w (Ends u) s = absurd s
late_asks plan w (Stops c) s = absurd s

asks : (plan : ℕ → Plan) (w : History) (past : List Labelled) (e : Event) (r : Action) → Knows plan w past → MayOccur plan past e r → Asks (protocol_state past) r
asks plan w past e r knows o = elim (occurs_by plan past e r o) [
  | inl m ↦ enabled_asks plan past e r m
  | inr l ↦ subst (λ (x : ProtocolState). Asks x r) (sym knows.talks) (late_asks plan w r (knows.delayed l.request r l.was).1)
]

pub length_snoc : (es : List Event) (e : Event) → length (es ++ e ∷ []) ≡ length es + 1
length_snoc [] e = refl
length_snoc (x ∷ es) e = more (length (es ++ e ∷ [])) (length es) (length_snoc es e)
  where
    more : (a b : ℕ) → a ≡ b + 1 → suc a ≡ suc b + 1
    more a b e = omega arith

count_more : (plan : ℕ → Plan) (places : List Place) (opening : List StoreContents) (p : Labelled) (past : List Labelled) (s : List StoreContents) (ss : List (List StoreContents)) (t : ℕ) → t < 2 ^ 128 → IsRunOf plan places opening (p ∷ past) (s ∷ ss) → Counted (protocol_state past) (in_order past) t → Counted (protocol_state (p ∷ past)) (in_order past ++ p.event ∷ []) t
count_more plan places opening p past s ss t fits r c = over p.ends
  where
    before : Whole plan places (history plan places opening past ss) past (closing opening ss)
    before = whole plan places opening past ss r.empty r.lawful.0 r.traced.0

    next : last_prepare (in_order past ++ p.event ∷ []) (id t) ≡ (if tells_prepare t p.action then Some (1 + (protocol_state past).now) else last_prepare (in_order past) (id t))
    next = last_snoc (in_order past) p.event (id t)
        ∙ ap (λ b. if b then Some (1 + length (in_order past)) else last_prepare (in_order past) (id t)) (prepared_by plan places (history plan places opening past ss) past p.event (closing opening ss) s p.action t before.knows r.traced.1 r.lawful.1 fits)
        ∙ ap (λ n. if tells_prepare t p.action then Some (1 + n) else last_prepare (in_order past) (id t)) (sym c.now)

    x : ((state_after_event (protocol_state past) p.action).now ≡ (protocol_state past).now + 1) × ((state_after_event (protocol_state past) p.action).accepted t ≡ false → last_prepare (in_order past ++ p.event ∷ []) (id t) ≡ None) × ((state_after_event (protocol_state past) p.action).accepted t ≡ true → (state_after_event (protocol_state past) p.action).point t ≡ unwrap_or (last_prepare (in_order past ++ p.event ∷ []) (id t)) ((state_after_event (protocol_state past) p.action).accepted_at t))
    x = count (protocol_state past) p.action t (last_prepare (in_order past) (id t)) (last_prepare (in_order past ++ p.event ∷ []) (id t)) (asks plan (history plan places opening past ss) past p.event p.action before.knows r.lawful.1) next c.none c.point

    numbered_now : (state_after_event (protocol_state past) p.action).now ≡ length (in_order past ++ p.event ∷ [])
    numbered_now = x.0 ∙ ap (λ n. n + 1) c.now ∙ sym (length_snoc (in_order past) p.event)

    over : (ends : Option ℕ) → Counted (ended (state_after_event (protocol_state past) p.action) ends) (in_order past ++ p.event ∷ []) t
    over None = record { now = numbered_now; none = x.1; point = x.2 }
    over (Some u) = record { now = numbered_now; none = x.1; point = x.2 }

counted : (plan : ℕ → Plan) (places : List Place) (opening : List StoreContents) (past : List Labelled) (ss : List (List StoreContents)) (t : ℕ) → t < 2 ^ 128 → IsRunOf plan places opening past ss → Counted (protocol_state past) (in_order past) t
counted plan places opening [] ss t fits r = record { now = refl; none = λ e. refl; point = λ e. absurd (cc) }
counted plan places opening (p ∷ past) [] t fits r = absurd r.traced
counted plan places opening (p ∷ past) (s ∷ ss) t fits r = count_more plan places opening p past s ss t fits r (counted plan places opening past ss t fits (record { empty = r.empty; lawful = r.lawful.0; traced = r.traced.0 }))

---- in order

pub order_onto : (acc labelled : List Labelled) → in_order (fold (λ newer x. x ∷ newer) acc labelled) ≡ in_order acc ++ events_of labelled
order_onto acc [] = sym (nil (in_order acc))
  where
    nil : (es : List Event) → es ++ [] ≡ es
    nil [] = refl
    nil (e ∷ es) = ap (λ x. e ∷ x) (nil es)
order_onto acc (p ∷ labelled) = order_onto (p ∷ acc) labelled ∙ assoc (in_order acc) p.event (events_of labelled)
  where
    assoc : (xs : List Event) (e : Event) (ys : List Event) → (xs ++ e ∷ []) ++ ys ≡ xs ++ e ∷ ys
    assoc [] e ys = refl
    assoc (x ∷ xs) e ys = ap (λ z. x ∷ z) (assoc xs e ys)

pub point_is_last : (plan : ℕ → Plan) (places : List Place) (opening : List StoreContents) (labelled : List Labelled) (ss : List (List StoreContents)) (t : ℕ) → IsRunOf plan places opening (newest_first labelled) ss → t < 2 ^ 128 → (protocol_state (newest_first labelled)).accepted t ≡ true → (protocol_state (newest_first labelled)).point t ≡ unwrap_or (last_prepare (events_of labelled) (id t)) ((protocol_state (newest_first labelled)).accepted_at t)
point_is_last plan places opening labelled ss t r fits accepted =
    (counted plan places opening (newest_first labelled) ss t fits r).point accepted
    ∙ ap (λ es. unwrap_or (last_prepare es (id t)) ((protocol_state (newest_first labelled)).accepted_at t)) (order_onto [] labelled)
