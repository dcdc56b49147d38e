-- Requests by the actions of their events; and those that land, which change the stores as their calls would have, by what stayed so since.
use Rattle.std.proofs.Common.{◌≡◌, ℕ, Bool, true, false, List, [], ◌∷◌, Option, Some, None, inl, inr, refl, sym, ap, subst, ◌∙◌, arith}
use Rattle.law_protocol.specs.Types.{Answer, Event, How, Key, Place, Reply, Request}
use Rattle.sdb_types.specs.declared.record.Request.TheVariants as ask
use Rattle.sdb_types.specs.declared.record.Reply.TheVariants as reply
use Rattle.sdb_types.proofs.Public.{clash, tests}
use Rattle.sdb_record.specs.declared.coordinator.Decision.TheVariants.{Committed, Aborted}
use Rattle.sdb_model.specs.declared.event.Event.TheVariants as event
use Rattle.sdb_model.specs.Calls.{is_read}
use Rattle.sdb_model.specs.Events.{Contact, StoreContents, Effect, EffectOf, IsCall, contact_of, stored_at}
use Rattle.sdb_model.specs.ReadSet.{ReadItem, KeyRead, SpanRead}
use Rattle.sdb_model.specs.Rows.{Name}
use Rattle.law_protocol.specs.Plan.{Plan}
use Rattle.sdb_model.specs.Tables.{is_data}
use Rattle.law_protocol.specs.History.{Action, Other, Begins, Takes, Prepares, Checks, Decides, Aborts, Rolls, Removes, Ends, Stops, Ack, NoAck, Deciding, History, has_key, happens}
use Rattle.law_protocol.specs.Lawful.{Labelled, IsEnabled, IsUnchanged, MayOccur, ack_of, is_quiet}
use Rattle.law_protocol.specs.Records.{ContainsHistory}
use Rattle.law_protocol.specs.Flight.{AsksRollForward, HasForm, IsLate, StaysAllowed}
use Rattle.law_protocol.specs.Trace.{has_effect}
use Rattle.law_protocol.proofs.Allowed.{Allowed}
use Rattle.law_protocol.proofs.Changes.{Asks, called}
use Rattle.law_protocol.proofs.Each.{only_key}
use Rattle.law_protocol.proofs.Effects.{at_call}
use Rattle.law_protocol.proofs.Links.{link_same}
use Rattle.law_protocol.proofs.Moves.{Moves, prepares_asked, late_prepare_moves, late_decide_moves, late_abort_moves}
use Rattle.law_protocol.proofs.Observed.{read_leaves}
use Rattle.law_protocol.proofs.Occurring.{IsLanded, occurs_by}
use Rattle.law_protocol.proofs.Rolling.{rolls_forward, back_is, late_forward_moves, late_back_moves, late_remove_moves}
use Rattle.law_protocol.proofs.Settled.{Knows, prepared_there}

pub landed_asks : {past : List Labelled} {e : Event} {action : Action} → (l : IsLanded past e action) → Asks e l.request l.reply
landed_asks l = record { store = l.store; how = l.how; is = ap contact_of l.land }

---- what an event asks

-- an event asks one thing
one_contact : {o : Option Contact} {a b : Contact} → o ≡ Some a → o ≡ Some b → a ≡ b
one_contact {o} {a} {b} i j = some_is (sym i ∙ j)
  where
    some_is : Some a ≡ Some b → a ≡ b
    some_is e = cc

pub asks_same : {e : Event} {q p : Request} {r x : Reply} → Asks e q r → Asks e p x → (q ≡ p) × (r ≡ x)
asks_same a b = let e = one_contact a.is b.is in (ap (λ (c : Contact). c.request) e, ap (λ (c : Contact). c.reply) e)

asks_nothing : {e : Event} {q : Request} {r : Reply} → contact_of e ≡ None → Asks e q r → ⊥
asks_nothing i a = none (sym i ∙ a.is)
  where
    none : {c : Contact} → ◌≡◌ {A = Option Contact} None (Some c) → ⊥
    none e = cc

call_asks : (client : ℕ) (store : Name) (q : Request) (how : How) (r : Reply) (given : Option Answer) → Asks (event.Call client store q how r given) q r
call_asks client store q how r given = record { store = store; how = how; is = refl }

quiet_reads : (e : Event) (q : Request) (r : Reply) → Asks e q r → is_quiet e ≡ true → is_read q ≡ true
quiet_reads (event.Call client store (ask.Get key) how r0 given) q r a h = ap is_read (asks_same a (call_asks client store (ask.Get key) how r0 given)).0
quiet_reads (event.Call client store (ask.Scan span) how r0 given) q r a h = ap is_read (asks_same a (call_asks client store (ask.Scan span) how r0 given)).0
quiet_reads (event.Call client store (ask.PutIf rec c) how r0 given) q r a h = clash (sym h)
quiet_reads (event.Call client store (ask.DeleteIf key c) how r0 given) q r a h = clash (sym h)
quiet_reads (event.Call client store (ask.PutAll batch) how r0 given) q r a h = clash (sym h)
quiet_reads (event.Take client text given) q r a h = absurd (asks_nothing refl a)
quiet_reads (event.Stop client) q r a h = clash (sym h)
quiet_reads (event.Clock moment) q r a h = absurd (asks_nothing refl a)
quiet_reads (event.Idle client) q r a h = absurd (asks_nothing refl a)
quiet_reads (event.Alter table column kind altered) q r a h = absurd (asks_nothing refl a)
quiet_reads (event.Land number store p how r0) q r a h = clash (sym h)

check_reads : (plan : Plan) (item : ReadItem) (q : Request) (r : Reply) → IsUnchanged plan item q r → is_read q ≡ true
check_reads plan (KeyRead read) q r u = ap is_read u.1
check_reads plan (SpanRead scan) q r u = ap is_read u.1

enabled_form : (plan : ℕ → Plan) (w : History) (past : List Labelled) (e : Event) (action : Action) (q : Request) (r : Reply) → Knows plan w past → IsEnabled plan past e action → Asks e q r → HasForm plan q action
enabled_form plan w past e Other q r knows m a = quiet_reads e q r a m
enabled_form plan w past e (Begins t c) q r knows m a = absurd (asks_nothing (ap contact_of m.take) a)
enabled_form plan w past e (Takes t) q r knows m a = absurd (asks_nothing (ap contact_of m.take) a)
enabled_form plan w past e (Prepares t ks word) q r knows m a = record { some = m.some; once_each = m.once_each; asks = (asks_same a (called e m.client _ m.r m.call)).0 ∙ prepares_asked plan w past e t ks word knows m }
enabled_form plan w past e (Checks t i) q r knows m a = ap is_read (asks_same a (called e m.client m.q m.r m.call)).0 ∙ check_reads (plan t) m.item m.q m.r m.unchanged
enabled_form plan w past e (Decides t word) q r knows m a = (asks_same a (called e m.client _ m.r m.call)).0
enabled_form plan w past e (Aborts t moment word) q r knows m a = (asks_same a (called e m.client _ m.r m.call)).0
enabled_form plan w past e (Rolls t ks Committed) q r knows m a = subst (λ x. AsksRollForward plan x t ks) (sym (asks_same a (called e m.client _ m.r m.call)).0) (rolls_forward plan w past e t ks knows m).form
enabled_form plan w past e (Rolls t [] Aborted) q r knows m a = absurd m
enabled_form plan w past e (Rolls t (k ∷ []) Aborted) q r knows m a = (m.s, m.roll.is_open, (asks_same a (called e m.client _ m.r m.call)).0 ∙ (back_is plan w past e t k knows m).1)
enabled_form plan w past e (Rolls t (k ∷ l ∷ ks) Aborted) q r knows m a = absurd m
enabled_form plan w past e (Removes k t) q r knows m a = (asks_same a (called e m.client _ m.r m.call)).0
enabled_form plan w past e (Ends t) q r knows m a = absurd m
enabled_form plan w past e (Stops c) q r knows m a = absurd (asks_nothing (ap contact_of m) a)

-- The request of an event that occurs has the form of its action.
pub form_of : (plan : ℕ → Plan) (w : History) (past : List Labelled) (e : Event) (action : Action) (q : Request) (r : Reply) → Knows plan w past → MayOccur plan past e action → Asks e q r → HasForm plan q action
form_of plan w past e action q r knows o a = elim (occurs_by plan past e action o) [
  | inl m ↦ enabled_form plan w past e action q r knows m a
  | inr l ↦ subst (λ x. HasForm plan x action) (sym (asks_same a (landed_asks l)).0) (knows.delayed l.request action l.was).0
]

---- what lands

late_other_moves : (plan : ℕ → Plan) (places : List Place) (w : History) (e : Event) (before now : List StoreContents) (q : Request) (r : Reply) (done : Bool) → ContainsHistory plan places w before → Effect places e before now → Asks e q r → is_read q ≡ true → Moves plan places w Other done now
late_other_moves plan places w e before now q r done held effect asks reads = record { allowed = tt; held = link_same plan places w (happens plan w Other done) before now held (still q is reads) (λ q. refl) (λ u. refl) }
  where
    is : IsCall places asks.store q asks.how r before now
    is = subst (λ x. EffectOf places x before now) asks.is effect

    still : (q : Request) → IsCall places asks.store q asks.how r before now → is_read q ≡ true → (k : Key) → stored_at places now k ≡ stored_at places before k
    still (ask.Get key) c h k = read_leaves places (ask.Get key) r before now (at_call places asks.store (ask.Get key) asks.how r before now c) (λ m. refl) k
    still (ask.Scan span) c h k = read_leaves places (ask.Scan span) r before now (at_call places asks.store (ask.Scan span) asks.how r before now c) (λ m. refl) k
    still (ask.PutIf rec x) c h k = clash (sym h)
    still (ask.DeleteIf key x) c h k = clash (sym h)
    still (ask.PutAll batch) c h k = clash (sym h)

pub land_moves : (plan : ℕ → Plan) (places : List Place) (w : History) (past : List Labelled) (e : Event) (before now : List StoreContents) (action : Action) (done : Bool)
    → Knows plan w past → ContainsHistory plan places w before → Effect places e before now → has_effect places e before now ≡ done → IsLanded past e action → Moves plan places w action done now
land_moves plan places w past e before now action done knows held effect is l = by action (knows.delayed l.request action l.was)
  where
    asks : Asks e l.request l.reply
    asks = landed_asks l

    by : (x : Action) → HasForm plan l.request x × StaysAllowed plan w x → Moves plan places w x done now
    by Other f = late_other_moves plan places w e before now l.request l.reply done held effect asks f.0
    by (Prepares t ks word) f = late_prepare_moves plan places w past e before now t ks word l.request l.reply done knows held effect is asks f.0 f.1
    by (Decides t word) f = late_decide_moves plan places w past e before now t word l.request l.reply done knows held effect is asks f.0 f.1
    by (Aborts t moment word) f = late_abort_moves plan places w e before now t moment word l.request l.reply done held effect is asks f.0 f.1
    by (Rolls t ks Committed) f = late_forward_moves plan places w past e before now t ks l.request l.reply done knows held effect is asks f.0 f.1
    by (Rolls t [] Aborted) f = absurd f.0
    by (Rolls t (k ∷ []) Aborted) f = late_back_moves plan places w past e before now t k l.request l.reply done knows held effect is asks f.0 f.1
    by (Rolls t (k ∷ i ∷ ks) Aborted) f = absurd f.0
    by (Removes k u) f = late_remove_moves plan places w past e before now u k l.request l.reply done knows held effect is asks f.0 f.1
    by (Begins t c) f = absurd f.0
    by (Takes t) f = absurd f.0
    by (Checks t i) f = absurd f.1
    by (Ends t) f = absurd f.0
    by (Stops c) f = absurd f.0

---- the call that was delayed

unanswered : (word : Ack) (r : Reply) → word ≡ ack_of r → r ≡ reply.Fault → word ≡ NoAck
unanswered word r i j = i ∙ ap ack_of j

asked_now : (plan : ℕ → Plan) (w : History) (t : ℕ) (ks : List Key) (word : Ack) (done : Bool) → word ≡ NoAck → IsLate (happens plan w (Prepares t ks word) done).protocol t ks word
asked_now plan w t ks word done none = (λ k h. now t k refl h, none)
  where
    now : (u : ℕ) (x : Key) → u ≡ t → has_key ks x ≡ true → ((happens plan w (Prepares t ks word) done).protocol.asked u x ≡ true) × ((happens plan w (Prepares t ks word) done).protocol.answered u x ≡ false)
    now u x e f = grind (arith, tests)

decided_now : (plan : ℕ → Plan) (w : History) (t : ℕ) (word : Ack) (done : Bool) → word ≡ NoAck → ((happens plan w (Decides t word) done).protocol.risked t ≡ true) × ((happens plan w (Decides t word) done).protocol.stage t ≡ Deciding)
decided_now plan w t word done none = now t refl
  where
    now : (u : ℕ) → u ≡ t → ((happens plan w (Decides t word) done).protocol.risked u ≡ true) × ((happens plan w (Decides t word) done).protocol.stage u ≡ Deciding)
    now u e = grind (arith, tests)

unread : (plan : Plan) (item : ReadItem) (q : Request) (r : Reply) → r ≡ reply.Fault → IsUnchanged plan item q r → ⊥
unread plan (KeyRead read) q r f u = no (sym f ∙ u.2)
  where
    no : reply.Fault ≡ reply.Found u.0 → ⊥
    no z = cc
unread plan (SpanRead scan) q r f u = no (sym f ∙ u.2)
  where
    no : reply.Fault ≡ reply.Rows u.0 → ⊥
    no z = cc

-- What a request needs stays so from its call on, where that was answered with a fault.
pub stays_from_call : (plan : ℕ → Plan) (w : History) (past : List Labelled) (e : Event) (action : Action) (done : Bool) (q : Request) → Knows plan w past → Allowed plan w action done → IsEnabled plan past e action → Asks e q reply.Fault → StaysAllowed plan (happens plan w action done) action
stays_from_call plan w past e Other done q knows a m asks = tt
stays_from_call plan w past e (Begins t c) done q knows a m asks = absurd (asks_nothing (ap contact_of m.take) asks)
stays_from_call plan w past e (Takes t) done q knows a m asks = absurd (asks_nothing (ap contact_of m.take) asks)
stays_from_call plan w past e (Prepares t ks word) done q knows a m asks = (a.0, asked_now plan w t ks word done (unanswered word m.r m.word_is (asks_same (called e m.client _ m.r m.call) asks).1))
stays_from_call plan w past e (Checks t i) done q knows a m asks = absurd (unread (plan t) m.item m.q m.r (asks_same (called e m.client m.q m.r m.call) asks).1 m.unchanged)
stays_from_call plan w past e (Decides t word) done q knows a m asks =
    let none = unanswered word m.r m.word_is (asks_same (called e m.client _ m.r m.call) asks).1 in
    let s = decided_now plan w t word done none in
    (record { accepted = a.0; prepared = a.2; checked = a.3; agrees = a.4; risked = s.0; stage = s.1 }, none)
stays_from_call plan w past e (Aborts t moment word) done q knows a m asks = (m.fits, m.moment_is, unanswered word m.r m.word_is (asks_same (called e m.client _ m.r m.call) asks).1)
stays_from_call plan w past e (Rolls t ks Committed) done q knows a m asks = let f = rolls_forward plan w past e t ks knows m in (f.row, f.fits, f.accepted, f.asked)
stays_from_call plan w past e (Rolls t [] Aborted) done q knows a m asks = absurd m
stays_from_call plan w past e (Rolls t (k ∷ []) Aborted) done q knows a m asks =
    let own = prepared_there plan w past t k m.rolled knows m.roll.outside m.roll.prepared in
    ((back_is plan w past e t k knows m).0, own.fits, own.accepted, only_key (λ x. (is_data x ≡ true) × (w.protocol.asked t x ≡ true)) k (m.roll.outside, own.asked))
stays_from_call plan w past e (Rolls t (k ∷ i ∷ ks) Aborted) done q knows a m asks = absurd m
stays_from_call plan w past e (Removes k u) done q knows a m asks = (a.0, a.1, m.outside, a.3)
stays_from_call plan w past e (Ends t) done q knows a m asks = absurd m
stays_from_call plan w past e (Stops c) done q knows a m asks = absurd (asks_nothing (ap contact_of m) asks)
