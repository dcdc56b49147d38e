-- Which event asked for a prepare, and which call made a check; and that each prepare was seen and applied, or its transaction never decides.
use Rattle.std.proofs.Common.{◌≡◌, ◌≢◌, ℕ, suc, ◌+◌, ◌<◌, ◌≤◌, ◌^◌, Bool, true, false, List, [], ◌∷◌, ◌++◌, length, append_assoc, Option, Some, None, ◌⊎◌, inl, inr, refl, sym, ap, subst, ◌∙◌, arith}
use Rattle.std.specs.Prelude.{◌==◌, Contains, slice_get}
use Rattle.std.proofs.lemmas.List.Elements.{Contains-append_left, Contains-append_right, Contains-append_cases}
use Rattle.law_protocol.specs.Types.{Answer, Event, Key, Place, Reply, Request}
use Rattle.sdb_types.specs.declared.record.Reply.TheVariants as reply
use Rattle.sdb_types.proofs.Public.{clash, one_of, tests}
use Rattle.sdb_model.specs.declared.event.Event.TheVariants as event
use Rattle.sdb_model.specs.declared.event.How.TheVariants.{Seen}
use Rattle.sdb_model.specs.Events.{Contact, StoreContents, Effect, EffectOf, IsCall, contact_of}
use Rattle.sdb_model.specs.Explained.{IsPrepareOf}
use Rattle.sdb_model.specs.InFlight.{AllApplied}
use Rattle.sdb_model.specs.ReadSet.{KeyRead, ReadItem, SpanRead}
use Rattle.sdb_model.specs.Rows.{Name}
use Rattle.sdb_model.specs.Transactions.{prepares}
use Rattle.sdb_model.proofs.Public.{in_only}
use Rattle.law_protocol.specs.Plan.{Plan}
use Rattle.law_protocol.specs.History.{Action, Other, Begins, Takes, Prepares, Checks, Decides, Aborts, Rolls, Removes, Ends, Stops, Ack, is_yes, ProtocolState, History, has_key, happens, state_after_event}
use Rattle.law_protocol.specs.Lawful.{Labelled, IsUnchanged, MayCheck, MayOccur, MayPrepare, ended, id, protocol_state}
use Rattle.law_protocol.specs.Records.{record_prepared_by}
use Rattle.law_protocol.specs.Flight.{HasForm}
use Rattle.law_protocol.specs.Trace.{after_end, closing, has_effect, history}
use Rattle.law_protocol.specs.Explained.{IsRunOf}
use Rattle.law_protocol.proofs.Allowed.{Allowed}
use Rattle.law_protocol.proofs.Changes.{Asks, called}
use Rattle.law_protocol.proofs.Current.{now_is}
use Rattle.law_protocol.proofs.Each.{has_first}
use Rattle.law_protocol.proofs.Flight.{asked_stays}
use Rattle.law_protocol.proofs.Known.{accepted_fits}
use Rattle.law_protocol.proofs.Landing.{asks_same, form_of}
use Rattle.law_protocol.proofs.Moments.{prepare_asked}
use Rattle.law_protocol.proofs.Moves.{Moves, yes_is}
use Rattle.law_protocol.proofs.Occurring.{occurs_by}
use Rattle.law_protocol.proofs.Points.{form_prepares, in_order, length_snoc, seen_is}
use Rattle.law_protocol.proofs.Settled.{Knows}
use Rattle.law_protocol.proofs.Times.{earlier_run, one_more}
use Rattle.law_protocol.proofs.Whole.{Whole, moves, whole}

nothing_among : {A : Type 0} (e : Event) → Contains [] e → A
nothing_among e h = absurd (none h.0 h.1)
  where
    none : (k : ℕ) → k < 0 → ⊥
    none k l = omega (arith, l)

only_event : (x e : Event) → Contains (x ∷ []) e → x ≡ e
only_event x e h = elim (one_of x e [] h) [ inl same ↦ same | inr none ↦ nothing_among e none ]

---- prepares

asked_split : (h : ProtocolState) (u : ℕ) (ks : List Key) (word : Ack) (t : ℕ) (k : Key) → (state_after_event h (Prepares u ks word)).asked t k ≡ true → ((t ≡ u) × (has_key ks k ≡ true)) ⊎ (h.asked t k ≡ true)
asked_split h u ks word t k e = grind (arith, tests)

asked_now : (h : ProtocolState) (r : Action) (t : ℕ) (k : Key) → (state_after_event h r).asked t k ≡ true → (h.asked t k ≡ true) ⊎ ((ks : List Key) × (word : Ack) × (r ≡ Prepares t ks word) × (has_key ks k ≡ true))
asked_now h (Prepares u ks word) t k e = elim (asked_split h u ks word t k e) [
  | inl x ↦ inr (ks, word, ap (λ y. Prepares y ks word) (sym x.0), x.1)
  | inr old ↦ inl old
]
asked_now h Other t k e = inl e
asked_now h (Begins u c) t k e = inl e
asked_now h (Takes u) t k e = inl e
asked_now h (Checks u i) t k e = inl e
asked_now h (Decides u word) t k e = inl e
asked_now h (Aborts u moment word) t k e = inl e
asked_now h (Rolls u ks d) t k e = inl e
asked_now h (Removes q u) t k e = inl e
asked_now h (Ends u) t k e = inl e
asked_now h (Stops c) t k e = inl e

-- the event that asked for a prepare
pub asked_by : (plan : ℕ → Plan) (places : List Place) (opening : List StoreContents) (past : List Labelled) (ss : List (List StoreContents)) (t : ℕ) (k : Key) → IsRunOf plan places opening past ss → t < 2 ^ 128 → (protocol_state past).asked t k ≡ true
    → (e : Event) × Contains (in_order past) e × IsPrepareOf (id t) (record_prepared_by plan t k) e
asked_by plan places opening [] ss t k r fits h = clash (sym h)
asked_by plan places opening (p ∷ past) [] t k r fits h = absurd r.traced
asked_by plan places opening (p ∷ past) (s ∷ ss) t k r fits h = elim (asked_now (protocol_state past) p.action t k (unended p.ends h)) [
  | inl old ↦ let f = asked_by plan places opening past ss t k (earlier_run plan places opening p past s ss r) fits old in (f.0, Contains-append_left (in_order past) (p.event ∷ []) f.0 f.1, f.2)
  | inr x ↦ (
    p.event,
    Contains-append_right (in_order past) (p.event ∷ []) p.event (in_only p.event p.event refl),
    prepare_asked plan (history plan places opening past ss) past p.event t x.0 k x.1 (whole plan places opening past ss r.empty r.lawful.0 r.traced.0).knows (subst (λ y. MayOccur plan past p.event y) x.2 r.lawful.1) x.3 fits,
  )
]
  where
    unended : (ends : Option ℕ) → (ended (state_after_event (protocol_state past) p.action) ends).asked t k ≡ true → (state_after_event (protocol_state past) p.action).asked t k ≡ true
    unended None h = h
    unended (Some u) h = h

---- whether they were applied

-- a transaction's prepare of a key was asked, and not acknowledged
abbrev IsUnacknowledged : History → ℕ → Key → Type 0
IsUnacknowledged w t k = (w.protocol.asked t k ≡ true) × (w.protocol.answered t k ≡ false)

unacknowledged_now : (plan : ℕ → Plan) (w : History) (t : ℕ) (ks : List Key) (word : Ack) (done : Bool) (k : Key) → is_yes word ≡ false → has_key ks k ≡ true → IsUnacknowledged (happens plan w (Prepares t ks word) done) t k
unacknowledged_now plan w t ks word done k unmet among = now t refl
  where
    now : (u : ℕ) → u ≡ t → IsUnacknowledged (happens plan w (Prepares t ks word) done) u k
    now u e = grind (arith, tests)

unended_now : (plan : ℕ → Plan) (w : History) (t : ℕ) (k : Key) (ends : Option ℕ) → IsUnacknowledged w t k → IsUnacknowledged (after_end plan w ends) t k
unended_now plan w t k None h = h
unended_now plan w t k (Some u) h = h

abbrev IsApplied : Contact → Type 0
IsApplied c = (c.how ≡ Seen) × (c.reply ≡ reply.Applied)

-- one that was acknowledged was seen and applied
acknowledged : (plan : ℕ → Plan) (places : List Place) (past : List Labelled) (e : Event) (before now : List StoreContents) (c : Contact) (t : ℕ) (ks : List Key) (word : Ack) → Effect places e before now → contact_of e ≡ Some c → MayPrepare plan past e t ks word → is_yes word ≡ true → IsApplied c
acknowledged plan places past e before now c t ks word effect asks m acked = (seen_is c.request c.how c.reply call.held call.left call.performed (λ f. apart (sym applied ∙ f)), applied)
  where
    applied : c.reply ≡ reply.Applied
    applied = (asks_same (asked c asks) (called e m.client _ m.r m.call)).1 ∙ yes_is word m.r m.word_is acked
      where
        asked : (c : Contact) → contact_of e ≡ Some c → Asks e c.request c.reply
        asked c is = record { store = c.store; how = c.how; is = is }

    call : IsCall places c.store c.request c.how c.reply before now
    call = subst (λ x. EffectOf places x before now) asks effect

    apart : reply.Applied ≡ reply.Fault → ⊥
    apart z = cc

-- an event that prepares something of a transaction
prepared_now : (plan : ℕ → Plan) (places : List Place) (w : History) (past : List Labelled) (e : Event) (before now : List StoreContents) (c : Contact) (r : Action) (done : Bool) (t : ℕ)
    → Knows plan w past → Effect places e before now → MayOccur plan past e r → Allowed plan w r done → t < 2 ^ 128 → contact_of e ≡ Some c → prepares (id t) c.request ≡ true
    → IsApplied c ⊎ ((k : Key) × IsUnacknowledged (happens plan w r done) t k)
prepared_now plan places w past e before now c r done t knows effect o a fits asks prepare = by r o a (form_of plan w past e r c.request c.reply knows o (record { store = c.store; how = c.how; is = asks }))
  where
    no : (x : Action) → HasForm plan c.request x → prepares (id t) c.request ≡ false → IsApplied c ⊎ ((k : Key) × IsUnacknowledged (happens plan w x done) t k)
    no x f n = clash (sym prepare ∙ n)

    same : (u : ℕ) → (t == u) ≡ true → u ≡ t
    same u h = grind (arith, tests)

    answered : (ks : List Key) (word : Ack) (b : Bool) → 0 < length ks → is_yes word ≡ b → MayOccur plan past e (Prepares t ks word) → IsApplied c ⊎ ((x : Key) × IsUnacknowledged (happens plan w (Prepares t ks word) done) t x)
    answered [] word b some y o = absurd (omega (arith, some))
    answered (k ∷ ks) word false some n o = inr (k, unacknowledged_now plan w t (k ∷ ks) word done k n (has_first k ks))
    answered (k ∷ ks) word true some y o = elim (occurs_by plan past e (Prepares t (k ∷ ks) word) o) [
      | inl m ↦ inl (acknowledged plan places past e before now c t (k ∷ ks) word effect asks m y)
      | inr l ↦ clash (sym y ∙ ap is_yes (knows.delayed l.request (Prepares t (k ∷ ks) word) l.was).1.1.1)
    ]

    by : (x : Action) → MayOccur plan past e x → Allowed plan w x done → HasForm plan c.request x → IsApplied c ⊎ ((k : Key) × IsUnacknowledged (happens plan w x done) t k)
    by (Prepares u ks word) o a f =
        let own = same u (sym (form_prepares plan t c.request (Prepares u ks word) fits (accepted_fits w u knows.inv.begun knows.fits a.0) f) ∙ prepare) in
        subst (λ v. IsApplied c ⊎ ((x : Key) × IsUnacknowledged (happens plan w (Prepares v ks word) done) t x)) (sym own) (answered ks word (is_yes word) f.some refl (subst (λ v. MayOccur plan past e (Prepares v ks word)) own o))
    by Other o a f = no Other f (form_prepares plan t c.request Other fits tt f)
    by (Begins u d) o a f = absurd f
    by (Takes u) o a f = absurd f
    by (Checks u i) o a f = no (Checks u i) f (form_prepares plan t c.request (Checks u i) fits tt f)
    by (Decides u word) o a f = no (Decides u word) f (form_prepares plan t c.request (Decides u word) fits tt f)
    by (Aborts u moment word) o a f = no (Aborts u moment word) f (form_prepares plan t c.request (Aborts u moment word) fits tt f)
    by (Rolls u ks d) o a f = no (Rolls u ks d) f (form_prepares plan t c.request (Rolls u ks d) fits tt f)
    by (Removes k u) o a f = no (Removes k u) f (form_prepares plan t c.request (Removes k u) fits tt f)
    by (Ends u) o a f = absurd f
    by (Stops d) o a f = absurd f

-- Each prepare among the events was seen and applied, or its transaction has one that was not acknowledged.
applied_or : (plan : ℕ → Plan) (places : List Place) (opening : List StoreContents) (past : List Labelled) (ss : List (List StoreContents)) (t : ℕ) (e : Event) (c : Contact) → IsRunOf plan places opening past ss → t < 2 ^ 128 → Contains (in_order past) e → contact_of e ≡ Some c → prepares (id t) c.request ≡ true
    → IsApplied c ⊎ ((k : Key) × IsUnacknowledged (history plan places opening past ss) t k)
applied_or plan places opening [] ss t e c r fits among asks prepare = nothing_among e among
applied_or plan places opening (p ∷ past) [] t e c r fits among asks prepare = absurd r.traced
applied_or plan places opening (p ∷ past) (s ∷ ss) t e c r fits among asks prepare = elim (Contains-append_cases (in_order past) (p.event ∷ []) e among) [
  | inl old ↦ elim (applied_or plan places opening past ss t e c (earlier_run plan places opening p past s ss r) fits old asks prepare) [
    | inl x ↦ inl x
    | inr x ↦ inr (x.0, one_more plan places opening p past s ss (λ v. IsUnacknowledged v t x.0) (λ v y done i a h. asked_stays plan v y done t x.0 a h) (λ v u h. h) r x.1)
  ]
  | inr here ↦ elim (now (only_event p.event e here)) [ inl x ↦ inl x | inr x ↦ inr (x.0, unended_now plan _ t x.0 p.ends x.1) ]
]
  where
    i : Whole plan places (history plan places opening past ss) past (closing opening ss)
    i = whole plan places opening past ss r.empty r.lawful.0 r.traced.0

    m : Moves plan places (history plan places opening past ss) p.action (has_effect places p.event (closing opening ss) s) s
    m = moves plan places (history plan places opening past ss) past p.event (closing opening ss) s p.action (has_effect places p.event (closing opening ss) s) i.knows i.held r.traced.1 refl r.lawful.1

    now : p.event ≡ e → IsApplied c ⊎ ((k : Key) × IsUnacknowledged (happens plan (history plan places opening past ss) p.action (has_effect places p.event (closing opening ss) s)) t k)
    now is = prepared_now plan places (history plan places opening past ss) past p.event (closing opening ss) s c p.action (has_effect places p.event (closing opening ss) s) t i.knows r.traced.1 r.lawful.1 m.allowed fits (ap contact_of is ∙ asks) prepare

-- So where all that a transaction asked was acknowledged, each of its prepares was seen and applied.
pub all_applied : (plan : ℕ → Plan) (places : List Place) (opening : List StoreContents) (past : List Labelled) (ss : List (List StoreContents)) (t : ℕ) → IsRunOf plan places opening past ss → t < 2 ^ 128
    → ((k : Key) → (history plan places opening past ss).protocol.asked t k ≡ true → (history plan places opening past ss).protocol.answered t k ≡ true) → AllApplied (id t) (in_order past)
all_applied plan places opening past ss t r fits answered e c among asks prepare = elim (applied_or plan places opening past ss t e c r fits among asks prepare) [
  | inl x ↦ x
  | inr x ↦ clash (sym (answered x.0 x.1.0) ∙ x.1.1)
]

---- checks

checked_split : (h : ProtocolState) (u j t i : ℕ) → (state_after_event h (Checks u j)).checked t i ≡ true → ((t ≡ u) × (i ≡ j)) ⊎ (h.checked t i ≡ true)
checked_split h u j t i e = grind (arith, tests)

checked_now : (h : ProtocolState) (r : Action) (t i : ℕ) → (state_after_event h r).checked t i ≡ true → (h.checked t i ≡ true) ⊎ (r ≡ Checks t i)
checked_now h (Checks u j) t i e = elim (checked_split h u j t i e) [
  | inl x ↦ inr (ap (λ y. Checks y j) (sym x.0) ∙ ap (Checks t) (sym x.1))
  | inr old ↦ inl old
]
checked_now h Other t i e = inl e
checked_now h (Begins u c) t i e = inl e
checked_now h (Takes u) t i e = inl e
checked_now h (Prepares u ks word) t i e = inl e
checked_now h (Decides u word) t i e = inl e
checked_now h (Aborts u moment word) t i e = inl e
checked_now h (Rolls u ks d) t i e = inl e
checked_now h (Removes q u) t i e = inl e
checked_now h (Ends u) t i e = inl e
checked_now h (Stops c) t i e = inl e

-- whose a transaction is, and after how many events its COMMIT was accepted
abbrev pub IsAcceptedBy : History → ℕ → ℕ → ℕ → Type 0
IsAcceptedBy w t client n = (w.protocol.accepted t ≡ true) × (w.protocol.owner t ≡ client) × (w.protocol.accepted_at t ≤ n)

pub accepted_by_stays : (plan : ℕ → Plan) (w : History) (r : Action) (done : Bool) (t client n : ℕ) → Allowed plan w r done → IsAcceptedBy w t client n → IsAcceptedBy (happens plan w r done) t client n
accepted_by_stays plan w r done t client n a h = grind (arith, tests)

accepted_early : (h : ProtocolState) (r : Action) (t : ℕ) → h.accepted_at t ≤ h.now → (state_after_event h r).accepted_at t ≤ (state_after_event h r).now
accepted_early h r t l = grind (arith, tests)

accepted_before : (past : List Labelled) (t : ℕ) → (protocol_state past).accepted_at t ≤ (protocol_state past).now
accepted_before [] t = omega arith
accepted_before (p ∷ past) t = over p.ends (accepted_early (protocol_state past) p.action t (accepted_before past t))
  where
    over : (ends : Option ℕ) → (state_after_event (protocol_state past) p.action).accepted_at t ≤ (state_after_event (protocol_state past) p.action).now → (ended (state_after_event (protocol_state past) p.action) ends).accepted_at t ≤ (ended (state_after_event (protocol_state past) p.action) ends).now
    over None l = l
    over (Some u) l = l

accepted_later : (h : ProtocolState) (r : Action) (t : ℕ) → (h.accepted t ≡ true → 0 < h.accepted_at t) → (state_after_event h r).accepted t ≡ true → 0 < (state_after_event h r).accepted_at t
accepted_later h r t l a = grind (arith, tests)

-- the number of the event at which a COMMIT was accepted is none of before the run
pub accepted_after : (past : List Labelled) (t : ℕ) → (protocol_state past).accepted t ≡ true → 0 < (protocol_state past).accepted_at t
accepted_after [] t a = clash (sym a)
accepted_after (p ∷ past) t a = over p.ends (accepted_later (protocol_state past) p.action t (accepted_after past t)) a
  where
    over : (ends : Option ℕ) → ((state_after_event (protocol_state past) p.action).accepted t ≡ true → 0 < (state_after_event (protocol_state past) p.action).accepted_at t) → (ended (state_after_event (protocol_state past) p.action) ends).accepted t ≡ true → 0 < (ended (state_after_event (protocol_state past) p.action) ends).accepted_at t
    over None l = l
    over (Some u) l = l

order_length : (past : List Labelled) → length (in_order past) ≡ length past
order_length [] = refl
order_length (p ∷ past) = length_snoc (in_order past) p.event ∙ ap (λ n. n + 1) (order_length past) ∙ more (length past)
  where
    more : (n : ℕ) → n + 1 ≡ suc n
    more n = omega arith

-- The call that made a check, and what it showed.
pub record IsCheckMade (plan : ℕ → Plan) (w : History) (events : List Event) (t i : ℕ) : Type 0 where
  pub client : ℕ
  pub store : Name
  pub item : ReadItem
  pub request : Request
  pub reply : Reply
  pub answer : Option Answer
  pub front : List Event
  pub back : List Event
  pub at : events ≡ front ++ event.Call client store request Seen reply answer ∷ back
  pub item_is : slice_get (plan t).read_set i ≡ Some item
  pub unchanged : IsUnchanged (plan t) item request reply
  pub accepted : IsAcceptedBy w t client (length front)

unfaulted : (plan : Plan) (item : ReadItem) (q : Request) (r : Reply) → IsUnchanged plan item q r → r ≢ reply.Fault
unfaulted plan (KeyRead read) q r u f = no (sym u.2 ∙ f)
  where
    no : reply.Found u.0 ≡ reply.Fault → ⊥
    no z = cc
unfaulted plan (SpanRead scan) q r u f = no (sym u.2 ∙ f)
  where
    no : reply.Rows u.0 ≡ reply.Fault → ⊥
    no z = cc

pub check_made : (plan : ℕ → Plan) (places : List Place) (opening : List StoreContents) (past : List Labelled) (ss : List (List StoreContents)) (t i : ℕ) → IsRunOf plan places opening past ss → (protocol_state past).checked t i ≡ true → IsCheckMade plan (history plan places opening past ss) (in_order past) t i
check_made plan places opening [] ss t i r h = clash (sym h)
check_made plan places opening (p ∷ past) [] t i r h = absurd r.traced
check_made plan places opening (p ∷ past) (s ∷ ss) t i r h = elim (checked_now (protocol_state past) p.action t i (unended p.ends h)) [
  | inl old ↦ longer (check_made plan places opening past ss t i (earlier_run plan places opening p past s ss r) old)
  | inr is ↦ elim (occurs_by plan past p.event (Checks t i) (subst (λ y. MayOccur plan past p.event y) is r.lawful.1)) [
    | inl m ↦ made m
    | inr l ↦ absurd (whole_is.knows.delayed l.request (Checks t i) l.was).1
  ]
]
  where
    unended : (ends : Option ℕ) → (ended (state_after_event (protocol_state past) p.action) ends).checked t i ≡ true → (state_after_event (protocol_state past) p.action).checked t i ≡ true
    unended None h = h
    unended (Some u) h = h

    whole_is : Whole plan places (history plan places opening past ss) past (closing opening ss)
    whole_is = whole plan places opening past ss r.empty r.lawful.0 r.traced.0

    still : (client n : ℕ) → IsAcceptedBy (history plan places opening past ss) t client n → IsAcceptedBy (history plan places opening (p ∷ past) (s ∷ ss)) t client n
    still client n x = one_more plan places opening p past s ss (λ v. IsAcceptedBy v t client n) (λ v y done j a f. accepted_by_stays plan v y done t client n a f) (λ v u f. f) r x

    longer : IsCheckMade plan (history plan places opening past ss) (in_order past) t i → IsCheckMade plan (history plan places opening (p ∷ past) (s ∷ ss)) (in_order past ++ p.event ∷ []) t i
    longer x = record {
      client = x.client;
      store = x.store;
      item = x.item;
      request = x.request;
      reply = x.reply;
      answer = x.answer;
      front = x.front;
      back = x.back ++ p.event ∷ [];
      at = ap (λ es. es ++ p.event ∷ []) x.at ∙ append_assoc x.front (event.Call x.client x.store x.request Seen x.reply x.answer ∷ x.back) (p.event ∷ []);
      item_is = x.item_is;
      unchanged = x.unchanged;
      accepted = still x.client (length x.front) x.accepted;
    }

    made : MayCheck plan past p.event t i → IsCheckMade plan (history plan places opening (p ∷ past) (s ∷ ss)) (in_order past ++ p.event ∷ []) t i
    made m = record {
      client = m.client;
      store = m.call.store;
      item = m.item;
      request = m.q;
      reply = m.r;
      answer = m.call.answer;
      front = in_order past;
      back = [];
      at = ap (λ e. in_order past ++ e ∷ []) (m.call.call ∙ ap (λ x. event.Call m.client m.call.store m.q x m.r m.call.answer) seen);
      item_is = m.at;
      unchanged = m.unchanged;
      accepted = still m.client (length (in_order past)) (subst (λ (x : ProtocolState). (x.accepted t ≡ true) × (x.owner t ≡ m.client) × (x.accepted_at t ≤ length (in_order past))) whole_is.knows.talks
          (m.within.accepted, m.within.owner, subst (λ n. (protocol_state past).accepted_at t ≤ n) (now_is plan past r.lawful.0 ∙ sym (order_length past)) (accepted_before past t)));
    }
      where
        call : IsCall places m.call.store m.q m.call.how m.r (closing opening ss) s
        call = subst (λ x. Effect places x (closing opening ss) s) m.call.call r.traced.1

        seen : m.call.how ≡ Seen
        seen = seen_is m.q m.call.how m.r call.held call.left call.performed (unfaulted (plan t) m.item m.q m.r m.unchanged)
