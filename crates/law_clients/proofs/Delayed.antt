-- Requests whose call was delayed: each was asked, and its client was answered nothing.
use Rattle.std.proofs.Common.{◌≡◌, ◌≢◌, ◌⊎◌, ◌<◌, ℕ, zero, suc, true, false, List, [], ◌∷◌, Option, Some, None, inl, inr, refl, sym, ap, subst, ◌∙◌, arith}
use Rattle.std.specs.Prelude.{Contains, fold, length}
use Rattle.std.proofs.lemmas.Bool.Decides.{nat_tests}
use Rattle.law_clients.specs.Types.{Answer, Event, How, Key, Reply, Request}
use Rattle.sdb_types.specs.declared.record.Reply.TheVariants as reply
use Rattle.sdb_types.proofs.Public.{tests}
use Rattle.sdb_model.specs.declared.answer.Answer.TheVariants as answer
use Rattle.sdb_model.specs.declared.event.Event.TheVariants as event
use Rattle.sdb_model.specs.declared.event.How.TheVariants.{Delayed}
use Rattle.sdb_model.specs.ReadSet.{ReadItem, KeyRead, SpanRead}
use Rattle.sdb_model.specs.Rows.{Name}
use Rattle.law_protocol.specs.Explained.{events_of}
use Rattle.law_protocol.specs.Plan.{Plan}
use Rattle.law_protocol.specs.History as laws
use Rattle.law_protocol.specs.History.{Ack, Action, Other, Begins, Takes, Prepares, Checks, Decides, Aborts, Rolls, Removes, Ends, Stops, NoAck, ProtocolState, has_key, state_after_event}
use Rattle.law_protocol.specs.Lawful.{IsEnabled, IsLawful, IsUnchanged, Labelled, MayOccur, WasDelayed, ack_of, ended, protocol_state}
use Rattle.law_protocol.proofs.Public.{occurs_by}

-- the prepare of a key was asked and not answered
abbrev pub IsUnansweredAt : ProtocolState → ℕ → Key → Type 0
IsUnansweredAt h t k = (h.asked t k ≡ true) × (h.answered t k ≡ false)

-- A request with this action was asked, and its client was answered nothing.
abbrev pub IsUnanswered : ProtocolState → Action → Type 0
IsUnanswered h Other = Unit {0}
IsUnanswered h (Prepares t ks word) = (h.accepted t ≡ true) × ((k : Key) → has_key ks k ≡ true → IsUnansweredAt h t k) × (word ≡ NoAck)
IsUnanswered h (Decides t word) = (h.accepted t ≡ true) × (h.risked t ≡ true) × (h.stage t ≡ laws.Deciding) × (word ≡ NoAck)
IsUnanswered h (Aborts t moment word) = word ≡ NoAck
IsUnanswered h (Rolls t ks d) = Unit {0}
IsUnanswered h (Removes k t) = Unit {0}
IsUnanswered h (Begins t c) = ⊥
IsUnanswered h (Takes t) = ⊥
IsUnanswered h (Checks t i) = ⊥
IsUnanswered h (Ends t) = ⊥
IsUnanswered h (Stops c) = ⊥

---- it stays so

-- an action answers no prepare that was asked before, and makes no check after the put of COMMITTED
abbrev LeavesUnanswered : ProtocolState → Action → Type 0
LeavesUnanswered h (Prepares t ks word) = ((k : Key) → has_key ks k ≡ true → h.asked t k ≡ false) ⊎ (word ≡ NoAck)
LeavesUnanswered h (Checks t i) = h.stage t ≢ laws.Deciding
LeavesUnanswered h action = Unit {0}

prepare_stays : (h : ProtocolState) (action : Action) (t : ℕ) (k : Key) → LeavesUnanswered h action → IsUnansweredAt h t k → IsUnansweredAt (state_after_event h action) t k
prepare_stays h action t k leaves u = grind (arith, tests)

accepted_stays : (h : ProtocolState) (action : Action) (t : ℕ) → h.accepted t ≡ true → (state_after_event h action).accepted t ≡ true
accepted_stays h action t accepted = grind (arith, nat_tests)

decide_stays : (h : ProtocolState) (action : Action) (t : ℕ) → LeavesUnanswered h action → h.risked t ≡ true → h.stage t ≡ laws.Deciding → ((state_after_event h action).risked t ≡ true) × ((state_after_event h action).stage t ≡ laws.Deciding)
decide_stays h action t leaves risked stage = grind (arith, nat_tests)

stays : (h : ProtocolState) (action late : Action) → LeavesUnanswered h action → IsUnanswered h late → IsUnanswered (state_after_event h action) late
stays h action Other leaves u = tt
stays h action (Prepares t ks word) leaves u = (accepted_stays h action t u.0, λ k has. prepare_stays h action t k leaves (u.1 k has), u.2)
stays h action (Decides t word) leaves u = let x = decide_stays h action t leaves u.1 u.2 in (accepted_stays h action t u.0, x.0, x.1, u.3)
stays h action (Aborts t moment word) leaves u = u
stays h action (Rolls t ks d) leaves u = tt
stays h action (Removes k t) leaves u = tt
stays h action (Begins t c) leaves u = absurd u
stays h action (Takes t) leaves u = absurd u
stays h action (Checks t i) leaves u = absurd u
stays h action (Ends t) leaves u = absurd u
stays h action (Stops c) leaves u = absurd u

stays_ended : (h : ProtocolState) (o : Option ℕ) (late : Action) → IsUnanswered h late → IsUnanswered (ended h o) late
stays_ended h None late u = u
stays_ended h (Some t) Other u = tt
stays_ended h (Some t) (Prepares v ks word) u = u
stays_ended h (Some t) (Decides v word) u = u
stays_ended h (Some t) (Aborts v moment word) u = u
stays_ended h (Some t) (Rolls v ks d) u = tt
stays_ended h (Some t) (Removes k v) u = tt
stays_ended h (Some t) (Begins v c) u = absurd u
stays_ended h (Some t) (Takes v) u = absurd u
stays_ended h (Some t) (Checks v i) u = absurd u
stays_ended h (Some t) (Ends v) u = absurd u
stays_ended h (Some t) (Stops c) u = absurd u

enabled_leaves : (plan : ℕ → Plan) (past : List Labelled) (e : Event) (action : Action) → IsEnabled plan past e action → LeavesUnanswered (protocol_state past) action
enabled_leaves plan past e Other m = tt
enabled_leaves plan past e (Begins t c) m = tt
enabled_leaves plan past e (Takes t) m = tt
enabled_leaves plan past e (Prepares t ks word) m = inl m.once
enabled_leaves plan past e (Checks t i) m = m.stage
enabled_leaves plan past e (Decides t word) m = tt
enabled_leaves plan past e (Aborts t moment word) m = tt
enabled_leaves plan past e (Rolls t ks d) m = tt
enabled_leaves plan past e (Removes k t) m = tt
enabled_leaves plan past e (Ends t) m = tt
enabled_leaves plan past e (Stops c) m = tt

unanswered_leaves : (h : ProtocolState) (action : Action) → IsUnanswered h action → LeavesUnanswered h action
unanswered_leaves h Other u = tt
unanswered_leaves h (Prepares t ks word) u = inr u.2
unanswered_leaves h (Decides t word) u = tt
unanswered_leaves h (Aborts t moment word) u = tt
unanswered_leaves h (Rolls t ks d) u = tt
unanswered_leaves h (Removes k t) u = tt
unanswered_leaves h (Begins t c) u = tt
unanswered_leaves h (Takes t) u = tt
unanswered_leaves h (Checks t i) u = absurd u
unanswered_leaves h (Ends t) u = tt
unanswered_leaves h (Stops c) u = tt

occurring_leaves : (plan : ℕ → Plan) (past : List Labelled) (e : Event) (action : Action) → ((q : Request) → WasDelayed past q action → IsUnanswered (protocol_state past) action) → MayOccur plan past e action → LeavesUnanswered (protocol_state past) action
occurring_leaves plan past e action unanswered may = elim (occurs_by plan past e action may) [
  | inl m ↦ enabled_leaves plan past e action m
  | inr x ↦ unanswered_leaves (protocol_state past) action (unanswered x.request x.was)
]

---- the call that was delayed

-- a call has one reply
one_reply : (c d : ℕ) (s u : Name) (q p : Request) (h g : How) (r x : Reply) (a b : Option Answer) → event.Call c s q h r a ≡ event.Call d u p g x b → r ≡ x
one_reply c d s u q p h g r x a b e = cc

no_ack : (word : Ack) (r : Reply) → word ≡ ack_of r → reply.Fault ≡ r → word ≡ NoAck
no_ack word r i j = i ∙ ap ack_of (sym j)

asks_prepare : (h : ProtocolState) (t : ℕ) (ks : List Key) (word : Ack) → word ≡ NoAck → h.accepted t ≡ true → IsUnanswered (state_after_event h (Prepares t ks word)) (Prepares t ks word)
asks_prepare h t ks word none accepted = (accepted, λ q has. at q has, none)
  where
    at : (q : Key) → has_key ks q ≡ true → IsUnansweredAt (state_after_event h (Prepares t ks word)) t q
    at q has = grind (arith, tests)

asks_decide : (h : ProtocolState) (t : ℕ) (word : Ack) → word ≡ NoAck → h.accepted t ≡ true → IsUnanswered (state_after_event h (Decides t word)) (Decides t word)
asks_decide h t word none accepted = let x = now in (accepted, x.0, x.1, none)
  where
    now : ((state_after_event h (Decides t word)).risked t ≡ true) × ((state_after_event h (Decides t word)).stage t ≡ laws.Deciding)
    now = grind (arith, nat_tests)

-- the call of a delayed request
module _ (plan : ℕ → Plan) (past : List Labelled) (client : ℕ) (store : Name) (q : Request) (answered : Option Answer) where
  abbrev delayed : Event
  delayed = event.Call client store q Delayed reply.Fault answered

  asks : (action : Action) → IsEnabled plan past delayed action → IsUnanswered (state_after_event (protocol_state past) action) action
  asks Other m = tt
  asks (Prepares t ks word) m = asks_prepare (protocol_state past) t ks word (no_ack word m.r m.word_is (one_reply client m.client store m.call.store q _ Delayed m.call.how reply.Fault m.r answered m.call.answer m.call.call)) m.within.accepted
  asks (Decides t word) m = asks_decide (protocol_state past) t word (no_ack word m.r m.word_is (one_reply client m.client store m.call.store q _ Delayed m.call.how reply.Fault m.r answered m.call.answer m.call.call)) m.within.accepted
  asks (Aborts t moment word) m = no_ack word m.r m.word_is (one_reply client m.client store m.call.store q _ Delayed m.call.how reply.Fault m.r answered m.call.answer m.call.call)
  asks (Rolls t ks d) m = tt
  asks (Removes k t) m = tt
  asks (Begins t c) m = absurd (apart m.take)
    where
      apart : delayed ≡ event.Take c m.text (Some answer.Done) → ⊥
      apart z = cc
  asks (Takes t) m = absurd (apart m.take)
    where
      apart : delayed ≡ event.Take m.client m.text m.answered → ⊥
      apart z = cc
  asks (Checks t i) m = absurd (changed (plan t) m.item m.q m.r (one_reply client m.client store m.call.store q m.q Delayed m.call.how reply.Fault m.r answered m.call.answer m.call.call) m.unchanged)
    where
      changed : (p : Plan) (item : ReadItem) (q : Request) (r : Reply) → reply.Fault ≡ r → IsUnchanged p item q r → ⊥
      changed p (KeyRead read) q r f u = no (f ∙ u.2)
        where
          no : reply.Fault ≡ reply.Found u.0 → ⊥
          no z = cc
      changed p (SpanRead scan) q r f u = no (f ∙ u.2)
        where
          no : reply.Fault ≡ reply.Rows u.0 → ⊥
          no z = cc
  asks (Ends t) m = absurd m
  asks (Stops c) m = absurd (apart m)
    where
      apart : delayed ≡ event.Stop c → ⊥
      apart z = cc

---- after all events

-- What was delayed was asked, and its client was answered nothing.
pub delayed_unanswered : (plan : ℕ → Plan) (past : List Labelled) (q : Request) (action : Action) → IsLawful plan past → WasDelayed past q action → IsUnanswered (protocol_state past) action
delayed_unanswered plan [] q action l w = absurd w
delayed_unanswered plan (p ∷ past) q action l (inl d) =
    stays_ended (state_after_event (protocol_state past) p.action) p.ends action (subst (λ x. IsUnanswered (state_after_event (protocol_state past) p.action) x) d.action_is
    (asks plan past d.client d.store q d.answer p.action (subst (λ e. MayOccur plan past e p.action) d.call l.1)))
delayed_unanswered plan (p ∷ past) q action l (inr w) =
    stays_ended (state_after_event (protocol_state past) p.action) p.ends action (stays (protocol_state past) p.action action
    (occurring_leaves plan past p.event p.action (λ x. delayed_unanswered plan past x p.action l.0) l.1) (delayed_unanswered plan past q action l.0 w))

---- by the events

-- a call of this request was delayed, with some action
pub record SomeAction (past : List Labelled) (q : Request) : Type 0 where
  pub action : Action
  pub was : WasDelayed past q action

-- after further events too
delayed_before : (labelled older : List Labelled) (q : Request) → SomeAction older q → SomeAction (fold (λ newer x. x ∷ newer) older labelled) q
delayed_before [] older q s = s
delayed_before (p ∷ labelled) older q s = delayed_before labelled (p ∷ older) q (record { action = s.action; was = inr s.was })

-- A call that was delayed and answered a fault is among the events with its action.
pub labelled_delayed : (labelled older : List Labelled) (client : ℕ) (store : Name) (q : Request) (answered : Option Answer) → Contains (events_of labelled) (event.Call client store q Delayed reply.Fault answered) → SomeAction (fold (λ newer x. x ∷ newer) older labelled) q
labelled_delayed [] older client store q answered (k, less, is) = absurd (omega (arith, less))
labelled_delayed (p ∷ labelled) older client store q answered (zero, less, is) = delayed_before labelled (p ∷ older) q (record { action = p.action; was = inl (record { client = client; store = store; answer = answered; call = is; action_is = refl }) })
labelled_delayed (p ∷ labelled) older client store q answered (suc k, less, is) = labelled_delayed labelled (p ∷ older) client store q answered (k, fewer k (length (events_of labelled)) less, is)
  where
    fewer : (k n : ℕ) → suc k < suc n → k < n
    fewer k n l = omega (arith, l)
