-- Before its COMMIT is accepted, a transaction's plan is free: the rules so far don't quote it.
use Rattle.std.proofs.Common.{◌≡◌, ℕ, ℤ, true, false, List, [], ◌∷◌, Option, Some, None, refl, sym, ap, subst, ◌∙◌, arith, inl, inr}
use Rattle.std.specs.Option.{option_map}
use Rattle.std.proofs.lemmas.Bool.Decides.{nat_tests}
use Rattle.std.specs.List.{AllByRecursion}
use Rattle.law_clients.specs.Types.{Event, Key, Record, State, Write}
use Rattle.sdb_record.specs.declared.coordinator.Decision.TheVariants as decision
use Rattle.sdb_record.specs.Puts.{prepares_of}
use Rattle.sdb_model.specs.declared.event.Event.TheVariants as event
use Rattle.law_protocol.specs.Plan.{Plan, write_at, written, version_read_at}
use Rattle.law_protocol.specs.History.{Action, Other, Begins, Takes, Prepares, Checks, Decides, Aborts, Rolls, Removes, Ends, Stops, ProtocolState, Ack, state_after_event}
use Rattle.law_protocol.specs.Lawful.{Labelled, protocol_state, ended, id, IsLawful, IsEnabled, MayOccur, MayTake, MayPrepare, MayCheck, MayDecide, MayRoll, MayRollForward, IsCallOf, IsUnchanged, IsPreparedThere, IsKnownCommitted}
use Rattle.law_protocol.proofs.Public.{occurs_by}
use Rattle.law_clients.specs.System.{SamePlans}
use Rattle.law_clients.proofs.Delayed.{IsUnanswered, delayed_unanswered}
use Rattle.sdb_types.proofs.Public.{all_each, clash, decides as is_taken, tests}

-- before its COMMIT is accepted nothing is said of a transaction's calls
pub record Unsaid (h : ProtocolState) (t : ℕ) : Type 0 where
  pub asked : (k : Key) → h.accepted t ≡ false → h.asked t k ≡ false
  pub won : h.accepted t ≡ false → h.won t ≡ false

-- an event's part leaves it so, where its transaction was accepted if it is one of a COMMIT
abbrev IsAfter : ProtocolState → Action → Type 0
IsAfter h (Prepares t k word) = h.accepted t ≡ true
IsAfter h (Decides t word) = h.accepted t ≡ true
IsAfter h r = Unit {0}

asked_kept : (h : ProtocolState) (r : Action) (t : ℕ) (k : Key) → IsAfter h r → (h.accepted t ≡ false → h.asked t k ≡ false) → (state_after_event h r).accepted t ≡ false → (state_after_event h r).asked t k ≡ false
asked_kept h r t k a u f = grind (arith, tests)

won_kept : (h : ProtocolState) (r : Action) (t : ℕ) → IsAfter h r → (h.accepted t ≡ false → h.won t ≡ false) → (state_after_event h r).accepted t ≡ false → (state_after_event h r).won t ≡ false
won_kept h r t a u f = grind (arith, nat_tests)

unsaid_kept : (h : ProtocolState) (r : Action) (t : ℕ) → IsAfter h r → Unsaid h t → Unsaid (state_after_event h r) t
unsaid_kept h r t a u = record { asked = λ k f. asked_kept h r t k a (u.asked k) f; won = λ f. won_kept h r t a u.won f }

after_played : (plan : ℕ → Plan) (past : List Labelled) (e : Event) (r : Action) → IsEnabled plan past e r → IsAfter (protocol_state past) r
after_played plan past e Other m = tt
after_played plan past e (Begins t c) m = tt
after_played plan past e (Takes t) m = tt
after_played plan past e (Prepares t ks word) m = m.within.accepted
after_played plan past e (Checks t i) m = tt
after_played plan past e (Decides t word) m = m.within.accepted
after_played plan past e (Aborts t n word) m = tt
after_played plan past e (Rolls t k d) m = tt
after_played plan past e (Removes k t) m = tt
after_played plan past e (Ends t) m = tt
after_played plan past e (Stops c) m = tt

-- and so it is of a landing
after_landed : (h : ProtocolState) (r : Action) → IsUnanswered h r → IsAfter h r
after_landed h Other u = tt
after_landed h (Begins t c) u = tt
after_landed h (Takes t) u = tt
after_landed h (Prepares t ks word) u = u.0
after_landed h (Checks t i) u = tt
after_landed h (Decides t word) u = u.0
after_landed h (Aborts t n word) u = tt
after_landed h (Rolls t ks d) u = tt
after_landed h (Removes k t) u = tt
after_landed h (Ends t) u = tt
after_landed h (Stops c) u = tt

after_any : (plan : ℕ → Plan) (past : List Labelled) (e : Event) (r : Action) → IsLawful plan past → MayOccur plan past e r → IsAfter (protocol_state past) r
after_any plan past e r l may = elim (occurs_by plan past e r may) [
  | inl m ↦ after_played plan past e r m
  | inr x ↦ after_landed (protocol_state past) r (delayed_unanswered plan past x.request r l x.was)
]

pub unsaid : (plan : ℕ → Plan) (past : List Labelled) (t : ℕ) → IsLawful plan past → Unsaid (protocol_state past) t
unsaid plan [] t l = record { asked = λ k f. refl; won = λ f. refl }
unsaid plan (p ∷ past) t l = by p.ends (unsaid_kept (protocol_state past) p.action t (after_any plan past p.event p.action l.0 l.1) (unsaid plan past t l.0))
  where
    by : (o : Option ℕ) → Unsaid (state_after_event (protocol_state past) p.action) t → Unsaid (ended (state_after_event (protocol_state past) p.action) o) t
    by None one = one
    by (Some u) one = record { asked = one.asked; won = one.won }

---- other plans

prepared_there : (plan other : ℕ → Plan) (past : List Labelled) (t : ℕ) (k : Key) (r : Record) → IsLawful plan past → SamePlans plan other past → IsPreparedThere plan past t k r → IsPreparedThere other past t k r
prepared_there plan other past t k r l same (inl h) = inl h
prepared_there plan other past t k r l same (inr x) = elim (is_taken ((protocol_state past).accepted t)) [
  | inl y ↦ inr (x.0, ap (λ (p : Plan). option_map (λ w. Rattle.sdb_record.specs.Rolls.prepared_record w (id t) p.now) (write_at p k)) (sym (same t y)) ∙ x.1)
  | inr n ↦ clash (sym x.0 ∙ (unsaid plan past t l).asked k n)
]

roll_other : (plan other : ℕ → Plan) (past : List Labelled) (t : ℕ) (k : Key) (r : Record) (x : State) → IsLawful plan past → SamePlans plan other past → MayRoll plan past t k r x → MayRoll other past t k r x
roll_other plan other past t k r x l same m = record { is_open = m.is_open; outside = m.outside; prepared = prepared_there plan other past t k r l same m.prepared }

known_other : (plan other : ℕ → Plan) (past : List Labelled) (t : ℕ) (m : ℤ) → IsLawful plan past → SamePlans plan other past → IsKnownCommitted plan past t m → IsKnownCommitted other past t m
known_other plan other past t m l same (inl x) = inl x
known_other plan other past t m l same (inr (inl x)) = elim (is_taken ((protocol_state past).accepted t)) [
  | inl y ↦ inr (inl (x.0, x.1 ∙ ap (λ (p : Plan). p.now) (same t y)))
  | inr n ↦ clash (sym x.0 ∙ (unsaid plan past t l).won n)
]
known_other plan other past t m l same (inr (inr x)) = inr (inr (x.0, x.1, x.2 ∙ ap (λ (p : Plan). p.now) (same t x.0)))

-- each rule on one transaction quotes the plan of that one
take_other : (plan other : ℕ → Plan) (past : List Labelled) (e : Event) (t : ℕ) → plan t ≡ other t → MayTake plan past e t → MayTake other past e t
take_other plan other past e t same m = record {
  client = m.client;
  text = m.text;
  answered = m.answered;
  commit = m.commit;
  take = m.take;
  owner = m.owner;
  is_open = m.is_open;
  goes_on = m.goes_on;
  fresh = m.fresh;
  moment = ap (λ (p : Plan). Rattle.sdb_record.specs.Meta.is_moment p.now) (sym same) ∙ m.moment;
  writes = λ k w at. m.writes k w (ap (λ (p : Plan). write_at p k) same ∙ at);
  bases = λ k w b at is. m.bases k w b (ap (λ (p : Plan). write_at p k) same ∙ at) is;
  read_set = λ i k u at. m.read_set i k u (ap (λ (p : Plan). version_read_at p i k) same ∙ at);
  tables = λ i k v at. m.tables i k v (ap (λ (p : Plan). version_read_at p i k) same ∙ at);
}

prepare_other : (plan other : ℕ → Plan) (past : List Labelled) (e : Event) (t : ℕ) (ks : List Key) (word : Ack) → plan t ≡ other t → MayPrepare plan past e t ks word → MayPrepare other past e t ks word
prepare_other plan other past e t ks word same m = record {
  client = m.client;
  group = m.group;
  r = m.r;
  within = m.within;
  keys = m.keys;
  some = m.some;
  once_each = m.once_each;
  each = subst (λ (p : Plan). AllByRecursion (λ (w : Write). write_at p w.key ≡ Some w) m.group) same m.each;
  call = subst (λ (p : Plan). IsCallOf e m.client (prepares_of (id t) p.now m.group) m.r) same m.call;
  word_is = m.word_is;
  stage = m.stage;
  once = m.once;
}

forward_other : (plan other : ℕ → Plan) (past : List Labelled) (e : Event) (t : ℕ) (ks : List Key) → IsLawful plan past → SamePlans plan other past → MayRollForward plan past e t ks → MayRollForward other past e t ks
forward_other plan other past e t ks l same m = record {
  client = m.client;
  rolled = m.rolled;
  r = m.r;
  keys = m.keys;
  some = m.some;
  once_each = m.once_each;
  each = all_each (λ (x : Record × State). MayRoll plan past t x.0.key x.0 x.1) (λ (x : Record × State). MayRoll other past t x.0.key x.0 x.1) m.rolled (λ x may. roll_other plan other past t x.0.key x.0 x.1 l same may) m.each;
  moment = m.moment;
  known = known_other plan other past t m.moment l same m.known;
  call = m.call;
}

check_other : (plan other : ℕ → Plan) (past : List Labelled) (e : Event) (t i : ℕ) → plan t ≡ other t → MayCheck plan past e t i → MayCheck other past e t i
check_other plan other past e t i same m = record {
  client = m.client;
  item = m.item;
  q = m.q;
  r = m.r;
  within = m.within;
  at = ap (λ (p : Plan). Rattle.std.specs.Prelude.slice_get p.read_set i) (sym same) ∙ m.at;
  call = m.call;
  unchanged = subst (λ (p : Plan). IsUnchanged p m.item m.q m.r) same m.unchanged;
  stage = m.stage;
}

decide_other : (plan other : ℕ → Plan) (past : List Labelled) (e : Event) (t : ℕ) (word : Ack) → plan t ≡ other t → MayDecide plan past e t word → MayDecide other past e t word
decide_other plan other past e t word same m = record {
  client = m.client;
  r = m.r;
  within = m.within;
  call = subst (λ (p : Plan). Rattle.law_protocol.specs.Lawful.IsCallOf e m.client (Rattle.sdb_types.specs.declared.record.Request.TheVariants.PutIf (Rattle.sdb_record.specs.Coordinator.coordinator_row_of (id t) decision.Committed p.now) Rattle.sdb_types.specs.declared.record.Condition.TheVariants.Absent) m.r) same m.call;
  word_is = m.word_is;
  prepared = λ k w. m.prepared k (λ e. w (ap (λ (p : Plan). written p k) (sym same) ∙ e));
  checked = λ i k v at free. m.checked i k v (ap (λ (p : Plan). version_read_at p i k) same ∙ at) (ap (λ (p : Plan). written p k) same ∙ free);
  agrees = λ i k v b at is. m.agrees i k v b (ap (λ (p : Plan). version_read_at p i k) same ∙ at) (ap (λ (p : Plan). written p k) same ∙ is);
}

-- the parts before, and what this one takes
taken_before : (h : ProtocolState) (r : Action) (t : ℕ) → h.accepted t ≡ true → (state_after_event h r).accepted t ≡ true
taken_before h r t e = grind (arith, nat_tests)

pub taken_now : (h : ProtocolState) (t : ℕ) → (state_after_event h (Takes t)).accepted t ≡ true
taken_now h t = grind (arith, nat_tests)

pub ended_taken : (h : ProtocolState) (o : Option ℕ) (t : ℕ) → (ended h o).accepted t ≡ h.accepted t
ended_taken h None t = refl
ended_taken h (Some u) t = refl

play_other : (plan other : ℕ → Plan) (past : List Labelled) (e : Event) (r : Action) → IsLawful plan past → ((t : ℕ) → (state_after_event (protocol_state past) r).accepted t ≡ true → plan t ≡ other t) → IsEnabled plan past e r → IsEnabled other past e r
play_other plan other past e Other l same m = m
play_other plan other past e (Begins t c) l same m = m
play_other plan other past e (Takes t) l same m = take_other plan other past e t (same t (taken_now (protocol_state past) t)) m
play_other plan other past e (Prepares t ks word) l same m = prepare_other plan other past e t ks word (same t m.within.accepted) m
play_other plan other past e (Checks t i) l same m = check_other plan other past e t i (same t m.within.accepted) m
play_other plan other past e (Decides t word) l same m = decide_other plan other past e t word (same t m.within.accepted) m
play_other plan other past e (Aborts t n word) l same m = m
play_other plan other past e (Rolls t ks decision.Committed) l same m = forward_other plan other past e t ks l same m
play_other plan other past e (Rolls t [] decision.Aborted) l same m = m
play_other plan other past e (Rolls t (k ∷ []) decision.Aborted) l same m = record { client = m.client; rolled = m.rolled; s = m.s; r = m.r; roll = roll_other plan other past t k m.rolled m.s l same m.roll; known = m.known; call = m.call }
play_other plan other past e (Rolls t (k ∷ q ∷ ks) decision.Aborted) l same m = m
play_other plan other past e (Removes k t) l same m = m
play_other plan other past e (Ends t) l same m = m
play_other plan other past e (Stops c) l same m = m

-- a landing quotes no plan
occur_other : (plan other : ℕ → Plan) (past : List Labelled) (e : Event) (r : Action) → IsLawful plan past → ((t : ℕ) → (state_after_event (protocol_state past) r).accepted t ≡ true → plan t ≡ other t) → MayOccur plan past e r → MayOccur other past e r
occur_other plan other past (event.Take c text answered) r l same m = play_other plan other past (event.Take c text answered) r l same m
occur_other plan other past (event.Call c store q how reply answered) r l same m = play_other plan other past (event.Call c store q how reply answered) r l same m
occur_other plan other past (event.Stop c) r l same m = play_other plan other past (event.Stop c) r l same m
occur_other plan other past (event.Clock moment) r l same m = play_other plan other past (event.Clock moment) r l same m
occur_other plan other past (event.Idle c) r l same m = play_other plan other past (event.Idle c) r l same m
occur_other plan other past (event.Alter table column kind altered) r l same m = play_other plan other past (event.Alter table column kind altered) r l same m
occur_other plan other past (event.Land number store q how reply) r l same m = m

-- The rules so far hold with other plans too, as long as those of the transactions whose COMMIT was accepted are the same.
pub replanned : (plan other : ℕ → Plan) (past : List Labelled) → SamePlans plan other past → IsLawful plan past → IsLawful other past
replanned plan other [] same l = tt
replanned plan other (p ∷ past) same l = (
  replanned plan other past (λ t e. same t (ended_taken (state_after_event (protocol_state past) p.action) p.ends t ∙ taken_before (protocol_state past) p.action t e)) l.0,
  occur_other plan other past p.event p.action l.0 (λ t e. same t (ended_taken (state_after_event (protocol_state past) p.action) p.ends t ∙ e)) l.1,
  λ a. let m = l.2 a in record { t = m.t; ends = m.ends; accepted = m.accepted; moment = m.moment; known = known_other plan other (p ∷ past) m.t m.moment l same m.known },
  l.3,
)
