-- Of a transaction that has not begun nothing is said.
use Rattle.std.proofs.Common.{◌≡◌, ℕ, true, false, List, [], ◌∷◌, Option, Some, None, refl, arith, inl, inr}
use Rattle.std.proofs.lemmas.Bool.Decides.{nat_tests}
use Rattle.law_clients.specs.Types.{Event, Key}
use Rattle.sdb_types.proofs.Public.{tests}
use Rattle.law_protocol.specs.Plan.{Plan}
use Rattle.law_protocol.specs.History as laws
use Rattle.law_protocol.specs.History.{Action, Other, Begins, Takes, Prepares, Checks, Decides, Aborts, Rolls, Removes, Ends, Stops, ProtocolState, state_after_event, state_after}
use Rattle.law_protocol.specs.Lawful.{Labelled, IsLawful, IsEnabled, MayOccur, protocol_state, ended}
use Rattle.law_protocol.proofs.Public.{closed_still, occurs_by}
use Rattle.law_clients.proofs.Delayed.{IsUnanswered, delayed_unanswered}

-- a transaction is open, and its COMMIT is accepted, only after it has begun; and its calls come only after its COMMIT was accepted
pub record InTurn (h : ProtocolState) (t : ℕ) : Type 0 where
  pub is_open : h.begun t ≡ 0 → h.is_open t ≡ false
  pub accepted : h.begun t ≡ 0 → h.accepted t ≡ false
  pub stage : h.accepted t ≡ false → h.stage t ≡ laws.Preparing
  pub asked : (k : Key) → h.accepted t ≡ false → h.asked t k ≡ false
  pub risked : h.accepted t ≡ false → h.risked t ≡ false

abbrev IsAfter : ProtocolState → Action → Type 0
IsAfter h (Takes t) = h.is_open t ≡ true
IsAfter h (Prepares t k word) = h.accepted t ≡ true
IsAfter h (Checks t i) = h.accepted t ≡ true
IsAfter h (Decides t word) = h.accepted t ≡ true
IsAfter h r = Unit {0}

open_kept : (h : ProtocolState) (r : Action) (t : ℕ) → (h.begun t ≡ 0 → h.is_open t ≡ false) → (state_after_event h r).begun t ≡ 0 → (state_after_event h r).is_open t ≡ false
open_kept h r t u b = grind (arith, nat_tests)

taken_kept : (h : ProtocolState) (r : Action) (t : ℕ) → IsAfter h r → (h.begun t ≡ 0 → h.is_open t ≡ false) → (h.begun t ≡ 0 → h.accepted t ≡ false) → (state_after_event h r).begun t ≡ 0 → (state_after_event h r).accepted t ≡ false
taken_kept h r t a o u b = grind (arith, nat_tests)

stage_kept : (h : ProtocolState) (r : Action) (t : ℕ) → IsAfter h r → (h.accepted t ≡ false → h.stage t ≡ laws.Preparing) → (state_after_event h r).accepted t ≡ false → (state_after_event h r).stage t ≡ laws.Preparing
stage_kept h r t a u f = grind (arith, nat_tests)

asked_kept : (h : ProtocolState) (r : Action) (t : ℕ) (k : Key) → IsAfter h r → (h.accepted t ≡ false → h.asked t k ≡ false) → (state_after_event h r).accepted t ≡ false → (state_after_event h r).asked t k ≡ false
asked_kept h r t k a u f = grind (arith, tests)

risked_kept : (h : ProtocolState) (r : Action) (t : ℕ) → IsAfter h r → (h.accepted t ≡ false → h.risked t ≡ false) → (state_after_event h r).accepted t ≡ false → (state_after_event h r).risked t ≡ false
risked_kept h r t a u f = grind (arith, nat_tests)

turn_kept : (h : ProtocolState) (r : Action) (t : ℕ) → IsAfter h r → InTurn h t → InTurn (state_after_event h r) t
turn_kept h r t a u = record {
  is_open = open_kept h r t u.is_open;
  accepted = taken_kept h r t a u.is_open u.accepted;
  stage = stage_kept h r t a u.stage;
  asked = λ k. asked_kept h r t k a (u.asked k);
  risked = risked_kept h r t a u.risked;
}

-- and so does the end of a transaction
turn_closed : (h : ProtocolState) (u t : ℕ) → InTurn h t → InTurn (state_after h (Ends u)) t
turn_closed h u t one = record { is_open = λ b. closed_still h.is_open u t (one.is_open b); accepted = one.accepted; stage = one.stage; asked = one.asked; risked = one.risked }

after_played : (plan : ℕ → Plan) (past : List Labelled) (e : Event) (r : Action) → IsEnabled plan past e r → IsAfter (protocol_state past) r
after_played plan past e Other m = tt
after_played plan past e (Begins t c) m = tt
after_played plan past e (Takes t) m = m.is_open
after_played plan past e (Prepares t ks word) m = m.within.accepted
after_played plan past e (Checks t i) m = m.within.accepted
after_played plan past e (Decides t word) m = m.within.accepted
after_played plan past e (Aborts t n word) m = tt
after_played plan past e (Rolls t k d) m = tt
after_played plan past e (Removes k t) m = tt
after_played plan past e (Ends t) m = tt
after_played plan past e (Stops c) m = tt

-- and so it is of a landing
after_landed : (h : ProtocolState) (r : Action) → IsUnanswered h r → IsAfter h r
after_landed h Other u = tt
after_landed h (Begins t c) u = tt
after_landed h (Takes t) u = absurd u
after_landed h (Prepares t ks word) u = u.0
after_landed h (Checks t i) u = absurd u
after_landed h (Decides t word) u = u.0
after_landed h (Aborts t n word) u = tt
after_landed h (Rolls t ks d) u = tt
after_landed h (Removes k t) u = tt
after_landed h (Ends t) u = tt
after_landed h (Stops c) u = tt

after_any : (plan : ℕ → Plan) (past : List Labelled) (e : Event) (r : Action) → IsLawful plan past → MayOccur plan past e r → IsAfter (protocol_state past) r
after_any plan past e r l may = elim (occurs_by plan past e r may) [
  | inl m ↦ after_played plan past e r m
  | inr x ↦ after_landed (protocol_state past) r (delayed_unanswered plan past x.request r l x.was)
]

pub in_turn : (plan : ℕ → Plan) (past : List Labelled) (t : ℕ) → IsLawful plan past → InTurn (protocol_state past) t
in_turn plan [] t l = record { is_open = λ b. refl; accepted = λ b. refl; stage = λ f. refl; asked = λ k f. refl; risked = λ f. refl }
in_turn plan (p ∷ past) t l = by p.ends (turn_kept (protocol_state past) p.action t (after_any plan past p.event p.action l.0 l.1) (in_turn plan past t l.0))
  where
    by : (o : Option ℕ) → InTurn (state_after_event (protocol_state past) p.action) t → InTurn (ended (state_after_event (protocol_state past) p.action) o) t
    by None one = one
    by (Some u) one = turn_closed (state_after_event (protocol_state past) p.action) u t one
