-- What the protocol allows next, in terms of what was done so far. The rules, which quote what was said alone, give it.
use Rattle.std.proofs.Common.{◌≡◌, ◌≢◌, ℕ, ◌<◌, Bool, true, false, List, Option, Some, None, ◌⊎◌, inl, inr}
use Rattle.sdb_types.specs.declared.key.Key.{Key}
use Rattle.law_protocol.specs.Plan.{Plan, written, deletes, version_read_at}
use Rattle.law_protocol.specs.History.{Action, Other, Begins, Takes, Prepares, Checks, Decides, Aborts, Rolls, Removes, Ends, Stops, Ack, NoAck, is_yes, is_met, is_out_of_memory_ack, Preparing, Deciding, ProtocolState, History, Final, Held, base_of, has_key, has_version, IsLive, IsWriter, IsPrepared}
use Rattle.law_protocol.specs.Flight.{IsLate}

-- a prepare of keys that its client makes: none of them was asked before
abbrev pub IsFirst : ProtocolState → ℕ → List Key → Type 0
IsFirst h t ks = IsLive h t × (h.stage t ≡ Preparing) × ((k : Key) → has_key ks k ≡ true → h.asked t k ≡ false)

abbrev pub Allowed : (ℕ → Plan) → History → Action → Bool → Type 0
Allowed plan w (Begins t c) done = (w.protocol.begun t ≡ 0) × (w.protocol.accepted t ≡ false)
Allowed plan w (Takes t) done =
    (w.protocol.accepted t ≡ false) × IsLive w.protocol t
    × ((k : Key) (u : ℕ) → base_of (written (plan t) k) ≡ Some u → IsWriter plan w k u)
    × ((i : ℕ) (k : Key) (u : ℕ) → version_read_at (plan t) i k ≡ Some (Some u) → IsWriter plan w k u)
Allowed plan w (Prepares t ks word) done =
    (w.protocol.accepted t ≡ true) × (IsFirst w.protocol t ks ⊎ IsLate w.protocol t ks word)
    × ((k : Key) → has_key ks k ≡ true → written (plan t) k ≢ None)
    × (done ≡ true → (k : Key) → has_key ks k ≡ true → has_version (w.rows k) (base_of (written (plan t) k)) ≡ true)
    × (is_yes word ≡ true → done ≡ true)
Allowed plan w (Checks t i) done =
    (w.protocol.accepted t ≡ true) × IsLive w.protocol t × (w.protocol.stage t ≢ Deciding)
    × ((k : Key) (found : Option ℕ) → version_read_at (plan t) i k ≡ Some found → written (plan t) k ≡ None → has_version (w.rows k) found ≡ true)
Allowed plan w (Decides t word) done =
    (w.protocol.accepted t ≡ true) × (IsLive w.protocol t ⊎ (w.protocol.risked t ≡ true)) × IsPrepared plan w.protocol t
    × ((i : ℕ) (k : Key) (found : Option ℕ) → version_read_at (plan t) i k ≡ Some found → written (plan t) k ≡ None → w.protocol.checked t i ≡ true)
    × ((i : ℕ) (k : Key) (found base : Option ℕ) → version_read_at (plan t) i k ≡ Some found → written (plan t) k ≡ Some base → found ≡ base)
    × (done ≡ true → w.row t ≡ None) × (is_yes word ≡ true → done ≡ true) × (is_out_of_memory_ack word ≡ true → done ≡ false)
    × (is_met word ≡ true → done ≡ false → w.row t ≢ None)
Allowed plan w (Aborts t moment word) done =
    (done ≡ true → w.row t ≡ None) × (is_yes word ≡ true → done ≡ true) × (is_met word ≡ true → done ≡ false → w.row t ≢ None)
Allowed plan w (Rolls t ks decision) done = (done ≡ true → ((k : Key) → has_key ks k ≡ true → w.rows k ≡ Some (Held t)) × (w.row t ≡ Some decision))
Allowed plan w (Removes k u) done =
    IsWriter plan w k u × (deletes (plan u) k ≡ true) × (done ≡ true → w.rows k ≡ Some (Final u))
    × ((t : ℕ) → IsLive w.protocol t → w.decided_at u < w.protocol.begun t)
Allowed plan w Other done = Unit {0}
Allowed plan w (Ends t) done = Unit {0}
Allowed plan w (Stops c) done = Unit {0}

---- at one key

-- a key of a prepare was not asked before, or was asked and not acknowledged
abbrev pub IsUnanswered : ProtocolState → ℕ → Ack → Key → Type 0
IsUnanswered h t word k = (IsLive h t × (h.stage t ≡ Preparing) × (h.asked t k ≡ false)) ⊎ ((h.asked t k ≡ true) × (h.answered t k ≡ false) × (word ≡ NoAck))

unanswered_one : (h : ProtocolState) (t : ℕ) (ks : List Key) (word : Ack) (k : Key) → IsFirst h t ks ⊎ IsLate h t ks word → has_key ks k ≡ true → IsUnanswered h t word k
unanswered_one h t ks word k (inl first) e = inl (first.0, first.1, first.2 k e)
unanswered_one h t ks word k (inr late) e = inr ((late.0 k e).0, (late.0 k e).1, late.1)

-- what it says of one key of those that a part prepares or rolls
abbrev pub AllowedAt : (ℕ → Plan) → History → Action → Bool → Key → Type 0
AllowedAt plan w (Prepares t ks word) done k = has_key ks k ≡ true → IsUnanswered w.protocol t word k × (written (plan t) k ≢ None) × (done ≡ true → has_version (w.rows k) (base_of (written (plan t) k)) ≡ true)
AllowedAt plan w (Rolls t ks decision) done k = has_key ks k ≡ true → done ≡ true → (w.rows k ≡ Some (Held t)) × (w.row t ≡ Some decision)
AllowedAt plan w r done k = Unit {0}

pub at_one : (plan : ℕ → Plan) (w : History) (r : Action) (done : Bool) (k : Key) → Allowed plan w r done → AllowedAt plan w r done k
at_one plan w (Prepares t ks word) done k a = λ h. (unanswered_one w.protocol t ks word k a.1 h, a.2 k h, λ d. a.3 d k h)
at_one plan w (Rolls t ks decision) done k a = λ h d. ((a d).0 k h, (a d).1)
at_one plan w Other done k a = tt
at_one plan w (Begins t c) done k a = tt
at_one plan w (Takes t) done k a = tt
at_one plan w (Checks t i) done k a = tt
at_one plan w (Decides t word) done k a = tt
at_one plan w (Aborts t moment word) done k a = tt
at_one plan w (Removes q u) done k a = tt
at_one plan w (Ends t) done k a = tt
at_one plan w (Stops c) done k a = tt
