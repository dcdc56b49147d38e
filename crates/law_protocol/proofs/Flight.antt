-- What stays so of a request that was delayed is kept by each action.
use Rattle.std.proofs.Common.{◌≡◌, ◌≢◌, ℕ, ◌<◌, ◌≤◌, Bool, true, false, List, Some, None, arith}
use Rattle.law_protocol.specs.Types.{Key}
use Rattle.sdb_types.proofs.Public.{tests}
use Rattle.law_protocol.specs.Plan.{Plan}
use Rattle.law_protocol.specs.History.{Action, Other, Begins, Takes, Prepares, Checks, Decides, Aborts, Rolls, Removes, Ends, Stops, Ack, Deciding, History, happens, IsLive, IsWriter}
use Rattle.law_protocol.specs.Trace.{after_end}
use Rattle.law_protocol.specs.Flight.{IsLate, IsReady, StaysAllowed}
use Rattle.law_protocol.proofs.Allowed.{Allowed, at_one}
use Rattle.law_protocol.proofs.Small.{HeardOk, accepted_stays, decided_answered, checked_stays, row_kept, decided_kept, writer_kept}
use Rattle.law_protocol.proofs.Seen.{open_before}

still_asked : (plan : ℕ → Plan) (w : History) (r : Action) (done : Bool) (t : ℕ) (k : Key) → w.protocol.asked t k ≡ true → (happens plan w r done).protocol.asked t k ≡ true
still_asked plan w r done t k h = grind (arith, tests)

pub asked_stays : (plan : ℕ → Plan) (w : History) (r : Action) (done : Bool) (t : ℕ) (k : Key) → Allowed plan w r done → (w.protocol.asked t k ≡ true) × (w.protocol.answered t k ≡ false) → ((happens plan w r done).protocol.asked t k ≡ true) × ((happens plan w r done).protocol.answered t k ≡ false)
asked_stays plan w r done t k a h = grind (arith, tests, at_one plan w r done k a)

late_stays : (plan : ℕ → Plan) (w : History) (r : Action) (done : Bool) (t : ℕ) (ks : List Key) (word : Ack) → Allowed plan w r done → IsLate w.protocol t ks word → IsLate (happens plan w r done).protocol t ks word
late_stays plan w r done t ks word a late = (λ k h. asked_stays plan w r done t k a (late.0 k h), late.1)

ready_flags : (plan : ℕ → Plan) (w : History) (r : Action) (done : Bool) (t : ℕ) → Allowed plan w r done → w.protocol.accepted t ≡ true → w.protocol.risked t ≡ true → w.protocol.stage t ≡ Deciding → ((happens plan w r done).protocol.risked t ≡ true) × ((happens plan w r done).protocol.stage t ≡ Deciding)
ready_flags plan w r done t a accepted risked stage = grind (arith, tests)

ready_stays : (plan : ℕ → Plan) (w : History) (r : Action) (done : Bool) (t : ℕ) → Allowed plan w r done → IsReady plan w.protocol t → IsReady plan (happens plan w r done).protocol t
ready_stays plan w r done t a s =
    let f = ready_flags plan w r done t a s.accepted s.risked s.stage in
    record {
      accepted = accepted_stays plan w r done t s.accepted;
      prepared = λ k writes. decided_answered plan w r done t k s.stage a (s.prepared k writes);
      checked = λ i k found n free. checked_stays plan w r done t i (s.checked i k found n free);
      agrees = s.agrees;
      risked = f.0;
      stage = f.1;
    }

-- who is open now was, or begins now
begun_later : (plan : ℕ → Plan) (w : History) (r : Action) (done : Bool) (t n : ℕ) → n ≤ w.protocol.now → Allowed plan w r done → IsLive (happens plan w r done).protocol t → (IsLive w.protocol t → n < w.protocol.begun t) → n < (happens plan w r done).protocol.begun t
begun_later plan w r done t n below a live before = grind (arith, tests)

removal_stays : (plan : ℕ → Plan) (w : History) (r : Action) (done : Bool) (k : Key) (u t : ℕ) → HeardOk w → Allowed plan w r done → IsWriter plan w k u → (IsLive w.protocol t → w.decided_at u < w.protocol.begun t) → IsLive (happens plan w r done).protocol t → (happens plan w r done).decided_at u < (happens plan w r done).protocol.begun t
removal_stays plan w r done k u t heard a writer before live =
    rw (decided_kept plan w r done u a some).1 (begun_later plan w r done t (w.decided_at u) ((heard u).3 some) a live before)
  where
    some : w.row u ≢ None
    some n = absurd (grind (arith, writer))

pub stays_kept : (plan : ℕ → Plan) (w : History) (r : Action) (done : Bool) (action : Action) → HeardOk w → Allowed plan w r done → StaysAllowed plan w action → StaysAllowed plan (happens plan w r done) action
stays_kept plan w r done Other heard a s = tt
stays_kept plan w r done (Prepares t ks word) heard a s = (accepted_stays plan w r done t s.0, late_stays plan w r done t ks word a s.1)
stays_kept plan w r done (Decides t word) heard a s = (ready_stays plan w r done t a s.0, s.1)
stays_kept plan w r done (Aborts t moment word) heard a s = s
stays_kept plan w r done (Rolls t ks d) heard a s = (row_kept plan w r done t d a s.0, s.1, accepted_stays plan w r done t s.2, λ k h. ((s.3 k h).0, still_asked plan w r done t k (s.3 k h).1))
stays_kept plan w r done (Removes k u) heard a s = (writer_kept plan w r done k u a s.0, s.1, s.2, λ t live. removal_stays plan w r done k u t heard a s.0 (s.3 t) live)
stays_kept plan w r done (Begins t c) heard a s = absurd s
stays_kept plan w r done (Takes t) heard a s = absurd s
stays_kept plan w r done (Checks t i) heard a s = absurd s
stays_kept plan w r done (Ends t) heard a s = absurd s
stays_kept plan w r done (Stops c) heard a s = absurd s

-- and where an event ends a transaction
ready_closed : (plan : ℕ → Plan) (w : History) (t u : ℕ) → IsReady plan w.protocol u → IsReady plan (after_end plan w (Some t)).protocol u
ready_closed plan w t u s = record { accepted = s.accepted; prepared = s.prepared; checked = s.checked; agrees = s.agrees; risked = s.risked; stage = s.stage }

pub stays_closed : (plan : ℕ → Plan) (w : History) (t : ℕ) (action : Action) → StaysAllowed plan w action → StaysAllowed plan (after_end plan w (Some t)) action
stays_closed plan w t Other s = tt
stays_closed plan w t (Prepares u ks word) s = s
stays_closed plan w t (Decides u word) s = (ready_closed plan w t u s.0, s.1)
stays_closed plan w t (Aborts u moment word) s = s
stays_closed plan w t (Rolls u ks d) s = s
stays_closed plan w t (Removes k u) s = (s.0, s.1, s.2, λ v live. s.3 v (open_before w.protocol.is_open t v live.0, live.1))
stays_closed plan w t (Begins u c) s = absurd s
stays_closed plan w t (Takes u) s = absurd s
stays_closed plan w t (Checks u i) s = absurd s
stays_closed plan w t (Ends u) s = absurd s
stays_closed plan w t (Stops c) s = absurd s
