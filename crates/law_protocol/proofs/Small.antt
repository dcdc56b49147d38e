-- Each small invariant is kept by each part.
use Rattle.std.proofs.Common.{◌≡◌, ◌≢◌, ℕ, ◌+◌, ◌<◌, ◌≤◌, Bool, true, false, List, [], Option, Some, None, ◌⊎◌, inl, inr, refl, arith}
use Rattle.law_protocol.specs.Types.{Decision, Key}
use Rattle.sdb_types.proofs.Public.{tests}
use Rattle.sdb_record.specs.declared.coordinator.Decision.TheVariants.{Committed, Aborted}
use Rattle.law_protocol.specs.Plan.{Plan, written, deletes, version_read_at}
use Rattle.law_protocol.specs.History.{Action, Other, Begins, Takes, Prepares, Checks, Decides, Aborts, Rolls, Removes, Ends, Stops, Ack, Deciding, History, Final, Held, base_of, happens, IsWriter}
use Rattle.law_protocol.proofs.Allowed.{Allowed, at_one}
use Rattle.law_protocol.specs.Explained.{EarlierPrepareHadRow, RemovedBeforeBegin}

-- a row never changes
pub row_kept : (plan : ℕ → Plan) (w : History) (r : Action) (done : Bool) (t : ℕ) (d : Decision) → Allowed plan w r done → w.row t ≡ Some d → (happens plan w r done).row t ≡ Some d
row_kept plan w r done t d a h = grind (arith, tests)

pub decided_kept : (plan : ℕ → Plan) (w : History) (r : Action) (done : Bool) (t : ℕ) → Allowed plan w r done → w.row t ≢ None → ((happens plan w r done).row t ≢ None) × ((happens plan w r done).decided_at t ≡ w.decided_at t)
decided_kept plan w r done t a h = grind (arith, tests)

pub writer_kept : (plan : ℕ → Plan) (w : History) (r : Action) (done : Bool) (k : Key) (t : ℕ) → Allowed plan w r done → IsWriter plan w k t → IsWriter plan (happens plan w r done) k t
writer_kept plan w r done k t a h = (row_kept plan w r done t Committed a h.0, h.1)

---- transactions

abbrev pub PointOk : History → Type 0
PointOk w = (t : ℕ) → (w.protocol.point t ≤ w.protocol.now) × (w.protocol.begun t ≤ w.protocol.now)

pub point_kept : (plan : ℕ → Plan) (w : History) (r : Action) (done : Bool) → PointOk w → PointOk (happens plan w r done)
point_kept plan w r done ok t = grind (arith, tests, ok t)

pub point_grows : (plan : ℕ → Plan) (w : History) (r : Action) (done : Bool) (t : ℕ) → PointOk w → w.protocol.point t ≤ (happens plan w r done).protocol.point t
point_grows plan w r done t ok = grind (arith, tests, ok t)

-- what is asked of a transaction comes after its COMMIT was accepted
abbrev pub TakenOk : History → Type 0
TakenOk w = (t : ℕ) (k : Key) (i : ℕ) → w.protocol.accepted t ≡ false → (w.protocol.asked t k ≡ false) × (w.protocol.answered t k ≡ false) × (w.took_effect t k ≡ false) × (w.protocol.checked t i ≡ false) × (w.row t ≢ Some Committed) × (w.protocol.risked t ≡ false)

pub taken_kept : (plan : ℕ → Plan) (w : History) (r : Action) (done : Bool) → TakenOk w → Allowed plan w r done → TakenOk (happens plan w r done)
taken_kept plan w r done ok a t k i h = grind (arith, tests, ok t k i, at_one plan w r done k a)

abbrev pub AskedOk : (ℕ → Plan) → History → Type 0
AskedOk plan w = (t : ℕ) (k : Key) → w.protocol.asked t k ≡ true → written (plan t) k ≢ None

pub asked_kept : (plan : ℕ → Plan) (w : History) (r : Action) (done : Bool) → AskedOk plan w → Allowed plan w r done → AskedOk plan (happens plan w r done)
asked_kept plan w r done ok a t k h = grind (arith, tests, ok t k, at_one plan w r done k a)

-- a prepare takes effect after it is asked, and before it is answered
abbrev pub TookOk : History → Type 0
TookOk w = (t : ℕ) (k : Key) → (w.took_effect t k ≡ true → (w.protocol.asked t k ≡ true) × (w.prepared_at t k ≤ w.protocol.now)) × (w.protocol.answered t k ≡ true → (w.took_effect t k ≡ true) × (w.prepared_at t k ≤ w.protocol.point t))

pub took_kept : (plan : ℕ → Plan) (w : History) (r : Action) (done : Bool) → TookOk w → PointOk w → TakenOk w → Allowed plan w r done → TookOk (happens plan w r done)
took_kept plan w r done ok point accepted a t k = grind (arith, tests, ok t k, point t, accepted t k 0, at_one plan w r done k a)

-- a transaction begins before its COMMIT is accepted
abbrev pub BegunOk : History → Type 0
BegunOk w = (t : ℕ) → (w.protocol.is_open t ≡ true → w.protocol.begun t ≢ 0) × (w.protocol.accepted t ≡ true → (w.protocol.begun t ≢ 0) × (w.protocol.begun t < w.protocol.point t))

pub begun_kept : (plan : ℕ → Plan) (w : History) (r : Action) (done : Bool) → BegunOk w → PointOk w → Allowed plan w r done → BegunOk (happens plan w r done)
begun_kept plan w r done ok point a t = grind (arith, tests, ok t, point t)

-- two transactions have two points
abbrev pub ApartOk : History → Type 0
ApartOk w = (t u : ℕ) → t ≢ u → w.protocol.point t ≡ w.protocol.point u → w.protocol.point t ≡ 0

pub apart_kept : (plan : ℕ → Plan) (w : History) (r : Action) (done : Bool) → ApartOk w → PointOk w → ApartOk (happens plan w r done)
apart_kept plan w r done ok point t u ne eq = grind (arith, tests, ok t u, point t, point u)

---- rows of the coordinator

-- a recorded transaction is past deciding, had all prepares answered and all checks made, and its base of a key is what it noted
pub record IsDecided (plan : ℕ → Plan) (w : History) (t : ℕ) : Type 0 where
  pub stage : w.protocol.stage t ≡ Deciding
  pub risked : w.protocol.risked t ≡ true
  pub answered : (k : Key) → written (plan t) k ≢ None → w.protocol.answered t k ≡ true
  pub checked : (i : ℕ) (k : Key) (found : Option ℕ) → version_read_at (plan t) i k ≡ Some found → written (plan t) k ≡ None → w.protocol.checked t i ≡ true
  pub agrees : (i : ℕ) (k : Key) (found base : Option ℕ) → version_read_at (plan t) i k ≡ Some found → written (plan t) k ≡ Some base → found ≡ base
  pub point : w.protocol.point t < w.decided_at t

abbrev pub DecidedOk : (ℕ → Plan) → History → Type 0
DecidedOk plan w = (t : ℕ) → w.row t ≡ Some Committed → IsDecided plan w t

-- what becomes of a decided transaction's fields
decided_same : (plan : ℕ → Plan) (w : History) (r : Action) (done : Bool) (t : ℕ) → w.row t ≡ Some Committed → w.protocol.accepted t ≡ true → w.protocol.stage t ≡ Deciding → w.protocol.risked t ≡ true → Allowed plan w r done → ((happens plan w r done).protocol.stage t ≡ Deciding) × ((happens plan w r done).protocol.risked t ≡ true) × ((happens plan w r done).protocol.point t ≡ w.protocol.point t) × ((happens plan w r done).decided_at t ≡ w.decided_at t)
decided_same plan w r done t h accepted stage risked a = grind (arith, tests)

pub decided_answered : (plan : ℕ → Plan) (w : History) (r : Action) (done : Bool) (t : ℕ) (k : Key) → w.protocol.stage t ≡ Deciding → Allowed plan w r done → w.protocol.answered t k ≡ true → (happens plan w r done).protocol.answered t k ≡ true
decided_answered plan w r done t k stage a h = grind (arith, tests, at_one plan w r done k a)

pub accepted_stays : (plan : ℕ → Plan) (w : History) (r : Action) (done : Bool) (t : ℕ) → w.protocol.accepted t ≡ true → (happens plan w r done).protocol.accepted t ≡ true
accepted_stays plan w r done t h = grind (arith, tests)

pub checked_stays : (plan : ℕ → Plan) (w : History) (r : Action) (done : Bool) (t i : ℕ) → w.protocol.checked t i ≡ true → (happens plan w r done).protocol.checked t i ≡ true
checked_stays plan w r done t i h = grind (arith, tests)

-- whose row is COMMITTED now: it was, or this is its deciding put
committed_now : (plan : ℕ → Plan) (w : History) (r : Action) (done : Bool) (t : ℕ) → (happens plan w r done).row t ≡ Some Committed → w.row t ≢ Some Committed → Allowed plan w r done → ((happens plan w r done).protocol.stage t ≡ Deciding) × ((happens plan w r done).protocol.risked t ≡ true) × ((happens plan w r done).protocol.point t ≡ w.protocol.point t) × ((happens plan w r done).decided_at t ≡ w.protocol.now + 1)
committed_now plan w r done t h n a = grind (arith, tests)

committed_told : (plan : ℕ → Plan) (w : History) (r : Action) (done : Bool) (t : ℕ) (k : Key) → (happens plan w r done).row t ≡ Some Committed → w.row t ≢ Some Committed → Allowed plan w r done → written (plan t) k ≢ None → (happens plan w r done).protocol.answered t k ≡ true
committed_told plan w (Decides u word) done t k h n a wr = grind (arith, tests, a.2 k)
committed_told plan w Other done t k h n a wr = absurd (n h)
committed_told plan w (Begins u c) done t k h n a wr = absurd (n h)
committed_told plan w (Takes u) done t k h n a wr = absurd (n h)
committed_told plan w (Prepares u k0 word) done t k h n a wr = absurd (n h)
committed_told plan w (Checks u i) done t k h n a wr = absurd (n h)
committed_told plan w (Aborts u m word) done t k h n a wr = absurd (grind (arith, tests))
committed_told plan w (Rolls u k0 d) done t k h n a wr = absurd (n h)
committed_told plan w (Removes k0 u) done t k h n a wr = absurd (n h)
committed_told plan w (Ends u) done t k h n a wr = absurd (n h)
committed_told plan w (Stops c) done t k h n a wr = absurd (n h)

committed_checked : (plan : ℕ → Plan) (w : History) (r : Action) (done : Bool) (t i : ℕ) (k : Key) (found : Option ℕ) → (happens plan w r done).row t ≡ Some Committed → w.row t ≢ Some Committed → Allowed plan w r done → version_read_at (plan t) i k ≡ Some found → written (plan t) k ≡ None → (happens plan w r done).protocol.checked t i ≡ true
committed_checked plan w (Decides u word) done t i k found h n a nt wr = grind (arith, tests, a.3 i k found)
committed_checked plan w Other done t i k found h n a nt wr = absurd (n h)
committed_checked plan w (Begins u c) done t i k found h n a nt wr = absurd (n h)
committed_checked plan w (Takes u) done t i k found h n a nt wr = absurd (n h)
committed_checked plan w (Prepares u k0 word) done t i k found h n a nt wr = absurd (n h)
committed_checked plan w (Checks u j) done t i k found h n a nt wr = absurd (n h)
committed_checked plan w (Aborts u m word) done t i k found h n a nt wr = absurd (grind (arith, tests))
committed_checked plan w (Rolls u k0 d) done t i k found h n a nt wr = absurd (n h)
committed_checked plan w (Removes k0 u) done t i k found h n a nt wr = absurd (n h)
committed_checked plan w (Ends u) done t i k found h n a nt wr = absurd (n h)
committed_checked plan w (Stops c) done t i k found h n a nt wr = absurd (n h)

committed_agrees : (plan : ℕ → Plan) (w : History) (r : Action) (done : Bool) (t i : ℕ) (k : Key) (found base : Option ℕ) → (happens plan w r done).row t ≡ Some Committed → w.row t ≢ Some Committed → Allowed plan w r done → version_read_at (plan t) i k ≡ Some found → written (plan t) k ≡ Some base → found ≡ base
committed_agrees plan w (Decides u word) done t i k found base h n a nt wr = grind (arith, tests, a.4 i k found base)
committed_agrees plan w Other done t i k found base h n a nt wr = absurd (n h)
committed_agrees plan w (Begins u c) done t i k found base h n a nt wr = absurd (n h)
committed_agrees plan w (Takes u) done t i k found base h n a nt wr = absurd (n h)
committed_agrees plan w (Prepares u k0 word) done t i k found base h n a nt wr = absurd (n h)
committed_agrees plan w (Checks u j) done t i k found base h n a nt wr = absurd (n h)
committed_agrees plan w (Aborts u m word) done t i k found base h n a nt wr = absurd (grind (arith, tests))
committed_agrees plan w (Rolls u k0 d) done t i k found base h n a nt wr = absurd (n h)
committed_agrees plan w (Removes k0 u) done t i k found base h n a nt wr = absurd (n h)
committed_agrees plan w (Ends u) done t i k found base h n a nt wr = absurd (n h)
committed_agrees plan w (Stops c) done t i k found base h n a nt wr = absurd (n h)

-- some key
pub any_key : Key
any_key = record { table = record { ns = []; table = [] }; partition = []; clustering = [] }

was_committed : (d : Option Decision) → (d ≡ Some Committed) ⊎ (d ≢ Some Committed)
was_committed None = grind arith
was_committed (Some Committed) = inl refl
was_committed (Some Aborted) = grind arith

taken_of : (w : History) (t : ℕ) (k : Key) → TakenOk w → w.row t ≡ Some Committed → w.protocol.accepted t ≡ true
taken_of w t k ok h = grind (arith, ok t k 0)

join_decided : (plan : ℕ → Plan) (w v : History) (t : ℕ) → v.protocol.stage t ≡ Deciding → v.protocol.risked t ≡ true → v.protocol.point t < v.decided_at t
    → ((k : Key) → written (plan t) k ≢ None → v.protocol.answered t k ≡ true)
    → ((i : ℕ) (k : Key) (found : Option ℕ) → version_read_at (plan t) i k ≡ Some found → written (plan t) k ≡ None → v.protocol.checked t i ≡ true)
    → ((i : ℕ) (k : Key) (found base : Option ℕ) → version_read_at (plan t) i k ≡ Some found → written (plan t) k ≡ Some base → found ≡ base)
    → IsDecided plan v t
join_decided plan w v t s r p a b c = record { stage = s; risked = r; answered = a; checked = b; agrees = c; point = p }

pub decided_ok : (plan : ℕ → Plan) (w : History) (r : Action) (done : Bool) → DecidedOk plan w → PointOk w → TakenOk w → Allowed plan w r done → DecidedOk plan (happens plan w r done)
decided_ok plan w r done ok point accepted a t h = elim (was_committed (w.row t)) [
  | inl old ↦
      let i = ok t old in
      let s = decided_same plan w r done t old (taken_of w t any_key accepted old) i.stage i.risked a in
      join_decided plan w (happens plan w r done) t s.0 s.1 (below s.2 s.3 i.point)
      (λ k wr. decided_answered plan w r done t k i.stage a (i.answered k wr))
      (λ j k found nt wr. checked_stays plan w r done t j (i.checked j k found nt wr))
      i.agrees
  | inr new ↦
      let s = committed_now plan w r done t h new a in
      join_decided plan w (happens plan w r done) t s.0 s.1 (before s.2 s.3 (point t).0)
      (λ k wr. committed_told plan w r done t k h new a wr)
      (λ j k found nt wr. committed_checked plan w r done t j k found h new a nt wr)
      (λ j k found base nt wr. committed_agrees plan w r done t j k found base h new a nt wr)
]
  where
    below : (happens plan w r done).protocol.point t ≡ w.protocol.point t → (happens plan w r done).decided_at t ≡ w.decided_at t → w.protocol.point t < w.decided_at t → (happens plan w r done).protocol.point t < (happens plan w r done).decided_at t
    below p d l = omega arith

    before : (happens plan w r done).protocol.point t ≡ w.protocol.point t → (happens plan w r done).decided_at t ≡ w.protocol.now + 1 → w.protocol.point t ≤ w.protocol.now → (happens plan w r done).protocol.point t < (happens plan w r done).decided_at t
    before p d l = omega arith

-- the point of a recorded transaction stays
pub point_fixed : (plan : ℕ → Plan) (w : History) (r : Action) (done : Bool) (t : ℕ) → DecidedOk plan w → TakenOk w → Allowed plan w r done → w.row t ≡ Some Committed → (happens plan w r done).protocol.point t ≡ w.protocol.point t
point_fixed plan w r done t ok accepted a h = (decided_same plan w r done t h (taken_of w t any_key accepted h) (ok t h).stage (ok t h).risked a).2

-- what was answered of a row is so
abbrev pub HeardOk : History → Type 0
HeardOk w = (t : ℕ) → (w.protocol.won t ≡ true → w.row t ≡ Some Committed) × (w.protocol.dead t ≡ true → w.row t ≡ Some Aborted) × (w.protocol.met t ≡ true → w.row t ≢ None) × (w.row t ≢ None → w.decided_at t ≤ w.protocol.now)

pub heard_kept : (plan : ℕ → Plan) (w : History) (r : Action) (done : Bool) → HeardOk w → Allowed plan w r done → HeardOk (happens plan w r done)
heard_kept plan w r done ok a t = grind (arith, tests, ok t)

---- what is there

abbrev pub FirmOk : (ℕ → Plan) → History → Type 0
FirmOk plan w = (k : Key) (t : ℕ) → w.rows k ≡ Some (Final t) → IsWriter plan w k t

abbrev pub HeldOk : History → Type 0
HeldOk w = (k : Key) (t : ℕ) → w.rows k ≡ Some (Held t) → w.took_effect t k ≡ true

-- the bases of a transaction whose COMMIT was accepted are of recorded writers
abbrev pub BaseOk : (ℕ → Plan) → History → Type 0
BaseOk plan w = (t : ℕ) (k : Key) (u : ℕ) → w.protocol.accepted t ≡ true → base_of (written (plan t) k) ≡ Some u → IsWriter plan w k u

-- and so is what it noted, with earlier points
abbrev pub NotedOk : (ℕ → Plan) → History → Type 0
NotedOk plan w = (t i : ℕ) (k : Key) (u : ℕ) → w.protocol.accepted t ≡ true → version_read_at (plan t) i k ≡ Some (Some u) → IsWriter plan w k u × (w.protocol.point u < w.protocol.point t)

abbrev pub GoneOk : (ℕ → Plan) → History → Type 0
GoneOk plan w = (k : Key) (u : ℕ) → w.gone k ≡ Some u → IsWriter plan w k u × (deletes (plan u) k ≡ true)

-- what a transaction prepared is there while it has no row
abbrev pub StandsOk : History → Type 0
StandsOk w = (t : ℕ) (k : Key) → w.took_effect t k ≡ true → w.row t ≡ None → w.rows k ≡ Some (Held t)

pub held_kept : (plan : ℕ → Plan) (w : History) (r : Action) (done : Bool) → HeldOk w → TakenOk w → TookOk w → Allowed plan w r done → HeldOk (happens plan w r done)
held_kept plan w r done ok accepted took_effect a k t h = grind (arith, tests, ok k t, took_effect t k, at_one plan w r done k a)

pub base_kept : (plan : ℕ → Plan) (w : History) (r : Action) (done : Bool) → BaseOk plan w → Allowed plan w r done → BaseOk plan (happens plan w r done)
base_kept plan w r done ok a t k u c h = grind (arith, tests, ok t k u, writer_kept plan w r done k u a, a)

pub gone_kept : (plan : ℕ → Plan) (w : History) (r : Action) (done : Bool) → GoneOk plan w → Allowed plan w r done → GoneOk plan (happens plan w r done)
gone_kept plan w r done ok a k u h = grind (arith, tests, ok k u, writer_kept plan w r done k u a, a)

pub stands_kept : (plan : ℕ → Plan) (w : History) (r : Action) (done : Bool) → StandsOk w → TookOk w → Allowed plan w r done → StandsOk (happens plan w r done)
stands_kept plan w r done ok took_effect a t k h n = grind (arith, tests, ok t k, took_effect t k, at_one plan w r done k a)

firm_prepare : (plan : ℕ → Plan) (w : History) (t0 : ℕ) (k0 : List Key) (word : Ack) (done : Bool) → FirmOk plan w → FirmOk plan (happens plan w (Prepares t0 k0 word) done)
firm_prepare plan w t0 k0 word done ok k t h = grind (arith, tests, ok k t)

firm_roll : (plan : ℕ → Plan) (w : History) (t0 : ℕ) (k0 : List Key) (d : Decision) (done : Bool) → FirmOk plan w → HeldOk w → BaseOk plan w → TakenOk w → TookOk w → AskedOk plan w → Allowed plan w (Rolls t0 k0 d) done → FirmOk plan (happens plan w (Rolls t0 k0 d) done)
firm_roll plan w t0 k0 d done ok held base accepted took_effect asked a k t h = grind (arith, tests, ok k t, held k t0, base t0 k t, accepted t0 k 0, took_effect t0 k, asked t0 k, at_one plan w (Rolls t0 k0 d) done k a)

firm_remove : (plan : ℕ → Plan) (w : History) (k0 : Key) (t0 : ℕ) (done : Bool) → FirmOk plan w → FirmOk plan (happens plan w (Removes k0 t0) done)
firm_remove plan w k0 t0 done ok k t h = grind (arith, tests, ok k t)

pub firm_kept : (plan : ℕ → Plan) (w : History) (r : Action) (done : Bool) → FirmOk plan w → HeldOk w → BaseOk plan w → TakenOk w → TookOk w → AskedOk plan w → Allowed plan w r done → FirmOk plan (happens plan w r done)
firm_kept plan w (Prepares t k word) done ok held base accepted took_effect asked a = firm_prepare plan w t k word done ok
firm_kept plan w (Rolls t k d) done ok held base accepted took_effect asked a = firm_roll plan w t k d done ok held base accepted took_effect asked a
firm_kept plan w (Removes k t) done ok held base accepted took_effect asked a = firm_remove plan w k t done ok
firm_kept plan w (Decides u word) done ok held base accepted took_effect asked a = λ k t h. writer_kept plan w (Decides u word) done k t a (ok k t h)
firm_kept plan w (Aborts u m word) done ok held base accepted took_effect asked a = λ k t h. writer_kept plan w (Aborts u m word) done k t a (ok k t h)
firm_kept plan w Other done ok held base accepted took_effect asked a = ok
firm_kept plan w (Begins t c) done ok held base accepted took_effect asked a = ok
firm_kept plan w (Takes t) done ok held base accepted took_effect asked a = ok
firm_kept plan w (Checks t i) done ok held base accepted took_effect asked a = ok
firm_kept plan w (Ends t) done ok held base accepted took_effect asked a = ok
firm_kept plan w (Stops c) done ok held base accepted took_effect asked a = ok

earlier_prepare : (plan : ℕ → Plan) (w : History) (t0 : ℕ) (k0 : List Key) (word : Ack) (done : Bool) → EarlierPrepareHadRow w → StandsOk w → TookOk w → HeardOk w → Allowed plan w (Prepares t0 k0 word) done → EarlierPrepareHadRow (happens plan w (Prepares t0 k0 word) done)
earlier_prepare plan w t0 k0 word done ok agrees took_effect heard a t u k ne ht hu lt = grind (arith, tests, ok t u k, agrees t k, took_effect t k, took_effect u k, heard t, at_one plan w (Prepares t0 k0 word) done k a)

earlier_row : (w v : History) → EarlierPrepareHadRow w → ((t : ℕ) (k : Key) → v.took_effect t k ≡ w.took_effect t k) → ((t : ℕ) (k : Key) → v.prepared_at t k ≡ w.prepared_at t k) → ((t : ℕ) → w.row t ≢ None → (v.row t ≢ None) × (v.decided_at t ≡ w.decided_at t)) → EarlierPrepareHadRow v
earlier_row w v ok st sp kept t u k ne ht hu lt = grind (arith, ok t u k, st t k, st u k, sp t k, sp u k, kept t)

pub earlier_kept : (plan : ℕ → Plan) (w : History) (r : Action) (done : Bool) → EarlierPrepareHadRow w → StandsOk w → TookOk w → HeardOk w → Allowed plan w r done → EarlierPrepareHadRow (happens plan w r done)
earlier_kept plan w (Prepares t k word) done ok agrees took_effect heard a = earlier_prepare plan w t k word done ok agrees took_effect heard a
earlier_kept plan w (Decides u word) done ok agrees took_effect heard a = earlier_row w (happens plan w (Decides u word) done) ok (λ t k. refl) (λ t k. refl) (λ t. decided_kept plan w (Decides u word) done t a)
earlier_kept plan w (Aborts u m word) done ok agrees took_effect heard a = earlier_row w (happens plan w (Aborts u m word) done) ok (λ t k. refl) (λ t k. refl) (λ t. decided_kept plan w (Aborts u m word) done t a)
earlier_kept plan w Other done ok agrees took_effect heard a = ok
earlier_kept plan w (Begins t c) done ok agrees took_effect heard a = ok
earlier_kept plan w (Takes t) done ok agrees took_effect heard a = ok
earlier_kept plan w (Checks t i) done ok agrees took_effect heard a = ok
earlier_kept plan w (Rolls t k d) done ok agrees took_effect heard a = ok
earlier_kept plan w (Removes k t) done ok agrees took_effect heard a = ok
earlier_kept plan w (Ends t) done ok agrees took_effect heard a = ok
earlier_kept plan w (Stops c) done ok agrees took_effect heard a = ok

pub removed_kept : (plan : ℕ → Plan) (w : History) (r : Action) (done : Bool) → RemovedBeforeBegin w → GoneOk plan w → HeardOk w → Allowed plan w r done → RemovedBeforeBegin (happens plan w r done)
removed_kept plan w r done ok gone heard a t k u h live = grind (arith, tests, ok t k u, gone k u, heard u, decided_kept plan w r done u a)

noted_take : (plan : ℕ → Plan) (w : History) (t0 : ℕ) (done : Bool) → NotedOk plan w → PointOk w → TakenOk w → Allowed plan w (Takes t0) done → NotedOk plan (happens plan w (Takes t0) done)
noted_take plan w t0 done ok point accepted a t i k u c h = grind (arith, tests, ok t i k u, a.3 i k u, point u, accepted u k 0)

noted_other : (plan : ℕ → Plan) (w : History) (r : Action) (done : Bool) → NotedOk plan w → DecidedOk plan w → TakenOk w → PointOk w → Allowed plan w r done → ((t : ℕ) → (happens plan w r done).protocol.accepted t ≡ w.protocol.accepted t) → NotedOk plan (happens plan w r done)
noted_other plan w r done ok decided accepted point a same t i k u c h = grind (arith, ok t i k u, writer_kept plan w r done k u a, point_fixed plan w r done u decided accepted a, point_grows plan w r done t point, same t)

pub noted_kept : (plan : ℕ → Plan) (w : History) (r : Action) (done : Bool) → NotedOk plan w → DecidedOk plan w → TakenOk w → PointOk w → Allowed plan w r done → NotedOk plan (happens plan w r done)
noted_kept plan w (Takes t) done ok decided accepted point a = noted_take plan w t done ok point accepted a
noted_kept plan w (Prepares t k word) done ok decided accepted point a = noted_other plan w (Prepares t k word) done ok decided accepted point a (λ u. refl)
noted_kept plan w (Decides u word) done ok decided accepted point a = noted_other plan w (Decides u word) done ok decided accepted point a (λ u. refl)
noted_kept plan w (Aborts u m word) done ok decided accepted point a = noted_other plan w (Aborts u m word) done ok decided accepted point a (λ u. refl)
noted_kept plan w Other done ok decided accepted point a = ok
noted_kept plan w (Begins t c) done ok decided accepted point a = ok
noted_kept plan w (Checks t i) done ok decided accepted point a = ok
noted_kept plan w (Rolls t k d) done ok decided accepted point a = ok
noted_kept plan w (Removes k t) done ok decided accepted point a = ok
noted_kept plan w (Ends t) done ok decided accepted point a = ok
noted_kept plan w (Stops c) done ok decided accepted point a = ok
