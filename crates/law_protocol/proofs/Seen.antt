-- What a check or a prepare saw at a key: whoever had prepared it had a row, and what was shown was of the last recorded
-- writer.
use Rattle.std.proofs.Common.{◌≡◌, ◌≢◌, ℕ, ◌+◌, ◌<◌, ◌≤◌, Bool, true, false, List, Option, Some, None, ◌⊎◌, inl, inr, refl, sym, subst, ◌∙◌, arith}
use Rattle.std.specs.Prelude.{◌==◌, if◌then◌else◌}
use Rattle.law_protocol.specs.Types.{Decision, Key}
use Rattle.sdb_record.specs.declared.coordinator.Decision.TheVariants.{Committed}
use Rattle.law_protocol.specs.Plan.{Plan, written, version_read_at}
use Rattle.law_protocol.specs.History.{Action, Other, Begins, Takes, Prepares, Checks, Decides, Aborts, Rolls, Removes, Ends, Stops, Ack, Preparing, History, start, at, Held, base_of, has_version, happens, has_key, shadow, IsWriter, IsLive, Covers}
use Rattle.law_protocol.specs.Trace.{after_end}
use Rattle.sdb_types.proofs.Public.{clash, tests}
use Rattle.law_protocol.proofs.Allowed.{Allowed, at_one}
use Rattle.law_protocol.proofs.Small.{IsDecided, PointOk, TookOk, decided_kept, writer_kept, point_fixed}
use Rattle.law_protocol.proofs.Shadow.{saw_same, saw_now, begun_stays, took_taken}
use Rattle.law_protocol.proofs.Cover.{Inv, inv_kept, inv_start, writer_of, covers_same}
use Rattle.law_protocol.specs.Explained.{IsAsFound as Saw}

-- a check comes after the point, and before whatever comes now
abbrev pub CheckedOk : History → Type 0
CheckedOk w = (t i : ℕ) → w.protocol.checked t i ≡ true → (w.protocol.accepted t ≡ true) × (w.protocol.stage t ≢ Preparing) × (w.protocol.point t < w.checked_at t i) × (w.checked_at t i ≤ w.protocol.now)

pub checked_kept : (plan : ℕ → Plan) (w : History) (r : Action) (done : Bool) → CheckedOk w → PointOk w → Allowed plan w r done → CheckedOk (happens plan w r done)
checked_kept plan w r done ok point a t i c = grind (arith, tests, ok t i, point t)

-- Transaction t found this version at a key, and event n saw that writer's record shown.
pub record IsSeen (plan : ℕ → Plan) (w : History) (t : ℕ) (k : Key) (found : Option ℕ) (n : ℕ) (x : Option ℕ) : Type 0 where
  pub saw : Saw plan w t k found x
  pub writer : (u : ℕ) → x ≡ Some u → IsWriter plan w k u × (w.decided_at u < n)
  pub early : (u : ℕ) → u ≢ t → w.took_effect u k ≡ true → w.prepared_at u k < n → (w.row u ≢ None) × (w.decided_at u < n)
  pub last : (u : ℕ) → u ≢ t → IsWriter plan w k u → w.decided_at u < n → Covers w.protocol u x

---- once seen, it stays seen

old_took : (plan : ℕ → Plan) (w : History) (r : Action) (done : Bool) (u : ℕ) (k : Key) (n : ℕ) → n ≤ w.protocol.now + 1 → (happens plan w r done).took_effect u k ≡ true → (happens plan w r done).prepared_at u k < n → (w.took_effect u k ≡ true) × (w.prepared_at u k < n)
old_took plan w r done u k n b h l = grind (arith, tests)

old_writer : (plan : ℕ → Plan) (w : History) (r : Action) (done : Bool) (u : ℕ) (n : ℕ) → n ≤ w.protocol.now + 1 → (happens plan w r done).row u ≡ Some Committed → (happens plan w r done).decided_at u < n → (w.row u ≡ Some Committed) × (w.decided_at u < n)
old_writer plan w r done u n b h l = grind (arith, tests)

still : (plan : ℕ → Plan) (w : History) (r : Action) (done : Bool) (u : ℕ) (n : ℕ) → Allowed plan w r done → (w.row u ≢ None) × (w.decided_at u < n) → ((happens plan w r done).row u ≢ None) × ((happens plan w r done).decided_at u < n)
still plan w r done u n a h = (d.0, below (happens plan w r done).decided_at (d.1) h.1)
  where
    d : ((happens plan w r done).row u ≢ None) × ((happens plan w r done).decided_at u ≡ w.decided_at u)
    d = decided_kept plan w r done u a h.0

    below : (f : ℕ → ℕ) → f u ≡ w.decided_at u → w.decided_at u < n → f u < n
    below f e l = omega arith

some_row : (d : Option Decision) → d ≡ Some Committed → d ≢ None
some_row d e = grind arith

pub seen_kept : (plan : ℕ → Plan) (w : History) (r : Action) (done : Bool) (t : ℕ) (k : Key) (found : Option ℕ) (n : ℕ) (x : Option ℕ) → Inv plan w → Allowed plan w r done → w.protocol.accepted t ≡ true → n ≤ w.protocol.now + 1 → IsSeen plan w t k found n x → IsSeen plan (happens plan w r done) t k found n x
seen_kept plan w r done t k found n x i a accepted b s = record {
  saw = saw_same plan w (happens plan w r done) t k found x (begun_stays plan w r done t i.begun accepted a) (λ u e. (decided_kept plan w r done u a (some_row (w.row u) (s.writer u e).0.0)).1) s.saw;
  writer = λ u e. let o = s.writer u e in (writer_kept plan w r done k u a o.0, (still plan w r done u n a (some_row (w.row u) o.0.0, o.1)).1);
  early = λ u ne h l. let o = old_took plan w r done u k n b h l in still plan w r done u n a (s.early u ne o.0 o.1);
  last = λ u ne h l. let o = old_writer plan w r done u n b h.0 l in covers_same w (happens plan w r done) u x x refl (s.last u ne (o.0, h.1) o.1) (λ v e. point_fixed plan w r done v i.decided i.accepted a (s.writer v e).0.0) (point_fixed plan w r done u i.decided i.accepted a o.0);
}

---- at the event itself

pub seen_now : (plan : ℕ → Plan) (w : History) (t : ℕ) (k : Key) (found : Option ℕ) → Inv plan w → IsLive w.protocol t → has_version (w.rows k) found ≡ true → IsSeen plan w t k found (w.protocol.now + 1) (shadow plan w k)
seen_now plan w t k found i live h = record {
  saw = saw_now plan w t k found i.gone i.removed live h;
  writer = λ u e. (writer_of plan w k u i e, below u (writer_of plan w k u i e));
  early = λ u ne took_effect l. early u (i.agrees u k) (i.heard u).3 took_effect;
  last = λ u ne writer l. i.cover u k writer;
}
  where
    below : (u : ℕ) → IsWriter plan w k u → w.decided_at u < w.protocol.now + 1
    below u x = grind (arith, i.heard u, x)

    early : (u : ℕ) → (w.took_effect u k ≡ true → w.row u ≡ None → w.rows k ≡ Some (Held u)) → (w.row u ≢ None → w.decided_at u ≤ w.protocol.now) → w.took_effect u k ≡ true → (w.row u ≢ None) × (w.decided_at u < w.protocol.now + 1)
    early u agrees heard took_effect = grind (arith, h)

---- the two places

abbrev pub ReadsOk : (ℕ → Plan) → History → Type 0
ReadsOk plan w = (t i : ℕ) (k : Key) (found : Option ℕ) → w.protocol.checked t i ≡ true → version_read_at (plan t) i k ≡ Some found → written (plan t) k ≡ None → IsSeen plan w t k found (w.checked_at t i) (w.basis t i k)

abbrev pub WritesOk : (ℕ → Plan) → History → Type 0
WritesOk plan w = (t : ℕ) (k : Key) → w.protocol.answered t k ≡ true → IsSeen plan w t k (base_of (written (plan t) k)) (w.prepared_at t k) (w.under t k)

at_check : (plan : ℕ → Plan) (w : History) (t0 i0 : ℕ) (done : Bool) (t i : ℕ) (k : Key) → (happens plan w (Checks t0 i0) done).protocol.checked t i ≡ true
    → ((t ≡ t0) × (i ≡ i0) × ((happens plan w (Checks t0 i0) done).checked_at t i ≡ w.protocol.now + 1) × ((happens plan w (Checks t0 i0) done).basis t i k ≡ shadow plan w k))
    ⊎ ((w.protocol.checked t i ≡ true) × ((happens plan w (Checks t0 i0) done).checked_at t i ≡ w.checked_at t i) × ((happens plan w (Checks t0 i0) done).basis t i k ≡ w.basis t i k))
at_check plan w t0 i0 done t i k c = grind (arith, tests)

reads_check : (plan : ℕ → Plan) (w : History) (t0 i0 : ℕ) (done : Bool) → Inv plan w → ReadsOk plan w → CheckedOk w → Allowed plan w (Checks t0 i0) done → ReadsOk plan (happens plan w (Checks t0 i0) done)
reads_check plan w t0 i0 done j ok checked a t i k found c nt wr = elim (at_check plan w t0 i0 done t i k c) [
  | inl x ↦ rw x.3 (rw x.2 (rw x.0 (seen_kept plan w (Checks t0 i0) done t0 k found (w.protocol.now + 1) (shadow plan w k) j a a.0 (omega arith) (seen_now plan w t0 k found j a.1 (a.3 k found (subst (λ m. version_read_at (plan t0) m k ≡ Some found) x.1 (subst (λ u. version_read_at (plan u) i k ≡ Some found) x.0 nt)) (subst (λ u. written (plan u) k ≡ None) x.0 wr))))))
  | inr x ↦ rw x.2 (rw x.1 (seen_kept plan w (Checks t0 i0) done t k found (w.checked_at t i) (w.basis t i k) j a (checked t i x.0).0 (over (checked t i x.0).3) (ok t i k found x.0 nt wr)))
]
  where
    over : w.checked_at t i ≤ w.protocol.now → w.checked_at t i ≤ w.protocol.now + 1
    over l = omega arith

-- a part that checks nothing
reads_other : (plan : ℕ → Plan) (w : History) (r : Action) (done : Bool) → Inv plan w → ReadsOk plan w → CheckedOk w → Allowed plan w r done → ((t i : ℕ) → (happens plan w r done).protocol.checked t i ≡ w.protocol.checked t i) → ((t i : ℕ) → (happens plan w r done).checked_at t i ≡ w.checked_at t i) → ((t i : ℕ) (k : Key) → (happens plan w r done).basis t i k ≡ w.basis t i k) → ReadsOk plan (happens plan w r done)
reads_other plan w r done j ok checked a sc sn sb t i k found c nt wr =
    let c' : w.protocol.checked t i ≡ true = sym (sc t i) ∙ c in
    rw (sb t i k) (rw (sn t i) (seen_kept plan w r done t k found (w.checked_at t i) (w.basis t i k) j a (checked t i c').0 (over (checked t i c').3) (ok t i k found c' nt wr)))
  where
    over : w.checked_at t i ≤ w.protocol.now → w.checked_at t i ≤ w.protocol.now + 1
    over l = omega arith

pub reads_kept : (plan : ℕ → Plan) (w : History) (r : Action) (done : Bool) → Inv plan w → ReadsOk plan w → CheckedOk w → Allowed plan w r done → ReadsOk plan (happens plan w r done)
reads_kept plan w (Checks t i) done j ok checked a = reads_check plan w t i done j ok checked a
reads_kept plan w Other done j ok checked a = reads_other plan w Other done j ok checked a (λ t i. refl) (λ t i. refl) (λ t i k. refl)
reads_kept plan w (Begins t c) done j ok checked a = reads_other plan w (Begins t c) done j ok checked a (λ t i. refl) (λ t i. refl) (λ t i k. refl)
reads_kept plan w (Takes t) done j ok checked a = reads_other plan w (Takes t) done j ok checked a (λ t i. refl) (λ t i. refl) (λ t i k. refl)
reads_kept plan w (Prepares t k word) done j ok checked a = reads_other plan w (Prepares t k word) done j ok checked a (λ t i. refl) (λ t i. refl) (λ t i k. refl)
reads_kept plan w (Decides t word) done j ok checked a = reads_other plan w (Decides t word) done j ok checked a (λ t i. refl) (λ t i. refl) (λ t i k. refl)
reads_kept plan w (Aborts t m word) done j ok checked a = reads_other plan w (Aborts t m word) done j ok checked a (λ t i. refl) (λ t i. refl) (λ t i k. refl)
reads_kept plan w (Rolls t k d) done j ok checked a = reads_other plan w (Rolls t k d) done j ok checked a (λ t i. refl) (λ t i. refl) (λ t i k. refl)
reads_kept plan w (Removes k t) done j ok checked a = reads_other plan w (Removes k t) done j ok checked a (λ t i. refl) (λ t i. refl) (λ t i k. refl)
reads_kept plan w (Ends t) done j ok checked a = reads_other plan w (Ends t) done j ok checked a (λ t i. refl) (λ t i. refl) (λ t i k. refl)
reads_kept plan w (Stops c) done j ok checked a = reads_other plan w (Stops c) done j ok checked a (λ t i. refl) (λ t i. refl) (λ t i k. refl)

writes_old : (plan : ℕ → Plan) (w : History) (r : Action) (done : Bool) (t : ℕ) (k : Key) → Inv plan w → WritesOk plan w → Allowed plan w r done → w.protocol.answered t k ≡ true → IsSeen plan (happens plan w r done) t k (base_of (written (plan t) k)) (w.prepared_at t k) (w.under t k)
writes_old plan w r done t k j ok a h = seen_kept plan w r done t k (base_of (written (plan t) k)) (w.prepared_at t k) (w.under t k) j a (took_taken w t k j.accepted took_effect) (over ((j.took_effect t k).0 took_effect).1) (ok t k h)
  where
    took_effect : w.took_effect t k ≡ true
    took_effect = ((j.took_effect t k).1 h).0

    over : w.prepared_at t k ≤ w.protocol.now → w.prepared_at t k ≤ w.protocol.now + 1
    over l = omega arith

-- a prepare that is acknowledged now was made by a client that hasn't stopped
at_answer : (plan : ℕ → Plan) (w : History) (t0 : ℕ) (k0 : List Key) (word : Ack) (done : Bool) (t : ℕ) (k : Key) → Allowed plan w (Prepares t0 k0 word) done → (happens plan w (Prepares t0 k0 word) done).protocol.answered t k ≡ true
    → ((t ≡ t0) × (has_key k0 k ≡ true) × (done ≡ true) × IsLive w.protocol t0 × ((happens plan w (Prepares t0 k0 word) done).under t k ≡ shadow plan w k) × ((happens plan w (Prepares t0 k0 word) done).prepared_at t k ≡ w.protocol.now + 1))
    ⊎ ((w.protocol.answered t k ≡ true) × ((happens plan w (Prepares t0 k0 word) done).under t k ≡ w.under t k) × ((happens plan w (Prepares t0 k0 word) done).prepared_at t k ≡ w.prepared_at t k))
at_answer plan w t0 k0 word done t k a h = grind (arith, tests, at_one plan w (Prepares t0 k0 word) done k a)

writes_prepare : (plan : ℕ → Plan) (w : History) (t0 : ℕ) (k0 : List Key) (word : Ack) (done : Bool) → Inv plan w → WritesOk plan w → Allowed plan w (Prepares t0 k0 word) done → WritesOk plan (happens plan w (Prepares t0 k0 word) done)
writes_prepare plan w t0 k0 word done j ok a t k h = elim (at_answer plan w t0 k0 word done t k a h) [
  | inl x ↦ rw x.5 (rw x.4 (rw x.0 (seen_kept plan w (Prepares t0 k0 word) done t0 k (base_of (written (plan t0) k)) (w.protocol.now + 1) (shadow plan w k) j a a.0 (omega arith) (seen_now plan w t0 k (base_of (written (plan t0) k)) j x.3 (a.3 x.2 k x.1)))))
  | inr x ↦ rw x.2 (rw x.1 (writes_old plan w (Prepares t0 k0 word) done t k j ok a x.0))
]

pub writes_kept : (plan : ℕ → Plan) (w : History) (r : Action) (done : Bool) → Inv plan w → WritesOk plan w → Allowed plan w r done → WritesOk plan (happens plan w r done)
writes_kept plan w (Prepares t k word) done j ok a = writes_prepare plan w t k word done j ok a
writes_kept plan w Other done j ok a = λ t k h. writes_old plan w Other done t k j ok a h
writes_kept plan w (Begins u c) done j ok a = λ t k h. writes_old plan w (Begins u c) done t k j ok a h
writes_kept plan w (Takes u) done j ok a = λ t k h. writes_old plan w (Takes u) done t k j ok a h
writes_kept plan w (Checks u i) done j ok a = λ t k h. writes_old plan w (Checks u i) done t k j ok a h
writes_kept plan w (Decides u word) done j ok a = λ t k h. writes_old plan w (Decides u word) done t k j ok a h
writes_kept plan w (Aborts u m word) done j ok a = λ t k h. writes_old plan w (Aborts u m word) done t k j ok a h
writes_kept plan w (Rolls u l d) done j ok a = λ t k h. writes_old plan w (Rolls u l d) done t k j ok a h
writes_kept plan w (Removes l u) done j ok a = λ t k h. writes_old plan w (Removes l u) done t k j ok a h
writes_kept plan w (Ends u) done j ok a = λ t k h. writes_old plan w (Ends u) done t k j ok a h
writes_kept plan w (Stops c) done j ok a = λ t k h. writes_old plan w (Stops c) done t k j ok a h

-- two prepares of a key take effect at two events
abbrev pub DistinctOk : History → Type 0
DistinctOk w = (t u : ℕ) (k : Key) → t ≢ u → w.took_effect t k ≡ true → w.took_effect u k ≡ true → w.prepared_at t k ≢ w.prepared_at u k

pub distinct_kept : (plan : ℕ → Plan) (w : History) (r : Action) (done : Bool) → DistinctOk w → TookOk w → DistinctOk (happens plan w r done)
distinct_kept plan w r done ok took_effect t u k ne ht hu e = grind (arith, tests, ok t u k, took_effect t k, took_effect u k)

-- all of it
pub record All (plan : ℕ → Plan) (w : History) : Type 0 where
  pub one : Inv plan w
  pub checked : CheckedOk w
  pub reads : ReadsOk plan w
  pub writes : WritesOk plan w
  pub distinct : DistinctOk w

pub all_kept : (plan : ℕ → Plan) (w : History) (r : Action) (done : Bool) → All plan w → Allowed plan w r done → All plan (happens plan w r done)
all_kept plan w r done i a = record {
  one = inv_kept plan w r done i.one a;
  checked = checked_kept plan w r done i.checked i.one.point a;
  reads = reads_kept plan w r done i.one i.reads i.checked a;
  writes = writes_kept plan w r done i.one i.writes a;
  distinct = distinct_kept plan w r done i.distinct i.one.took_effect;
}

---- the end of a transaction, said by a further part of an event

pub closed_still : (f : ℕ → Bool) (u t : ℕ) → f t ≡ false → at f u false t ≡ false
closed_still f u t h = by (t == u)
  where
    by : (b : Bool) → (if b then false else f t) ≡ false
    by true = refl
    by false = h

pub open_before : (f : ℕ → Bool) (u t : ℕ) → at f u false t ≡ true → f t ≡ true
open_before f u t = by (t == u)
  where
    by : (b : Bool) → (if b then false else f t) ≡ true → f t ≡ true
    by true h = clash (sym h)
    by false h = h

decided_closed : (plan : ℕ → Plan) (w : History) (t u : ℕ) → IsDecided plan w u → IsDecided plan (after_end plan w (Some t)) u
decided_closed plan w t u d = record { stage = d.stage; risked = d.risked; answered = d.answered; checked = d.checked; agrees = d.agrees; point = d.point }

seen_closed : (plan : ℕ → Plan) (w : History) (t u : ℕ) (k : Key) (found : Option ℕ) (n : ℕ) (x : Option ℕ) → IsSeen plan w u k found n x → IsSeen plan (after_end plan w (Some t)) u k found n x
seen_closed plan w t u k found n x s = record { saw = s.saw; writer = s.writer; early = s.early; last = s.last }

inv_closed : (plan : ℕ → Plan) (w : History) (t : ℕ) → Inv plan w → Inv plan (after_end plan w (Some t))
inv_closed plan w t i = record {
  point = i.point;
  accepted = i.accepted;
  asked = i.asked;
  took_effect = i.took_effect;
  begun = λ u. (λ live. (i.begun u).0 (open_before w.protocol.is_open t u live), (i.begun u).1);
  apart = i.apart;
  decided = λ u h. decided_closed plan w t u (i.decided u h);
  heard = i.heard;
  firm = i.firm;
  held = i.held;
  base = i.base;
  as_read = i.as_read;
  gone = i.gone;
  agrees = i.agrees;
  earlier = i.earlier;
  removed = λ u k v gone live. i.removed u k v gone (open_before w.protocol.is_open t u live.0, live.1);
  under = i.under;
  over = i.over;
  cover = i.cover;
}

pub all_closed : (plan : ℕ → Plan) (w : History) (t : ℕ) → All plan w → All plan (after_end plan w (Some t))
all_closed plan w t i = record {
  one = inv_closed plan w t i.one;
  checked = i.checked;
  reads = λ u j k found c n o. seen_closed plan w t u k found (w.checked_at u j) (w.basis u j k) (i.reads u j k found c n o);
  writes = λ u k h. seen_closed plan w t u k (base_of (written (plan u) k)) (w.prepared_at u k) (w.under u k) (i.writes u k h);
  distinct = i.distinct;
}

pub all_start : (plan : ℕ → Plan) → All plan start
all_start plan = record {
  one = inv_start plan;
  checked = λ t i c. absurd (cc);
  reads = λ t i k f c. absurd (cc);
  writes = λ t k h. absurd (cc);
  distinct = λ t u k ne h. absurd (cc);
}
