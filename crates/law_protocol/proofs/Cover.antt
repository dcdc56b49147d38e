-- Each recorded writer of a key is the one whose record is shown there, or is before it.
use Rattle.std.proofs.Common.{◌≡◌, ◌≢◌, ℕ, ℤ, ◌<◌, ◌≤◌, Bool, true, Option, Some, None, ◌⊎◌, inl, inr, refl, sym, subst, arith}
use Rattle.sdb_types.specs.declared.key.Key.{Key}
use Rattle.sdb_types.proofs.Public.{tests}
use Rattle.sdb_record.specs.declared.coordinator.Decision.TheVariants.{Committed}
use Rattle.law_protocol.specs.Plan.{Plan, written}
use Rattle.law_protocol.specs.History.{Action, Other, Begins, Takes, Prepares, Checks, Decides, Aborts, Rolls, Removes, Ends, Stops, Ack, History, start, happens, shadow, IsWriter, Covers}
use Rattle.law_protocol.proofs.Allowed.{Allowed}
use Rattle.law_protocol.proofs.Small.{PointOk, TakenOk, AskedOk, TookOk, BegunOk, ApartOk, DecidedOk, HeardOk, FirmOk, HeldOk, BaseOk, NotedOk, GoneOk, StandsOk, point_kept, taken_kept, asked_kept, took_kept, begun_kept, apart_kept, decided_ok, heard_kept, firm_kept, held_kept, base_kept, noted_kept, gone_kept, stands_kept, earlier_kept, removed_kept, point_fixed}
use Rattle.law_protocol.proofs.Shadow.{shadow_writer, shadow_prepare, shadow_roll, shadow_remove, shadow_abort, UnderOk, OverOk, under_kept, over_kept}
use Rattle.law_protocol.specs.Explained.{EarlierPrepareHadRow, RemovedBeforeBegin}

abbrev pub CoverOk : (ℕ → Plan) → History → Type 0
CoverOk plan w = (t : ℕ) (k : Key) → IsWriter plan w k t → Covers w.protocol t (shadow plan w k)

-- all that has been said so far
pub record Inv (plan : ℕ → Plan) (w : History) : Type 0 where
  pub point : PointOk w
  pub accepted : TakenOk w
  pub asked : AskedOk plan w
  pub took_effect : TookOk w
  pub begun : BegunOk w
  pub apart : ApartOk w
  pub decided : DecidedOk plan w
  pub heard : HeardOk w
  pub firm : FirmOk plan w
  pub held : HeldOk w
  pub base : BaseOk plan w
  pub as_read : NotedOk plan w
  pub gone : GoneOk plan w
  pub agrees : StandsOk w
  pub earlier : EarlierPrepareHadRow w
  pub removed : RemovedBeforeBegin w
  pub under : UnderOk plan w
  pub over : OverOk plan w
  pub cover : CoverOk plan w

pub writer_of : (plan : ℕ → Plan) (w : History) (k : Key) (u : ℕ) → Inv plan w → shadow plan w k ≡ Some u → IsWriter plan w k u
writer_of plan w k u i = shadow_writer plan w k u i.firm i.held i.base i.gone i.took_effect i.accepted i.asked

-- points of what is recorded stay, so what covers goes on covering
pub covers_same : (w v : History) (t : ℕ) (x y : Option ℕ) → y ≡ x → Covers w.protocol t x → ((u : ℕ) → x ≡ Some u → v.protocol.point u ≡ w.protocol.point u) → v.protocol.point t ≡ w.protocol.point t → Covers v.protocol t y
covers_same w v t x y e c fixed pt = grind arith

pub shadow_fixed : (plan : ℕ → Plan) (w : History) (r : Action) (done : Bool) (k : Key) → Inv plan w → Allowed plan w r done → (u : ℕ) → shadow plan w k ≡ Some u → (happens plan w r done).protocol.point u ≡ w.protocol.point u
shadow_fixed plan w r done k i a u h = point_fixed plan w r done u i.decided i.accepted a (writer_of plan w k u i h).0

-- a part that leaves what is shown, and who is recorded
cover_other : (plan : ℕ → Plan) (w : History) (r : Action) (done : Bool) → Inv plan w → Allowed plan w r done → ((k : Key) → shadow plan (happens plan w r done) k ≡ shadow plan w k) → ((t : ℕ) → (happens plan w r done).row t ≡ Some Committed → w.row t ≡ Some Committed) → CoverOk plan (happens plan w r done)
cover_other plan w r done i a same old t k h =
    let r' = old t h.0 in
    covers_same w (happens plan w r done) t (shadow plan w k) (shadow plan (happens plan w r done) k) (same k) (i.cover t k (r', h.1)) (shadow_fixed plan w r done k i a) (point_fixed plan w r done t i.decided i.accepted a r')

cover_abort : (plan : ℕ → Plan) (w : History) (t0 : ℕ) (m : ℤ) (word : Ack) (done : Bool) → Inv plan w → Allowed plan w (Aborts t0 m word) done → CoverOk plan (happens plan w (Aborts t0 m word) done)
cover_abort plan w t0 m word done i a = cover_other plan w (Aborts t0 m word) done i a (λ k. shadow_abort plan w t0 k m word done a) (λ t r. grind (arith, tests))

-- a deciding put shows its own record over what was shown there
abbrev IdIs : Option ℕ → ℕ → Type 0
IdIs None t = ⊥
IdIs (Some u) t = u ≡ t

decide_shadow : (plan : ℕ → Plan) (w : History) (t0 : ℕ) (word : Ack) (done : Bool) (k : Key) → HeldOk w → Allowed plan w (Decides t0 word) done
    → (shadow plan (happens plan w (Decides t0 word) done) k ≡ shadow plan w k) ⊎ ((w.row t0 ≡ None) × (w.took_effect t0 k ≡ true) × IdIs (shadow plan (happens plan w (Decides t0 word) done) k) t0)
decide_shadow plan w t0 word done k held a = grind (arith, tests, held k)

-- what the deciding one found there is before it
decide_over : (plan : ℕ → Plan) (w : History) (t0 t : ℕ) (k : Key) → Inv plan w → w.row t0 ≡ None → w.took_effect t0 k ≡ true → w.protocol.answered t0 k ≡ true → IsWriter plan w k t → w.protocol.point t < w.protocol.point t0
decide_over plan w t0 t k i n h answered r = over (shadow plan w k) (w.under t0 k) (i.under t0 k h n) (i.cover t k r) (λ u e. below u (i.over t0 k u h e) ((i.took_effect t0 k).1 answered).1)
  where
    below : (u : ℕ) → IsWriter plan w k u × (w.decided_at u < w.prepared_at t0 k) → w.prepared_at t0 k ≤ w.protocol.point t0 → w.protocol.point u < w.protocol.point t0
    below u x p = let d : w.protocol.point u < w.decided_at u = (i.decided u x.0.0).point in let l = x.1 in omega arith

    over : (x y : Option ℕ) → x ≡ y → Covers w.protocol t x → ((u : ℕ) → y ≡ Some u → w.protocol.point u < w.protocol.point t0) → w.protocol.point t < w.protocol.point t0
    over x y e c later = grind arith

decide_self : (plan : ℕ → Plan) (w : History) (t0 : ℕ) (word : Ack) (done : Bool) (k : Key) → Inv plan w → w.protocol.answered t0 k ≡ true → w.row t0 ≡ None → (happens plan w (Decides t0 word) done).row t0 ≡ Some Committed → IdIs (shadow plan (happens plan w (Decides t0 word) done) k) t0
decide_self plan w t0 word done k i answered n r = grind (arith, tests, i.agrees t0 k, i.took_effect t0 k)

decide_row : (plan : ℕ → Plan) (w : History) (t0 : ℕ) (word : Ack) (done : Bool) (t : ℕ) → Allowed plan w (Decides t0 word) done → (happens plan w (Decides t0 word) done).row t ≡ Some Committed → (w.row t ≡ Some Committed) ⊎ ((t ≡ t0) × (w.row t ≡ None))
decide_row plan w t0 word done t a r = grind (arith, tests)

cover_decide : (plan : ℕ → Plan) (w : History) (t0 : ℕ) (word : Ack) (done : Bool) → Inv plan w → Allowed plan w (Decides t0 word) done → CoverOk plan (happens plan w (Decides t0 word) done)
cover_decide plan w t0 word done i a t k h = elim (decide_row plan w t0 word done t a h.0) [
  | inl old ↦ elim (decide_shadow plan w t0 word done k i.held a) [
    | inl same ↦ covers_same w (happens plan w (Decides t0 word) done) t (shadow plan w k) (shadow plan (happens plan w (Decides t0 word) done) k) same (i.cover t k (old, h.1)) (λ u e. refl) refl
    | inr new ↦ covers_id (happens plan w (Decides t0 word) done) t t0 (shadow plan (happens plan w (Decides t0 word) done) k) new.2 (decide_over plan w t0 t k i new.0 new.1 (a.2 k (i.asked t0 k ((i.took_effect t0 k).0 new.1).0)) (old, h.1))
  ]
  | inr self ↦ covers_self (happens plan w (Decides t0 word) done) t (shadow plan (happens plan w (Decides t0 word) done) k) (own t self.0 self.1 h)
]
  where
    own : (t : ℕ) → t ≡ t0 → w.row t ≡ None → IsWriter plan (happens plan w (Decides t0 word) done) k t → IdIs (shadow plan (happens plan w (Decides t0 word) done) k) t
    own t e n h = subst (λ u. IdIs (shadow plan (happens plan w (Decides t0 word) done) k) u) (sym e) (decide_self plan w t0 word done k i (a.2 k (subst (λ u. written (plan u) k ≢ None) e h.1)) (subst (λ u. w.row u ≡ None) e n) (subst (λ u. (happens plan w (Decides t0 word) done).row u ≡ Some Committed) e h.0))

    covers_id : (v : History) (t t0 : ℕ) (y : Option ℕ) → IdIs y t0 → v.protocol.point t < v.protocol.point t0 → Covers v.protocol t y
    covers_id v t t0 y is lt = grind arith

    covers_self : (v : History) (t : ℕ) (y : Option ℕ) → IdIs y t → Covers v.protocol t y
    covers_self v t y is = grind arith

pub cover_kept : (plan : ℕ → Plan) (w : History) (r : Action) (done : Bool) → Inv plan w → Allowed plan w r done → CoverOk plan (happens plan w r done)
cover_kept plan w (Takes t) done i a = cover_other plan w (Takes t) done i a (λ k. refl) (λ t r. r)
cover_kept plan w (Prepares t k word) done i a = cover_other plan w (Prepares t k word) done i a (λ key. shadow_prepare plan w t k key word done i.firm i.accepted i.base a (λ h. ((i.decided t h).stage, (i.decided t h).answered))) (λ t r. r)
cover_kept plan w (Decides t word) done i a = cover_decide plan w t word done i a
cover_kept plan w (Aborts t m word) done i a = cover_abort plan w t m word done i a
cover_kept plan w (Rolls t k d) done i a = cover_other plan w (Rolls t k d) done i a (λ key. shadow_roll plan w t k key d done a) (λ t r. r)
cover_kept plan w (Removes k t) done i a = cover_other plan w (Removes k t) done i a (λ key. shadow_remove plan w k key t done a) (λ t r. r)
cover_kept plan w Other done i a = i.cover
cover_kept plan w (Begins t c) done i a = i.cover
cover_kept plan w (Checks t j) done i a = i.cover
cover_kept plan w (Ends t) done i a = i.cover
cover_kept plan w (Stops c) done i a = i.cover

pub inv_kept : (plan : ℕ → Plan) (w : History) (r : Action) (done : Bool) → Inv plan w → Allowed plan w r done → Inv plan (happens plan w r done)
inv_kept plan w r done i a = record {
  point = point_kept plan w r done i.point;
  accepted = taken_kept plan w r done i.accepted a;
  asked = asked_kept plan w r done i.asked a;
  took_effect = took_kept plan w r done i.took_effect i.point i.accepted a;
  begun = begun_kept plan w r done i.begun i.point a;
  apart = apart_kept plan w r done i.apart i.point;
  decided = decided_ok plan w r done i.decided i.point i.accepted a;
  heard = heard_kept plan w r done i.heard a;
  firm = firm_kept plan w r done i.firm i.held i.base i.accepted i.took_effect i.asked a;
  held = held_kept plan w r done i.held i.accepted i.took_effect a;
  base = base_kept plan w r done i.base a;
  as_read = noted_kept plan w r done i.as_read i.decided i.accepted i.point a;
  gone = gone_kept plan w r done i.gone a;
  agrees = stands_kept plan w r done i.agrees i.took_effect a;
  earlier = earlier_kept plan w r done i.earlier i.agrees i.took_effect i.heard a;
  removed = removed_kept plan w r done i.removed i.gone i.heard a;
  under = under_kept plan w r done i.under i.firm i.base i.accepted i.agrees (λ t h. ((i.decided t h).stage, (i.decided t h).answered)) a;
  over = over_kept plan w r done i.over (λ k u. writer_of plan w k u i) i.heard a;
  cover = cover_kept plan w r done i a;
}

pub inv_start : (plan : ℕ → Plan) → Inv plan start
inv_start plan = record {
  point = λ t. (omega arith, omega arith);
  accepted = λ t k i h. grind arith;
  asked = λ t k h. absurd (cc);
  took_effect = λ t k. grind arith;
  begun = λ t. grind arith;
  apart = λ t u ne e. refl;
  decided = λ t h. absurd (cc);
  heard = λ t. grind arith;
  firm = λ k t h. absurd (cc);
  held = λ k t h. absurd (cc);
  base = λ t k u c h. absurd (cc);
  as_read = λ t i k u c h. absurd (cc);
  gone = λ k u h. absurd (cc);
  agrees = λ t k h n. absurd (cc);
  earlier = λ t u k ne h. absurd (cc);
  removed = λ t k u h l. absurd (cc);
  under = λ t k h n. refl;
  over = λ t k u h e. absurd (cc);
  cover = λ t k h. absurd (grind (arith, h));
}
