-- Only a deciding put changes a shadow.
use Rattle.std.proofs.Common.{◌≡◌, ◌≢◌, ℕ, ℤ, ◌+◌, ◌<◌, ◌≤◌, Bool, true, List, Option, Some, None, ◌⊎◌, inl, inr, refl, ◌∙◌, arith}
use Rattle.law_protocol.specs.Types.{Decision, Key}
use Rattle.sdb_types.proofs.Public.{tests}
use Rattle.sdb_record.specs.declared.coordinator.Decision.TheVariants.{Committed}
use Rattle.law_protocol.specs.Plan.{Plan, written}
use Rattle.law_protocol.specs.History.{Action, Other, Begins, Takes, Prepares, Checks, Decides, Aborts, Rolls, Removes, Ends, Stops, Ack, Deciding, History, Final, Held, has_key, has_version, happens, Standing, image_in, or_else, shadow, IsLive, IsWriter, IsPrepared}
use Rattle.law_protocol.proofs.Allowed.{Allowed, IsUnanswered, at_one}
use Rattle.law_protocol.proofs.Small.{writer_kept, decided_kept, TakenOk, AskedOk, TookOk, BegunOk, HeardOk, FirmOk, HeldOk, BaseOk, GoneOk, StandsOk}
use Rattle.law_protocol.specs.Explained.{IsAsFound as Saw, RemovedBeforeBegin}

held_taken : (plan : ℕ → Plan) (w : History) (k : Key) (t : ℕ) → HeldOk w → TookOk w → TakenOk w → AskedOk plan w → w.rows k ≡ Some (Held t) → (w.protocol.accepted t ≡ true) × (written (plan t) k ≢ None)
held_taken plan w k t held took_effect accepted asked h = grind (arith, held k t, took_effect t k, accepted t k 0, asked t k)

pub shadow_writer : (plan : ℕ → Plan) (w : History) (k : Key) (u : ℕ) → FirmOk plan w → HeldOk w → BaseOk plan w → GoneOk plan w → TookOk w → TakenOk w → AskedOk plan w → shadow plan w k ≡ Some u → IsWriter plan w k u
shadow_writer plan w k u firm held base gone took_effect accepted asked h = over (w.rows k) refl h
  where
    over : (s : Option Standing) → w.rows k ≡ s → or_else (image_in plan w k s) (w.gone k) ≡ Some u → IsWriter plan w k u
    over None e h = (gone k u h).0
    over (Some (Final t)) e h = grind (arith, firm k t)
    over (Some (Held t)) e h = grind (arith, held_taken plan w k t held took_effect accepted asked, base t k u)

-- a recorded transaction prepares nothing
unrecorded : (plan : ℕ → Plan) (w : History) (t : ℕ) (ks : List Key) (key : Key) (word : Ack) (done : Bool) → Allowed plan w (Prepares t ks word) done → (w.row t ≡ Some Committed → (w.protocol.stage t ≡ Deciding) × IsPrepared plan w.protocol t) → has_key ks key ≡ true → w.row t ≢ Some Committed
unrecorded plan w t ks key word done a ready h r = by (at_one plan w (Prepares t ks word) done key a h).0 (ready r).0 ((ready r).1 key (a.2 key h))
  where
    by : IsUnanswered w.protocol t word key → w.protocol.stage t ≡ Deciding → w.protocol.answered t key ≡ true → ⊥
    by (inl first) stage answered = cc (stage, first.1)
    by (inr late) stage answered = cc (answered, late.1)

pub shadow_prepare : (plan : ℕ → Plan) (w : History) (t : ℕ) (ks : List Key) (key : Key) (word : Ack) (done : Bool) → FirmOk plan w → TakenOk w → BaseOk plan w → Allowed plan w (Prepares t ks word) done → (w.row t ≡ Some Committed → (w.protocol.stage t ≡ Deciding) × IsPrepared plan w.protocol t) → shadow plan (happens plan w (Prepares t ks word) done) key ≡ shadow plan w key
shadow_prepare plan w t ks key word done firm accepted base a ready = grind (arith, tests, firm key, base t key, at_one plan w (Prepares t ks word) done key a, unrecorded plan w t ks key word done a ready)

pub shadow_roll : (plan : ℕ → Plan) (w : History) (t : ℕ) (ks : List Key) (key : Key) (d : Decision) (done : Bool) → Allowed plan w (Rolls t ks d) done → shadow plan (happens plan w (Rolls t ks d) done) key ≡ shadow plan w key
shadow_roll plan w t ks key d done a = grind (arith, tests, at_one plan w (Rolls t ks d) done key a)

pub shadow_remove : (plan : ℕ → Plan) (w : History) (k key : Key) (t : ℕ) (done : Bool) → Allowed plan w (Removes k t) done → shadow plan (happens plan w (Removes k t) done) key ≡ shadow plan w key
shadow_remove plan w k key t done a = grind (arith, tests)

pub shadow_abort : (plan : ℕ → Plan) (w : History) (t : ℕ) (key : Key) (m : ℤ) (word : Ack) (done : Bool) → Allowed plan w (Aborts t m word) done → shadow plan (happens plan w (Aborts t m word) done) key ≡ shadow plan w key
shadow_abort plan w t key m word done a = grind (arith, tests)

-- while it is undecided, what is shown under its prepared record is what was shown there
abbrev pub UnderOk : (ℕ → Plan) → History → Type 0
UnderOk plan w = (t : ℕ) (k : Key) → w.took_effect t k ≡ true → w.row t ≡ None → shadow plan w k ≡ w.under t k

under_prepare : (plan : ℕ → Plan) (w : History) (t0 : ℕ) (k0 : List Key) (word : Ack) (done : Bool) → UnderOk plan w → FirmOk plan w → TakenOk w → BaseOk plan w → (w.row t0 ≡ Some Committed → (w.protocol.stage t0 ≡ Deciding) × IsPrepared plan w.protocol t0) → Allowed plan w (Prepares t0 k0 word) done → UnderOk plan (happens plan w (Prepares t0 k0 word) done)
under_prepare plan w t0 k0 word done ok firm accepted base stage a t k h n =
    shadow_prepare plan w t0 k0 k word done firm accepted base a stage ∙ now w t0 k0 word done t k h (λ h'. ok t k h' n)
  where
    now : (w : History) (t0 : ℕ) (k0 : List Key) (word : Ack) (done : Bool) (t : ℕ) (k : Key) → (happens plan w (Prepares t0 k0 word) done).took_effect t k ≡ true → (w.took_effect t k ≡ true → shadow plan w k ≡ w.under t k) → shadow plan w k ≡ (happens plan w (Prepares t0 k0 word) done).under t k
    now w t0 k0 word done t k h ok = grind (arith, tests)

under_decide : (plan : ℕ → Plan) (w : History) (t0 : ℕ) (word : Ack) (done : Bool) → UnderOk plan w → StandsOk w → UnderOk plan (happens plan w (Decides t0 word) done)
under_decide plan w t0 word done ok agrees t k h n = grind (arith, tests, ok t k, agrees t k)

under_abort : (plan : ℕ → Plan) (w : History) (t0 : ℕ) (m : ℤ) (word : Ack) (done : Bool) → UnderOk plan w → Allowed plan w (Aborts t0 m word) done → UnderOk plan (happens plan w (Aborts t0 m word) done)
under_abort plan w t0 m word done ok a t k h n = grind (arith, tests, ok t k)

pub under_kept : (plan : ℕ → Plan) (w : History) (r : Action) (done : Bool) → UnderOk plan w → FirmOk plan w → BaseOk plan w → TakenOk w → StandsOk w → ((t : ℕ) → w.row t ≡ Some Committed → (w.protocol.stage t ≡ Deciding) × IsPrepared plan w.protocol t) → Allowed plan w r done → UnderOk plan (happens plan w r done)
under_kept plan w (Prepares t k word) done ok firm base accepted agrees stage a = under_prepare plan w t k word done ok firm accepted base (stage t) a
under_kept plan w (Decides t word) done ok firm base accepted agrees stage a = under_decide plan w t word done ok agrees
under_kept plan w (Aborts t m word) done ok firm base accepted agrees stage a = under_abort plan w t m word done ok a
under_kept plan w (Rolls t0 k0 d) done ok firm base accepted agrees stage a = λ t k h n. shadow_roll plan w t0 k0 k d done a ∙ ok t k h n
under_kept plan w (Removes k0 t0) done ok firm base accepted agrees stage a = λ t k h n. shadow_remove plan w k0 k t0 done a ∙ ok t k h n
under_kept plan w Other done ok firm base accepted agrees stage a = ok
under_kept plan w (Begins t c) done ok firm base accepted agrees stage a = ok
under_kept plan w (Takes t) done ok firm base accepted agrees stage a = ok
under_kept plan w (Checks t i) done ok firm base accepted agrees stage a = ok
under_kept plan w (Ends t) done ok firm base accepted agrees stage a = ok
under_kept plan w (Stops c) done ok firm base accepted agrees stage a = ok

pub saw_now : (plan : ℕ → Plan) (w : History) (t : ℕ) (k : Key) (found : Option ℕ) → GoneOk plan w → RemovedBeforeBegin w → IsLive w.protocol t → has_version (w.rows k) found ≡ true → Saw plan w t k found (shadow plan w k)
saw_now plan w t k found gone removed live h = grind (arith, tests, gone k, removed t k)

-- What was shown under a prepare was written by a transaction recorded before it.
abbrev pub OverOk : (ℕ → Plan) → History → Type 0
OverOk plan w = (t : ℕ) (k : Key) (u : ℕ) → w.took_effect t k ≡ true → w.under t k ≡ Some u → IsWriter plan w k u × (w.decided_at u < w.prepared_at t k)

pub at_prepare : (plan : ℕ → Plan) (w : History) (t0 : ℕ) (k0 : List Key) (word : Ack) (done : Bool) (t : ℕ) (k : Key) → (happens plan w (Prepares t0 k0 word) done).took_effect t k ≡ true
    → ((t ≡ t0) × (has_key k0 k ≡ true) × (done ≡ true) × ((happens plan w (Prepares t0 k0 word) done).under t k ≡ shadow plan w k) × ((happens plan w (Prepares t0 k0 word) done).prepared_at t k ≡ w.protocol.now + 1))
    ⊎ ((w.took_effect t k ≡ true) × ((happens plan w (Prepares t0 k0 word) done).under t k ≡ w.under t k) × ((happens plan w (Prepares t0 k0 word) done).prepared_at t k ≡ w.prepared_at t k))
at_prepare plan w t0 k0 word done t k h = grind (arith, tests)

over_join : (plan : ℕ → Plan) (w v : History) (t0 : ℕ) (t : ℕ) (k : Key) (u : ℕ)
    → ((t ≡ t0) × (v.under t k ≡ shadow plan w k) × (v.prepared_at t k ≡ w.protocol.now + 1)) ⊎ ((w.took_effect t k ≡ true) × (v.under t k ≡ w.under t k) × (v.prepared_at t k ≡ w.prepared_at t k))
    → v.under t k ≡ Some u
    → (shadow plan w k ≡ Some u → IsWriter plan w k u × (w.decided_at u ≤ w.protocol.now))
    → (w.took_effect t k ≡ true → w.under t k ≡ Some u → IsWriter plan w k u × (w.decided_at u < w.prepared_at t k))
    → v.row u ≡ w.row u → v.decided_at u ≡ w.decided_at u
    → IsWriter plan v k u × (v.decided_at u < v.prepared_at t k)
over_join plan w v t0 t k u c e now ok sr sd = grind arith

over_prepare : (plan : ℕ → Plan) (w : History) (t0 : ℕ) (k0 : List Key) (word : Ack) (done : Bool) → OverOk plan w → ((k : Key) (u : ℕ) → shadow plan w k ≡ Some u → IsWriter plan w k u) → HeardOk w → OverOk plan (happens plan w (Prepares t0 k0 word) done)
over_prepare plan w t0 k0 word done ok writer heard t k u h e =
    over_join plan w (happens plan w (Prepares t0 k0 word) done) t0 t k u (less (at_prepare plan w t0 k0 word done t k h)) e (λ s. (writer k u s, below u (writer k u s))) (ok t k u) refl refl
  where
    less : ((t ≡ t0) × (has_key k0 k ≡ true) × (done ≡ true) × ((happens plan w (Prepares t0 k0 word) done).under t k ≡ shadow plan w k) × ((happens plan w (Prepares t0 k0 word) done).prepared_at t k ≡ w.protocol.now + 1))
        ⊎ ((w.took_effect t k ≡ true) × ((happens plan w (Prepares t0 k0 word) done).under t k ≡ w.under t k) × ((happens plan w (Prepares t0 k0 word) done).prepared_at t k ≡ w.prepared_at t k))
        → ((t ≡ t0) × ((happens plan w (Prepares t0 k0 word) done).under t k ≡ shadow plan w k) × ((happens plan w (Prepares t0 k0 word) done).prepared_at t k ≡ w.protocol.now + 1)) ⊎ ((w.took_effect t k ≡ true) × ((happens plan w (Prepares t0 k0 word) done).under t k ≡ w.under t k) × ((happens plan w (Prepares t0 k0 word) done).prepared_at t k ≡ w.prepared_at t k))
    less (inl x) = inl (x.0, x.3, x.4)
    less (inr x) = inr x

    below : (v : ℕ) → IsWriter plan w k v → w.decided_at v ≤ w.protocol.now
    below v x = grind (arith, heard v, x)

-- a part that prepares nothing
pub over_other : (plan : ℕ → Plan) (w : History) (r : Action) (done : Bool) → OverOk plan w → Allowed plan w r done → ((t : ℕ) (k : Key) → (happens plan w r done).took_effect t k ≡ w.took_effect t k) → ((t : ℕ) (k : Key) → (happens plan w r done).under t k ≡ w.under t k) → ((t : ℕ) (k : Key) → (happens plan w r done).prepared_at t k ≡ w.prepared_at t k) → OverOk plan (happens plan w r done)
over_other plan w r done ok a st su sp t k u h e = grind (arith, ok t k u, writer_kept plan w r done k u a, decided_kept plan w r done u a, st t k, su t k, sp t k)

pub over_kept : (plan : ℕ → Plan) (w : History) (r : Action) (done : Bool) → OverOk plan w → ((k : Key) (u : ℕ) → shadow plan w k ≡ Some u → IsWriter plan w k u) → HeardOk w → Allowed plan w r done → OverOk plan (happens plan w r done)
over_kept plan w (Prepares t k word) done ok writer heard a = over_prepare plan w t k word done ok writer heard
over_kept plan w (Decides t word) done ok writer heard a = over_other plan w (Decides t word) done ok a (λ t k. refl) (λ t k. refl) (λ t k. refl)
over_kept plan w (Aborts t m word) done ok writer heard a = over_other plan w (Aborts t m word) done ok a (λ t k. refl) (λ t k. refl) (λ t k. refl)
over_kept plan w Other done ok writer heard a = ok
over_kept plan w (Begins t c) done ok writer heard a = ok
over_kept plan w (Takes t) done ok writer heard a = ok
over_kept plan w (Checks t i) done ok writer heard a = ok
over_kept plan w (Rolls t k d) done ok writer heard a = ok
over_kept plan w (Removes k t) done ok writer heard a = ok
over_kept plan w (Ends t) done ok writer heard a = ok
over_kept plan w (Stops c) done ok writer heard a = ok

-- what was seen stays seen: a recorded writer's number stays, and so does that of a BEGIN
pub saw_same : (plan : ℕ → Plan) (w v : History) (t : ℕ) (k : Key) (found x : Option ℕ) → v.protocol.begun t ≡ w.protocol.begun t → ((u : ℕ) → x ≡ Some u → v.decided_at u ≡ w.decided_at u) → Saw plan w t k found x → Saw plan v t k found x
saw_same plan w v t k found x b d s = grind arith

pub begun_stays : (plan : ℕ → Plan) (w : History) (r : Action) (done : Bool) (t : ℕ) → BegunOk w → w.protocol.accepted t ≡ true → Allowed plan w r done → (happens plan w r done).protocol.begun t ≡ w.protocol.begun t
begun_stays plan w r done t ok h a = grind (arith, tests, ok t)

pub took_taken : (w : History) (t : ℕ) (k : Key) → TakenOk w → w.took_effect t k ≡ true → w.protocol.accepted t ≡ true
took_taken w t k ok h = grind (arith, ok t k 0)
