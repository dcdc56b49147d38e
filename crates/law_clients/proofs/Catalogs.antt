-- A transaction runs under the tables with which it began: they are those of the moment while it is open and its client goes on, and
-- those of its point.
use Rattle.std.proofs.Common.{◌≡◌, ◌≢◌, ◌⊎◌, ◌≤◌, ◌+◌, ℕ, zero, suc, Bool, true, false, List, [], ◌∷◌, length, Option, Some, None, inl, inr, refl, sym, ap, ◌∙◌, subst, arith}
use Rattle.std.specs.Prelude.{◌==◌, fold, nat_lt, take, if◌then◌else◌}
use Rattle.std.proofs.lemmas.Bool.Decides.{nat_tests}
use Rattle.law_clients.specs.Types.{Event, Key, Table}
use Rattle.sdb_types.proofs.Public.{below as is_before, by_test, clash, eq_of, lt_of}
use Rattle.sdb_model.specs.declared.event.Altered.TheVariants as altered
use Rattle.sdb_model.specs.declared.event.Event.TheVariants as event
use Rattle.sdb_model.specs.Catalogs.{added, catalog_after}
use Rattle.sdb_model.specs.Exec.{Tables}
use Rattle.law_protocol.specs.Explained.{events_of, newest_first}
use Rattle.law_protocol.specs.Plan.{Plan}
use Rattle.law_protocol.specs.History as laws
use Rattle.law_protocol.specs.History.{Ack, Action, Yes, No, NoAck, OutOfMemory, ProtocolState, is_yes, state_after_event}
use Rattle.law_protocol.specs.Lawful.{IsLawful, Labelled, MayOccur, ended, protocol_state}
use Rattle.law_protocol.proofs.Public.{occurs_by}
use Rattle.law_clients.specs.Catalogs.{AreAtRest, IsAtRest, catalog_at_begin, catalog_at_point, catalog_now, catalog_upto}
use Rattle.law_clients.specs.System.{IsBy}
use Rattle.law_clients.proofs.Clients.{BeginsNone, event_goes}
use Rattle.law_clients.proofs.Delayed.{delayed_unanswered}
use Rattle.law_clients.proofs.Replan.{ended_taken}
use Rattle.law_clients.proofs.Since.{not_after}

---- numbers

one_up : (m n : ℕ) → m ≡ n → m + 1 ≡ suc n
one_up m n e = omega arith

still_up : (m n : ℕ) → m ≤ n → m ≤ suc n
still_up m n l = omega arith

now_up : (m n : ℕ) → m ≡ n → m + 1 ≤ suc n
now_up m n e = omega arith

either_up : (b : Bool) (x y n : ℕ) → x ≤ n → y ≤ n → (if b then x else y) ≤ n
either_up true x y n l m = l
either_up false x y n l m = m

-- The clock counts events, and no transaction began, or has its point, after the last.
record Bounded (h : ProtocolState) (n t : ℕ) : Type 0 where
  now : h.now ≡ n
  begun : h.begun t ≤ n
  point : h.point t ≤ n

same_bounded : (h : ProtocolState) (n t : ℕ) → Bounded h n t → (h.now + 1 ≡ suc n) × (h.now + 1 ≤ suc n) × (h.begun t ≤ suc n) × (h.point t ≤ suc n)
same_bounded h n t b = (one_up h.now n b.now, now_up h.now n b.now, still_up (h.begun t) n b.begun, still_up (h.point t) n b.point)

more_bounded : (h : ProtocolState) (r : Action) (n t : ℕ) → Bounded h n t → Bounded (state_after_event h r) (suc n) t
more_bounded h laws.Other n t b = let x = same_bounded h n t b in record { now = x.0; begun = x.2; point = x.3 }
more_bounded h (laws.Begins u c) n t b = let x = same_bounded h n t b in record { now = x.0; begun = either_up (t == u) (h.now + 1) (h.begun t) (suc n) x.1 x.2; point = x.3 }
more_bounded h (laws.Takes u) n t b = let x = same_bounded h n t b in record { now = x.0; begun = x.2; point = either_up (t == u) (h.now + 1) (h.point t) (suc n) x.1 x.3 }
more_bounded h (laws.Prepares u ks Yes) n t b = let x = same_bounded h n t b in record { now = x.0; begun = x.2; point = either_up (t == u) (h.now + 1) (h.point t) (suc n) x.1 x.3 }
more_bounded h (laws.Prepares u ks No) n t b = let x = same_bounded h n t b in record { now = x.0; begun = x.2; point = x.3 }
more_bounded h (laws.Prepares u ks NoAck) n t b = let x = same_bounded h n t b in record { now = x.0; begun = x.2; point = x.3 }
more_bounded h (laws.Prepares u ks OutOfMemory) n t b = let x = same_bounded h n t b in record { now = x.0; begun = x.2; point = x.3 }
more_bounded h (laws.Checks u i) n t b = let x = same_bounded h n t b in record { now = x.0; begun = x.2; point = x.3 }
more_bounded h (laws.Decides u word) n t b = let x = same_bounded h n t b in record { now = x.0; begun = x.2; point = x.3 }
more_bounded h (laws.Aborts u m word) n t b = let x = same_bounded h n t b in record { now = x.0; begun = x.2; point = x.3 }
more_bounded h (laws.Rolls u ks d) n t b = let x = same_bounded h n t b in record { now = x.0; begun = x.2; point = x.3 }
more_bounded h (laws.Removes k u) n t b = let x = same_bounded h n t b in record { now = x.0; begun = x.2; point = x.3 }
more_bounded h (laws.Ends u) n t b = let x = same_bounded h n t b in record { now = x.0; begun = x.2; point = x.3 }
more_bounded h (laws.Stops c) n t b = let x = same_bounded h n t b in record { now = x.0; begun = x.2; point = x.3 }

ended_bounded : (h : ProtocolState) (o : Option ℕ) (n t : ℕ) → Bounded h n t → Bounded (ended h o) n t
ended_bounded h None n t b = b
ended_bounded h (Some u) n t b = record { now = b.now; begun = b.begun; point = b.point }

bounded : (past : List Labelled) (t : ℕ) → Bounded (protocol_state past) (length past) t
bounded [] t = record { now = refl; begun = omega arith; point = omega arith }
bounded (p ∷ past) t = ended_bounded (state_after_event (protocol_state past) p.action) p.ends (suc (length past)) t (more_bounded (protocol_state past) p.action (length past) t (bounded past t))

---- the tables after some of the events

pub upto_now : (catalog : List Table) (past : List Labelled) (n : ℕ) → length past ≤ n → catalog_upto catalog past n ≡ catalog_now catalog past
upto_now catalog [] n l = refl
upto_now catalog (p ∷ past) n l = ap (λ b. if b then catalog_now catalog (p ∷ past) else catalog_upto catalog past n) (is_before (length past) n l)

pub upto_before : (catalog : List Table) (p : Labelled) (past : List Labelled) (n : ℕ) → n ≤ length past → catalog_upto catalog (p ∷ past) n ≡ catalog_upto catalog past n
upto_before catalog p past n l = ap (λ b. if b then catalog_now catalog (p ∷ past) else catalog_upto catalog past n) (not_after (length past) n l)

-- at first they are the script's
pub upto_none : (catalog : List Table) (past : List Labelled) → catalog_upto catalog past 0 ≡ catalog
upto_none catalog [] = refl
upto_none catalog (p ∷ past) = upto_before catalog p past 0 (omega arith) ∙ upto_none catalog past

both_over : (k n m : ℕ) → suc k ≤ n → n ≤ m → suc k ≤ m
both_over k n m a b = omega arith

-- a test that goes on to be passed when a column is added is passed later
pub upto_grows : (fit : List Table → Tables → Bool) → ((ts : List Table) (e : Event) (d : Tables) → fit ts d ≡ true → fit (added ts e) d ≡ true)
    → (catalog : List Table) (past : List Labelled) (n m : ℕ) (d : Tables) → n ≤ m → fit (catalog_upto catalog past n) d ≡ true → fit (catalog_upto catalog past m) d ≡ true
upto_grows fit grows catalog [] n m d l f = f
upto_grows fit grows catalog (p ∷ past) n m d l f = by_test (nat_lt (length past) n)
    (λ a. subst (λ ts. fit ts d ≡ true) (upto_now catalog (p ∷ past) n (lt_of (length past) n a) ∙ sym (upto_now catalog (p ∷ past) m (both_over (length past) n m (lt_of (length past) n a) l))) f)
    (λ a.
    let low : n ≤ length past = grind (arith, nat_tests, a) in
    let before : fit (catalog_upto catalog past n) d ≡ true = subst (λ ts. fit ts d ≡ true) (upto_before catalog p past n low) f in
    by_test (nat_lt (length past) m)
    (λ b. subst (λ ts. fit ts d ≡ true) (sym (upto_now catalog (p ∷ past) m (lt_of (length past) m b)))
    (grows (catalog_now catalog past) p.event d (subst (λ ts. fit ts d ≡ true) (upto_now catalog past (length past) (omega arith)) (upto_grows fit grows catalog past n (length past) d low before))))
    (λ b. subst (λ ts. fit ts d ≡ true) (sym (upto_before catalog p past m (grind (arith, nat_tests, b)))) (upto_grows fit grows catalog past n m d l before)))

-- those when a transaction began stay, where it began before
pub begin_same : (catalog : List Table) (p : Labelled) (past : List Labelled) (t : ℕ) → (protocol_state (p ∷ past)).begun t ≡ (protocol_state past).begun t → catalog_at_begin catalog (p ∷ past) t ≡ catalog_at_begin catalog past t
begin_same catalog p past t e = ap (catalog_upto catalog (p ∷ past)) e ∙ upto_before catalog p past ((protocol_state past).begun t) (bounded past t).begun

point_same : (catalog : List Table) (p : Labelled) (past : List Labelled) (t : ℕ) → (protocol_state (p ∷ past)).point t ≡ (protocol_state past).point t → catalog_at_point catalog (p ∷ past) t ≡ catalog_at_point catalog past t
point_same catalog p past t e = ap (catalog_upto catalog (p ∷ past)) e ∙ upto_before catalog p past ((protocol_state past).point t) (bounded past t).point

-- a number that the last event has
last_now : (catalog : List Table) (p : Labelled) (past : List Labelled) (t n : ℕ) → n ≡ (protocol_state past).now + 1 → catalog_upto catalog (p ∷ past) n ≡ catalog_now catalog (p ∷ past)
last_now catalog p past t n e = upto_now catalog (p ∷ past) n (up n ((protocol_state past).now) (length past) e (bounded past t).now)
  where
    up : (n m k : ℕ) → n ≡ m + 1 → m ≡ k → suc k ≤ n
    up n m k a b = omega arith

---- events in order

after_onto : (catalog : List Table) (older labelled : List Labelled) → catalog_now catalog (fold (λ newer x. x ∷ newer) older labelled) ≡ catalog_after (catalog_now catalog older) (events_of labelled)
after_onto catalog older [] = refl
after_onto catalog older (p ∷ labelled) = after_onto catalog (p ∷ older) labelled

-- the tables after the events so far are those after the events in order
pub now_after : (catalog : List Table) (labelled past : List Labelled) (events : List Event) → events ≡ events_of labelled → past ≡ newest_first labelled → catalog_now catalog past ≡ catalog_after catalog events
now_after catalog labelled past events same turned = ap (catalog_now catalog) turned ∙ after_onto catalog [] labelled ∙ ap (catalog_after catalog) (sym same)

-- so are those after the first n
upto_onto : (catalog : List Table) (n : ℕ) (older labelled : List Labelled) → n ≤ length older → catalog_upto catalog (fold (λ newer x. x ∷ newer) older labelled) n ≡ catalog_upto catalog older n
upto_onto catalog n older [] l = refl
upto_onto catalog n older (p ∷ labelled) l = upto_onto catalog n (p ∷ older) labelled (still_up n (length older) l) ∙ upto_before catalog p older n l

upto_from : (catalog : List Table) (n m : ℕ) (older labelled : List Labelled) → length older ≡ m → catalog_upto catalog (fold (λ newer x. x ∷ newer) older labelled) (m + n) ≡ catalog_after (catalog_now catalog older) (take n (events_of labelled))
upto_from catalog zero m older labelled e = upto_onto catalog (m + 0) older labelled (low m (length older) e) ∙ upto_now catalog older (m + 0) (high m (length older) e)
  where
    low : (m k : ℕ) → k ≡ m → m + 0 ≤ k
    low m k e = omega arith

    high : (m k : ℕ) → k ≡ m → k ≤ m + 0
    high m k e = omega arith
upto_from catalog (suc n) m older [] e = upto_now catalog older (m + suc n) (high m n (length older) e)
  where
    high : (m n k : ℕ) → k ≡ m → k ≤ m + suc n
    high m n k e = omega arith
upto_from catalog (suc n) m older (p ∷ labelled) e =
    ap (catalog_upto catalog (fold (λ newer x. x ∷ newer) (p ∷ older) labelled)) (moves m n) ∙ upto_from catalog n (suc m) (p ∷ older) labelled (ap suc e)
  where
    moves : (m n : ℕ) → m + suc n ≡ suc m + n
    moves m n = omega arith

pub upto_after : (catalog : List Table) (labelled : List Labelled) (n : ℕ) → catalog_upto catalog (newest_first labelled) n ≡ catalog_after catalog (take n (events_of labelled))
upto_after catalog labelled n = ap (catalog_upto catalog (newest_first labelled)) (from_zero n) ∙ upto_from catalog n 0 [] labelled refl
  where
    from_zero : (m : ℕ) → m ≡ 0 + m
    from_zero m = omega arith

---- events that add no column

-- an event of a client is at rest, and adds no column
pub by_rest : (past : List Labelled) (c : ℕ) (e : Event) → IsBy c e → IsAtRest past e
by_rest past c (event.Take d text a) b = tt
by_rest past c (event.Call d store q how r a) b = tt
by_rest past c (event.Stop d) b = tt
by_rest past c (event.Clock moment) b = absurd b
by_rest past c (event.Idle d) b = tt
by_rest past c (event.Land number store q how r) b = absurd b
by_rest past c (event.Alter table column kind a) b = absurd b

pub by_adds : (c : ℕ) (e : Event) → IsBy c e → (ts : List Table) → added ts e ≡ ts
by_adds c (event.Take d text a) b ts = refl
by_adds c (event.Call d store q how r a) b ts = refl
by_adds c (event.Stop d) b ts = refl
by_adds c (event.Clock moment) b ts = absurd b
by_adds c (event.Idle d) b ts = refl
by_adds c (event.Land number store q how r) b ts = absurd b
by_adds c (event.Alter table column kind a) b ts = absurd b

-- nor does any event while a transaction is open of a client that goes on
live_adds : (past : List Labelled) (e : Event) → IsAtRest past e → (u : ℕ) → (protocol_state past).is_open u ≡ true → (protocol_state past).stopped ((protocol_state past).owner u) ≡ false → (ts : List Table) → added ts e ≡ ts
live_adds past (event.Take d text a) rest u o s ts = refl
live_adds past (event.Call d store q how r a) rest u o s ts = refl
live_adds past (event.Stop d) rest u o s ts = refl
live_adds past (event.Clock moment) rest u o s ts = refl
live_adds past (event.Idle d) rest u o s ts = refl
live_adds past (event.Land number store q how r) rest u o s ts = refl
live_adds past (event.Alter table column kind altered.Done) rest u o s ts = clash (sym (rest u o) ∙ s)
live_adds past (event.Alter table column kind altered.Open) rest u o s ts = refl
live_adds past (event.Alter table column kind (altered.Refused k)) rest u o s ts = refl

---- while a transaction is open

-- what an event leaves of a transaction that it doesn't begin
record Stays (t : ℕ) (h v : ProtocolState) : Type 0 where
  begun : v.begun t ≡ h.begun t
  owner : v.owner t ≡ h.owner t
  is_open : v.is_open t ≡ true → h.is_open t ≡ true
  stopped : (c : ℕ) → h.stopped c ≡ true → v.stopped c ≡ true

ended_stays : (t : ℕ) (h v : ProtocolState) (o : Option ℕ) → Stays t h v → Stays t h (ended v o)
ended_stays t h v None s = s
ended_stays t h v (Some w) s = record { begun = s.begun; owner = s.owner; is_open = λ e. s.is_open (by (t == w) e); stopped = s.stopped }
  where
    by : (b : Bool) → (if b then false else v.is_open t) ≡ true → v.is_open t ≡ true
    by true e = clash (sym e)
    by false e = e

begins_other : (h : ProtocolState) (u c t : ℕ) → (t == u) ≡ false → Stays t h (state_after_event h (laws.Begins u c))
begins_other h u c t f = record {
  begun = ap (λ b. if b then h.now + 1 else h.begun t) f;
  owner = ap (λ b. if b then c else h.owner t) f;
  is_open = λ e. sym (ap (λ b. if b then true else h.is_open t) f) ∙ e;
  stopped = λ d s. s;
}

ended_begun : (v : ProtocolState) (o : Option ℕ) (t : ℕ) → (ended v o).begun t ≡ v.begun t
ended_begun v None t = refl
ended_begun v (Some w) t = refl

-- a transaction began under the tables of the moment, if it is open and its client goes on
abbrev IsLive : List Table → List Labelled → ℕ → Type 0
IsLive catalog past t = (protocol_state past).is_open t ≡ true → (protocol_state past).stopped ((protocol_state past).owner t) ≡ false → catalog_at_begin catalog past t ≡ catalog_now catalog past

live_step : (catalog : List Table) (p : Labelled) (past : List Labelled) → AreAtRest (p ∷ past) → (t : ℕ) → IsLive catalog past t → IsLive catalog (p ∷ past) t
live_step catalog p past rest t was o s = by p.action refl
  where
    h : ProtocolState
    h = protocol_state past

    v : ProtocolState
    v = protocol_state (p ∷ past)

    stays : Stays t h v → catalog_at_begin catalog (p ∷ past) t ≡ catalog_now catalog (p ∷ past)
    stays x =
        let going : h.stopped (h.owner t) ≡ false = by_test (h.stopped (h.owner t)) (λ e. clash (sym (x.stopped (h.owner t) e) ∙ ap v.stopped (sym x.owner) ∙ s)) (λ e. e) in
        begin_same catalog p past t x.begun ∙ was (x.is_open o) going ∙ sym (live_adds past p.event rest.1 t (x.is_open o) going (catalog_now catalog past))

    none : BeginsNone p.action → catalog_at_begin catalog (p ∷ past) t ≡ catalog_now catalog (p ∷ past)
    none n = let g = event_goes past p n in stays (record { begun = g.begun t; owner = g.owner t; is_open = g.is_open t; stopped = g.stopped })

    by : (r : Action) → p.action ≡ r → catalog_at_begin catalog (p ∷ past) t ≡ catalog_now catalog (p ∷ past)
    by (laws.Begins u c) e = by_test (t == u)
        (λ m. last_now catalog p past t (v.begun t) (ended_begun (state_after_event h p.action) p.ends t ∙ ap (λ (r : Action). (state_after_event h r).begun t) e ∙ ap (λ b. if b then h.now + 1 else h.begun t) m))
        (λ m. stays (ended_stays t h (state_after_event h p.action) p.ends (subst (λ (r : Action). Stays t h (state_after_event h r)) (sym e) (begins_other h u c t m))))
    by laws.Other e = none (subst BeginsNone (sym e) tt)
    by (laws.Takes u) e = none (subst BeginsNone (sym e) tt)
    by (laws.Prepares u ks word) e = none (subst BeginsNone (sym e) tt)
    by (laws.Checks u i) e = none (subst BeginsNone (sym e) tt)
    by (laws.Decides u word) e = none (subst BeginsNone (sym e) tt)
    by (laws.Aborts u m word) e = none (subst BeginsNone (sym e) tt)
    by (laws.Rolls u ks d) e = none (subst BeginsNone (sym e) tt)
    by (laws.Removes k u) e = none (subst BeginsNone (sym e) tt)
    by (laws.Ends u) e = none (subst BeginsNone (sym e) tt)
    by (laws.Stops c) e = none (subst BeginsNone (sym e) tt)

-- The tables when a transaction began are those of the moment, while it is open and its client goes on.
pub live_catalog : (catalog : List Table) (past : List Labelled) → AreAtRest past → (t : ℕ) → (protocol_state past).is_open t ≡ true → (protocol_state past).stopped ((protocol_state past).owner t) ≡ false → catalog_at_begin catalog past t ≡ catalog_now catalog past
live_catalog catalog [] rest t o s = refl
live_catalog catalog (p ∷ past) rest t o s = live_step catalog p past rest t (live_catalog catalog past rest.0 t) o s

---- at its point

-- an event that gives a transaction no point, and takes no COMMIT of it
abbrev IsPointless : ℕ → Action → Type 0
IsPointless t (laws.Takes u) = (t == u) ≡ false
IsPointless t (laws.Prepares u ks word) = ((t == u) ≡ false) ⊎ (is_yes word ≡ false)
IsPointless t (laws.Begins u c) = (t == u) ≡ false
IsPointless t r = Unit {0}

record SamePoint (t : ℕ) (h v : ProtocolState) : Type 0 where
  begun : v.begun t ≡ h.begun t
  accepted : v.accepted t ≡ h.accepted t
  point : v.point t ≡ h.point t

prepared_point : (h : ProtocolState) (u t : ℕ) (word : Ack) → ((t == u) ≡ false) ⊎ (is_yes word ≡ false) → (if is_yes word then laws.at h.point u (h.now + 1) else h.point) t ≡ h.point t
prepared_point h u t Yes (inl f) = ap (λ b. if b then h.now + 1 else h.point t) f
prepared_point h u t Yes (inr f) = clash f
prepared_point h u t No f = refl
prepared_point h u t NoAck f = refl
prepared_point h u t OutOfMemory f = refl

pointless : (h : ProtocolState) (r : Action) (t : ℕ) → IsPointless t r → SamePoint t h (state_after_event h r)
pointless h laws.Other t f = record { begun = refl; accepted = refl; point = refl }
pointless h (laws.Begins u c) t f = record { begun = ap (λ b. if b then h.now + 1 else h.begun t) f; accepted = refl; point = refl }
pointless h (laws.Takes u) t f = record { begun = refl; accepted = ap (λ b. if b then true else h.accepted t) f; point = ap (λ b. if b then h.now + 1 else h.point t) f }
pointless h (laws.Prepares u ks word) t f = record { begun = refl; accepted = refl; point = prepared_point h u t word f }
pointless h (laws.Checks u i) t f = record { begun = refl; accepted = refl; point = refl }
pointless h (laws.Decides u word) t f = record { begun = refl; accepted = refl; point = refl }
pointless h (laws.Aborts u m word) t f = record { begun = refl; accepted = refl; point = refl }
pointless h (laws.Rolls u ks d) t f = record { begun = refl; accepted = refl; point = refl }
pointless h (laws.Removes k u) t f = record { begun = refl; accepted = refl; point = refl }
pointless h (laws.Ends u) t f = record { begun = refl; accepted = refl; point = refl }
pointless h (laws.Stops c) t f = record { begun = refl; accepted = refl; point = refl }

ended_pointless : (t : ℕ) (h v : ProtocolState) (o : Option ℕ) → SamePoint t h v → SamePoint t h (ended v o)
ended_pointless t h v None s = s
ended_pointless t h v (Some w) s = record { begun = s.begun; accepted = s.accepted; point = s.point }

ended_point : (v : ProtocolState) (o : Option ℕ) (t : ℕ) → (ended v o).point t ≡ v.point t
ended_point v None t = refl
ended_point v (Some w) t = refl

-- a transaction whose COMMIT is accepted, or makes a call, is open, and its client goes on
record IsGoing (past : List Labelled) (e : Event) (t : ℕ) : Type 0 where
  is_open : (protocol_state past).is_open t ≡ true
  going : (protocol_state past).stopped ((protocol_state past).owner t) ≡ false
  adds : (ts : List Table) → added ts e ≡ ts

take_goes : (plan : ℕ → Plan) (past : List Labelled) (e : Event) (t : ℕ) → IsLawful plan past → MayOccur plan past e (laws.Takes t) → IsGoing past e t
take_goes plan past e t l m = elim (occurs_by plan past e (laws.Takes t) m) [
  | inl k ↦ record { is_open = k.is_open; going = ap (protocol_state past).stopped k.owner ∙ k.goes_on; adds = λ ts. ap (added ts) k.take }
  | inr d ↦ absurd (delayed_unanswered plan past d.request (laws.Takes t) l d.was)
]

prepare_goes : (plan : ℕ → Plan) (past : List Labelled) (e : Event) (t : ℕ) (ks : List Key) → IsLawful plan past → MayOccur plan past e (laws.Prepares t ks Yes) → IsGoing past e t
prepare_goes plan past e t ks l m = elim (occurs_by plan past e (laws.Prepares t ks Yes) m) [
  | inl k ↦ record { is_open = k.within.is_open; going = ap (protocol_state past).stopped k.within.owner ∙ k.within.goes_on; adds = λ ts. ap (added ts) k.call.call }
  | inr d ↦ absurd (cc ((delayed_unanswered plan past d.request (laws.Prepares t ks Yes) l d.was).2))
]

-- a transaction that is open, or whose COMMIT was accepted, has begun
record HasBegun (h : ProtocolState) (t : ℕ) : Type 0 where
  is_open : h.is_open t ≡ true → h.begun t ≢ 0
  accepted : h.accepted t ≡ true → h.begun t ≢ 0

ended_has : (v : ProtocolState) (o : Option ℕ) (t : ℕ) → HasBegun v t → HasBegun (ended v o) t
ended_has v None t b = b
ended_has v (Some w) t b = record { is_open = λ e. by (t == w) e; accepted = b.accepted }
  where
    by : (z : Bool) → (if z then false else v.is_open t) ≡ true → v.begun t ≢ 0
    by true e = clash (sym e)
    by false e = b.is_open e

begins_has : (h : ProtocolState) (u c t : ℕ) → HasBegun h t → HasBegun (state_after_event h (laws.Begins u c)) t
begins_has h u c t b = record { is_open = λ e. opened (t == u) e; accepted = λ e. kept (t == u) (b.accepted e) }
  where
    more : (n : ℕ) → n + 1 ≢ 0
    more n e = absurd (omega (arith, e))

    kept : (z : Bool) → h.begun t ≢ 0 → (if z then h.now + 1 else h.begun t) ≢ 0
    kept true n = more h.now
    kept false n = n

    opened : (z : Bool) → (if z then true else h.is_open t) ≡ true → (if z then h.now + 1 else h.begun t) ≢ 0
    opened true e = more h.now
    opened false e = b.is_open e

takes_has : (h : ProtocolState) (u t : ℕ) → h.is_open u ≡ true → HasBegun h t → HasBegun h u → HasBegun (state_after_event h (laws.Takes u)) t
takes_has h u t opens b own = record { is_open = b.is_open; accepted = λ e. by (t == u) refl e }
  where
    by : (z : Bool) → (t == u) ≡ z → (if z then true else h.accepted t) ≡ true → h.begun t ≢ 0
    by true s e = subst (λ w. h.begun w ≢ 0) (sym (eq_of t u s)) (own.is_open opens)
    by false s e = b.accepted e

begun_step : (plan : ℕ → Plan) (p : Labelled) (past : List Labelled) → IsLawful plan (p ∷ past) → (t : ℕ) → ((u : ℕ) → HasBegun (protocol_state past) u) → HasBegun (protocol_state (p ∷ past)) t
begun_step plan p past l t before = ended_has (state_after_event h p.action) p.ends t (by p.action l.1)
  where
    h : ProtocolState
    h = protocol_state past

    same : HasBegun h t
    same = before t

    by : (r : Action) → MayOccur plan past p.event r → HasBegun (state_after_event h r) t
    by (laws.Begins u c) m = begins_has h u c t same
    by (laws.Takes u) m = takes_has h u t (take_goes plan past p.event u l.0 m).is_open same (before u)
    by laws.Other m = record { is_open = same.is_open; accepted = same.accepted }
    by (laws.Prepares u ks word) m = record { is_open = same.is_open; accepted = same.accepted }
    by (laws.Checks u i) m = record { is_open = same.is_open; accepted = same.accepted }
    by (laws.Decides u word) m = record { is_open = same.is_open; accepted = same.accepted }
    by (laws.Aborts u k word) m = record { is_open = same.is_open; accepted = same.accepted }
    by (laws.Rolls u ks d) m = record { is_open = same.is_open; accepted = same.accepted }
    by (laws.Removes k u) m = record { is_open = same.is_open; accepted = same.accepted }
    by (laws.Ends u) m = record { is_open = λ e. ended_only (t == u) e; accepted = same.accepted }
      where
        ended_only : (z : Bool) → (if z then false else h.is_open t) ≡ true → h.begun t ≢ 0
        ended_only true e = clash (sym e)
        ended_only false e = same.is_open e
    by (laws.Stops c) m = record { is_open = same.is_open; accepted = same.accepted }

has_begun : (plan : ℕ → Plan) (past : List Labelled) → IsLawful plan past → (t : ℕ) → HasBegun (protocol_state past) t
has_begun plan [] l t = record { is_open = λ e. clash (sym e); accepted = λ e. clash (sym e) }
has_begun plan (p ∷ past) l t = begun_step plan p past l t (has_begun plan past l.0)

-- the tables at a transaction's point are those when it began, if its COMMIT was accepted
abbrev IsOfBegin : List Table → List Labelled → ℕ → Type 0
IsOfBegin catalog past t = (protocol_state past).accepted t ≡ true → catalog_at_point catalog past t ≡ catalog_at_begin catalog past t

point_step : (plan : ℕ → Plan) (catalog : List Table) (p : Labelled) (past : List Labelled) → IsLawful plan (p ∷ past) → AreAtRest (p ∷ past) → (t : ℕ) → IsOfBegin catalog past t → IsOfBegin catalog (p ∷ past) t
point_step plan catalog p past l rest t was a = by p.action refl l.1
  where
    h : ProtocolState
    h = protocol_state past

    v : ProtocolState
    v = protocol_state (p ∷ past)

    -- it has no new point
    stays : IsPointless t p.action → catalog_at_point catalog (p ∷ past) t ≡ catalog_at_begin catalog (p ∷ past) t
    stays f =
        let x : SamePoint t h v = ended_pointless t h (state_after_event h p.action) p.ends (pointless h p.action t f) in
        point_same catalog p past t x.point ∙ was (sym x.accepted ∙ a) ∙ sym (begin_same catalog p past t x.begun)

    -- it has: that of this event
    moves : IsGoing past p.event t → v.begun t ≡ h.begun t → v.point t ≡ h.now + 1 → catalog_at_point catalog (p ∷ past) t ≡ catalog_at_begin catalog (p ∷ past) t
    moves g same here =
        last_now catalog p past t (v.point t) here ∙ g.adds (catalog_now catalog past) ∙ sym (live_catalog catalog past rest.0 t g.is_open g.going) ∙ sym (begin_same catalog p past t same)

    begun_by : (r : Action) → p.action ≡ r → BeginsNone r → v.begun t ≡ h.begun t
    begun_by r e none = (event_goes past p (subst BeginsNone (sym e) none)).begun t

    point_by : (r : Action) → p.action ≡ r → v.point t ≡ (state_after_event h r).point t
    point_by r e = ended_point (state_after_event h p.action) p.ends t ∙ ap (λ (s : Action). (state_after_event h s).point t) e

    point_at : (u : ℕ) → (t == u) ≡ true → laws.at h.point u (h.now + 1) t ≡ h.now + 1
    point_at u m = ap (λ b. if b then h.now + 1 else h.point t) m

    by : (r : Action) → p.action ≡ r → MayOccur plan past p.event p.action → catalog_at_point catalog (p ∷ past) t ≡ catalog_at_begin catalog (p ∷ past) t
    by (laws.Takes u) e m = by_test (t == u)
        (λ s. moves (take_goes plan past p.event t l.0 (subst (λ (w : ℕ). MayOccur plan past p.event (laws.Takes w)) (sym (eq_of t u s)) (subst (MayOccur plan past p.event) e m))) (begun_by (laws.Takes u) e tt) (point_by (laws.Takes u) e ∙ point_at u s))
        (λ s. stays (subst (IsPointless t) (sym e) s))
    by (laws.Prepares u ks Yes) e m = by_test (t == u)
        (λ s. moves (prepare_goes plan past p.event t ks l.0 (subst (λ (w : ℕ). MayOccur plan past p.event (laws.Prepares w ks Yes)) (sym (eq_of t u s)) (subst (MayOccur plan past p.event) e m))) (begun_by (laws.Prepares u ks Yes) e tt) (point_by (laws.Prepares u ks Yes) e ∙ point_at u s))
        (λ s. stays (subst (IsPointless t) (sym e) (inl s)))
    by (laws.Prepares u ks No) e m = stays (subst (IsPointless t) (sym e) (inr refl))
    by (laws.Prepares u ks NoAck) e m = stays (subst (IsPointless t) (sym e) (inr refl))
    by (laws.Prepares u ks OutOfMemory) e m = stays (subst (IsPointless t) (sym e) (inr refl))
    by (laws.Begins u c) e m = by_test (t == u)
        (λ s. absurd ((has_begun plan past l.0 t).accepted (sym (ended_taken (state_after_event h p.action) p.ends t ∙ ap (λ (r : Action). (state_after_event h r).accepted t) e) ∙ a)
        (ap h.begun (eq_of t u s) ∙ (fresh u c (subst (MayOccur plan past p.event) e m)))))
        (λ s. stays (subst (IsPointless t) (sym e) s))
      where
        fresh : (u c : ℕ) → MayOccur plan past p.event (laws.Begins u c) → h.begun u ≡ 0
        fresh u c k = elim (occurs_by plan past p.event (laws.Begins u c) k) [
          | inl b ↦ b.fresh
          | inr d ↦ absurd (delayed_unanswered plan past d.request (laws.Begins u c) l.0 d.was)
        ]
    by laws.Other e m = stays (subst (IsPointless t) (sym e) tt)
    by (laws.Checks u i) e m = stays (subst (IsPointless t) (sym e) tt)
    by (laws.Decides u word) e m = stays (subst (IsPointless t) (sym e) tt)
    by (laws.Aborts u k word) e m = stays (subst (IsPointless t) (sym e) tt)
    by (laws.Rolls u ks d) e m = stays (subst (IsPointless t) (sym e) tt)
    by (laws.Removes k u) e m = stays (subst (IsPointless t) (sym e) tt)
    by (laws.Ends u) e m = stays (subst (IsPointless t) (sym e) tt)
    by (laws.Stops c) e m = stays (subst (IsPointless t) (sym e) tt)

-- The tables at the point of a transaction whose COMMIT was accepted are those when it began.
pub point_catalog : (plan : ℕ → Plan) (catalog : List Table) (past : List Labelled) → IsLawful plan past → AreAtRest past → (t : ℕ) → (protocol_state past).accepted t ≡ true → catalog_at_point catalog past t ≡ catalog_at_begin catalog past t
point_catalog plan catalog [] l rest t a = refl
point_catalog plan catalog (p ∷ past) l rest t a = point_step plan catalog p past l rest t (point_catalog plan catalog past l.0 rest.0 t) a
