-- Real time in the words of the model.
use Rattle.std.proofs.Common.{◌≡◌, ◌≢◌, ℕ, zero, suc, ◌+◌, ◌<◌, ◌≤◌, ◌^◌, Bool, true, List, [], ◌∷◌, ◌++◌, length, map, Some, None, ◌⊎◌, inl, inr, refl, sym, ap, subst, ◌∙◌, arith, Option, false}
use Rattle.std.specs.Prelude.{slice_index, slice_index_or, All, Contains, unwrap_or}
use Rattle.std.specs.Option.{option_map, option_map_or, option_and_then}
use Rattle.std.specs.List.Sorted.{IsStrictlyIncreasing}
use Rattle.law_protocol.specs.Types.{Answer, Place, Point, TxId}
use Rattle.sdb_record.specs.declared.coordinator.Decision.TheVariants.{Committed}
use Rattle.sdb_model.specs.Events.{StoreContents}
use Rattle.sdb_model.specs.Transactions.{Executed, commit_of, point, last_prepare, Recorded, IsOrder}
use Rattle.sdb_model.specs.Serial.{Precedes, TransactionsInRealTime}
use Rattle.law_protocol.specs.Plan.{Plan}
use Rattle.law_protocol.specs.History.{ProtocolState, History, happens, Action}
use Rattle.law_protocol.specs.Lawful.{Labelled, id, is_denial, protocol_state}
use Rattle.law_protocol.specs.Trace.{closing, history}
use Rattle.law_protocol.specs.Explained.{IsRunOf, newest_first, events_of}
use Rattle.law_protocol.specs.Faithful.{IsAnsweredCommittedAt, IsFaithful, AnswersAreTrue}
use Rattle.sdb_model.specs.declared.answer.Answer.TheVariants as answer
use Rattle.law_protocol.specs.Serial.{IsIn, AllAbove, IsRising, IsOrdered}
use Rattle.law_protocol.proofs.Known.{accepted_fits}
use Rattle.law_protocol.proofs.Allowed.{Allowed}
use Rattle.law_protocol.proofs.Small.{row_kept, decided_kept, any_key}
use Rattle.law_protocol.proofs.Seen.{All as Holds}
use Rattle.law_protocol.proofs.Derived.{recorded_row, row_recorded}
use Rattle.law_protocol.proofs.Whole.{Whole}
use Rattle.law_protocol.proofs.Times.{whole_of, one_more, earlier_run, told_recorded, denied_never_recorded}
use Rattle.law_protocol.proofs.Points.{point_is_last}

---- who was answered, by number

decided_by : (plan : ℕ → Plan) (t n : ℕ) (w : History) (r : Action) (done : Bool) → Holds plan w → Allowed plan w r done → (w.row t ≡ Some Committed) × (w.decided_at t ≤ n) → ((happens plan w r done).row t ≡ Some Committed) × ((happens plan w r done).decided_at t ≤ n)
decided_by plan t n w r done i a h = (row_kept plan w r done t Committed a h.0, below (happens plan w r done).decided_at (decided_kept plan w r done t a (some h.0)).1 h.1)
  where
    some : w.row t ≡ Some Committed → w.row t ≢ None
    some e z = absurd (grind arith)

    below : (f : ℕ → ℕ) → f t ≡ w.decided_at t → w.decided_at t ≤ n → f t ≤ n
    below f e l = omega arith

pub told_decided : (plan : ℕ → Plan) (places : List Place) (opening : List StoreContents) (past : List Labelled) (ss : List (List StoreContents)) (t n : ℕ) → IsRunOf plan places opening past ss → IsAnsweredCommittedAt past t n → ((history plan places opening past ss).row t ≡ Some Committed) × ((history plan places opening past ss).decided_at t ≤ n)
told_decided plan places opening [] ss t n r acked = absurd acked
told_decided plan places opening (p ∷ past) [] t n r acked = absurd r.traced
told_decided plan places opening (p ∷ past) (s ∷ ss) t n r (inl h) =
    let now = whole_of plan places opening (p ∷ past) (s ∷ ss) r in
    let row = told_recorded plan places opening (p ∷ past) (s ∷ ss) t r (inl (h.0, h.1)) in
    (row, subst (λ m. (history plan places opening (p ∷ past) (s ∷ ss)).decided_at t ≤ m) (sym (h.2 ∙ ap (λ (x : ProtocolState). x.now) now.knows.talks)) ((now.all.one.heard t).3 (some row)))
  where
    some : (history plan places opening (p ∷ past) (s ∷ ss)).row t ≡ Some Committed → (history plan places opening (p ∷ past) (s ∷ ss)).row t ≢ None
    some e z = apart (sym e ∙ z)
      where
        apart : Some Committed ≡ None → ⊥
        apart x = absurd (cc)
told_decided plan places opening (p ∷ past) (s ∷ ss) t n r (inr h) =
    one_more plan places opening p past s ss (λ w. (w.row t ≡ Some Committed) × (w.decided_at t ≤ n)) (decided_by plan t n) (λ w u h. h) r (told_decided plan places opening past ss t n (earlier_run plan places opening p past s ss r) h)

---- lists of points

abbrev IsAt : TxId → List Point → Type 0
IsAt t [] = ⊥
IsAt t (p ∷ ps) = (p.id ≡ t) ⊎ IsAt t ps

at_of : (ps : List Point) (t : TxId) (k : ℕ) → k < length (map (λ (p : Point). p.id) ps) → slice_index_or (map (λ (p : Point). p.id) ps) k t ≡ t → IsAt t ps
at_of [] t k l e = absurd (omega arith)
at_of (p ∷ ps) t zero l e = inl e
at_of (p ∷ ps) t (suc k) l e = inr (at_of ps t k (omega arith) e)

-- each has the event that a function says
abbrev AreAt : (TxId → ℕ) → List Point → Type 0
AreAt f [] = Unit {0}
AreAt f (p ∷ ps) = (p.event ≡ f p.id) × AreAt f ps

are_at : (f : TxId → ℕ) (ps : List Point) → All (λ (p : Point). p.event ≡ f p.id) ps → AreAt f ps
are_at f [] a = tt
are_at f (p ∷ ps) a = (a 0 p (omega arith), are_at f ps (λ k d l. a (suc k) d (omega arith)))

abbrev AllPast : ℕ → List Point → Type 0
AllPast n [] = Unit {0}
AllPast n (p ∷ ps) = (n < p.event) × AllPast n ps

abbrev Rises : List Point → Type 0
Rises [] = Unit {0}
Rises (p ∷ ps) = AllPast p.event ps × Rises ps

past_more : (m n : ℕ) (ps : List Point) → m < n → AllPast n ps → AllPast m ps
past_more m n [] l a = tt
past_more m n (p ∷ ps) l a = (lower p.event a.0, past_more m n ps l a.1)
  where
    lower : (x : ℕ) → n < x → m < x
    lower x h = omega arith

pub rest_rising : (x : ℕ) (xs : List ℕ) → IsStrictlyIncreasing (x ∷ xs) → IsStrictlyIncreasing xs
rest_rising x xs r k l = subst (λ m. slice_index xs k < slice_index (x ∷ xs) m) (next k) (r (suc k) (omega arith))
  where
    next : (k : ℕ) → suc k + 1 ≡ suc (k + 1)
    next k = omega arith

rises : (ps : List Point) → IsStrictlyIncreasing (map (λ (p : Point). p.event) ps) → Rises ps
rises [] r = tt
rises (p ∷ []) r = (tt, tt)
rises (p ∷ q ∷ ps) r =
    let rest = rises (q ∷ ps) (rest_rising p.event (map (λ (x : Point). x.event) (q ∷ ps)) r) in
    let first : p.event < q.event = r 0 (omega arith) in
    ((first, past_more p.event q.event ps first rest.0), rest)

past_at : (f : TxId → ℕ) (n : ℕ) (ps : List Point) (t : TxId) → AreAt f ps → AllPast n ps → IsAt t ps → n < f t
past_at f n [] t a b m = absurd m
past_at f n (p ∷ ps) t a b (inl e) = subst (λ x. n < x) (a.0 ∙ ap f e) b.0
past_at f n (p ∷ ps) t a b (inr m) = past_at f n ps t a.1 b.1 m

split_at : (ps : List Point) (t : TxId) → IsAt t ps → (front : List Point) × (n : ℕ) × (back : List Point) × (ps ≡ front ++ record { id = t; event = n } ∷ back)
split_at [] t m = absurd m
split_at (p ∷ ps) t (inl e) = ([], p.event, ps, ap (λ x. record { id = x; event = p.event } ∷ ps) e)
split_at (p ∷ ps) t (inr m) = let s = split_at ps t m in (p ∷ s.0, s.1, s.2, ap (λ x. p ∷ x) s.3)

agrees : (f : TxId → ℕ) (ps : List Point) (early late : TxId) → AreAt f ps → Rises ps → IsAt early ps → IsAt late ps → f early < f late → Precedes ps early late
agrees f [] early late a r m n l = absurd m
agrees f (p ∷ ps) early late a r (inl e) (inl g) l = absurd (irrefl (f early) (subst (λ x. f early < f x) (sym g ∙ e) l))
  where
    irrefl : (x : ℕ) → x < x → ⊥
    irrefl x l = omega arith
agrees f (p ∷ ps) early late a r (inl e) (inr n) l =
    let s = split_at ps late n in
    record { front = []; middle = s.0; back = s.2; at = p.event; later_at = s.1; same = ap (λ x. record { id = x; event = p.event } ∷ ps) e ∙ ap (λ x. record { id = early; event = p.event } ∷ x) s.3 }
agrees f (p ∷ ps) early late a r (inr m) (inl g) l = absurd (cross (f early) (f late) l (subst (λ x. x < f early) (a.0 ∙ ap f g) (past_at f p.event ps early a.1 r.0 m)))
  where
    cross : (x y : ℕ) → x < y → y < x → ⊥
    cross x y l g = omega arith
agrees f (p ∷ ps) early late a r (inr m) (inr n) l =
    let s = agrees f ps early late a.1 r.1 m n l in
    record { front = p ∷ s.front; middle = s.middle; back = s.back; at = s.at; later_at = s.later_at; same = ap (λ x. p ∷ x) s.same }

---- real time

pub point_of : {plan : ℕ → Plan} {places : List Place} {opening : List StoreContents} (labelled : List Labelled) {ss : List (List StoreContents)} (t : ℕ) → IsRunOf plan places opening (newest_first labelled) ss → IsFaithful (events_of labelled) (newest_first labelled) → t < 2 ^ 128 → (protocol_state (newest_first labelled)).accepted t ≡ true → point (events_of labelled) (id t) ≡ (protocol_state (newest_first labelled)).point t
point_of {plan} {places} {opening} labelled {ss} t r faithful fits accepted =
    ap (unwrap_or (last_prepare (events_of labelled) (id t))) (faithful.accepted t accepted) ∙ sym (point_is_last plan places opening labelled ss t r fits accepted)

pub keeps_real_time : (plan : ℕ → Plan) (places : List Place) (opening : List StoreContents) (labelled : List Labelled) (ss : List (List StoreContents)) (order : List Point) → IsRunOf plan places opening (newest_first labelled) ss → IsFaithful (events_of labelled) (newest_first labelled) → IsOrder places (events_of labelled) (closing opening ss) order → TransactionsInRealTime places (events_of labelled) (closing opening ss) order
keeps_real_time plan places opening labelled ss order r faithful o early late fits_early fits_late s commit acked recorded m n ended begun lt =
    agrees (point (events_of labelled)) order early late (are_at (point (events_of labelled)) order o.points) (rises order o.rising)
    (among early fits_early (row_recorded plan places w past end early.0 i fits_early decided.0)) (among late fits_late recorded)
    (less (point_of labelled early.0 r faithful fits_early (accepted early.0 decided.0)) (point_of labelled late.0 r faithful fits_late (accepted late.0 row)) below)
  where
    past : List Labelled
    past = newest_first labelled

    end : List StoreContents
    end = closing opening ss

    w : History
    w = history plan places opening (newest_first labelled) ss

    i : Whole plan places (history plan places opening (newest_first labelled) ss) (newest_first labelled) (closing opening ss)
    i = whole_of plan places opening (newest_first labelled) ss r

    decided : ((history plan places opening (newest_first labelled) ss).row early.0 ≡ Some Committed) × ((history plan places opening (newest_first labelled) ss).decided_at early.0 ≤ s.reached)
    decided = told_decided plan places opening (newest_first labelled) ss early.0 s.reached r (faithful.answered early.0 s fits_early commit acked)

    reached : s.reached ≡ m
    reached = ap (λ (o : Option ℕ). unwrap_or o 0) (ap (option_map (λ (a : Answer). s.reached)) (sym acked) ∙ ended)

    row : (history plan places opening (newest_first labelled) ss).row late.0 ≡ Some Committed
    row = recorded_row plan places (history plan places opening (newest_first labelled) ss) (newest_first labelled) (closing opening ss) late.0 i fits_late recorded

    accepted : (t : ℕ) → (history plan places opening (newest_first labelled) ss).row t ≡ Some Committed → (protocol_state (newest_first labelled)).accepted t ≡ true
    accepted t h = subst (λ (x : ProtocolState). x.accepted t ≡ true) (sym i.knows.talks) (here h)
      where
        here : (history plan places opening (newest_first labelled) ss).row t ≡ Some Committed → (history plan places opening (newest_first labelled) ss).protocol.accepted t ≡ true
        here h = grind (arith, i.all.one.accepted t any_key 0)

    among : (t : TxId) → t.0 < 2 ^ 128 → Recorded places (closing opening ss) t → IsAt t order
    among t fits rec = let c = (o.recorded t fits).1 rec in at_of order t c.0 c.1 c.2

    began : (protocol_state (newest_first labelled)).begun late.0 ≡ n
    began = faithful.begun late.0 n fits_late begun

    below : (protocol_state (newest_first labelled)).point early.0 < (protocol_state (newest_first labelled)).point late.0
    below = subst (λ (x : ProtocolState). x.point early.0 < x.point late.0) (sym i.knows.talks) (chain (i.all.one.decided early.0 decided.0).point decided.1 reached (subst (λ (x : ProtocolState). x.begun late.0 ≡ n) i.knows.talks began) ((i.all.one.begun late.0).1 (subst (λ (x : ProtocolState). x.accepted late.0 ≡ true) i.knows.talks (accepted late.0 row))).1)
      where
        chain : {a b c d k : ℕ} → a < b → b ≤ k → k ≡ m → c ≡ n → c < d → a < d
        chain x y r z u = omega arith

    less : {a b x y : ℕ} → a ≡ x → b ≡ y → x < y → a < b
    less e f l = omega arith

---- the order

is_in : (t : ℕ) (ps : List Point) → IsAt (id t) ps → IsIn t (map (λ (p : Point). p.id.0) ps)
is_in t [] m = absurd m
is_in t (p ∷ ps) (inl e) = inl (sym (ap (λ (x : TxId). x.0) e))
is_in t (p ∷ ps) (inr m) = inr (is_in t ps m)

contains_of : (t : TxId) (ps : List Point) → IsAt t ps → Contains (map (λ (p : Point). p.id) ps) t
contains_of t [] m = absurd m
contains_of t (p ∷ ps) (inl e) = (0, omega arith, e)
contains_of t (p ∷ ps) (inr m) = let c = contains_of t ps m in (suc c.0, later c.0 (length (map (λ (p : Point). p.id) ps)) c.1, c.2)
  where
    later : (a b : ℕ) → a < b → suc a < suc b
    later a b l = omega arith

abbrev AllFit : List Point → Type 0
AllFit [] = Unit {0}
AllFit (p ∷ ps) = (p.id.0 < 2 ^ 128) × AllFit ps

all_fit : (ps : List Point) → All (λ (p : Point). p.id.0 < 2 ^ 128) ps → AllFit ps
all_fit [] a = tt
all_fit (p ∷ ps) a = (a 0 p (omega arith), all_fit ps (λ k d l. a (suc k) d (omega arith)))

from_in : (t : ℕ) (ps : List Point) → AllFit ps → IsIn t (map (λ (p : Point). p.id.0) ps) → IsAt (id t) ps × (t < 2 ^ 128)
from_in t [] f m = absurd m
from_in t (p ∷ ps) f (inl e) = (inl (ap id (sym e)), rw e f.0)
from_in t (p ∷ ps) f (inr m) = let r = from_in t ps f.1 m in (inr r.0, r.1)

abbrev ArePoints : History → List Point → Type 0
ArePoints w [] = Unit {0}
ArePoints w (p ∷ ps) = (p.event ≡ w.protocol.point p.id.0) × ArePoints w ps

all_above : (w : History) (n m : ℕ) (ps : List Point) → n ≡ m → ArePoints w ps → AllPast n ps → AllAbove w m (map (λ (p : Point). p.id.0) ps)
all_above w n m [] e a b = tt
all_above w n m (p ∷ ps) e a b = (subst (λ x. x < w.protocol.point p.id.0) e (subst (λ x. n < x) a.0 b.0), all_above w n m ps e a.1 b.1)

is_rising : (w : History) (ps : List Point) → ArePoints w ps → Rises ps → IsRising w (map (λ (p : Point). p.id.0) ps)
is_rising w [] a r = tt
is_rising w (p ∷ ps) a r = (all_above w p.event (w.protocol.point p.id.0) ps a.0 a.1 r.0, is_rising w ps a.1 r.1)

pub ordered_of : {plan : ℕ → Plan} {places : List Place} {opening : List StoreContents} (labelled : List Labelled) {ss : List (List StoreContents)} (order : List Point) → IsRunOf plan places opening (newest_first labelled) ss → IsFaithful (events_of labelled) (newest_first labelled) → IsOrder places (events_of labelled) (closing opening ss) order → All (λ (p : Point). p.id.0 < 2 ^ 128) order
    → IsOrdered (history plan places opening (newest_first labelled) ss) (map (λ (p : Point). p.id.0) order)
ordered_of {plan} {places} {opening} labelled {ss} order r faithful o fit = record {
  recorded = λ t. (
    λ h. is_in t order (among t (row_fits t h) h),
    λ m. let x = from_in t order (all_fit order fit) m in member (id t) x.1 x.0,
  );
  rising = is_rising w order (points order (λ t m. m) (are_at (point (events_of labelled)) order o.points) (all_fit order fit)) (rises order o.rising);
}
  where
    w : History
    w = history plan places opening (newest_first labelled) ss

    i : Whole plan places (history plan places opening (newest_first labelled) ss) (newest_first labelled) (closing opening ss)
    i = whole_of plan places opening (newest_first labelled) ss r

    accepted : (t : ℕ) → (history plan places opening (newest_first labelled) ss).row t ≡ Some Committed → (history plan places opening (newest_first labelled) ss).protocol.accepted t ≡ true
    accepted t h = grind (arith, i.all.one.accepted t any_key 0)

    row_fits : (t : ℕ) → (history plan places opening (newest_first labelled) ss).row t ≡ Some Committed → t < 2 ^ 128
    row_fits t h = accepted_fits (history plan places opening (newest_first labelled) ss) t i.all.one.begun i.knows.fits (accepted t h)

    among : (t : ℕ) → t < 2 ^ 128 → (history plan places opening (newest_first labelled) ss).row t ≡ Some Committed → IsAt (id t) order
    among t fits h = let c = (o.recorded (id t) fits).1 (row_recorded plan places (history plan places opening (newest_first labelled) ss) (newest_first labelled) (closing opening ss) t i fits h) in at_of order (id t) c.0 c.1 c.2

    member : (t : TxId) → t.0 < 2 ^ 128 → IsAt t order → (history plan places opening (newest_first labelled) ss).row t.0 ≡ Some Committed
    member t fits m = recorded_row plan places (history plan places opening (newest_first labelled) ss) (newest_first labelled) (closing opening ss) t.0 i fits ((o.recorded t fits).0 (contains_of t order m))

    points : (ps : List Point) → ((t : TxId) → IsAt t ps → IsAt t order) → AreAt (point (events_of labelled)) ps → AllFit ps → ArePoints (history plan places opening (newest_first labelled) ss) ps
    points [] inside a f = tt
    points (p ∷ ps) inside a f =
        let here = accepted p.id.0 (member p.id f.0 (inside p.id (inl refl))) in
        (a.0 ∙ point_of labelled p.id.0 r faithful f.0 (subst (λ (x : ProtocolState). x.accepted p.id.0 ≡ true) (sym i.knows.talks) here) ∙ ap (λ (x : ProtocolState). x.point p.id.0) i.knows.talks, points ps (λ t m. inside t (inr m)) a.1 f.1)

---- answers

-- what is no denial
no_denial : (a : Answer) → is_denial a ≡ false → (a ≡ answer.Committed) ⊎ ((u : TxId) × (a ≡ answer.Unknown u))
no_denial answer.Committed h = inl refl
no_denial (answer.Unknown u) h = inr (u, refl)
no_denial _ h = absurd (cc)

pub answers_true : (plan : ℕ → Plan) (places : List Place) (opening : List StoreContents) (labelled : List Labelled) (ss : List (List StoreContents)) → IsRunOf plan places opening (newest_first labelled) ss → IsFaithful (events_of labelled) (newest_first labelled) → AnswersAreTrue places (events_of labelled) (closing opening ss)
answers_true plan places opening labelled ss r faithful = record {
  committed = λ t fits e. committed t fits (commit_of (events_of labelled) t) refl e;
  owned = λ client s among acked.
      let o = faithful.owned client s among acked in
      record { id = id o.t; fits = o.fits; owner = o.owner; commit = o.commit; recorded = committed (id o.t) o.fits (commit_of (events_of labelled) (id o.t)) refl (ap (option_and_then (λ (x : Executed). x.answer)) o.commit ∙ acked) };
  known = λ t fits rec. known t fits (recorded_row plan places (history plan places opening (newest_first labelled) ss) (newest_first labelled) (closing opening ss) t.0 i fits rec) (commit_of (events_of labelled) t) refl;
}
  where
    i : Whole plan places (history plan places opening (newest_first labelled) ss) (newest_first labelled) (closing opening ss)
    i = whole_of plan places opening (newest_first labelled) ss r

    accepted : (t : ℕ) → (history plan places opening (newest_first labelled) ss).row t ≡ Some Committed → (protocol_state (newest_first labelled)).accepted t ≡ true
    accepted t h = subst (λ (x : ProtocolState). x.accepted t ≡ true) (sym i.knows.talks) (here h)
      where
        here : (history plan places opening (newest_first labelled) ss).row t ≡ Some Committed → (history plan places opening (newest_first labelled) ss).protocol.accepted t ≡ true
        here h = grind (arith, i.all.one.accepted t any_key 0)

    committed : (t : TxId) → t.0 < 2 ^ 128 → (o : Option Executed) → commit_of (events_of labelled) t ≡ o → option_and_then (λ (x : Executed). x.answer) o ≡ Some answer.Committed → Recorded places (closing opening ss) t
    committed t fits None e f = absurd (cc)
    committed t fits (Some x) e f = row_recorded plan places (history plan places opening (newest_first labelled) ss) (newest_first labelled) (closing opening ss) t.0 i fits (told_decided plan places opening (newest_first labelled) ss t.0 x.reached r (faithful.answered t.0 x fits e f)).0

    answered : (t : TxId) → t.0 < 2 ^ 128 → (history plan places opening (newest_first labelled) ss).row t.0 ≡ Some Committed → (x : Executed) → commit_of (events_of labelled) t ≡ Some x → (a : Option Answer) → x.answer ≡ a → (d : Bool) → option_map_or is_denial a false ≡ d → (a ≡ Some answer.Committed) ⊎ (a ≡ Some (answer.Unknown t)) ⊎ (a ≡ None)
    answered t fits row x e None f d g = inr (inr refl)
    answered t fits row x e (Some a) f true g = absurd (denied_never_recorded plan places opening (newest_first labelled) ss t.0 r (faithful.denied t.0 x a fits e f g (accepted t.0 row)) row)
    answered t fits row x e (Some a) f false g = elim (no_denial a g) [
      | inl c ↦ inl (ap (λ y. Some y) c)
      | inr u ↦ inr (inl (ap (λ y. Some y) u.1 ∙ ap (λ y. Some (answer.Unknown y)) (faithful.unknown t.0 x u.0 e (f ∙ ap (λ y. Some y) u.1))))
    ]

    known : (t : TxId) → t.0 < 2 ^ 128 → (history plan places opening (newest_first labelled) ss).row t.0 ≡ Some Committed → (o : Option Executed) → commit_of (events_of labelled) t ≡ o → (option_and_then (λ (x : Executed). x.answer) (commit_of (events_of labelled) t) ≡ Some answer.Committed) ⊎ (option_and_then (λ (x : Executed). x.answer) (commit_of (events_of labelled) t) ≡ Some (answer.Unknown t)) ⊎ (option_and_then (λ (x : Executed). x.answer) (commit_of (events_of labelled) t) ≡ None)
    known t fits row None e = inr (inr (ap (option_and_then (λ (x : Executed). x.answer)) e))
    known t fits row (Some x) e =
        let same = ap (option_and_then (λ (y : Executed). y.answer)) e in
        elim (answered t fits row x e x.answer refl (option_map_or is_denial x.answer false) refl) [
          | inl a ↦ inl (same ∙ a)
          | inr b ↦ elim b [
            | inl c ↦ inr (inl (same ∙ c))
            | inr d ↦ inr (inr (same ∙ d))
          ]
        ]
