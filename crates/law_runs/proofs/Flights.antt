-- The requests in flight, and what an event more makes of them.
use Rattle.std.proofs.Common.{◌≡◌, ◌⊎◌, inl, inr, ℕ, zero, suc, Bool, true, false, List, [], ◌∷◌, ◌++◌, length, Option, Some, None, refl, sym, ap, subst, ◌∙◌, arith, slice_set, ◌≤◌}
use Rattle.std.specs.Prelude.{◌||◌, if◌then◌else◌, slice_get}
use Rattle.std.specs.List.{cons_option, filter_map, list_any}
use Rattle.std.specs.Option.{option_and_then}
use Rattle.std.proofs.lemmas.Bool.{ne_eqb}
use Rattle.std.proofs.lemmas.List.{append-nil}
use Rattle.std.proofs.lemmas.Option.{slice_get_past}
use Rattle.std.proofs.lemmas.List.Elements.{Contains-append_left, Contains-push, filter_map-append}
use Rattle.std.proofs.lemmas.List.Folds.{list_any-append}
use Rattle.law_runs.specs.Types.{Answer, Event, How, Reply, Request, Table}
use Rattle.sdb_model.specs.Rows.{Name}
use Rattle.sdb_model.specs.declared.event.Event.TheVariants as event
use Rattle.sdb_model.specs.declared.event.How.TheVariants.{Seen, Lost, Discarded, Delayed, Broken}
use Rattle.sdb_model.specs.Events.{table_asked}
use Rattle.sdb_model.specs.Tables.{is_table_of_run}
use Rattle.law_protocol.specs.Spread.{AreAbout, IsAbout}
use Rattle.sdb_model.specs.Follows.{delayed_at, delayed_by, in_flight, lands}
use Rattle.sdb_types.specs.declared.record.Reply.TheVariants as reply
use Rattle.law_clients.specs.Invariant.{HasDelayed}
use Rattle.law_runs.specs.World.{AreInFlight}
use Rattle.law_runs.proofs.Slots.{set_here, set_length, set_other, suc_is}
use Rattle.law_runs.proofs.Kept.{by_nat}
use Rattle.law_runs.proofs.Ties.{itself}
use Rattle.sdb_types.proofs.Public.{none_some, or_false, some_is}

---- lists

length_one : {A : Type 0} (xs : List A) (x : A) → length (xs ++ x ∷ []) ≡ suc (length xs)
length_one [] x = refl
length_one (y ∷ ys) x = ap suc (length_one ys x)

-- at a place of a list with one more is what was there, or the last
last_or : {A : Type 0} (xs : List A) (x y : A) (k : ℕ) → slice_get (xs ++ x ∷ []) k ≡ Some y → (slice_get xs k ≡ Some y) ⊎ ((k ≡ length xs) × (x ≡ y))
last_or [] x y zero e = inr (refl, some_is x y e)
last_or [] x y (suc k) e = none_some y e
last_or (z ∷ zs) x y zero e = inl e
last_or (z ∷ zs) x y (suc k) e = elim (last_or zs x y k e) [
  | inl h ↦ inl h
  | inr h ↦ inr (ap suc h.0, h.1)
]

front_none : {A : Type 0} (xs : List A) (x : A) (k : ℕ) → slice_get (xs ++ x ∷ []) k ≡ None → slice_get xs k ≡ None
front_none [] x k e = refl
front_none (z ∷ zs) x zero e = absurd (cc)
front_none (z ∷ zs) x (suc k) e = front_none zs x k e

front_some : {A : Type 0} (xs : List A) (x y : A) (k : ℕ) → slice_get xs k ≡ Some y → slice_get (xs ++ x ∷ []) k ≡ Some y
front_some [] x y k e = none_some y e
front_some (z ∷ zs) x y zero e = e
front_some (z ∷ zs) x y (suc k) e = front_some zs x y k e

get_past : {A : Type 0} (xs : List A) → slice_get xs (length xs) ≡ None
get_past [] = refl
get_past (z ∷ zs) = get_past zs

get_last : {A : Type 0} (xs : List A) (x : A) → slice_get (xs ++ x ∷ []) (length xs) ≡ Some x
get_last [] x = refl
get_last (z ∷ zs) x = get_last zs x

---- an event more

landed_more : (k : ℕ) (es : List Event) (e : Event) → list_any (lands k) (es ++ e ∷ []) ≡ (list_any (lands k) es || lands k e)
landed_more k es e = list_any-append (lands k) es (e ∷ []) ∙ ap (λ (b : Bool). list_any (lands k) es || b) (or_false (lands k e))

landed_still : (k : ℕ) (es : List Event) (e : Event) → lands k e ≡ false → list_any (lands k) (es ++ e ∷ []) ≡ list_any (lands k) es
landed_still k es e apart = landed_more k es e ∙ ap (λ (b : Bool). list_any (lands k) es || b) apart ∙ or_false (list_any (lands k) es)

landed_then : (k : ℕ) (es : List Event) (e : Event) → list_any (lands k) es ≡ true → list_any (lands k) (es ++ e ∷ []) ≡ true
landed_then k es e was = landed_more k es e ∙ ap (λ (b : Bool). b || lands k e) was

landed_now : (k : ℕ) (es : List Event) (e : Event) → lands k e ≡ true → list_any (lands k) (es ++ e ∷ []) ≡ true
landed_now k es e is = landed_more k es e ∙ ap (λ (b : Bool). list_any (lands k) es || b) is ∙ or_true (list_any (lands k) es)
  where
    or_true : (b : Bool) → (b || true) ≡ true
    or_true true = refl
    or_true false = refl

delayed_more : (es : List Event) (e : Event) (o : Option Request) → delayed_by e ≡ o → filter_map delayed_by (es ++ e ∷ []) ≡ filter_map delayed_by es ++ cons_option o []
delayed_more es e o is = filter_map-append delayed_by es (e ∷ []) ∙ ap (λ (x : Option Request). filter_map delayed_by es ++ cons_option x []) is

delayed_still : (es : List Event) (e : Event) → delayed_by e ≡ None → filter_map delayed_by (es ++ e ∷ []) ≡ filter_map delayed_by es
delayed_still es e is = delayed_more es e None is ∙ append-nil (filter_map delayed_by es)

was_delayed : (es : List Event) (e : Event) (q : Request) → HasDelayed es q → HasDelayed (es ++ e ∷ []) q
was_delayed es e q h = record { client = h.client; store = h.store; answered = h.answered; call = Contains-append_left es (e ∷ []) (event.Call h.client h.store q Delayed reply.Fault h.answered) h.call }

-- an event that delays nothing and lands nothing
pub record IsTimely (e : Event) : Type 0 where
  pub delays : delayed_by e ≡ None
  pub lands : (k : ℕ) → lands (suc k) e ≡ false

pub late_stays : (es : List Event) (e : Event) (fs : List (Option Request)) → IsTimely e → AreInFlight es fs → AreInFlight (es ++ e ∷ []) fs
late_stays es e fs t h = record {
  count = h.count ∙ ap length (sym (delayed_still es e t.delays));
  late = λ k q at. let x = h.late k q at in (ap (λ (qs : List Request). slice_get qs k) (delayed_still es e t.delays) ∙ x.0, landed_still (suc k) es e (t.lands k) ∙ x.1, was_delayed es e q x.2);
  landed = λ k at. landed_then (suc k) es e (h.landed k at);
  none = λ k at. landed_still (suc k) es e (t.lands k) ∙ h.none k at;
}

-- a call is delayed
pub late_goes : (es : List Event) (client : ℕ) (store : Name) (q : Request) (answered : Option Answer) (fs : List (Option Request)) → AreInFlight es fs → AreInFlight (es ++ event.Call client store q Delayed reply.Fault answered ∷ []) (fs ++ Some q ∷ [])
late_goes es client store q answered fs h = record {
  count = length_one fs (Some q) ∙ ap suc h.count ∙ sym (length_one (filter_map delayed_by es) q) ∙ ap length (sym (delayed_more es e (Some q) is));
  late = λ k x at. by k x (last_or fs (Some q) (Some x) k at);
  landed = λ k at. was k (last_or fs (Some q) None k at);
  none = λ k at. landed_still (suc k) es e (unlanded k) ∙ h.none k (front_none fs (Some q) k at);
}
  where
    e : Event
    e = event.Call client store q Delayed reply.Fault answered

    is : delayed_by e ≡ Some q
    is = refl

    unlanded : (k : ℕ) → lands (suc k) e ≡ false
    unlanded k = refl

    by : (k : ℕ) (x : Request) → (slice_get fs k ≡ Some (Some x)) ⊎ ((k ≡ length fs) × (Some q ≡ Some x)) → (delayed_at (suc k) (es ++ e ∷ []) ≡ Some x) × (list_any (lands (suc k)) (es ++ e ∷ []) ≡ false) × HasDelayed (es ++ e ∷ []) x
    by k x (inl at) =
        let y = h.late k x at in
        (ap (λ (qs : List Request). slice_get qs k) (delayed_more es e (Some q) is) ∙ front_some (filter_map delayed_by es) q x k y.0, landed_still (suc k) es e (unlanded k) ∙ y.1, was_delayed es e x y.2)
    by k x (inr s) = (
      ap (λ (qs : List Request). slice_get qs k) (delayed_more es e (Some q) is) ∙ ap (slice_get (filter_map delayed_by es ++ q ∷ [])) (s.0 ∙ h.count) ∙ get_last (filter_map delayed_by es) q ∙ s.1,
      landed_still (suc k) es e (unlanded k) ∙ h.none k (ap (slice_get fs) s.0 ∙ get_past fs),
      subst (HasDelayed (es ++ e ∷ [])) (some_is q x s.1) (record { client = client; store = store; answered = answered; call = Contains-push es e }),
    )

    was : (k : ℕ) → (slice_get fs k ≡ Some None) ⊎ ((k ≡ length fs) × (Some q ≡ None)) → list_any (lands (suc k)) (es ++ e ∷ []) ≡ true
    was k (inl at) = landed_then (suc k) es e (h.landed k at)
    was k (inr s) = absurd (cc (s.1))

-- a request lands
pub late_lands : (es : List Event) (fs : List (Option Request)) (p : ℕ) (store : Name) (q : Request) (how : How) (r : Reply) → slice_get fs p ≡ Some (Some q) → AreInFlight es fs → AreInFlight (es ++ event.Land (suc p) store q how r ∷ []) (slice_set fs p None)
late_lands es fs p store q how r here h = record {
  count = set_length fs p None ∙ h.count ∙ ap length (sym (delayed_still es e refl));
  late = λ k x at. by_nat p k (λ same. absurd (gone k x same at)) (λ other. let y = h.late k x (sym (elsewhere k other) ∙ at) in (ap (λ (qs : List Request). slice_get qs k) (delayed_still es e refl) ∙ y.0, landed_still (suc k) es e (apart k other) ∙ y.1, was_delayed es e x y.2));
  landed = λ k at. by_nat p k (λ same. landed_now (suc k) es e (subst (λ (n : ℕ). lands (suc n) e ≡ true) same (itself (suc p)))) (λ other. landed_then (suc k) es e (h.landed k (sym (elsewhere k other) ∙ at)));
  none = λ k at. by_nat p k (λ same. absurd (there k same at)) (λ other. landed_still (suc k) es e (apart k other) ∙ h.none k (sym (elsewhere k other) ∙ at));
}
  where
    e : Event
    e = event.Land (suc p) store q how r

    set : slice_get (slice_set fs p None) p ≡ Some None
    set = set_here fs p (Some q) None here

    elsewhere : (k : ℕ) → (p ≡ k → ⊥) → slice_get (slice_set fs p None) k ≡ slice_get fs k
    elsewhere k other = set_other fs p k None (λ same. other (sym same))

    apart : (k : ℕ) → (p ≡ k → ⊥) → lands (suc k) e ≡ false
    apart k other = ne_eqb (suc p) (suc k) (λ same. other (suc_is p k same))

    gone : (k : ℕ) (x : Request) → p ≡ k → slice_get (slice_set fs p None) k ≡ Some (Some x) → ⊥
    gone k x same at = differ (sym set ∙ ap (slice_get (slice_set fs p None)) same ∙ at)
      where
        differ : ◌≡◌ {A = Option (Option Request)} (Some None) (Some (Some x)) → ⊥
        differ z = cc

    there : (k : ℕ) → p ≡ k → slice_get (slice_set fs p None) k ≡ None → ⊥
    there k same at = differ (sym set ∙ ap (slice_get (slice_set fs p None)) same ∙ at)
      where
        differ : ◌≡◌ {A = Option (Option Request)} (Some None) None → ⊥
        differ z = cc

---- what is in flight

pub in_flight_is : (es : List Event) (fs : List (Option Request)) (k : ℕ) → AreInFlight es fs → in_flight (suc k) es ≡ option_and_then (λ (o : Option Request). o) (slice_get fs k)
in_flight_is es fs k h = by (slice_get fs k) refl
  where
    by : (o : Option (Option Request)) → slice_get fs k ≡ o → in_flight (suc k) es ≡ option_and_then (λ (x : Option Request). x) o
    by None at = ap (λ (b : Bool). if b then None else delayed_at (suc k) es) (h.none k at) ∙ slice_get_past (filter_map delayed_by es) k (subst (λ (n : ℕ). n ≤ k) h.count (past fs k at))
      where
        past : (xs : List (Option Request)) (i : ℕ) → slice_get xs i ≡ None → length xs ≤ i
        past [] i e = omega arith
        past (x ∷ xs) zero e = absurd (cc)
        past (x ∷ xs) (suc i) e = let less : length xs ≤ i = past xs i e in omega (arith, less)
    by (Some None) at = ap (λ (b : Bool). if b then None else delayed_at (suc k) es) (h.landed k at)
    by (Some (Some q)) at = let x = h.late k q at in ap (λ (b : Bool). if b then None else delayed_at (suc k) es) x.1 ∙ x.0

-- before the first event
pub late_first : AreInFlight [] []
late_first = record { count = refl; late = λ k q at. none_some (Some q) at; landed = λ k at. none_some None at; none = λ k at. refl }

---- what was delayed

of_event : (catalog : List Table) (e : Event) (q : Request) → delayed_by e ≡ Some q → IsAbout catalog e → is_table_of_run catalog (table_asked q) ≡ true
of_event catalog (event.Call c store p Delayed r a) q is about = subst (λ (x : Request). is_table_of_run catalog (table_asked x) ≡ true) (some_is p q is) about
of_event catalog (event.Call c store p Seen r a) q is about = none_some q is
of_event catalog (event.Call c store p Lost r a) q is about = none_some q is
of_event catalog (event.Call c store p Discarded r a) q is about = none_some q is
of_event catalog (event.Call c store p Broken r a) q is about = none_some q is
of_event catalog (event.Take c text a) q is about = none_some q is
of_event catalog (event.Stop c) q is about = none_some q is
of_event catalog (event.Clock m) q is about = none_some q is
of_event catalog (event.Idle c) q is about = none_some q is
of_event catalog (event.Land n store p how r) q is about = none_some q is
of_event catalog (event.Alter table column kind altered) q is about = none_some q is

-- A request that was delayed is about a table that its call was about.
pub delayed_about : (catalog : List Table) (es : List Event) (k : ℕ) (q : Request) → slice_get (filter_map delayed_by es) k ≡ Some q → AreAbout catalog es → is_table_of_run catalog (table_asked q) ≡ true
delayed_about catalog [] k q at about = none_some q at
delayed_about catalog (e ∷ es) k q at about = by (delayed_by e) refl k at (λ n h. delayed_about catalog es n q h about.1)
  where
    by : (o : Option Request) → delayed_by e ≡ o → (n : ℕ) → slice_get (cons_option o (filter_map delayed_by es)) n ≡ Some q → ((i : ℕ) → slice_get (filter_map delayed_by es) i ≡ Some q → is_table_of_run catalog (table_asked q) ≡ true) → is_table_of_run catalog (table_asked q) ≡ true
    by None is n h later = later n h
    by (Some p) is zero h later = of_event catalog e q (is ∙ h) about.0
    by (Some p) is (suc n) h later = later n h
