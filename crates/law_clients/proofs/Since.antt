-- The calls of a statement while its client goes on.
use Rattle.std.proofs.Common.{◌≡◌, ◌≤◌, ◌<◌, ◌+◌, ℕ, suc, Bool, true, false, List, [], ◌∷◌, ◌++◌, length, Option, Some, None, refl, sym, ap, ◌∙◌, arith}
use Rattle.std.specs.Prelude.{if◌then◌else◌, filter, nat_lt, nat_le, ◌&&◌, ◌==◌}
use Rattle.std.specs.List.{AllByRecursion, cons_option, enumerate_from, filter_map}
use Rattle.std.proofs.lemmas.Bool.Decides.{nat_tests}
use Rattle.std.proofs.lemmas.List.Elements.{filter_map-append}
use Rattle.sdb_model.specs.declared.event.Event.{Event}
use Rattle.sdb_model.specs.declared.event.Event.TheVariants as event
use Rattle.sdb_model.specs.Calls.{StoreCall, calls_by, calls_of, made_by, end_of}
use Rattle.sdb_model.specs.Transactions.{Executed, numbered}
use Rattle.law_clients.specs.Calls.{WasAnswered, call_made, calls_since}
use Rattle.law_clients.proofs.Histories.{numbers_more}
use Rattle.std.proofs.lemmas.List.{append-nil as no_more}
use Rattle.sdb_types.proofs.Public.{all_each as each_any, at_most_nat as within_end, below as is_after, fails_second as both_false}

-- one event more
pub calls_more : (events : List Event) (c : ℕ) (e : Event) → calls_by (events ++ e ∷ []) c ≡ calls_by events c ++ call_made c (1 + length events) e
calls_more events c e = ap (filter_map (made_by c)) (numbers_more 1 events e) ∙ filter_map-append (made_by c) (numbered events) ((1 + length events, e) ∷ [])

-- each call has a number of its event
abbrev IsWithin : ℕ → StoreCall → Type 0
IsWithin n m = m.at ≤ n

made_at : (c n : ℕ) (e : Event) (bound : ℕ) → n ≤ bound → AllByRecursion (IsWithin bound) (call_made c n e)
made_at c n (event.Call d store q how r a) bound l = by (d == c)
  where
    by : (b : Bool) → AllByRecursion (IsWithin bound) (cons_option (if b then Some (record { at = n; store = store; request = q; how = how; reply = r }) else None) [])
    by true = (l, tt)
    by false = tt
made_at c n (event.Take d text a) bound l = tt
made_at c n (event.Stop d) bound l = tt
made_at c n (event.Clock m) bound l = tt
made_at c n (event.Idle d) bound l = tt
made_at c n (event.Alter table column kind altered) bound l = tt
made_at c n (event.Land number store q how r) bound l = tt

from_within : (c n bound : ℕ) (es : List Event) → n + length es ≤ bound + 1 → AllByRecursion (IsWithin bound) (filter_map (made_by c) (enumerate_from n es))
from_within c n bound [] l = tt
from_within c n bound (e ∷ es) l = by (made_by c (n, e)) (made_at c n e bound (first n (length es) bound l)) (from_within c (n + 1) bound es (next n (length es) bound l))
  where
    first : (n m b : ℕ) → n + suc m ≤ b + 1 → n ≤ b
    first n m b l = omega arith

    next : (n m b : ℕ) → n + suc m ≤ b + 1 → (n + 1) + m ≤ b + 1
    next n m b l = omega arith

    by : (o : Option StoreCall) → AllByRecursion (IsWithin bound) (cons_option o []) → AllByRecursion (IsWithin bound) (filter_map (made_by c) (enumerate_from (n + 1) es)) → AllByRecursion (IsWithin bound) (cons_option o (filter_map (made_by c) (enumerate_from (n + 1) es)))
    by None a b = b
    by (Some m) a b = (a.0, b)

all_within : (events : List Event) (c : ℕ) → AllByRecursion (IsWithin (length events)) (calls_by events c)
all_within events c = from_within c 1 (length events) events (one (length events))
  where
    one : (n : ℕ) → 1 + n ≤ n + 1
    one n = omega arith

---- filters

filter_append : (t : StoreCall → Bool) (xs ys : List StoreCall) → filter t (xs ++ ys) ≡ filter t xs ++ filter t ys
filter_append t [] ys = refl
filter_append t (x ∷ xs) ys = by (t x) (filter_append t xs ys)
  where
    by : (b : Bool) → filter t (xs ++ ys) ≡ filter t xs ++ filter t ys → (if b then x ∷ filter t (xs ++ ys) else filter t (xs ++ ys)) ≡ (if b then x ∷ filter t xs else filter t xs) ++ filter t ys
    by true ih = ap (λ r. x ∷ r) ih
    by false ih = ih

filter_same : (t u : StoreCall → Bool) (xs : List StoreCall) → AllByRecursion (λ x. t x ≡ u x) xs → filter t xs ≡ filter u xs
filter_same t u [] h = refl
filter_same t u (x ∷ xs) h = ap (λ b. if b then x ∷ filter t xs else filter t xs) h.0 ∙ by (u x) (filter_same t u xs h.1)
  where
    by : (b : Bool) → filter t xs ≡ filter u xs → (if b then x ∷ filter t xs else filter t xs) ≡ (if b then x ∷ filter u xs else filter u xs)
    by true ih = ap (λ r. x ∷ r) ih
    by false ih = ih

filter_none : (t : StoreCall → Bool) (xs : List StoreCall) → AllByRecursion (λ x. t x ≡ false) xs → filter t xs ≡ []
filter_none t [] h = refl
filter_none t (x ∷ xs) h = ap (λ b. if b then x ∷ filter t xs else filter t xs) h.0 ∙ filter_none t xs h.1

pub not_after : (n at : ℕ) → at ≤ n → nat_lt n at ≡ false
not_after n at l = grind (arith, nat_tests)

---- since

-- After its own event nothing has been called.
pub since_now : (events : List Event) (c n : ℕ) → length events ≤ n → calls_since events c n ≡ []
since_now events c n l = filter_none (λ m. nat_lt n m.at) (calls_by events c) (each_any (IsWithin (length events)) (λ m. nat_lt n m.at ≡ false) (calls_by events c) (λ m w. not_after n m.at (through m.at (length events) n w l)) (all_within events c))
  where
    through : (a b c : ℕ) → a ≤ b → b ≤ c → a ≤ c
    through a b c h g = omega arith

-- A further event adds the call that it is.
pub since_more : (events : List Event) (c n : ℕ) (e : Event) → n ≤ length events → calls_since (events ++ e ∷ []) c n ≡ calls_since events c n ++ call_made c (1 + length events) e
since_more events c n e l = ap (filter (λ m. nat_lt n m.at)) (calls_more events c e) ∙ filter_append (λ m. nat_lt n m.at) (calls_by events c) (call_made c (1 + length events) e) ∙ ap (λ xs. calls_since events c n ++ xs) (kept e)
  where
    later : (n m : ℕ) → n ≤ m → n < 1 + m
    later n m l = omega arith

    kept : (e : Event) → filter (λ m. nat_lt n m.at) (call_made c (1 + length events) e) ≡ call_made c (1 + length events) e
    kept (event.Call d store q how r a) = by (d == c)
      where
        m : StoreCall
        m = record { at = 1 + length events; store = store; request = q; how = how; reply = r }

        by : (b : Bool) → filter (λ m. nat_lt n m.at) (cons_option (if b then Some m else None) []) ≡ cons_option (if b then Some m else None) []
        by true = ap (λ b. if b then m ∷ [] else []) (is_after n (1 + length events) (later n (length events) l))
        by false = refl
    kept (event.Take d text a) = refl
    kept (event.Stop d) = refl
    kept (event.Clock x) = refl
    kept (event.Idle d) = refl
    kept (event.Alter table column kind altered) = refl
    kept (event.Land number store q how r) = refl

---- the calls of a statement

both_true : (a b : Bool) → b ≡ true → (a && b) ≡ a
both_true true b e = e
both_true false b e = refl

-- The calls of a statement that was just answered, or that waits, are all since its Take.
pub calls_just : (events : List Event) (c : ℕ) (s : Executed) → end_of events s ≡ length events → calls_of events c s ≡ calls_since events c s.accepted
calls_just events c s e = filter_same (λ m. nat_lt s.accepted m.at && nat_le m.at (end_of events s)) (λ m. nat_lt s.accepted m.at) (calls_by events c) (each_any (IsWithin (length events)) (λ m. (nat_lt s.accepted m.at && nat_le m.at (end_of events s)) ≡ nat_lt s.accepted m.at) (calls_by events c) (λ m w. both_true (nat_lt s.accepted m.at) (nat_le m.at (end_of events s)) (ap (nat_le m.at) e ∙ within_end m.at (length events) w)) (all_within events c))

-- And those of one that was answered before stay.
pub calls_stay : (events : List Event) (c : ℕ) (s : Executed) (e : Event) → WasAnswered events s → calls_of (events ++ e ∷ []) c s ≡ calls_of events c s
calls_stay events c s e was = ap (λ n. filter (λ m. nat_lt s.accepted m.at && nat_le m.at n) (calls_by (events ++ e ∷ []) c)) (end_is (events ++ e ∷ []))
    ∙ ap (filter (λ m. nat_lt s.accepted m.at && nat_le m.at s.reached)) (calls_more events c e)
    ∙ filter_append (λ m. nat_lt s.accepted m.at && nat_le m.at s.reached) (calls_by events c) (call_made c (1 + length events) e)
    ∙ ap (λ xs. filter (λ m. nat_lt s.accepted m.at && nat_le m.at s.reached) (calls_by events c) ++ xs) (filter_none (λ m. nat_lt s.accepted m.at && nat_le m.at s.reached) (call_made c (1 + length events) e) (beyond e))
    ∙ no_more (filter (λ m. nat_lt s.accepted m.at && nat_le m.at s.reached) (calls_by events c))
    ∙ ap (λ n. filter (λ m. nat_lt s.accepted m.at && nat_le m.at n) (calls_by events c)) (sym (end_is events))
  where
    end_is : (es : List Event) → end_of es s ≡ s.reached
    end_is es = ap (λ b. if b then s.reached else length es) was.answered

    over : (a n : ℕ) → a ≤ n → nat_le (1 + n) a ≡ false
    over a n l = grind (arith, nat_tests)

    beyond : (e : Event) → AllByRecursion (λ (m : StoreCall). (nat_lt s.accepted m.at && nat_le m.at s.reached) ≡ false) (call_made c (1 + length events) e)
    beyond (event.Call d store q how r a) = by (d == c)
      where
        by : (b : Bool) → AllByRecursion (λ (m : StoreCall). (nat_lt s.accepted m.at && nat_le m.at s.reached) ≡ false) (cons_option (if b then Some (record { at = 1 + length events; store = store; request = q; how = how; reply = r }) else None) [])
        by true = (both_false (nat_lt s.accepted (1 + length events)) (nat_le (1 + length events) s.reached) (over s.reached (length events) was.before), tt)
        by false = tt
    beyond (event.Take d text a) = tt
    beyond (event.Stop d) = tt
    beyond (event.Clock x) = tt
    beyond (event.Idle d) = tt
    beyond (event.Alter table column kind altered) = tt
    beyond (event.Land number store q how r) = tt
