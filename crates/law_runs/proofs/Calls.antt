-- Where the calls of clients are among the events of a trace, and what they did there.
use Rattle.std.proofs.Common.{◌≡◌, ◌⊎◌, inl, inr, ℕ, zero, suc, ◌+◌, ◌<◌, ◌≤◌, Bool, true, false, List, [], ◌∷◌, length, Option, Some, None, refl, sym, ap, subst, ◌∙◌, arith}
use Rattle.std.specs.Prelude.{◌==◌, ◌&&◌, if◌then◌else◌, filter, nat_le, nat_lt, Contains}
use Rattle.std.specs.List.{cons_option, enumerate_from, filter_map}
use Rattle.std.proofs.lemmas.List.Elements.{Contains-append_left, Contains-append_right, Contains-push}
use Rattle.sdb_types.proofs.Public.{and_parts, lt_of, nat_at_most, none_some, one_of, some_is}
use Rattle.law_runs.specs.Types.{Event, Place}
use Rattle.sdb_model.specs.declared.event.Event.TheVariants as event
use Rattle.sdb_model.specs.Calls.{StoreCall, calls_after, calls_by, calls_of, end_of, made_by}
use Rattle.sdb_model.specs.Events.{Effect, IsTrace, StoreContents, moment}
use Rattle.sdb_model.specs.Transactions.{Executed}
use Rattle.law_protocol.proofs.Public.{at_call, AtCall}

---- elements of lists

pub the_first : {X : Type 0} (x : X) (xs : List X) → Contains (x ∷ xs) x
the_first x xs = Contains-append_left (x ∷ []) xs x (Contains-push [] x)

pub a_later : {X : Type 0} (x y : X) (xs : List X) → Contains xs y → Contains (x ∷ xs) y
a_later x y xs has = Contains-append_right (x ∷ []) xs y has

-- what a filter keeps was there, and passes
kept : {X : Type 0} (p : X → Bool) (xs : List X) (x : X) → Contains (filter p xs) x → Contains xs x × (p x ≡ true)
kept p [] x has = absurd (omega (arith, has.1))
kept p (y ∷ ys) x has = by (p y) refl has (kept p ys x)
  where
    later : Contains ys x × (p x ≡ true) → Contains (y ∷ ys) x × (p x ≡ true)
    later h = (a_later y x ys h.0, h.1)

    by : (b : Bool) → p y ≡ b → Contains (if b then y ∷ filter p ys else filter p ys) x → (Contains (filter p ys) x → Contains ys x × (p x ≡ true)) → Contains (y ∷ ys) x × (p x ≡ true)
    by false e h rest = later (rest h)
    by true e h rest = first (one_of y x (filter p ys) h)
      where
        first : (y ≡ x) ⊎ Contains (filter p ys) x → Contains (y ∷ ys) x × (p x ≡ true)
        first (inl same) = (subst (Contains (y ∷ ys)) same (the_first y ys), ap p (sym same) ∙ e)
        first (inr h) = later (rest h)

---- the calls of a statement

-- a call that a client made between a statement's Take and its last event
pub record IsWithin (events : List Event) (client : ℕ) (s : Executed) (m : StoreCall) : Type 0 where
  pub among : Contains (calls_by events client) m
  pub after : s.accepted < m.at
  pub until : m.at ≤ end_of events s

pub within_statement : (events : List Event) (client : ℕ) (s : Executed) (m : StoreCall) → Contains (calls_of events client s) m → IsWithin events client s m
within_statement events client s m has =
    let h = kept (λ (x : StoreCall). nat_lt s.accepted x.at && nat_le x.at (end_of events s)) (calls_by events client) m has in
    let l = and_parts (nat_lt s.accepted m.at) (nat_le m.at (end_of events s)) h.1 in
    record { among = h.0; after = lt_of s.accepted m.at l.0; until = nat_at_most m.at (end_of events s) l.1 }

-- a call that came after others
pub later_call : (n : ℕ) (calls : List StoreCall) (m : StoreCall) → Contains (calls_after n calls) m → Contains calls m × (n < m.at)
later_call n calls m has = let h = kept (λ (x : StoreCall). nat_lt n x.at) calls m has in (h.0, lt_of n m.at h.1)

---- the events of a trace

-- An event has its effect between two moments.
pub effect_at : (places : List Place) (es : List Event) (opening : List StoreContents) (moments : List (List StoreContents)) (closing : List StoreContents) (n : ℕ) → IsTrace places es opening moments closing → n < length moments → (e : Event) × Effect places e (moment opening moments n) (moment opening moments (suc n))
effect_at places [] opening [] closing n trace low = absurd (omega (arith, low))
effect_at places [] opening (s ∷ ss) closing n trace low = absurd trace
effect_at places (e ∷ es) opening [] closing n trace low = absurd trace
effect_at places (e ∷ es) opening (s ∷ ss) closing zero trace low = (e, trace.0)
effect_at places (e ∷ es) opening (s ∷ ss) closing (suc n) trace low = effect_at places es s ss closing n trace.1 (less n (length ss) low)
  where
    less : (a b : ℕ) → suc a < suc b → a < b
    less a b l = omega arith

-- A call is one of the events, which are numbered from `first`: so many came before it, and it did what its request and reply say.
pub record IsAt (places : List Place) (opening : List StoreContents) (moments : List (List StoreContents)) (first : ℕ) (m : StoreCall) : Type 0 where
  pub n : ℕ
  pub number : m.at ≡ first + n
  pub within : suc n ≤ length moments
  pub did : AtCall places m.request m.reply (moment opening moments n) (moment opening moments (suc n))

event_call : (places : List Place) (c n : ℕ) (e : Event) (before now : List StoreContents) (m : StoreCall) → Effect places e before now → made_by c (n, e) ≡ Some m → (m.at ≡ n) × AtCall places m.request m.reply before now
event_call places c n (event.Take x text a) before now m effect made = none_some m made
event_call places c n (event.Call x store q how r a) before now m effect made = by (x == c) made
  where
    same : record { at = n; store = store; request = q; how = how; reply = r } ≡ m → (m.at ≡ n) × AtCall places m.request m.reply before now
    same is = (ap (λ (y : StoreCall). y.at) (sym is), subst (λ (y : StoreCall). AtCall places y.request y.reply before now) is (at_call places store q how r before now effect))

    by : (t : Bool) → (if t then Some (record { at = n; store = store; request = q; how = how; reply = r }) else None) ≡ Some m → (m.at ≡ n) × AtCall places m.request m.reply before now
    by true k = same (some_is _ m k)
    by false k = none_some m k
event_call places c n (event.Stop x) before now m effect made = none_some m made
event_call places c n (event.Clock moment) before now m effect made = none_some m made
event_call places c n (event.Idle x) before now m effect made = none_some m made
event_call places c n (event.Land x store q how r) before now m effect made = none_some m made
event_call places c n (event.Alter table column kind altered) before now m effect made = none_some m made

call_from : (places : List Place) (c first : ℕ) (es : List Event) (opening : List StoreContents) (moments : List (List StoreContents)) (closing : List StoreContents) (m : StoreCall) → IsTrace places es opening moments closing → Contains (filter_map (made_by c) (enumerate_from first es)) m → IsAt places opening moments first m
call_from places c first [] opening moments closing m trace has = absurd (omega (arith, has.1))
call_from places c first (e ∷ es) opening [] closing m trace has = absurd trace
call_from places c first (e ∷ es) opening (s ∷ ss) closing m trace has = by (made_by c (first, e)) refl has (call_from places c (first + 1) es s ss closing m trace.1)
  where
    one_later : (a n : ℕ) → a ≡ (first + 1) + n → a ≡ first + suc n
    one_later a n l = omega (arith, l)

    more : (a b : ℕ) → a ≤ b → suc a ≤ suc b
    more a b l = omega arith

    at_first : (a : ℕ) → a ≡ first → a ≡ first + 0
    at_first a l = omega (arith, l)

    low : (b : ℕ) → 1 ≤ suc b
    low b = omega arith

    later : IsAt places s ss (first + 1) m → IsAt places opening (s ∷ ss) first m
    later h = record { n = suc h.n; number = one_later m.at h.n h.number; within = more (suc h.n) (length ss) h.within; did = h.did }

    here : made_by c (first, e) ≡ Some m → IsAt places opening (s ∷ ss) first m
    here k = let d = event_call places c first e opening s m trace.0 k in record { n = 0; number = at_first m.at d.0; within = low (length ss); did = d.1 }

    by : (o : Option StoreCall) → made_by c (first, e) ≡ o → Contains (cons_option o (filter_map (made_by c) (enumerate_from (first + 1) es))) m → (Contains (filter_map (made_by c) (enumerate_from (first + 1) es)) m → IsAt places s ss (first + 1) m) → IsAt places opening (s ∷ ss) first m
    by None k h rest = later (rest h)
    by (Some x) k h rest = either (one_of x m (filter_map (made_by c) (enumerate_from (first + 1) es)) h)
      where
        either : (x ≡ m) ⊎ Contains (filter_map (made_by c) (enumerate_from (first + 1) es)) m → IsAt places opening (s ∷ ss) first m
        either (inl same) = here (k ∙ ap Some same)
        either (inr among) = later (rest among)

pub call_at : (places : List Place) (events : List Event) (opening closing : List StoreContents) (moments : List (List StoreContents)) (c : ℕ) (m : StoreCall) → IsTrace places events opening moments closing → Contains (calls_by events c) m → IsAt places opening moments 1 m
call_at places events opening closing moments c m trace has = call_from places c 1 events opening moments closing m trace has
