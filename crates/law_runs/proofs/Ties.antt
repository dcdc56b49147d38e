-- What an event more says of where a client is.
use Rattle.std.proofs.Common.{◌≡◌, ℕ, ℤ, ◌+◌, Bool, true, false, cond, List, [], ◌∷◌, ◌++◌, Option, refl, ap, ◌∙◌, arith}
use Rattle.std.specs.Prelude.{◌||◌, ◌==◌, is_none, if◌then◌else◌}
use Rattle.std.specs.List.{count_by}
use Rattle.std.proofs.lemmas.List.Sums.{fold-append, sum_by-append, sum_by-cons}
use Rattle.std.proofs.lemmas.Bool.{eqb-false, ne_eqb}
use Rattle.std.proofs.lemmas.List.Folds.{list_any-append}
use Rattle.law_runs.specs.Types.{Answer, Event, How, Kind, Reply, Request, TableName}
use Rattle.sdb_model.specs.declared.event.Altered.{Altered}
use Rattle.sdb_model.specs.Rows.{Name}
use Rattle.sdb_model.specs.declared.event.Event.TheVariants as event
use Rattle.sdb_model.specs.Follows.{has_stopped, is_pending, pends_after, stops, takes_of, is_take_of}
use Rattle.sdb_types.proofs.Public.{or_false}

abbrev one_if : Bool → ℕ
one_if b = if b then 1 else 0

counted_more : (p : Event → Bool) (es : List Event) (e : Event) → count_by p (es ++ e ∷ []) ≡ count_by p es + one_if (p e)
counted_more p es e =
    let both : count_by p (es ++ e ∷ []) ≡ count_by p es + count_by p (e ∷ []) = sum_by-append (λ (x : Event). cond (p x) 1 0) es (e ∷ []) in
    let last : count_by p (e ∷ []) ≡ one_if (p e) + count_by p [] = sum_by-cons (λ (x : Event). cond (p x) 1 0) e [] in
    let none : count_by p [] ≡ 0 = refl in
    both ∙ ap (λ (n : ℕ). count_by p es + n) (last ∙ ap (λ (n : ℕ). one_if (p e) + n) none ∙ omega arith)

pub taken_more : (c : ℕ) (es : List Event) (e : Event) → takes_of c (es ++ e ∷ []) ≡ takes_of c es + one_if (is_take_of c e)
taken_more c es e = counted_more (is_take_of c) es e

pub stopped_more : (c : ℕ) (es : List Event) (e : Event) → has_stopped c (es ++ e ∷ []) ≡ (has_stopped c es || stops c e)
stopped_more c es e = list_any-append (stops c) es (e ∷ []) ∙ ap (λ (b : Bool). has_stopped c es || b) (or_false (stops c e))

pub pending_more : (c : ℕ) (es : List Event) (e : Event) → is_pending c (es ++ e ∷ []) ≡ pends_after c (is_pending c es) e
pending_more c es e = fold-append (pends_after c) false es (e ∷ [])

---- an event that isn't a client's

-- an event says nothing of a client
pub record IsApart (c : ℕ) (e : Event) : Type 0 where
  pub takes : is_take_of c e ≡ false
  pub stops : stops c e ≡ false
  pub pends : (was : Bool) → pends_after c was e ≡ was

pub apart_taken : (c : ℕ) (es : List Event) (e : Event) → IsApart c e → takes_of c (es ++ e ∷ []) ≡ takes_of c es
apart_taken c es e a = taken_more c es e ∙ ap (λ (b : Bool). takes_of c es + one_if b) a.takes ∙ omega arith

pub apart_stopped : (c : ℕ) (es : List Event) (e : Event) → IsApart c e → has_stopped c (es ++ e ∷ []) ≡ has_stopped c es
apart_stopped c es e a = stopped_more c es e ∙ ap (λ (b : Bool). has_stopped c es || b) a.stops ∙ or_false (has_stopped c es)

pub apart_pending : (c : ℕ) (es : List Event) (e : Event) → IsApart c e → is_pending c (es ++ e ∷ []) ≡ is_pending c es
apart_pending c es e a = pending_more c es e ∙ a.pends (is_pending c es)

-- an event of one client says nothing of another
apart_if : {A : Type 0} (c d : ℕ) (x y : A) → (c ≡ d → ⊥) → cond (c == d) x y ≡ y
apart_if c d x y n = rw (ne_eqb c d n) refl

pub take_apart : (c d : ℕ) (text : List ℕ) (a : Option Answer) → (c ≡ d → ⊥) → IsApart d (event.Take c text a)
take_apart c d text a n = record { takes = ne_eqb c d n; stops = refl; pends = λ was. apart_if c d (is_none a) was n }

pub call_apart : (c d : ℕ) (store : Name) (q : Request) (how : How) (r : Reply) (a : Option Answer) → (c ≡ d → ⊥) → IsApart d (event.Call c store q how r a)
call_apart c d store q how r a n = record { takes = refl; stops = refl; pends = λ was. apart_if c d (is_none a) was n }

pub stop_apart : (c d : ℕ) → (c ≡ d → ⊥) → IsApart d (event.Stop c)
stop_apart c d n = record { takes = refl; stops = ne_eqb c d n; pends = λ was. refl }

pub idle_apart : (c d : ℕ) → IsApart d (event.Idle c)
idle_apart c d = record { takes = refl; stops = refl; pends = λ was. refl }

pub land_apart : (number : ℕ) (store : Name) (q : Request) (how : How) (r : Reply) (d : ℕ) → IsApart d (event.Land number store q how r)
land_apart number store q how r d = record { takes = refl; stops = refl; pends = λ was. refl }

pub alter_apart : (table : TableName) (column : Name) (kind : Kind) (a : Altered) (d : ℕ) → IsApart d (event.Alter table column kind a)
alter_apart table column kind a d = record { takes = refl; stops = refl; pends = λ was. refl }

pub clock_apart : (m : ℤ) (d : ℕ) → IsApart d (event.Clock m)
clock_apart m d = record { takes = refl; stops = refl; pends = λ was. refl }

---- an event of a client

pub itself : (c : ℕ) → (c == c) ≡ true
itself c = by (c == c) refl
  where
    by : (b : Bool) → (c == c) ≡ b → (c == c) ≡ true
    by true e = e
    by false e = absurd (eqb-false c c e refl)

own_if : {A : Type 0} (c : ℕ) (x y : A) → cond (c == c) x y ≡ x
own_if c x y = rw (itself c) refl

pub own_take_taken : (c : ℕ) (es : List Event) (text : List ℕ) (a : Option Answer) → takes_of c (es ++ event.Take c text a ∷ []) ≡ takes_of c es + 1
own_take_taken c es text a = taken_more c es (event.Take c text a) ∙ ap (λ (b : Bool). takes_of c es + one_if b) (itself c)

pub own_take_stopped : (c : ℕ) (es : List Event) (text : List ℕ) (a : Option Answer) → has_stopped c (es ++ event.Take c text a ∷ []) ≡ has_stopped c es
own_take_stopped c es text a = stopped_more c es (event.Take c text a) ∙ or_false (has_stopped c es)

pub own_take_pending : (c : ℕ) (es : List Event) (text : List ℕ) (a : Option Answer) → is_pending c (es ++ event.Take c text a ∷ []) ≡ is_none a
own_take_pending c es text a = pending_more c es (event.Take c text a) ∙ own_if c (is_none a) (is_pending c es)

pub own_call_taken : (c : ℕ) (es : List Event) (store : Name) (q : Request) (how : How) (r : Reply) (a : Option Answer) → takes_of c (es ++ event.Call c store q how r a ∷ []) ≡ takes_of c es
own_call_taken c es store q how r a = taken_more c es (event.Call c store q how r a) ∙ omega arith

pub own_call_stopped : (c : ℕ) (es : List Event) (store : Name) (q : Request) (how : How) (r : Reply) (a : Option Answer) → has_stopped c (es ++ event.Call c store q how r a ∷ []) ≡ has_stopped c es
own_call_stopped c es store q how r a = stopped_more c es (event.Call c store q how r a) ∙ or_false (has_stopped c es)

pub own_call_pending : (c : ℕ) (es : List Event) (store : Name) (q : Request) (how : How) (r : Reply) (a : Option Answer) → is_pending c (es ++ event.Call c store q how r a ∷ []) ≡ is_none a
own_call_pending c es store q how r a = pending_more c es (event.Call c store q how r a) ∙ own_if c (is_none a) (is_pending c es)

pub own_stop_taken : (c : ℕ) (es : List Event) → takes_of c (es ++ event.Stop c ∷ []) ≡ takes_of c es
own_stop_taken c es = taken_more c es (event.Stop c) ∙ omega arith

pub own_stop_stopped : (c : ℕ) (es : List Event) → has_stopped c (es ++ event.Stop c ∷ []) ≡ true
own_stop_stopped c es = stopped_more c es (event.Stop c) ∙ ap (λ (b : Bool). has_stopped c es || b) (itself c) ∙ or_true (has_stopped c es)
  where
    or_true : (b : Bool) → (b || true) ≡ true
    or_true true = refl
    or_true false = refl

pub own_stop_pending : (c : ℕ) (es : List Event) → is_pending c (es ++ event.Stop c ∷ []) ≡ is_pending c es
own_stop_pending c es = pending_more c es (event.Stop c)
