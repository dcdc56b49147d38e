-- What a search finds is contained, and what is contained is found.
use Rattle.std.proofs.Common.{◌≡◌, zero, suc, Bool, true, false, List, [], ◌∷◌, Option, Some, None, ◌⊎◌, inl, inr, refl, sym, ap, ◌∙◌, arith}
use Rattle.std.specs.Prelude.{filter, Contains, ◌||◌, if◌then◌else◌}
use Rattle.std.specs.List.{list_any}
use Rattle.check_answers.specs.Types.{Made, ReadItem, Record}
use Rattle.sdb_model.specs.ReadSet as as_read
use Rattle.check_protocol.specs.Values.{item_of}
use Rattle.check_protocol.proofs.Public.{In, is_record, record_is}
use Rattle.check_answers.specs.Tests.{same_found}
use Rattle.sdb_model.specs.Calls as calls
use Rattle.check_tables.specs.Values.{all_made, all_items, made_of}
use Rattle.sdb_types.proofs.Public.{clash}

pub in_contains : {X : Type 0} (xs : List X) (x : X) → In xs x → Contains xs x
in_contains [] x i = absurd i
in_contains (y ∷ ys) x (inl e) = (0, omega arith, sym e)
in_contains (y ∷ ys) x (inr i) = let r = in_contains ys x i in (suc r.0, omega (arith, r.1), r.2)

pub contains_in : {X : Type 0} (xs : List X) (x : X) → Contains xs x → In xs x
contains_in [] x (k, lt, e) = absurd (omega (arith, lt))
contains_in (y ∷ ys) x (zero, lt, e) = inl (sym e)
contains_in (y ∷ ys) x (suc k, lt, e) = inr (contains_in ys x (k, omega (arith, lt), e))

---- lists that are filtered

pub kept_in : {X : Type 0} (p : X → Bool) (xs : List X) (x : X) → In xs x → p x ≡ true → In (filter p xs) x
kept_in p [] x i h = absurd i
kept_in p (y ∷ ys) x i h = by (p y) refl i (λ j. kept_in p ys x j h)
  where
    by : (b : Bool) → p y ≡ b → (x ≡ y) ⊎ In ys x → (In ys x → In (filter p ys) x) → In (if b then y ∷ filter p ys else filter p ys) x
    by true e (inl s) more = inl s
    by true e (inr j) more = inr (more j)
    by false e (inl s) more = clash (sym h ∙ ap p s ∙ e)
    by false e (inr j) more = more j

pub in_kept : {X : Type 0} (p : X → Bool) (xs : List X) (x : X) → In (filter p xs) x → In xs x × (p x ≡ true)
in_kept p [] x i = absurd i
in_kept p (y ∷ ys) x i = by (p y) refl i (λ j. in_kept p ys x j)
  where
    by : (b : Bool) → p y ≡ b → In (if b then y ∷ filter p ys else filter p ys) x → (In (filter p ys) x → In ys x × (p x ≡ true)) → ((x ≡ y) ⊎ In ys x) × (p x ≡ true)
    by true e (inl s) more = (inl s, ap p s ∙ e)
    by true e (inr j) more = let r = more j in (inr r.0, r.1)
    by false e j more = let r = more j in (inr r.0, r.1)

---- lists of calls

pub made_in : (ms : List Made) (m : Made) → In ms m → In (all_made ms) (made_of m)
made_in [] m i = absurd i
made_in (x ∷ ms) m (inl e) = inl (ap made_of e)
made_in (x ∷ ms) m (inr i) = inr (made_in ms m i)

pub in_made : (ms : List Made) (c : calls.StoreCall) → In (all_made ms) c → (m : Made) × In ms m × (c ≡ made_of m)
in_made [] c i = absurd i
in_made (x ∷ ms) c (inl e) = (x, inl refl, e)
in_made (x ∷ ms) c (inr i) = let r = in_made ms c i in (r.0, inr r.1, r.2)

pub made_contained : (ms : List Made) (m : Made) → In ms m → Contains (all_made ms) (made_of m)
made_contained ms m i = in_contains (all_made ms) (made_of m) (made_in ms m i)

pub contained_made : (ms : List Made) (c : calls.StoreCall) → Contains (all_made ms) c → (m : Made) × In ms m × (c ≡ made_of m)
contained_made ms c k = in_made ms c (contains_in (all_made ms) c k)

pub one_found : (b : Bool) → b ≡ (b || false)
one_found true = refl
one_found false = refl

---- read items

pub any_noted : (f : as_read.ReadItem → Bool) (ns : List ReadItem) → list_any f (all_items ns) ≡ list_any (λ n. f (item_of n)) ns
any_noted f [] = refl
any_noted f (n ∷ ns) = ap (λ b. f (item_of n) || b) (any_noted f ns)

---- what is found

pub found_is : (a b : Option Record) → same_found a b ≡ true → a ≡ b
found_is None None h = refl
found_is None (Some y) h = clash (sym h)
found_is (Some x) None h = clash (sym h)
found_is (Some x) (Some y) h = ap Some (record_is x y h)

pub is_found : (a b : Option Record) → a ≡ b → same_found a b ≡ true
is_found a b e = ap (same_found a) (sym e) ∙ itself a
  where
    itself : (o : Option Record) → same_found o o ≡ true
    itself None = refl
    itself (Some x) = is_record x x refl
