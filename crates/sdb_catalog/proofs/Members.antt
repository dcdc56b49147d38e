-- An object whose members have keys that rise is read as it is written.
use Rattle.std.proofs.Common.{◌≡◌, ℕ, List, [], ◌∷◌, ◌++◌, Bool, true, ◌&&◌, sym, ap, ◌∙◌, refl, append_assoc, append-nil, Some}
use Rattle.std.specs.Option.{option_and_then}
use Rattle.std.specs.declared.cmp.Ordering.{Ordering}
use Rattle.std.specs.declared.cmp.Ordering.TheVariants.{Greater}
use Rattle.std.specs.Ordering.{is_lt, match_ordering, ordering_reverse}
use Rattle.serde_json.specs.Data.{Data, Members, no_members, member, put}
use Rattle.serde_json.specs.Read.{of_json, of_members}
use Rattle.serde_json.specs.Written.{outline, members_outline}
use Rattle.sdb_types.specs.Order.{name_cmp}
use Rattle.sdb_types.proofs.Public.{and_first, and_second, less_of, name_total}

-- the members of a list: a key and a value of each
abbrev pub members_of : {A : Type 0} → (A → List ℕ) → (A → Data) → List A → Members
members_of key value [] = no_members
members_of key value (x ∷ xs) = member (key x) (value x) (members_of key value xs)

-- the keys rise strictly
abbrev pub is_under : {A : Type 0} → (A → List ℕ) → List ℕ → List A → Bool
is_under key name [] = true
is_under key name (x ∷ xs) = is_lt (name_cmp name (key x))

abbrev pub keys_rise : {A : Type 0} → (A → List ℕ) → List A → Bool
keys_rise key [] = true
keys_rise key (x ∷ xs) = is_under key (key x) xs && keys_rise key xs

-- each value is read as it is written
abbrev pub AreRead : {A : Type 0} → (A → Data) → List A → Type 0
AreRead value [] = Unit {0}
AreRead value (x ∷ xs) = (of_json (outline (value x)) ≡ Some (value x)) × AreRead value xs

-- a key above all others
abbrev Above : {A : Type 0} → (A → List ℕ) → List A → List ℕ → Type 0
Above key [] name = Unit {0}
Above key (d ∷ ds) name = (name_cmp name (key d) ≡ Greater) × Above key ds name

greater : (a b : List ℕ) → is_lt (name_cmp a b) ≡ true → name_cmp b a ≡ Greater
greater a b h = name_total.antisymm b a ∙ ap ordering_reverse (less_of (name_cmp a b) h)

lower : (a b c : List ℕ) → is_lt (name_cmp a b) ≡ true → is_lt (name_cmp b c) ≡ true → is_lt (name_cmp a c) ≡ true
lower a b c h k = ap is_lt (name_total.trans a b c (less_of _ h) (less_of _ k))

under : {A : Type 0} (key : A → List ℕ) (name : List ℕ) (ds : List A) (x : A) (rest : List A) → keys_rise key (ds ++ x ∷ rest) ≡ true → is_under key name (ds ++ x ∷ rest) ≡ true → is_lt (name_cmp name (key x)) ≡ true
under key name [] x rest r h = h
under key name (d ∷ ds) x rest r h =
    lower name (key d) (key x) h
    (under key (key d) ds x rest (and_second (is_under key (key d) (ds ++ x ∷ rest)) (keys_rise key (ds ++ x ∷ rest)) r) (and_first (is_under key (key d) (ds ++ x ∷ rest)) (keys_rise key (ds ++ x ∷ rest)) r))

above : {A : Type 0} (key : A → List ℕ) (ds : List A) (x : A) (rest : List A) → keys_rise key (ds ++ x ∷ rest) ≡ true → Above key ds (key x)
above key [] x rest r = tt
above key (d ∷ ds) x rest r =
    let tail = and_second (is_under key (key d) (ds ++ x ∷ rest)) (keys_rise key (ds ++ x ∷ rest)) r in
    (greater (key d) (key x) (under key (key d) ds x rest tail (and_first (is_under key (key d) (ds ++ x ∷ rest)) (keys_rise key (ds ++ x ∷ rest)) r)), above key ds x rest tail)

put_last : {A : Type 0} (key : A → List ℕ) (value : A → Data) (ds : List A) (x : A) → Above key ds (key x) → put (key x) (value x) (members_of key value ds) ≡ members_of key value (ds ++ x ∷ [])
put_last key value [] x h = refl
put_last key value (d ∷ ds) x h =
    ap (λ (o : Ordering). match_ordering o (member (key x) (value x) (members_of key value (d ∷ ds))) (member (key d) (value x) (members_of key value ds)) (member (key d) (value d) (put (key x) (value x) (members_of key value ds)))) h.0
    ∙ ap (member (key d) (value d)) (put_last key value ds x h.1)

pub members_read : {A : Type 0} (key : A → List ℕ) (value : A → Data) (ds xs : List A) → keys_rise key (ds ++ xs) ≡ true → AreRead value xs → of_members (members_outline (members_of key value xs)) (members_of key value ds) ≡ Some (members_of key value (ds ++ xs))
members_read {A} key value ds [] r h = ap (λ (l : List A). Some (members_of key value l)) (sym (append-nil ds))
members_read {A} key value ds (x ∷ xs) r h =
    ap (option_and_then (λ (d : Data). of_members (members_outline (members_of key value xs)) (put (key x) d (members_of key value ds)))) h.0
    ∙ ap (of_members (members_outline (members_of key value xs))) (put_last key value ds x (above key ds x xs r))
    ∙ members_read key value (ds ++ x ∷ []) xs (ap (keys_rise key) (append_assoc ds (x ∷ []) xs) ∙ r) h.1
    ∙ ap (λ (l : List A). Some (members_of key value l)) (append_assoc ds (x ∷ []) xs)
