-- Names that stay distinct when a store comes, goes or is called.
use Rattle.std.proofs.Common.{◌≡◌, ◌≢◌, ℕ, zero, suc, ◌<◌, List, [], ◌∷◌, ◌++◌, length, map, slice_set, Bool, true, false, Option, Some, None, refl, sym, ap, subst, ◌∙◌, get_or, arith}
use Rattle.std.specs.Prelude.{slice_get, remove, is_some, if◌then◌else◌, IsSomeAnd}
use Rattle.std.specs.Option.{option_map}
use Rattle.std.specs.Str.{bytes_eq}
use Rattle.std.proofs.lemmas.List.{map-set, map-append, length-map}
use Rattle.std.proofs.lemmas.List.Sums.{sum_by-append}
use Rattle.std.proofs.lemmas.List.Quantifiers.{all_pairs_push, all_pairs_remove}
use Rattle.std.proofs.lemmas.Option.{slice_get-map, slice_get-get_or}
use Rattle.std.proofs.lemmas.Slice.Eq.{bytes_eq-Decides}
use Rattle.sdb_store.specs.Store.{StoreState}
use Rattle.sdb_types.specs.declared.place.Place.{Place}
use Rattle.sdb_stores.specs.Views.{StoreView, AreDistinct, IsAdded, attached_as, view_of, names_of, place_of, total_faults}
use Rattle.sdb_stores.proofs.Called.{names_of-map, map-remove, set_same}
use Rattle.sdb_types.proofs.Public.{none_before}

-- names that are distinct among the items are so among what they show
pub observed : {A : Type 0} (store_content : A → StoreView) (xs : List A) → AreDistinct (map (λ a. (store_content a).name) xs) → AreDistinct (names_of (map store_content xs))
observed store_content xs h = subst AreDistinct (sym (names_of-map store_content xs)) h

---- one more

-- no name is one that has no place among them
pub apart : (name : List ℕ) (names : List (List ℕ)) → place_of name names ≡ None → (k : ℕ) (d : List ℕ) → k < length names → get_or names k d ≢ name
apart name names none k d inside same =
    let e : true ≡ false = sym ((bytes_eq-Decides (get_or names k d) name).1 same) ∙ none_before (λ n. bytes_eq n name) names d none k inside in cc

none_of : {A : Type 0} (o : Option A) → is_some o ≡ false → o ≡ None
none_of None e = refl
none_of (Some x) e = absurd (let f : true ≡ false = e in cc)

pub attached : {A : Type 0} (store_content : A → StoreView) (xs ys : List A) (x : A) (done : Bool) (o : Option ℕ) → AreDistinct (map (λ a. (store_content a).name) xs) → o ≡ place_of (store_content x).name (names_of (map store_content xs)) → is_some o ≡ false
    → ys ≡ (if done then xs ++ x ∷ [] else xs) → AreDistinct (map (λ a. (store_content a).name) ys)
attached store_content xs ys x false o h found free is = subst (λ (zs : List _). AreDistinct (map (λ a. (store_content a).name) zs)) (sym is) h
attached store_content xs ys x true o h found free is =
    let none : place_of (store_content x).name (map (λ a. (store_content a).name) xs) ≡ None = ap (place_of (store_content x).name) (sym (names_of-map store_content xs)) ∙ sym found ∙ none_of o free in
    subst AreDistinct (sym (ap (map (λ a. (store_content a).name)) is ∙ map-append (λ a. (store_content a).name) xs (x ∷ []))) (all_pairs_push ◌≢◌ (map (λ a. (store_content a).name) xs) (store_content x).name h (apart (store_content x).name (map (λ a. (store_content a).name) xs) none))

-- known contents stay known, and those of the one that comes are known where they were
kept : {A : Type 0} (P : A → Type 0) (xs : List A) (y : A) (i : ℕ) → IsSomeAnd (slice_get xs i) P → IsSomeAnd (slice_get (xs ++ y ∷ []) i) P
kept P [] y i h = absurd h
kept P (x ∷ xs) y zero h = h
kept P (x ∷ xs) y (suc i) h = kept P xs y i h

last : {A : Type 0} (P : A → Type 0) (xs : List A) (y : A) → P y → IsSomeAnd (slice_get (xs ++ y ∷ []) (length xs)) P
last P [] y h = h
last P (x ∷ xs) y h = last P xs y h

pub added : {A : Type 0} {places : List Place} (name : A → List ℕ) (see : A → StoreState) (xs ys : List A) (y : A) → ys ≡ xs ++ y ∷ [] → IsAdded (name y) (see y) (attached_as name see places xs) (attached_as name see places ys)
added {A} name see xs ys y is =
    let store_content : A → StoreView = λ a. view_of (name a) (see a) in
    let is_known : A → Type 0 = λ a. (see a).known in
    let more : map store_content ys ≡ map store_content xs ++ store_content y ∷ [] = ap (map store_content) is ∙ map-append store_content xs (y ∷ []) in
    let answered : is_known y → IsSomeAnd (slice_get ys (length xs)) is_known = λ h. subst (λ (zs : List _). IsSomeAnd (slice_get zs (length xs)) is_known) (sym is) (last is_known xs y h) in
    record {
      views = more;
      places = refl;
      others = λ i h. subst (λ (zs : List _). IsSomeAnd (slice_get zs i) is_known) (sym is) (kept is_known xs y i h);
      where_known = λ h. subst (λ (n : ℕ). IsSomeAnd (slice_get ys n) is_known) (sym (length-map xs store_content)) (answered h);
      counted = omega (arith, ap total_faults more, sum_by-append (λ s. s.faults) (map store_content xs) (store_content y ∷ []));
    }

---- one accepted out, and one that is called

pub detached : {A : Type 0} (f : A → List ℕ) (xs ys : List A) (at : ℕ) → at < length xs → AreDistinct (map f xs) → ys ≡ remove xs at → AreDistinct (map f ys)
detached f xs ys at inside h is =
    subst AreDistinct (sym (ap (map f) is ∙ map-remove f xs at)) (all_pairs_remove ◌≢◌ (map f xs) at (subst (λ (n : ℕ). at < n) (sym (length-map xs f)) inside) h)

pub called_on : {A : Type 0} (f : A → List ℕ) (xs : List A) (at : ℕ) (x y : A) → AreDistinct (map f xs) → at < length xs → x ≡ get_or xs at x → f y ≡ f x → AreDistinct (map f (slice_set xs at y))
called_on f xs at x y h inside is name =
    let here : slice_get (map f xs) at ≡ Some (f x) = slice_get-map f xs at ∙ ap (option_map f) (slice_get-get_or xs at x inside ∙ ap Some (sym is)) in
    subst AreDistinct (sym (map-set f xs at y ∙ ap (slice_set (map f xs) at) name ∙ set_same (map f xs) at (f x) here)) h
