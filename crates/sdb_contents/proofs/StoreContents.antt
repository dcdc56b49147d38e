-- The stores of a registry, as the stores of events.
use Rattle.std.proofs.Common.{◌≡◌, ◌≢◌, ℕ, zero, suc, ◌<◌, Bool, true, false, List, [], ◌∷◌, length, Option, Some, None, refl, sym, ap, ◌∙◌, arith, slice_set, get_or}
use Rattle.std.specs.Prelude.{slice_get, find, IsSome, IfSome}
use Rattle.std.specs.Option.{option_map, option_map_or}
use Rattle.std.specs.Str.{bytes_eq}
use Rattle.std.proofs.lemmas.List.{length-map}
use Rattle.std.proofs.lemmas.List.Quantifiers.{position-Some}
use Rattle.std.proofs.lemmas.Option.{slice_get-map, slice_get_within, slice_get-get_or, get_or_from_slice_get}
use Rattle.std.proofs.lemmas.Slice.Eq.{bytes_eq-Decides}
use Rattle.sdb_types.specs.Contents.{Contents}
use Rattle.sdb_record.proofs.Public.{same_name-itself, same_name-true}
use Rattle.sdb_stores.specs.Views.{StoreView as Counted, AreDistinct, names_of, place_of, route_of, home, home_of}
use Rattle.sdb_types.specs.declared.place.Place.{Place}
use Rattle.sdb_model.specs.Rows.{Name, same_name}
use Rattle.sdb_model.specs.Events.{contents_under, with_contents, first_name, store_of}
use Rattle.sdb_contents.specs.Board.{contents_of_views}
use Rattle.sdb_types.proofs.Public.{by_test, clash as true_false, some_is}

---- names

-- the two tests of names
same_bytes : (a b : Name) → same_name a b ≡ bytes_eq a b
same_bytes a b =
    by_test (same_name a b)
    (λ t. t ∙ sym ((bytes_eq-Decides a b).1 (same_name-true a b t)))
    (λ t. by_test (bytes_eq a b)
    (λ u. true_false (sym (ap (same_name a) (sym ((bytes_eq-Decides a b).0 u)) ∙ same_name-itself a) ∙ t))
    (λ u. t ∙ sym u))

other_name : (a b : Name) → a ≢ b → same_name a b ≡ false
other_name a b n = by_test (same_name a b) (λ t. absurd (n (same_name-true a b t))) (λ t. t)

-- none of the later names is the first
apart_first : (s : Counted) (ss : List Counted) → AreDistinct (names_of (s ∷ ss)) → (k : ℕ) (x : Counted) → slice_get ss k ≡ Some x → s.name ≢ x.name
apart_first s ss d k x at same =
    let inside : k < length ss = slice_get_within ss k x at in
    let size : length (names_of ss) ≡ length ss = length-map ss (λ s. s.name) in
    let there : get_or (names_of ss) k [] ≡ x.name = get_or_from_slice_get (names_of ss) k x.name [] (slice_get-map (λ s. s.name) ss k ∙ ap (option_map (λ s. s.name)) at) in
    d 0 (suc k) [] (omega arith) (omega (arith, size, inside)) (same ∙ sym there)

later_names : (s : Counted) (ss : List Counted) → AreDistinct (names_of (s ∷ ss)) → AreDistinct (names_of ss)
later_names s ss d i j e less inside = d (suc i) (suc j) e (omega arith) (omega arith)

---- the store of a name

-- the store that is somewhere is the one of its name
pub held_at : (store_contents : List Counted) (at : ℕ) (s : Counted) → AreDistinct (names_of store_contents) → slice_get store_contents at ≡ Some s → contents_under (contents_of_views store_contents) s.name ≡ Some s.contents
held_at [] at s d e = absurd (cc (e))
held_at (x ∷ xs) zero s d e = let same : x ≡ s = some_is x s e in rw (same, same_name-itself s.name) refl
held_at (x ∷ xs) (suc at) s d e = rw (other_name x.name s.name (apart_first x xs d at s e)) (held_at xs at s (later_names x xs d) e)

-- where a name isn't among them, nothing becomes of them
unchanged : (store_contents : List Counted) (name : Name) (c : Contents) → ((k : ℕ) (x : Counted) → slice_get store_contents k ≡ Some x → x.name ≢ name) → with_contents (contents_of_views store_contents) name c ≡ contents_of_views store_contents
unchanged [] name c n = refl
unchanged (x ∷ xs) name c n = rw (other_name x.name name (n 0 x refl)) (ap (λ ss. record { name = x.name; contents = x.contents } ∷ ss) (unchanged xs name c (λ k y e. n (suc k) y e)))

-- one store set is the contents of its name set
pub set_there : (store_contents : List Counted) (at : ℕ) (s now : Counted) → AreDistinct (names_of store_contents) → slice_get store_contents at ≡ Some s → now.name ≡ s.name → contents_of_views (slice_set store_contents at now) ≡ with_contents (contents_of_views store_contents) s.name now.contents
set_there [] at s now d e name = absurd (cc (e))
set_there (x ∷ xs) zero s now d e name =
    let same : x ≡ s = some_is x s e in
    let others : with_contents (contents_of_views xs) s.name now.contents ≡ contents_of_views xs = unchanged xs s.name now.contents (λ k y f g. apart_first x xs d k y f (ap (λ (z : Counted). z.name) same ∙ sym g)) in
    rw (same, same_name-itself s.name, others, name) refl
set_there (x ∷ xs) (suc at) s now d e name =
    rw (other_name x.name s.name (apart_first x xs d at s e)) (ap (λ ss. record { name = x.name; contents = x.contents } ∷ ss) (set_there xs at s now (later_names x xs d) e name))

-- a store with the contents that it had
pub set_still : (store_contents : List Counted) (at : ℕ) (s now : Counted) → slice_get store_contents at ≡ Some s → now.name ≡ s.name → now.contents ≡ s.contents → contents_of_views (slice_set store_contents at now) ≡ contents_of_views store_contents
set_still [] at s now e name held = absurd (cc (e))
set_still (x ∷ xs) zero s now e name held =
    let same : x ≡ s = some_is x s e in
    λ i. record { name = (name ∙ ap (λ (z : Counted). z.name) (sym same)) i; contents = (held ∙ ap (λ (z : Counted). z.contents) (sym same)) i } ∷ contents_of_views xs
set_still (x ∷ xs) (suc at) s now e name held = ap (λ ss. record { name = x.name; contents = x.contents } ∷ ss) (set_still xs at s now e name held)

---- the store of a namespace

find_named : (places : List Place) (ns : Name) → find (λ (p : Place). same_name p.ns ns) places ≡ find (λ (p : Place). bytes_eq p.ns ns) places
find_named [] ns = refl
find_named (p ∷ ps) ns = by (find_named ps ns) (bytes_eq p.ns ns) refl
  where
    by : find (λ (x : Place). same_name x.ns ns) ps ≡ find (λ (x : Place). bytes_eq x.ns ns) ps → (b : Bool) → bytes_eq p.ns ns ≡ b
        → find (λ (x : Place). same_name x.ns ns) (p ∷ ps) ≡ find (λ (x : Place). bytes_eq x.ns ns) (p ∷ ps)
    by rest true e = rw (same_bytes p.ns ns ∙ e, e) refl
    by rest false e = rw (same_bytes p.ns ns ∙ e, e) rest

first_shown : (store_contents : List Counted) → 0 < length store_contents → slice_get (names_of store_contents) 0 ≡ Some (first_name (contents_of_views store_contents))
first_shown [] some = absurd (omega arith)
first_shown (s ∷ ss) some = refl

-- a store that has a place is there
stands_there : (names : List Name) (store : Name) (at : ℕ) → place_of store names ≡ Some at → slice_get names at ≡ Some store
stands_there names store at e =
    let found = position-Some (λ n. bytes_eq n store) names at [] e in
    let here : get_or names at [] ≡ store = (bytes_eq-Decides (get_or names at []) store).0 found.1 in
    slice_get-get_or names at [] found.0 ∙ ap Some here

named : (o : Option Place) (store_contents : List Counted) → 0 < length store_contents → IfSome (option_map (λ (p : Place). p.store) o) (λ store. IsSome (place_of store (names_of store_contents)))
    → slice_get (names_of store_contents) (home_of (option_map (λ (p : Place). p.store) o) (names_of store_contents)) ≡ Some (option_map_or (λ (p : Place). p.store) o (first_name (contents_of_views store_contents)))
named None store_contents some homed = first_shown store_contents some
named (Some p) store_contents some homed = by (place_of p.store (names_of store_contents)) refl homed
  where
    by : (o : Option ℕ) → place_of p.store (names_of store_contents) ≡ o → IsSome o → slice_get (names_of store_contents) (home_of (Some p.store) (names_of store_contents)) ≡ Some p.store
    by None e h = absurd (cc (h))
    by (Some at) e h = rw e (stands_there (names_of store_contents) p.store at e)

-- the store of a namespace, by its place among the stores, is the one of its name
pub named_home : (places : List Place) (store_contents : List Counted) (ns : Name) → 0 < length store_contents → IfSome (route_of ns places) (λ store. IsSome (place_of store (names_of store_contents))) → slice_get (names_of store_contents) (home ns places (names_of store_contents)) ≡ Some (store_of places (contents_of_views store_contents) ns)
named_home places store_contents ns some homed =
    named (find (λ (p : Place). bytes_eq p.ns ns) places) store_contents some homed
    ∙ ap (λ o. Some (option_map_or (λ (p : Place). p.store) o (first_name (contents_of_views store_contents)))) (sym (find_named places ns))
