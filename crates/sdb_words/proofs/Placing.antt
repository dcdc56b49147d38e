-- The places that words are.
use Rattle.std.proofs.Common.{◌≡◌, ◌≢◌, ◌∙◌, ℕ, zero, suc, ◌<◌, ◌+◌, List, [], ◌∷◌, ◌++◌, length, map, get_or, take, drop, true, false, Some, None, refl, sym, ap, ap₂, subst, arith, codes}
use Rattle.std.specs.Prelude.{All, Contains, find}
use Rattle.std.specs.Str.{bytes_eq}
use Rattle.std.proofs.lemmas.Slice.Eq.{bytes_eq-Decides}
use Rattle.std.proofs.lemmas.List.Elements.{All-push, All-cons, All-contains, All-head, All-nil, All-tail, Contains-append_right}
use Rattle.std.proofs.lemmas.List.Quantifiers.{all_pairs_push}
use Rattle.std.proofs.lemmas.List.{map-append, take-append-drop, take_more}
use Rattle.sdb_types.specs.NameText.{around}
use Rattle.sdb_types.proofs.Public.{by_test, drop_next, false_true, none_some, some_is}
use Rattle.sdb_record.specs.Parts.{is_column_name}
use Rattle.sdb_stores.specs.Views.{AreDistinct}
use Rattle.sdb_types.specs.declared.place.Place.{Place}
use Rattle.sdb_words.specs.Places.{is_placed, place_text, ArePlaces, IsPlace}
use Rattle.sdb_words.proofs.Joined.{Halves, joined, no_equals, parted}

abbrev Text : Type 0
Text = List ℕ

---- one of some names

pub same_text : (a b : Text) → bytes_eq a b ≡ true → a ≡ b
same_text a b h = (bytes_eq-Decides a b).0 h

pub itself : (a : Text) → bytes_eq a a ≡ true
itself a = (bytes_eq-Decides a a).1 refl

-- a name that is found is the one that was looked for, and is among them
pub found_is : (w : Text) (names : List Text) (n : Text) → Some n ≡ find (λ m. bytes_eq m w) names → (n ≡ w) × Contains names w
found_is w [] n h = none_some n (sym h)
found_is w (x ∷ xs) n h =
    by_test (bytes_eq x w)
    (λ e. let k : Some n ≡ Some x = rw e at h in
    let same = same_text x w e in (some_is n x k ∙ same, (0, omega arith, same)))
    (λ e. let k : Some n ≡ find (λ m. bytes_eq m w) xs = rw e at h in
    let rest = found_is w xs n k in (rest.0, Contains-append_right (x ∷ []) xs w rest.1))

-- what isn't found isn't among them
pub not_found : (w : Text) (names : List Text) → None ≡ find (λ m. bytes_eq m w) names → Contains names w → ⊥
not_found w [] h has = absurd (omega (arith, has.1))
not_found w (x ∷ xs) h has =
    by_test (bytes_eq x w)
    (λ e. let k : None ≡ Some x = rw e at h in none_some x k)
    (λ e. let k : None ≡ find (λ m. bytes_eq m w) xs = rw e at h in not_found w xs k (others e has))
  where
    others : bytes_eq x w ≡ false → Contains (x ∷ xs) w → Contains xs w
    others e (zero, inside, is) = false_true (sym e ∙ (bytes_eq-Decides x w).1 is)
    others e (suc k, inside, is) = (k, omega arith, is)

---- one place

pub place_parted : (p : Place) (text : Text) → is_column_name p.ns ≡ true → text ≡ place_text p → around 61 text ≡ Some (p.ns, p.store)
place_parted p text h e = parted 61 refl no_equals p.ns p.store text h e

-- the parts of a word that is a place
pub halves_are : (word : Text) (a b : Text) (p : Place) → Some (a, b) ≡ around 61 word → is_column_name p.ns ≡ true → word ≡ place_text p → (a ≡ p.ns) × (b ≡ p.store)
halves_are word a b p h named e =
    let same : ◌≡◌ {A = Halves} (a, b) (p.ns, p.store) = some_is {A = Halves} (a, b) (p.ns, p.store) (h ∙ place_parted p word named e) in
    (ap (λ (r : Halves). r.0) same, ap (λ (r : Halves). r.1) same)

-- a word without `=` is no place
pub unequalled : (stores : List Text) (word : Text) → None ≡ around 61 word → (p : Place) → IsPlace stores p → word ≡ place_text p → ⊥
unequalled stores word h p is e = none_some (p.ns, p.store) (h ∙ place_parted p word is.named e)

-- two places of one text are one
pub same_place : (p q : Place) → is_column_name p.ns ≡ true → is_column_name q.ns ≡ true → place_text p ≡ place_text q → p ≡ q
same_place p q h k e =
    let both = halves_are (place_text p) p.ns p.store q (sym (place_parted p (place_text p) h refl)) k e in
    ap₂ (λ (a b : Text). record { ns = a; store = b }) both.0 both.1

pub no_name : (a b : Text) → is_column_name a ≡ false → a ≡ b → is_column_name b ≡ true → ⊥
no_name a b bad same named = false_true (sym bad ∙ ap is_column_name same ∙ named)

-- the place that is made of a word's halves, with the store that was found
pub made : (stores : List Text) (word ns store found : Text) → Some (ns, store) ≡ around 61 word → is_column_name ns ≡ true → ns ≢ codes "scalardb" → Some found ≡ find (λ m. bytes_eq m store) stores → IsPlace stores (record { ns = ns; store = found }) × (word ≡ place_text (record { ns = ns; store = found }))
made stores word ns store found h named free e =
    let f = found_is store stores found e in (
      record { named = named; free = free; attached = subst (λ (x : Text). Contains stores x) (sym f.0) f.1 },
      joined 61 word (ns, store) (sym h) ∙ ap (λ (x : Text). ns ++ 61 ∷ x) (sym f.0),
    )

---- places one after the other

abbrev texts : List Place → List Text
texts places = map place_text places

abbrev namespaces : List Place → List Text
namespaces places = map (λ p. p.ns) places

-- the place at some word of places
pub place_at : (stores : List Text) (ps : List Place) (before : List Text) (word : Text) (rest : List Text) → All (IsPlace stores) ps → before ++ word ∷ rest ≡ texts ps → (p : Place) × IsPlace stores p × (word ≡ place_text p)
place_at stores [] [] word rest all e = absurd cc
place_at stores (p ∷ ps) [] word rest all e = (p, All-head (IsPlace stores) p ps all, cc)
place_at stores [] (x ∷ xs) word rest all e = absurd cc
place_at stores (p ∷ ps) (x ∷ xs) word rest all e = place_at stores ps xs word rest (All-tail (IsPlace stores) p ps all) cc

-- places of one list of texts begin with the same places
pub begin_alike : (stores : List Text) (done ps : List Place) (p : Place) (rest : List Text) → All (IsPlace stores) done → IsPlace stores p → All (IsPlace stores) ps → texts done ++ place_text p ∷ rest ≡ texts ps → (more : List Place) × (ps ≡ done ++ p ∷ more)
begin_alike stores [] [] p rest each is all e = absurd cc
begin_alike stores [] (q ∷ qs) p rest each is all e =
    let text : place_text q ≡ place_text p = cc in
    (qs, ap (λ (x : Place). x ∷ qs) (same_place q p (All-head (IsPlace stores) q qs all).named is.named text))
begin_alike stores (d ∷ ds) [] p rest each is all e = absurd cc
begin_alike stores (d ∷ ds) (q ∷ qs) p rest each is all e =
    let text : place_text q ≡ place_text d = cc in
    let tail : texts ds ++ place_text p ∷ rest ≡ texts qs = cc in
    let same = same_place q d (All-head (IsPlace stores) q qs all).named (All-head (IsPlace stores) d ds each).named text in
    let on = begin_alike stores ds qs p rest (All-tail (IsPlace stores) d ds each) is (All-tail (IsPlace stores) q qs all) tail in
    (on.0, ap₂ (λ (x : Place) (xs : List Place). x ∷ xs) same on.1)

-- a namespace that is placed isn't placed again
first_apart : (n : Text) (ns rest : List Text) (m : Text) → AreDistinct (n ∷ (ns ++ m ∷ rest)) → n ≢ m
first_apart n ns rest m h =
    let tails : All (λ k. n ≢ k) (ns ++ m ∷ rest) = λ k d less. h 0 (suc k) d (omega arith) (omega arith) in
    All-contains (λ k. n ≢ k) (ns ++ m ∷ rest) m tails (Contains-append_right ns (m ∷ rest) m (0, omega arith, refl))

apart : (done : List Place) (n : Text) (rest : List Text) → AreDistinct (namespaces done ++ n ∷ rest) → is_placed done n ≡ true → ⊥
apart [] n rest h placed = false_true placed
apart (d ∷ ds) n rest h placed =
    by_test (bytes_eq d.ns n)
    (λ e. first_apart d.ns (namespaces ds) rest n h (same_text d.ns n e))
    (λ e. apart ds n rest (λ i j x less end. h (suc i) (suc j) x (omega arith) (omega arith)) (rw e at placed))

pub placed_twice : (stores : List Text) (done : List Place) (p : Place) (rest : List Text) → All (IsPlace stores) done → IsPlace stores p → is_placed done p.ns ≡ true → (ps : List Place) → ArePlaces stores ps → texts done ++ place_text p ∷ rest ≡ texts ps → ⊥
placed_twice stores done p rest each is placed ps all e =
    let on = begin_alike stores done ps p rest each is all.each e in
    let once : AreDistinct (namespaces (done ++ p ∷ on.0)) = subst (λ (x : List Place). AreDistinct (namespaces x)) on.1 all.once in
    apart done p.ns (namespaces on.0) (subst AreDistinct (map-append (λ (x : Place). x.ns) done (p ∷ on.0)) once) placed

other_than : (done : List Place) (n : Text) → is_placed done n ≡ false → All (λ k. k ≢ n) (namespaces done)
other_than [] n h = All-nil (λ k. k ≢ n)
other_than (d ∷ ds) n h =
    by_test (bytes_eq d.ns n)
    (λ e. let k : true ≡ false = rw e at h in absurd cc)
    (λ e. All-cons (λ k. k ≢ n) d.ns (namespaces ds) (λ is. let u : bytes_eq d.ns n ≡ true = rw is (itself n) in false_true (sym e ∙ u)) (other_than ds n (rw e at h)))

-- one more, whose namespace isn't placed
pub one_more : (stores : List Text) (done : List Place) (p : Place) → ArePlaces stores done → IsPlace stores p → is_placed done p.ns ≡ false → ArePlaces stores (done ++ p ∷ [])
one_more stores done p all is free =
    record {
      each = All-push (IsPlace stores) done p all.each is;
      once = subst AreDistinct (sym (map-append (λ (x : Place). x.ns) done (p ∷ []))) (all_pairs_push ◌≢◌ (namespaces done) p.ns all.once (other_than done p.ns free));
    }

-- a list at one of its items
pub seam : {A B : Type 0} (f : A → B) (xs : List A) (i : ℕ) (x : A) → i < length xs → x ≡ get_or xs i x → map f xs ≡ map f (take i xs) ++ f x ∷ map f (drop (i + 1) xs)
seam f xs i x inside is =
    ap (map f) (sym (take-append-drop i xs) ∙ ap (λ ys. take i xs ++ ys) (drop_next xs i x inside is)) ∙ map-append f (take i xs) (x ∷ drop (i + 1) xs)

pub taken_next : {A B : Type 0} (f : A → B) (xs : List A) (i : ℕ) (x : A) → i < length xs → x ≡ get_or xs i x → map f (take (i + 1) xs) ≡ map f (take i xs) ++ f x ∷ []
taken_next f xs i x inside is = let t : take (i + 1) xs ≡ take i xs ++ x ∷ [] = take_more xs i x inside ∙ ap (λ y. take i xs ++ y ∷ []) (sym is) in ap (map f) t ∙ map-append f (take i xs) (x ∷ [])
