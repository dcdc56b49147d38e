-- A store dropped once everything of it was moved.
use Rattle.std.proofs.Common.{◌≡◌, ◌≢◌, inl, inr, ℕ, zero, suc, ◌+◌, ◌<◌, List, [], ◌∷◌, ◌++◌, length, map, take, drop, get_or, Bool, true, false, cond, Option, Some, None, refl, sym, ap, subst, ◌∙◌, arith}
use Rattle.std.specs.Prelude.{find, is_some, remove, slice_get, unwrap_or, Contains, IsSome}
use Rattle.std.specs.Str.{bytes_eq}
use Rattle.std.proofs.lemmas.List.{drop-map, length-map, map-append, take-map}
use Rattle.std.proofs.lemmas.Option.{slice_get-get_or}
use Rattle.std.proofs.lemmas.List.Quantifiers.{position-Some}
use Rattle.std.proofs.lemmas.Slice.Eq.{bytes_eq-Decides}
use Rattle.sdb_types.proofs.Public.{false_by, false_true, none_before}
use Rattle.sdb_stores.specs.Views.{Attached, StoreView, IsDropped, index_at, index_in, names_of, place_of, places_without}
use Rattle.sdb_catalog.specs.Calls.{first_contents, with_states}
use Rattle.sdb_catalog.specs.Opened.{is_attached}
use Rattle.sdb_contents.specs.declared.retire_refused.RetireRefused.{RetireRefused}
use Rattle.sdb_contents.specs.declared.retire_refused.RetireRefused.TheVariants as refused
use Rattle.sdb_contents.specs.Joined.{AreStillAttached}
use Rattle.sdb_contents.specs.Dropped.{HoldsStill, IsRetired, MayRetire}
use Rattle.sdb_contents.specs.Retired.{AreAllMoved, IsUnmoved, IsUnmovedKnown, OthersArePreserved, Sides}
use Rattle.sdb_contents.specs.Writes.{GoOn, contents_at}
use Rattle.sdb_contents.proofs.RetireCalls.{same_index, still_there}
use Rattle.sdb_contents.proofs.Passing.{all_met}

---- names

pub not_same : (a b : List ℕ) → a ≢ b → bytes_eq a b ≡ false
not_same a b h = false_by (bytes_eq a b) (λ e. h ((bytes_eq-Decides a b).0 e))

-- where a name is, there it is
pub named_at : (names : List (List ℕ)) (name : List ℕ) (at : ℕ) → place_of name names ≡ Some at → (at < length names) × (get_or names at [] ≡ name)
named_at names name at h =
    let p = position-Some (λ n. bytes_eq n name) names at [] h in
    (p.0, (bytes_eq-Decides (get_or names at []) name).0 p.1)

pub place_is : (o : Option ℕ) → IsSome o → o ≡ Some (unwrap_or o 0)
place_is None h = false_true h
place_is (Some i) h = refl

pub index_apart : (old : Attached) (a b : List ℕ) → IsSome (index_in old a) → IsSome (index_in old b) → a ≢ b → index_at old a ≢ index_at old b
index_apart old a b h k apart e =
    let x = named_at (names_of old.views) a (index_at old a) (place_is (index_in old a) h) in
    let y = named_at (names_of old.views) b (index_at old b) (place_is (index_in old b) k) in
    apart (sym x.1 ∙ ap (λ (i : ℕ). get_or (names_of old.views) i []) e ∙ y.1)

index_of : (names : List (List ℕ)) (name : List ℕ) (o : Option ℕ) → place_of name names ≡ o → Contains names name → IsSome o
index_of names name (Some i) e h = refl
index_of names name None e h =
    false_true (sym (none_before (λ n. bytes_eq n name) names name e h.0 h.1) ∙ (bytes_eq-Decides (get_or names h.0 name) name).1 h.2)

pub attached_of : (old : Attached) (name : List ℕ) → Contains (names_of old.views) name → IsSome (index_in old name)
attached_of old name h = index_of (names_of old.views) name (index_in old name) refl h

pub some_store : (old : Attached) (name : List ℕ) → Contains (names_of old.views) name → 0 < length old.views
some_store old name h = omega (arith, h.1, length-map old.views (λ (s : StoreView). s.name))

pub later_of : (old : Attached) (name : List ℕ) → Contains (names_of old.views) name → slice_get (names_of old.views) 0 ≢ Some name → index_at old name ≢ 0
later_of old name h first e =
    let p = named_at (names_of old.views) name (index_at old name) (place_is (index_in old name) (attached_of old name h)) in
    first (slice_get-get_or (names_of old.views) 0 [] (subst (λ (i : ℕ). i < length (names_of old.views)) e p.0) ∙ ap Some (subst (λ (i : ℕ). get_or (names_of old.views) i [] ≡ name) e p.1))

pub found_at : (names : List (List ℕ)) (at : ℕ) (store : List ℕ) → at < length names → bytes_eq (get_or names at []) store ≡ true → is_attached names store ≡ true
found_at [] at store inside h = absurd (omega arith)
found_at (n ∷ ns) zero store inside h = ap (λ (b : Bool). is_some (cond b (Some n) (find (λ x. bytes_eq x store) ns))) h
found_at (n ∷ ns) (suc at) store inside h = by (found_at ns at store (omega arith) h) (bytes_eq n store)
  where
    by : is_attached ns store ≡ true → (b : Bool) → is_some (cond b (Some n) (find (λ x. bytes_eq x store) ns)) ≡ true
    by rest true = refl
    by rest false = rest

pub left_there : (names : List (List ℕ)) (at : ℕ) (store : List ℕ) → bytes_eq (get_or names at []) store ≡ false → is_attached names store ≡ true → is_attached (remove names at) store ≡ true
left_there [] at store d h = false_true h
left_there (n ∷ ns) zero store d h = sym (ap (λ (b : Bool). is_some (cond b (Some n) (find (λ x. bytes_eq x store) ns))) d) ∙ h
left_there (n ∷ ns) (suc at) store d h = by (λ k. left_there ns at store d k) (bytes_eq n store) h
  where
    by : (is_attached ns store ≡ true → is_attached (remove ns at) store ≡ true) → (b : Bool) → is_some (cond b (Some n) (find (λ x. bytes_eq x store) ns)) ≡ true → is_some (cond b (Some n) (find (λ x. bytes_eq x store) (remove ns at))) ≡ true
    by rest true k = refl
    by rest false k = rest k

turned : (a b : List ℕ) → bytes_eq a b ≡ false → bytes_eq b a ≡ false
turned a b h = false_by (bytes_eq b a) (λ e. false_true (sym h ∙ (bytes_eq-Decides a b).1 (sym ((bytes_eq-Decides b a).0 e))))

pub still_attached : (names : List (List ℕ)) (from to : List ℕ) (at : ℕ) → place_of from names ≡ Some at → from ≢ to → is_attached names to ≡ true → AreStillAttached names (remove names at) from to
still_attached names from to at found apart there =
    let own = (named_at names from at found).1 in
    record {
      kept = left_there names at to (ap (λ (n : List ℕ). bytes_eq n to) own ∙ not_same from to apart) there;
      others = λ store h n. left_there names at store (ap (λ (x : List ℕ). bytes_eq x store) own ∙ turned store from n) h;
    }

pub names_left : (xs : List StoreView) (at : ℕ) → names_of (remove xs at) ≡ remove (names_of xs) at
names_left xs at =
    map-append (λ (s : StoreView). s.name) (take at xs) (drop (suc at) xs)
    ∙ ap (λ (l : List (List ℕ)). l ++ map (λ (s : StoreView). s.name) (drop (suc at) xs)) (sym (take-map (λ (s : StoreView). s.name) at xs))
    ∙ ap (λ (l : List (List ℕ)). take at (map (λ (s : StoreView). s.name) xs) ++ l) (sym (drop-map (λ (s : StoreView). s.name) (suc at) xs))

---- the first store

pub first_left : (xs : List StoreView) (at : ℕ) → at ≢ 0 → first_contents (remove xs at) ≡ contents_at xs 0
first_left xs zero h = absurd (h refl)
first_left [] (suc at) h = refl
first_left (x ∷ xs) (suc at) h = refl

pub first_at : (xs : List StoreView) → contents_at xs 0 ≡ first_contents xs
first_at [] = refl
first_at (x ∷ xs) = refl

-- what the first store holds, once a later one is gone
pub first_stays : (xs ys : List StoreView) (at : ℕ) → at ≢ 0 → ys ≡ remove xs at → contents_at ys 0 ≡ contents_at xs 0
first_stays xs ys at h is = first_at ys ∙ ap first_contents is ∙ first_left xs at h

---- retired

dropped_from : (name : List ℕ) (old mid new : Attached) → GoOn old mid → IsDropped name mid new → IsDropped name (with_states old mid.views) new
dropped_from name old mid new goes d = record {
  at = d.at;
  found = d.found;
  rest = d.rest;
  places = d.places ∙ ap (places_without name) goes.places;
  before = λ i less t. d.before i less (goes.where_known i t);
  after = λ i most t. d.after i most (goes.where_known (i + 1) t);
}

pub retired : (s : Sides) (n : ℕ) (old mid new : Attached) → GoOn old mid → AreAllMoved s n old mid → OthersArePreserved s old mid → IsDropped s.from mid new → IsRetired s n old new
retired s n old mid new goes moved others d = record {
  mid = mid.views;
  moved = record { survey = moved.survey; observed = moved.observed; count = moved.count; start = moved.start; read = moved.read; made = moved.made; held = moved.held; tables = moved.tables; rows = moved.rows };
  others = others;
  goes = record { names = goes.names; places = refl; counted = goes.counted; where_known = λ i t. t };
  dropped = dropped_from s.from old mid new goes d;
}

---- refused

pub holds_still : (s : Sides) (old new : Attached) → MayRetire (names_of old.views) s → GoOn old new → OthersArePreserved s old new → HoldsStill s.from old new
holds_still s old new may goes others = record {
  attached = still_there old new s.from goes (attached_of old s.from may.from);
  contents = λ t. ap (contents_at new.views) (same_index old new s.from goes) ∙ others (index_at old s.from) (index_apart old s.from s.to (attached_of old s.from may.from) (attached_of old s.to may.to) may.apart) (later_of old s.from may.from may.stays) t;
}

pub unmoved_known : (s : Sides) (old new : Attached) (e : RetireRefused) → IsUnmoved s old new e → IsUnmovedKnown s old new e
unmoved_known s old new refused.StoreFault h = h
unmoved_known s old new (refused.BadRow key) (inl h) = λ known. h
unmoved_known s old new (refused.BadRow key) (inr h) = λ known. absurd (all_met s h.survey old new.views key known h.observed h.met)
unmoved_known s old new refused.NoMemory h = h
