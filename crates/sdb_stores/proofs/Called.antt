-- Stores seen through what each shows.
use Rattle.std.proofs.Common.{◌≡◌, ◌⊎◌, inl, inr, ℕ, suc, zero, ◌+◌, ◌-◌, ◌^◌, ◌<◌, ◌≤◌, List, [], ◌∷◌, ◌++◌, length, map, take, drop, get_or, slice_set, Bool, true, false, not, cond, nat_lt, Option, Some, None, IfOk, Result, refl, sym, ap, subst, ◌∙◌, arith, add-one, add_comm, add_assoc}
use Rattle.std.specs.Prelude.{slice_get, position, remove, sum_by, Any, IsSome, IsSomeAnd, unwrap_or}
use Rattle.std.specs.Option.{option_map}
use Rattle.std.specs.List.{prefix_len}
use Rattle.std.specs.Str.{bytes_eq}
use Rattle.std.proofs.lemmas.List.{map-set, length-map, map-append, take-map, drop-map}
use Rattle.std.proofs.lemmas.List.Sums.{sum_by-set, sum_by-cons}
use Rattle.std.proofs.lemmas.List.Quantifiers.{position-Some, any-set}
use Rattle.std.proofs.lemmas.Option.{slice_get-map, slice_get-get_or, slice_get_within, get_or_from_slice_get}
use Rattle.std.proofs.lemmas.Slice.Eq.{bytes_eq-Decides}
use Rattle.sdb_types.specs.Bytes.{HasRisen}
use Rattle.sdb_types.specs.Contents.{IsWellFormed}
use Rattle.sdb_types.specs.declared.key.TableName.{TableName}
use Rattle.sdb_types.specs.declared.record.Request.{Request}
use Rattle.sdb_types.specs.declared.record.Reply.{Reply}
use Rattle.sdb_types.specs.declared.record.Reply.TheVariants as reply
use Rattle.sdb_store.specs.Store.{StoreState, IsStoreCall}
use Rattle.sdb_store.proofs.Public.{faults_grown, next_risen}
use Rattle.sdb_types.specs.declared.place.Place.{Place}
use Rattle.sdb_stores.specs.Views.{Attached, StoreView, AreSound, IsCallAt, IsTakenOut, HaveCause, attached_as, view_of, names_of, place_of, route_of, places_without, home, home_of, total_faults}

---- places

prefix_len-map : {A B : Type 0} (f : A → B) (p : B → Bool) (xs : List A) → prefix_len p (map f xs) ≡ prefix_len (λ x. p (f x)) xs
prefix_len-map f p [] = refl
prefix_len-map f p (x ∷ xs) = ap (λ (n : ℕ). cond (p (f x)) (1 + n) 0) (prefix_len-map f p xs)

position-map : {A B : Type 0} (f : A → B) (p : B → Bool) (xs : List A) → position p (map f xs) ≡ position (λ x. p (f x)) xs
position-map f p xs =
    ap (λ (n : ℕ). cond (nat_lt n (length (map f xs))) (Some n) None) (prefix_len-map f (λ y. not (p y)) xs)
    ∙ ap (λ (m : ℕ). cond (nat_lt (prefix_len (λ x. not (p (f x))) xs) m) (Some (prefix_len (λ x. not (p (f x))) xs)) None) (length-map xs f)

-- a place among the items is one among the names that they show
pub placed : {A : Type 0} (store_content : A → StoreView) (xs ys : List A) (name : List ℕ) (r : Option ℕ) → ys ≡ xs → r ≡ position (λ x. bytes_eq (store_content x).name name) ys → r ≡ place_of name (names_of (map store_content xs))
placed store_content xs ys name r same is =
    is ∙ ap (position (λ x. bytes_eq (store_content x).name name)) same
    ∙ sym (position-map (λ s. s.name) (λ n. bytes_eq n name) (map store_content xs) ∙ position-map store_content (λ s. bytes_eq s.name name) xs)

pub names_of-map : {A : Type 0} (store_content : A → StoreView) (xs : List A) → names_of (map store_content xs) ≡ map (λ x. (store_content x).name) xs
names_of-map store_content [] = refl
names_of-map store_content (x ∷ xs) = ap (λ ns. (store_content x).name ∷ ns) (names_of-map store_content xs)

pub named : {A E : Type 0} (store_content : A → StoreView) (xs ys : List A) (r : Result (List (List ℕ)) E) → ys ≡ xs → IfOk r (λ names. names ≡ map (λ x. (store_content x).name) ys) → IfOk r (λ names. names ≡ names_of (map store_content xs))
named store_content xs ys r same h =
    let e : map (λ x. (store_content x).name) ys ≡ names_of (map store_content xs) = ap (map (λ x. (store_content x).name)) same ∙ sym (names_of-map store_content xs) in
    subst (λ (ns : List (List ℕ)). IfOk r (λ names. names ≡ ns)) e h

place_within : (name : List ℕ) (names : List (List ℕ)) → 0 < length names → unwrap_or (place_of name names) 0 < length names
place_within name names some =
    elim (place_of name names) as (λ o. place_of name names ≡ o → unwrap_or o 0 < length names) [
      | None ↦ λ e. some
      | Some i ↦ λ e. (position-Some (λ n. bytes_eq n name) names i [] e).0
    ] refl

within_home : (o : Option (List ℕ)) (names : List (List ℕ)) → 0 < length names → home_of o names < length names
within_home None names some = some
within_home (Some store) names some = place_within store names some

-- the store of a namespace is among the stores
pub home_within : {A : Type 0} (store_content : A → StoreView) (xs : List A) (places : List Place) (ns : List ℕ) (at : ℕ) → 0 < length (map store_content xs) → at ≡ home ns places (names_of (map store_content xs)) → at < length xs
home_within store_content xs places ns at some is =
    let same : length (names_of (map store_content xs)) ≡ length xs = length-map (map store_content xs) (λ s. s.name) ∙ length-map xs store_content in
    let n : 0 < length (names_of (map store_content xs)) = omega (arith, same, length-map xs store_content) in
    let h : home ns places (names_of (map store_content xs)) < length (names_of (map store_content xs)) = within_home (route_of ns places) (names_of (map store_content xs)) n in
    omega (arith, same, is)

-- an index among the contents is one among the items
pub shown_within : {A : Type 0} (store_content : A → StoreView) (xs : List A) (at : ℕ) → at < length (map store_content xs) → at < length xs
shown_within store_content xs at inside = omega (arith, inside, length-map xs store_content)

pub shown_inside : {A : Type 0} (store_content : A → StoreView) (xs : List A) (at : ℕ) → at < length xs → at < length (map store_content xs)
shown_inside store_content xs at inside = omega (arith, inside, length-map xs store_content)

-- where a name is that one of the stores has
pub named_within : (store_contents : List StoreView) (name : List ℕ) (o : Option ℕ) (at : ℕ) → IsSome (place_of name (names_of store_contents)) → o ≡ place_of name (names_of store_contents) → at ≡ unwrap_or o 0 → at < length store_contents
named_within store_contents name o at some found is =
    let there : unwrap_or (place_of name (names_of store_contents)) 0 < length (names_of store_contents) = named_there (place_of name (names_of store_contents)) some refl in
    omega (arith, is, ap (λ (p : Option ℕ). unwrap_or p 0) found, there, length-map store_contents (λ (s : StoreView). s.name))
  where
    named_there : (p : Option ℕ) → IsSome p → place_of name (names_of store_contents) ≡ p → unwrap_or p 0 < length (names_of store_contents)
    named_there None none e = absurd (let f : false ≡ true = none in cc)
    named_there (Some i) h e = (position-Some (λ n. bytes_eq n name) (names_of store_contents) i [] e).0

lies_at : {A : Type 0} (store_content : A → StoreView) (xs : List A) (at : ℕ) (x : A) → at < length xs → x ≡ get_or xs at x → slice_get (map store_content xs) at ≡ Some (store_content x)
lies_at store_content xs at x inside is = slice_get-map store_content xs at ∙ ap (option_map store_content) (slice_get-get_or xs at x inside) ∙ ap (λ z. Some (store_content z)) (sym is)

pub name_at : {A : Type 0} (store_content : A → StoreView) (xs : List A) (at home : ℕ) (x : A) → at < length xs → x ≡ get_or xs at x → at ≡ home → slice_get (names_of (map store_content xs)) home ≡ Some (store_content x).name
name_at store_content xs at home x inside is same =
    subst (λ (i : ℕ). slice_get (names_of (map store_content xs)) i ≡ Some (store_content x).name) same
    (slice_get-map (λ s. s.name) (map store_content xs) at ∙ ap (option_map (λ s. s.name)) (lies_at store_content xs at x inside is))

pub same_home : (names : List (List ℕ)) (places : List Place) (t u : TableName) (at : ℕ) → at ≡ home t.ns places names → t ≡ u → at ≡ home u.ns places names
same_home names places t u at is same = is ∙ ap (λ (v : TableName). home v.ns places names) same

---- a call

telling_set : {A : Type 0} (P : A → Type 0) (xs : List A) (at : ℕ) (y : A) → (IsSomeAnd (slice_get xs at) P → P y) → (i : ℕ) → IsSomeAnd (slice_get xs i) P → IsSomeAnd (slice_get (slice_set xs at y) i) P
telling_set P [] at y f i h = absurd h
telling_set P (x ∷ xs) zero y f zero h = f h
telling_set P (x ∷ xs) zero y f (suc i) h = h
telling_set P (x ∷ xs) (suc at) y f zero h = h
telling_set P (x ∷ xs) (suc at) y f (suc i) h = telling_set P xs at y f i h

told_at : {A : Type 0} (P : A → Type 0) (xs : List A) (at : ℕ) (x : A) → slice_get xs at ≡ Some x → IsSomeAnd (slice_get xs at) P → P x
told_at P xs at x e h = subst (λ (o : Option _). IsSomeAnd o P) e h

pub called_at : {A : Type 0} {places later : List Place} (name : A → List ℕ) (see : A → StoreState) (xs : List A) (at home : ℕ) (q : Request) (r : Reply) (x y : A) → IsWellFormed q → at < length xs → x ≡ get_or xs at x → at ≡ home
    → name y ≡ name x → IsStoreCall q r (see x) (see y) → IsCallAt home q r (attached_as name see places xs) (attached_as name see later (slice_set xs at y))
called_at {A} {places} {later} name see xs at home q r x y formed inside is same named called =
    let here : slice_get xs at ≡ Some x = slice_get-get_or xs at x inside ∙ ap Some (sym is) in
    let store_content : A → StoreView = λ a. view_of (name a) (see a) in
    let is_known : A → Type 0 = λ a. (see a).known in
    let call : IsCallAt at q r (attached_as name see places xs) (attached_as name see later (slice_set xs at y)) = record {
      formed = formed;
      before = store_content x;
      now = store_content y;
      stood = lies_at store_content xs at x inside is;
      rest = map-set store_content xs at y;
      name = named;
      performed = λ h. called.performed (told_at is_known xs at x here h);
      lawful = called.lawful;
      counted = called.counted;
      cause = called.cause;
      where_known = telling_set is_known xs at y (λ h. called.where_known (told_at is_known xs at x here h));
    } in
    subst (λ (i : ℕ). IsCallAt i q r (attached_as name see places xs) (attached_as name see later (slice_set xs at y))) same call

pub moved_at : (at home : ℕ) (q : Request) (r : Reply) (m n : Attached) → at ≡ home → IsCallAt at q r m n → IsCallAt home q r m n
moved_at at home q r m n same call = subst (λ (i : ℕ). IsCallAt i q r m n) same call

pub set_same : {A : Type 0} (xs : List A) (at : ℕ) (x : A) → slice_get xs at ≡ Some x → slice_set xs at x ≡ xs
set_same [] at x e = refl
set_same (y ∷ xs) zero x e = let same : y ≡ x = cc in ap (λ z. z ∷ xs) (sym same)
set_same (y ∷ xs) (suc at) x e = ap (λ zs. y ∷ zs) (set_same xs at x e)

-- a call changes no name
pub same_names : (at : ℕ) (q : Request) (r : Reply) (m n : Attached) → IsCallAt at q r m n → names_of n.views ≡ names_of m.views
same_names at q r m n call =
    ap names_of call.rest ∙ map-set (λ s. s.name) m.views at call.now ∙ ap (slice_set (names_of m.views) at) call.name
    ∙ set_same (names_of m.views) at call.before.name (slice_get-map (λ s. s.name) m.views at ∙ ap (option_map (λ s. s.name)) call.stood)

balance : (at : ℕ) (q : Request) (r : Reply) (m n : Attached) (call : IsCallAt at q r m n) → total_faults n.views + call.before.faults ≡ total_faults m.views + call.now.faults
balance at q r m n call =
    let inside : at < length m.views = slice_get_within m.views at call.before call.stood in
    let stood : get_or m.views at call.before ≡ call.before = get_or_from_slice_get m.views at call.before call.before call.stood in
    ap (λ (k : List StoreView). total_faults k + call.before.faults) call.rest
    ∙ ap (λ (s : StoreView). total_faults (slice_set m.views at call.now) + s.faults) (sym stood)
    ∙ sum_by-set (λ s. s.faults) m.views at call.now call.before inside

-- the count of a store does not fall
pub not_fewer : (at : ℕ) (q : Request) (r : Reply) (m n : Attached) (call : IsCallAt at q r m n) → call.before.faults ≤ call.now.faults
not_fewer at q r m n call = subst (λ (k : ℕ). call.before.faults ≤ k) (sym call.cause) (faults_grown r call.before.faults)

pub grown : (at : ℕ) (q : Request) (r : Reply) (m n : Attached) → IsCallAt at q r m n → total_faults m.views ≤ total_faults n.views
grown at q r m n call = omega (arith, balance at q r m n call, not_fewer at q r m n call)

risen : (at : ℕ) (q : Request) (r : Reply) (m n : Attached) (call : IsCallAt at q r m n) → HasRisen call.before.faults call.now.faults → (total_faults m.views < total_faults n.views) ⊎ Any (λ s. 2 ^ 64 - 1 ≤ s.faults) n.views
risen at q r m n call h =
    elim h [
      | inl rose ↦ inl (omega (arith, balance at q r m n call, rose))
      | inr most ↦ inr (subst (Any (λ s. 2 ^ 64 - 1 ≤ s.faults)) (sym call.rest) (any-set (λ s. 2 ^ 64 - 1 ≤ s.faults) m.views at call.now (slice_get_within m.views at call.before call.stood) most))
    ]

sound : (at : ℕ) (q : Request) (r : Reply) (m n : Attached) (call : IsCallAt at q r m n) → call.now.faults ≡ call.before.faults → AreSound m.views n.views
sound at q r m n call same = omega (arith, balance at q r m n call, same)

-- a fault raises the count of all stores, and no other reply does
pub caused : (at : ℕ) (q : Request) (r : Reply) (m n : Attached) → IsCallAt at q r m n → HaveCause r m.views n.views
caused at q reply.Fault m n call = risen at q reply.Fault m n call (subst (HasRisen call.before.faults) (sym call.cause) (next_risen call.before.faults))
caused at q reply.NoMemory m n call = sound at q reply.NoMemory m n call call.cause
caused at q (reply.Found found) m n call = sound at q (reply.Found found) m n call call.cause
caused at q (reply.Rows rows) m n call = sound at q (reply.Rows rows) m n call call.cause
caused at q reply.Applied m n call = sound at q reply.Applied m n call call.cause
caused at q (reply.NotMet found) m n call = sound at q (reply.NotMet found) m n call call.cause
caused at q (reply.NotAll k found) m n call = sound at q (reply.NotAll k found) m n call call.cause

---- a store accepted out

pub map-remove : {A B : Type 0} (f : A → B) (xs : List A) (i : ℕ) → map f (remove xs i) ≡ remove (map f xs) i
map-remove f xs i = map-append f (take i xs) (drop (suc i) xs) ∙ ap (λ ys. ys ++ map f (drop (suc i) xs)) (sym (take-map f i xs)) ∙ ap (λ ys. take i (map f xs) ++ ys) (sym (drop-map f (suc i) xs))

told_before : {A : Type 0} (P : A → Type 0) (xs : List A) (at i : ℕ) → i < at → IsSomeAnd (slice_get xs i) P → IsSomeAnd (slice_get (remove xs at) i) P
told_before P [] at i less h = absurd h
told_before P (x ∷ xs) zero i less h = absurd (omega arith)
told_before P (x ∷ xs) (suc at) zero less h = h
told_before P (x ∷ xs) (suc at) (suc i) less h = told_before P xs at i (omega arith) h

told_behind : {A : Type 0} (P : A → Type 0) (xs : List A) (at i : ℕ) → at ≤ i → IsSomeAnd (slice_get xs (suc i)) P → IsSomeAnd (slice_get (remove xs at) i) P
told_behind P [] at i most h = absurd h
told_behind P (x ∷ xs) zero i most h = h
told_behind P (x ∷ xs) (suc at) zero most h = absurd (omega arith)
told_behind P (x ∷ xs) (suc at) (suc i) most h = told_behind P xs at i (omega arith) h

-- a store that has a place is among the stores
pub found_within : {A : Type 0} (store_content : A → StoreView) (xs : List A) (name : List ℕ) (at : ℕ) → Some at ≡ place_of name (names_of (map store_content xs)) → at < length xs
found_within store_content xs name at found =
    let place : at < length (names_of (map store_content xs)) = (position-Some (λ n. bytes_eq n name) (names_of (map store_content xs)) at [] (sym found)).0 in
    omega (arith, place, length-map (map store_content xs) (λ s. s.name), length-map xs store_content)

less_one : {A : Type 0} (f : A → ℕ) (xs : List A) (at : ℕ) (x : A) → slice_get xs at ≡ Some x → sum_by f (remove xs at) + f x ≡ sum_by f xs
less_one f [] at x e = cc
less_one f (y ∷ xs) zero x e = let same : y ≡ x = cc in add_comm (sum_by f xs) (f x) ∙ ap (λ z. f z + sum_by f xs) (sym same) ∙ sym (sum_by-cons f y xs)
less_one f (y ∷ xs) (suc at) x e = ap (λ n. n + f x) (sum_by-cons f y (remove xs at)) ∙ add_assoc (f y) (sum_by f (remove xs at)) (f x) ∙ ap (λ n. f y + n) (less_one f xs at x e) ∙ sym (sum_by-cons f y xs)

pub taken_out : {A : Type 0} {places later : List Place} (name : A → List ℕ) (see : A → StoreState) (xs ys : List A) (own : List ℕ) (at : ℕ) (x : A) → Some at ≡ place_of own (names_of (map (λ a. view_of (name a) (see a)) xs)) → x ≡ get_or xs at x
    → ys ≡ remove xs at → later ≡ places_without own places → IsTakenOut own (see x) (attached_as name see places xs) (attached_as name see later ys)
taken_out {A} name see xs ys own at x found is out left =
    let store_content : A → StoreView = λ a. view_of (name a) (see a) in
    let is_known : A → Type 0 = λ a. (see a).known in
    let place : (at < length (names_of (map store_content xs))) × (bytes_eq (get_or (names_of (map store_content xs)) at []) own ≡ true) × ((k : ℕ) → k < at → bytes_eq (get_or (names_of (map store_content xs)) k []) own ≡ false) = position-Some (λ n. bytes_eq n own) (names_of (map store_content xs)) at [] (sym found) in
    let inside : at < length xs = omega (arith, place.0, length-map (map store_content xs) (λ s. s.name), length-map xs store_content) in
    let agrees : slice_get (map store_content xs) at ≡ Some (store_content x) = lies_at store_content xs at x inside is in
    let same : name x ≡ own = sym (get_or_from_slice_get (names_of (map store_content xs)) at (name x) [] (name_at store_content xs at at x inside is refl)) ∙ (bytes_eq-Decides (get_or (names_of (map store_content xs)) at []) own).0 place.1 in
    let rest : map store_content ys ≡ remove (map store_content xs) at = ap (map store_content) out ∙ map-remove store_content xs at in
    record {
      at = at;
      found = sym found;
      accepted = agrees ∙ ap (λ n. Some (view_of n (see x))) same;
      rest = rest;
      places = left;
      where_known = told_at is_known xs at x (slice_get-get_or xs at x inside ∙ ap Some (sym is));
      before = λ i less h. subst (λ (zs : List _). IsSomeAnd (slice_get zs i) is_known) (sym out) (told_before is_known xs at i less h);
      after = λ i most h. subst (λ (zs : List _). IsSomeAnd (slice_get zs i) is_known) (sym out) (told_behind is_known xs at i most (rw (← add-one) h));
      counted = ap (λ (k : List StoreView). total_faults k + (see x).faults) rest ∙ less_one (λ s. s.faults) (map store_content xs) at (store_content x) agrees;
    }
