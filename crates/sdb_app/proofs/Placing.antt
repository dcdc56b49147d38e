-- The places of a script, once its namespaces are placed.
use Rattle.std.proofs.Common.{◌≡◌, ◌≢◌, ◌∙◌, ℕ, zero, suc, ◌+◌, ◌<◌, Bool, true, cond, List, [], ◌∷◌, ◌++◌, length, map, take, Option, Some, None, IfSome, refl, sym, ap, subst, arith, get_or}
use Rattle.std.specs.Prelude.{slice_get, IsSome, find, is_some}
use Rattle.std.specs.List.{Contains}
use Rattle.std.specs.Option.{option_map}
use Rattle.std.specs.Str.{bytes_eq}
use Rattle.std.proofs.Math.Numerals.{add-one}
use Rattle.std.proofs.lemmas.Option.{slice_get_within, get_or_from_slice_get}
use Rattle.std.proofs.lemmas.Slice.Eq.{bytes_eq-Decides}
use Rattle.sdb_app.specs.Types.{Place, Table, TableName}
use Rattle.sdb_stores.specs.Views.{Attached, StoreView as Counted, AreDistinct, home, names_of, place_of, route_of}
use Rattle.sdb_stores.proofs.Public.{apart}
use Rattle.sdb_model.specs.Rows.{Name}
use Rattle.sdb_model.specs.Events.{store_of}
use Rattle.sdb_contents.specs.Board.{AreUsable, contents_of_views}
use Rattle.sdb_contents.proofs.Public.{named_home, take_suc}
use Rattle.sdb_app.specs.Run.{CanBePlaced}
use Rattle.sdb_types.proofs.Public.{by_test, none_some, some_is}
use Rattle.sdb_model.specs.Tables.{is_table_of_run}

---- the stores of places

-- a name that is among others has a place there
contained : (name : Name) (names : List Name) → Contains names name → IsSome (place_of name names)
contained name names h = by (place_of name names) refl
  where
    by : (o : Option ℕ) → place_of name names ≡ o → IsSome (place_of name names)
    by None e = absurd (apart name names e h.0 name h.1 h.2)
    by (Some i) e = ap is_some e

pub attached_at : (names : List Name) (places : List Place) (i : ℕ) (p : Place) → CanBePlaced names places → slice_get places i ≡ Some p → IsSome (place_of p.store names)
attached_at names places i p h e =
    let here : get_or places i p ≡ p = get_or_from_slice_get places i p p e in
    contained p.store names (subst (λ (x : Place). Contains names x.store) here (h.attached i p (slice_get_within places i p e)))

homed_by : (ps : List Place) (names : List Name) → ((k : ℕ) (p : Place) → slice_get ps k ≡ Some p → IsSome (place_of p.store names)) → (ns : Name) → IfSome (route_of ns ps) (λ store. IsSome (place_of store names))
homed_by [] names h ns = tt
homed_by (p ∷ ps) names h ns =
    by_test (bytes_eq p.ns ns)
    (λ t. subst (λ (b : Bool). IfSome (option_map (λ (x : Place). x.store) (cond b (Some p) (find (λ (x : Place). bytes_eq x.ns ns) ps))) (λ store. IsSome (place_of store names))) (sym t) (h 0 p refl))
    (λ t. subst (λ (b : Bool). IfSome (option_map (λ (x : Place). x.store) (cond b (Some p) (find (λ (x : Place). bytes_eq x.ns ns) ps))) (λ store. IsSome (place_of store names))) (sym t) (homed_by ps names (λ k q e. h (suc k) q e) ns))

named_there : (store_contents : List Counted) (at : ℕ) (name : Name) → slice_get (names_of store_contents) at ≡ Some name → (s : Counted) × (slice_get store_contents at ≡ Some s) × (s.name ≡ name)
named_there [] at name e = absurd (none_some name e)
named_there (s ∷ ss) zero name e = (s, refl, some_is s.name name e)
named_there (s ∷ ss) (suc at) name e = named_there ss at name e

-- what a script's stores are to tell, at the places that it has
abbrev pub Tell : List Table → List Place → Attached → Type 0
Tell catalog places stores = (at : ℕ) (store : Counted) (table : TableName) → slice_get stores.views at ≡ Some store → is_table_of_run catalog table ≡ true → store_of places (contents_of_views stores.views) table.ns ≡ store.name → stores.known at

-- stores whose tables tell are fit for a run with the places of a script
pub fit_for : (catalog : List Table) (places : List Place) (stores : Attached) → stores.places ≡ places → CanBePlaced (names_of stores.views) places → 0 < length stores.views → AreDistinct (names_of stores.views) → Tell catalog places stores → AreUsable catalog stores
fit_for catalog places stores same h some distinct where_known =
    let ps = stores.places in
    let store_contents = stores.views in
    let homed = homed_by ps (names_of store_contents) (λ k p e. attached_at (names_of store_contents) places k p h (ap (λ (xs : List Place). slice_get xs k) (sym same) ∙ e)) in
    record {
      some = some;
      distinct = distinct;
      homed = homed;
      where_known = λ table about.
          let there = named_there store_contents (home table.ns ps (names_of store_contents)) (store_of ps (contents_of_views store_contents) table.ns) (named_home ps store_contents table.ns some (homed table.ns)) in
          where_known (home table.ns ps (names_of store_contents)) there.0 table there.1 about (sym (ap (λ (xs : List Place). store_of xs (contents_of_views store_contents) table.ns) same) ∙ sym there.2);
    }

---- one place more

free_by : (ps : List Place) (ns : Name) → ((k : ℕ) (p : Place) → slice_get ps k ≡ Some p → p.ns ≢ ns) → route_of ns ps ≡ None
free_by [] ns h = refl
free_by (p ∷ ps) ns h =
    by_test (bytes_eq p.ns ns)
    (λ t. absurd (h 0 p refl ((bytes_eq-Decides p.ns ns).0 t)))
    (λ t. ap (λ (b : Bool). option_map (λ (x : Place). x.store) (cond b (Some p) (find (λ (x : Place). bytes_eq x.ns ns) ps))) t ∙ free_by ps ns (λ k q e. h (suc k) q e))

accepted_at : {A : Type 0} (xs : List A) (i k : ℕ) (x : A) → slice_get (take i xs) k ≡ Some x → (k < i) × (slice_get xs k ≡ Some x)
accepted_at [] zero k x e = absurd (none_some x e)
accepted_at [] (suc i) k x e = absurd (none_some x e)
accepted_at (y ∷ ys) zero k x e = absurd (none_some x e)
accepted_at (y ∷ ys) (suc i) zero x e = (omega arith, e)
accepted_at (y ∷ ys) (suc i) (suc k) x e = let t = accepted_at ys i k x e in (let n = t.0 in omega arith, t.1)

-- the namespace of a place, among all
name_at : (places : List Place) (k : ℕ) (p : Place) (d : Name) → slice_get places k ≡ Some p → get_or (map (λ (x : Place). x.ns) places) k d ≡ p.ns
name_at [] k p d e = absurd (none_some p e)
name_at (q ∷ qs) zero p d e = ap (λ (x : Place). x.ns) (some_is q p e)
name_at (q ∷ qs) (suc k) p d e = name_at qs k p d e

name_within : (places : List Place) (k : ℕ) (p : Place) → slice_get places k ≡ Some p → k < length (map (λ (x : Place). x.ns) places)
name_within [] k p e = absurd (none_some p e)
name_within (q ∷ qs) zero p e = omega arith
name_within (q ∷ qs) (suc k) p e = let h = name_within qs k p e in omega arith

-- the next namespace has no place yet
pub free_at : (ps : List Place) (names : List Name) (places : List Place) (i : ℕ) (p : Place) → CanBePlaced names places → ps ≡ take i places → slice_get places i ≡ Some p → route_of p.ns ps ≡ None
free_at ps names places i p h same here =
    free_by ps p.ns (λ k q e.
    let t = accepted_at places i k q (ap (λ (xs : List Place). slice_get xs k) (sym same) ∙ e) in
    λ alike. h.once k i p.ns t.0 (name_within places i p here) (name_at places k q p.ns t.1 ∙ alike ∙ sym (name_at places i p p.ns here)))

-- and then it has one
pub placed_more : (ps qs : List Place) (places : List Place) (i : ℕ) (p : Place) → slice_get places i ≡ Some p → ps ≡ take i places → qs ≡ ps ++ p ∷ [] → qs ≡ take (i + 1) places
placed_more ps qs places i p here same more =
    more ∙ ap (λ (xs : List Place). xs ++ p ∷ []) same ∙ sym (ap (λ (k : ℕ). take k places) (add-one i) ∙ take_suc places i p here)
