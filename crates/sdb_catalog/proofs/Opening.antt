-- Entries read one after the other, and namespaces placed.
use Rattle.std.proofs.Common.{◌≡◌, ℕ, zero, suc, ◌+◌, ◌<◌, List, [], ◌∷◌, ◌++◌, length, map, take, drop, get_or, add-one, take-append-drop, Bool, true, false, not, cond, Option, Some, None, refl, sym, ap, subst, ◌∙◌, arith, append_assoc, append-nil}
use Rattle.std.specs.Prelude.{find, is_some, IsSome}
use Rattle.std.specs.Option.{option_map, option_or}
use Rattle.std.specs.Str.{bytes_eq}
use Rattle.std.proofs.Math.Seq.{take-suc, drop-cons}
use Rattle.std.proofs.lemmas.List.{map-append}
use Rattle.std.proofs.lemmas.List.Folds.{find-append}
use Rattle.std.proofs.lemmas.List.Elements.{filter-append}
use Rattle.std.proofs.lemmas.Slice.Eq.{bytes_eq-Decides}
use Rattle.sdb_catalog.specs.Types.{Key, Place, Record}
use Rattle.sdb_types.proofs.Public.{and_first, and_second, none_before}
use Rattle.sdb_stores.specs.Views.{place_of, route_of}
use Rattle.sdb_catalog.specs.declared.entry.Entry.{Entry}
use Rattle.sdb_catalog.specs.Rows.{row_of}
use Rattle.sdb_catalog.specs.Opened.{Follow, Follows, IsFirstBad, are_attached, is_attached, is_coordinators, open_entries, store_in, tables_of}

---- stores that are attached

find_none : {A : Type 0} (p : A → Bool) (xs : List A) (d : A) → ((k : ℕ) → k < length xs → p (get_or xs k d) ≡ false) → find p xs ≡ None
find_none p [] d h = refl
find_none p (x ∷ xs) d h = simp (h 0 (omega arith)) (find_none p xs d (λ k inside. h (suc k) (omega arith)))

pub attached_placed : {X : Type 0} (names : List (List ℕ)) (store : List ℕ) → is_attached names store ≡ true → place_of store names ≡ None → X
attached_placed names store there none =
    let e : find (λ (n : List ℕ). bytes_eq n store) names ≡ None = find_none (λ (n : List ℕ). bytes_eq n store) names [] (none_before (λ (n : List ℕ). bytes_eq n store) names [] none) in
    absurd (let f : false ≡ true = ap is_some (sym e) ∙ there in cc)

---- places

or_map : {A B : Type 0} (f : A → B) (a b : Option A) → option_map f (option_or a b) ≡ option_or (option_map f a) (option_map f b)
or_map f None b = refl
or_map f (Some a) b = refl

or_none : {A : Type 0} (a : Option A) → option_or a None ≡ a
or_none None = refl
or_none (Some a) = refl

abbrev pub with_place : List ℕ → List ℕ → Place
with_place ns store = record { ns = ns; store = store }

-- one place more
pub placed_one : (places : List Place) (e : Entry) (ns : List ℕ) → route_of ns (places ++ record { ns = e.table.name.ns; store = e.store } ∷ []) ≡ option_or (route_of ns places) (store_in (e ∷ []) ns)
placed_one places e ns =
    ap (option_map (λ (p : Place). p.store)) (find-append (λ (p : Place). bytes_eq p.ns ns) places (record { ns = e.table.name.ns; store = e.store } ∷ []))
    ∙ or_map (λ (p : Place). p.store) (find (λ (p : Place). bytes_eq p.ns ns) places) (find (λ (p : Place). bytes_eq p.ns ns) (record { ns = e.table.name.ns; store = e.store } ∷ []))
    ∙ ap (option_or (route_of ns places)) (same (bytes_eq e.table.name.ns ns))
  where
    same : (b : Bool) → option_map (λ (p : Place). p.store) (cond b (Some (record { ns = e.table.name.ns; store = e.store })) None) ≡ option_map (λ (a : Entry). a.store) (cond b (Some e) None)
    same true = refl
    same false = refl

known_first : {A : Type 0} (a b : Option A) → IsSome a → option_or a b ≡ a
known_first (Some x) b h = refl
known_first None b h = absurd (let e : false ≡ true = h in cc)

-- a namespace that has a place
pub placed_known : (places : List Place) (e : Entry) (ns : List ℕ) → IsSome (route_of e.table.name.ns places) → route_of ns places ≡ option_or (route_of ns places) (store_in (e ∷ []) ns)
placed_known places e ns known =
    elim (bytes_eq e.table.name.ns ns) as (λ b. bytes_eq e.table.name.ns ns ≡ b → route_of ns places ≡ option_or (route_of ns places) (option_map (λ (a : Entry). a.store) (cond b (Some e) None))) [
      | true ↦ λ q. sym (known_first (route_of ns places) (Some e.store) (subst (λ (n : List ℕ). IsSome (route_of n places)) ((bytes_eq-Decides e.table.name.ns ns).0 q) known))
      | false ↦ λ q. sym (or_none (route_of ns places))
    ] refl

store_more : (es : List Entry) (e : Entry) (ns : List ℕ) → store_in (es ++ e ∷ []) ns ≡ option_or (store_in es ns) (store_in (e ∷ []) ns)
store_more es e ns =
    ap (option_map (λ (a : Entry). a.store)) (find-append (λ (a : Entry). bytes_eq a.table.name.ns ns) es (e ∷ []))
    ∙ or_map (λ (a : Entry). a.store) (find (λ (a : Entry). bytes_eq a.table.name.ns ns) es) (find (λ (a : Entry). bytes_eq a.table.name.ns ns) (e ∷ []))

pub placed_more : (before after : List Place) (es rest : List Entry) (e : Entry) → rest ≡ es ++ e ∷ [] → ((ns : List ℕ) → route_of ns before ≡ store_in es ns) → ((ns : List ℕ) → route_of ns after ≡ option_or (route_of ns before) (store_in (e ∷ []) ns)) → (ns : List ℕ) → route_of ns after ≡ store_in rest ns
placed_more before after es rest e is h k = λ ns.
    k ns ∙ ap (λ (o : Option (List ℕ)). option_or o (store_in (e ∷ []) ns)) (h ns) ∙ sym (store_more es e ns) ∙ ap (λ (l : List Entry). store_in l ns) (sym is)

-- the store of each entry among attached ones
pub attached_at : (names : List (List ℕ)) (es : List Entry) (i : ℕ) (e : Entry) → are_attached names es ≡ true → i < length es → e ≡ get_or es i e → is_attached names e.store ≡ true
attached_at names [] i e h inside is = absurd (omega arith)
attached_at names (x ∷ xs) zero e h inside is = ap (λ (a : Entry). is_attached names a.store) is ∙ and_first (is_attached names x.store) (are_attached names xs) h
attached_at names (x ∷ xs) (suc i) e h inside is = attached_at names xs i e (and_second (is_attached names x.store) (are_attached names xs) h) (omega arith) is

---- tables

pub tables_more : (es : List Entry) (e : Entry) → tables_of (es ++ e ∷ []) ≡ tables_of es ++ tables_of (e ∷ [])
tables_more es e =
    ap (map (λ (a : Entry). a.table)) (filter-append (λ (a : Entry). not (is_coordinators a)) es (e ∷ [])) ∙ map-append (λ (a : Entry). a.table) (open_entries es) (open_entries (e ∷ []))

---- entries that follow

pub follow_more : (names : List (List ℕ)) (passed es : List Entry) (e : Entry) → Follow names passed es → Follows names (passed ++ es) e → Follow names passed (es ++ e ∷ [])
follow_more names passed [] e h k = (subst (λ (l : List Entry). Follows names l e) (append-nil passed) k, tt)
follow_more names passed (x ∷ xs) e h k =
    (h.0, follow_more names (passed ++ x ∷ []) xs e h.1 (subst (λ (l : List Entry). Follows names l e) (sym (append_assoc passed (x ∷ []) xs)) k))

---- rows read one after the other

pub rows_more : (rows : List Record) (i : ℕ) {row : Record} (es : List Entry) {more : List Entry} (e : Entry) → i < length rows → row ≡ get_or rows i row → row_of e ≡ row → take i rows ≡ map row_of es → more ≡ es ++ e ∷ [] → take (i + 1) rows ≡ map row_of more
rows_more rows i {row} es e inside is at h pushed =
    ap (λ (n : ℕ). take n rows) (add-one i) ∙ take-suc rows i row inside ∙ ap (λ (l : List Record). l ++ get_or rows i row ∷ []) h
    ∙ ap (λ (r : Record). map row_of es ++ r ∷ []) (sym is ∙ sym at) ∙ sym (map-append row_of es (e ∷ [])) ∙ ap (map row_of) (sym pushed)

pub first_bad : (names : List (List ℕ)) (rows : List Record) (i : ℕ) (row : Record) (es : List Entry) (found : Option Entry) (place : Key) → i < length rows → row ≡ get_or rows i row → take i rows ≡ map row_of es → Follow names [] es
    → ((e : Entry) → row_of e ≡ row → Follows names es e → found ≡ Some e) → found ≡ None → place ≡ row.key → IsFirstBad names rows place
first_bad names rows i row es found place inside is h follow read none at = record {
  passed = es;
  bad = row;
  later = drop (suc i) rows;
  rows = sym (take-append-drop i rows) ∙ ap (λ (l : List Record). l ++ drop i rows) h ∙ ap (λ (l : List Record). map row_of es ++ l) (drop-cons rows i row inside) ∙ ap (λ (r : Record). map row_of es ++ r ∷ drop (suc i) rows) (sym is);
  follow = follow;
  stops = λ e same fit. absurd (let f : None ≡ Some e = sym none ∙ read e same fit in cc);
  key = sym at;
}
