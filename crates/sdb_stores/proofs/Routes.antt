-- Places that are found by their namespaces.
use Rattle.std.proofs.Common.{◌≡◌, ℕ, Bool, true, false, not, ◌||◌, cond, List, [], ◌∷◌, ◌++◌, map, filter, Option, Some, None, refl, sym, ap, subst, ◌∙◌}
use Rattle.std.specs.Prelude.{find, Result, Ok, Err, OnOk, OnErr}
use Rattle.std.specs.Bool.{Decides, one_answer}
use Rattle.std.specs.BTreeMap.{BTreeMap, IsOrdered, Updates, get}
use Rattle.std.specs.List.{AllByRecursion, IsDistinct, list_any}
use Rattle.std.specs.Map.{lookup, keys_of}
use Rattle.std.specs.Option.{option_map}
use Rattle.std.specs.Ordering.{eq_by_cmp}
use Rattle.std.specs.Str.{bytes_eq}
use Rattle.std.proofs.lemmas.Cmp.{eq_by_cmp_equiv}
use Rattle.std.proofs.lemmas.List.{map-append}
use Rattle.std.proofs.lemmas.Map.Entries.{lookup-filter-values, option_filter}
use Rattle.std.proofs.lemmas.Map.Keys.{IsDistinct-from_sorted, IsDistinct-head, IsDistinct-tail, IsDistinct-cons, IsDistinct-push}
use Rattle.std.proofs.lemmas.Slice.Eq.{bytes_eq-Decides}
use Rattle.sdb_types.specs.declared.place.Place.{Place}
use Rattle.sdb_types.specs.Exact.{order_decides}
use Rattle.sdb_types.specs.Order.{name_cmp}
use Rattle.sdb_types.proofs.Public.{by_test, name_exact, name_total, none_some, or_else}
use Rattle.sdb_stores.specs.Routes.{HasRoutes}
use Rattle.sdb_stores.specs.Views.{route_of, places_without}

-- two names are one where their order ties them
abbrev same_name : List ℕ → List ℕ → Bool
same_name a b = eq_by_cmp name_cmp a b

is_known : (a b : List ℕ) → (same_name a b ≡ true → a ≡ b) × (a ≡ b → same_name a b ≡ true)
is_known = order_decides name_total name_exact

names_tied : (a b : List ℕ) → bytes_eq a b ≡ same_name b a
names_tied a b =
    let t = is_known b a in
    one_answer (bytes_eq a b) (same_name b a) (bytes_eq-Decides a b) (λ h. sym (t.0 h), λ e. t.1 (sym e))

---- places as pairs of a namespace and its store

abbrev pairs_of : List Place → List (List ℕ × List ℕ)
pairs_of ps = map (λ p. (p.ns, p.store)) ps

keys_of-pairs : (ps : List Place) → keys_of (pairs_of ps) ≡ map (λ p. p.ns) ps
keys_of-pairs [] = refl
keys_of-pairs (p ∷ ps) = ap (λ ns. p.ns ∷ ns) (keys_of-pairs ps)

pairs_without : (store : List ℕ) (ps : List Place) → filter (λ e. not (bytes_eq e.1 store)) (pairs_of ps) ≡ pairs_of (places_without store ps)
pairs_without store [] = refl
pairs_without store (p ∷ ps) =
    elim (bytes_eq p.store store) as (λ b. cond (not b) ((p.ns, p.store) ∷ filter (λ e. not (bytes_eq e.1 store)) (pairs_of ps)) (filter (λ e. not (bytes_eq e.1 store)) (pairs_of ps)) ≡ pairs_of (cond (not b) (p ∷ places_without store ps) (places_without store ps))) [
      | true ↦ pairs_without store ps
      | false ↦ ap (λ qs. (p.ns, p.store) ∷ qs) (pairs_without store ps)
    ]

route_step : (ns : List ℕ) (p : Place) (ps : List Place) → route_of ns (p ∷ ps) ≡ cond (same_name ns p.ns) (Some p.store) (route_of ns ps)
route_step ns p ps =
    ap (λ b. option_map (λ (q : Place). q.store) (cond b (Some p) (find (λ (q : Place). bytes_eq q.ns ns) ps))) (names_tied p.ns ns)
    ∙ elim (same_name ns p.ns) as (λ b. option_map (λ (q : Place). q.store) (cond b (Some p) (find (λ (q : Place). bytes_eq q.ns ns) ps)) ≡ cond b (Some p.store) (route_of ns ps)) [ true ↦ refl | false ↦ refl ]

route_pairs : (ns : List ℕ) (ps : List Place) → route_of ns ps ≡ lookup (same_name ns) (pairs_of ps)
route_pairs ns [] = refl
route_pairs ns (p ∷ ps) = route_step ns p ps ∙ ap (cond (same_name ns p.ns) (Some p.store)) (route_pairs ns ps)

---- no places

pub no_routes : (ps : List Place) (m : BTreeMap (List ℕ) (List ℕ)) → ps ≡ [] → m.entries ≡ [] → IsOrdered name_cmp m → HasRoutes ps (get name_cmp m)
no_routes ps m is none ordered = subst (λ (qs : List Place). HasRoutes qs (get name_cmp m)) (sym is) (record {
  finds = λ ns. ap (lookup (same_name ns)) none;
  once = subst (IsDistinct same_name) (ap keys_of none) (IsDistinct-from_sorted name_cmp (keys_of m.entries) ordered);
})

---- places accepted away

left_apart : (P : List ℕ → Type 0) (store : List ℕ) (ps : List Place) → AllByRecursion P (map (λ p. p.ns) ps) → AllByRecursion P (map (λ p. p.ns) (places_without store ps))
left_apart P store [] h = tt
left_apart P store (p ∷ ps) h =
    elim (bytes_eq p.store store) as (λ b. AllByRecursion P (map (λ p. p.ns) (cond (not b) (p ∷ places_without store ps) (places_without store ps)))) [
      | true ↦ left_apart P store ps h.1
      | false ↦ (h.0, left_apart P store ps h.1)
    ]

left_once : (store : List ℕ) (ps : List Place) → IsDistinct same_name (map (λ p. p.ns) ps) → IsDistinct same_name (map (λ p. p.ns) (places_without store ps))
left_once store [] h = h
left_once store (p ∷ ps) h =
    let rest : IsDistinct same_name (map (λ p. p.ns) (places_without store ps)) = left_once store ps (IsDistinct-tail same_name p.ns (map (λ p. p.ns) ps) h) in
    elim (bytes_eq p.store store) as (λ b. IsDistinct same_name (map (λ p. p.ns) (cond (not b) (p ∷ places_without store ps) (places_without store ps)))) [
      | true ↦ rest
      | false ↦ IsDistinct-cons same_name p.ns (map (λ p. p.ns) (places_without store ps))
          (left_apart (λ y. same_name p.ns y ≡ false) store ps (IsDistinct-head same_name p.ns (map (λ p. p.ns) ps) h)) rest
    ]

pub left : (store : List ℕ) (ps : List Place) (old new : BTreeMap (List ℕ) (List ℕ)) → IsOrdered name_cmp old → new.entries ≡ filter (λ e. not (bytes_eq e.1 store)) old.entries → HasRoutes ps (get name_cmp old)
    → HasRoutes (places_without store ps) (get name_cmp new)
left store ps old new ordered is routes = record {
  finds = λ ns.
      ap (lookup (same_name ns)) is
      ∙ lookup-filter-values (eq_by_cmp_equiv name_total) (λ home. not (bytes_eq home store)) ns old.entries (IsDistinct-from_sorted name_cmp (keys_of old.entries) ordered)
      ∙ ap (option_filter (λ home. not (bytes_eq home store))) (routes.finds ns ∙ route_pairs ns ps)
      ∙ sym (lookup-filter-values (eq_by_cmp_equiv name_total) (λ home. not (bytes_eq home store)) ns (pairs_of ps) (subst (IsDistinct same_name) (sym (keys_of-pairs ps)) routes.once))
      ∙ ap (lookup (same_name ns)) (pairs_without store ps)
      ∙ sym (route_pairs ns (places_without store ps));
  once = left_once store ps routes.once;
}

-- what an insert of copies does to the stores that are found
pub copied : (p : Place) (ns store : List ℕ) (old new : BTreeMap (List ℕ) (List ℕ)) → ns ≡ p.ns → store ≡ p.store → ((q : List ℕ) → get name_cmp new q ≡ cond (same_name ns q) (Some store) (get name_cmp old q))
    → (q : List ℕ) → get name_cmp new q ≡ cond (same_name p.ns q) (Some p.store) (get name_cmp old q)
copied p ns store old new own home is q =
    is q ∙ ap (λ k. cond (same_name k q) (Some store) (get name_cmp old q)) own ∙ ap (λ s. cond (same_name p.ns q) (Some s) (get name_cmp old q)) home

---- a place more

route_more : (ns : List ℕ) (ps : List Place) (p : Place) → route_of ns (ps ++ p ∷ []) ≡ or_else (route_of ns ps) (cond (same_name ns p.ns) (Some p.store) None)
route_more ns [] p = route_step ns p []
route_more ns (q ∷ ps) p =
    route_step ns q (ps ++ p ∷ []) ∙ ap (cond (same_name ns q.ns) (Some q.store)) (route_more ns ps p)
    ∙ elim (same_name ns q.ns) as (λ b. cond b (Some q.store) (or_else (route_of ns ps) (cond (same_name ns p.ns) (Some p.store) None)) ≡ or_else (cond b (Some q.store) (route_of ns ps)) (cond (same_name ns p.ns) (Some p.store) None)) [ true ↦ refl | false ↦ refl ]
    ∙ ap (λ o. or_else o (cond (same_name ns p.ns) (Some p.store) None)) (sym (route_step ns q ps))

none_placed : (ns : List ℕ) (ps : List Place) → route_of ns ps ≡ None → list_any (same_name ns) (map (λ p. p.ns) ps) ≡ false
none_placed ns [] h = refl
none_placed ns (p ∷ ps) h =
    by_test (same_name ns p.ns)
    (λ t. none_some p.store (sym h ∙ route_step ns p ps ∙ ap (λ b. cond b (Some p.store) (route_of ns ps)) t))
    (λ f. ap (λ b. b || list_any (same_name ns) (map (λ p. p.ns) ps)) f ∙ none_placed ns ps (sym (ap (λ b. cond b (Some p.store) (route_of ns ps)) f) ∙ sym (route_step ns p ps) ∙ h))

module _ (ps : List Place) (p : Place) (free : route_of p.ns ps ≡ None) where
  none_alike : (ns : List ℕ) → same_name p.ns ns ≡ true → route_of ns ps ≡ None
  none_alike ns t = subst (λ (x : List ℕ). route_of x ps ≡ None) ((is_known p.ns ns).0 t) free

  turned : (ns : List ℕ) → same_name ns p.ns ≡ same_name p.ns ns
  turned ns =
      let t = is_known ns p.ns in
      let u = is_known p.ns ns in
      one_answer {P = ns ≡ p.ns} (same_name ns p.ns) (same_name p.ns ns) t (λ h. sym (u.0 h), λ e. u.1 (sym e))

  pub more : (old new : BTreeMap (List ℕ) (List ℕ)) → HasRoutes ps (get name_cmp old) → ((ns : List ℕ) → get name_cmp new ns ≡ cond (same_name p.ns ns) (Some p.store) (get name_cmp old ns)) → HasRoutes (ps ++ p ∷ []) (get name_cmp new)
  more old new routes is = record {
    finds = λ ns.
        by_test (same_name p.ns ns)
        (λ t. is ns ∙ ap (λ b. cond b (Some p.store) (get name_cmp old ns)) t
        ∙ sym (route_more ns ps p ∙ ap (λ o. or_else o (cond (same_name ns p.ns) (Some p.store) None)) (none_alike ns t) ∙ ap (λ b. cond b (Some p.store) None) (turned ns ∙ t)))
        (λ f. is ns ∙ ap (λ b. cond b (Some p.store) (get name_cmp old ns)) f ∙ routes.finds ns
        ∙ sym (route_more ns ps p ∙ ap (λ b. or_else (route_of ns ps) (cond b (Some p.store) None)) (turned ns ∙ f) ∙ or_nothing (route_of ns ps)));
    once = subst (IsDistinct same_name) (sym (map-append (λ (q : Place). q.ns) ps (p ∷ []))) (IsDistinct-push (eq_by_cmp_equiv name_total) (map (λ (q : Place). q.ns) ps) p.ns routes.once (none_placed p.ns ps free));
  }
    where
      or_nothing : (o : Option (List ℕ)) → or_else o None ≡ o
      or_nothing None = refl
      or_nothing (Some x) = refl

  -- a place that is not made after all
  pub undone : (old mid new : BTreeMap (List ℕ) (List ℕ)) → HasRoutes ps (get name_cmp old) → ((ns : List ℕ) → get name_cmp mid ns ≡ cond (same_name p.ns ns) (Some p.store) (get name_cmp old ns))
      → ((ns : List ℕ) → get name_cmp new ns ≡ cond (same_name p.ns ns) None (get name_cmp mid ns)) → HasRoutes ps (get name_cmp new)
  undone old mid new routes was is = record {
    finds = λ ns.
        by_test (same_name p.ns ns)
        (λ t. is ns ∙ ap (λ b. cond b None (get name_cmp mid ns)) t ∙ sym (none_alike ns t))
        (λ f. is ns ∙ ap (λ b. cond b None (get name_cmp mid ns)) f ∙ was ns ∙ ap (λ b. cond b (Some p.store) (get name_cmp old ns)) f ∙ routes.finds ns);
    once = routes.once;
  }
