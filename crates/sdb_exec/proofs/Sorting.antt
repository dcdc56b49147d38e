-- A stable sort of items turned round places them as putting each before the first that is not below it does.
use Rattle.std.proofs.Common.{◌≡◌, ℕ, suc, ◌+◌, List, [], ◌∷◌, ◌++◌, length, Bool, true, false, not, ◌&&◌, cond, get_or, refl, sym, ap, ◌∙◌, subst, arith, append_assoc}
use Rattle.std.specs.Prelude.{filter, fold, insert, take_while, reverse}
use Rattle.std.specs.List.{list_all}
use Rattle.std.specs.List.Sorted.{IsSortedBy, IsStableBy, ties}
use Rattle.std.specs.Cmp.{IsStrictWeakOrder}
use Rattle.std.proofs.lemmas.Bool.{and_parts, and_from, not-true}
use Rattle.std.proofs.lemmas.List.{append-nil, reverse-append}
use Rattle.std.proofs.lemmas.List.Elements.{filter-append}
use Rattle.sdb_types.proofs.Public.{one_more}

module _ {X : Type 0} (lt : X → X → Bool) (o : IsStrictWeakOrder lt) where
  -- an item put before the first that is not below it
  abbrev put : X → List X → List X
  put r [] = r ∷ []
  put r (x ∷ xs) = cond (lt x r) (x ∷ put r xs) (r ∷ x ∷ xs)

  abbrev pub placed_in : List X → X → List X
  placed_in xs r = insert xs (length (take_while (λ x. lt x r) xs)) r

  put-is : (r : X) (xs : List X) → placed_in xs r ≡ put r xs
  put-is r [] = refl
  put-is r (x ∷ xs) =
      elim (lt x r) as (λ b. lt x r ≡ b → placed_in (x ∷ xs) r ≡ put r (x ∷ xs)) [
        | true ↦ λ q. simp (q, one_more) (ap (λ l. x ∷ l) (put-is r xs))
        | false ↦ λ q. simp q refl
      ] refl

  -- none of these is below it
  abbrev is_least : X → List X → Bool
  is_least x ys = list_all (λ y. not (lt y x)) ys

  abbrev are_ordered : List X → Bool
  are_ordered [] = true
  are_ordered (x ∷ xs) = is_least x xs && are_ordered xs

  itself : (x : X) → lt x x ≡ false
  itself x = elim (lt x x) as (λ b. lt x x ≡ b → b ≡ false) [ true ↦ λ h. sym h ∙ o.one_way x x h | false ↦ λ h. refl ] refl

  least_on : (x y : X) (zs : List X) → lt y x ≡ false → is_least y zs ≡ true → is_least x zs ≡ true
  least_on x y [] h l = refl
  least_on x y (z ∷ zs) h l =
      let parts = and_parts (not (lt z y)) (is_least y zs) l in
      let below : lt z x ≡ false = o.chain z y x (not-true _ parts.0) h in
      rw (below, least_on x y zs h parts.1) refl

  adjacent : (x y : X) (ys : List X) → IsSortedBy lt (x ∷ y ∷ ys) → lt y x ≡ false
  adjacent x y ys s = s 0 x (omega arith) (omega arith)

  tail_sorted : (x : X) (ys : List X) → IsSortedBy lt (x ∷ ys) → IsSortedBy lt ys
  tail_sorted x ys s k d low high =
      let next : suc k + 1 ≡ suc (k + 1) = omega arith in
      subst (λ (n : ℕ). lt (get_or (x ∷ ys) n d) (get_or ys k d) ≡ false) next (s (suc k) d (omega arith) (omega arith))

  ordered : (xs : List X) → IsSortedBy lt xs → are_ordered xs ≡ true
  ordered [] s = refl
  ordered (x ∷ []) s = refl
  ordered (x ∷ y ∷ ys) s =
      let rest : are_ordered (y ∷ ys) ≡ true = ordered (y ∷ ys) (tail_sorted x (y ∷ ys) s) in
      let above = and_parts (is_least y ys) (are_ordered ys) rest in
      let next : lt y x ≡ false = adjacent x y ys s in
      let least : is_least x ys ≡ true = least_on x y ys next above.0 in
      and_from (is_least x (y ∷ ys)) (are_ordered (y ∷ ys)) (rw (next, least) refl) rest

  -- two ordered lists with the same ties are equal

  below_all : (x y z : X) → lt x y ≡ true → lt z y ≡ false → lt x z ≡ true
  below_all x y z h k = elim (lt x z) as (λ b. lt x z ≡ b → b ≡ true) [ true ↦ λ q. refl | false ↦ λ q. sym (o.chain x z y q k) ∙ h ] refl

  none_among : (x y : X) (ys : List X) → lt x y ≡ true → is_least y ys ≡ true → filter (ties lt x) ys ≡ []
  none_among x y [] h l = refl
  none_among x y (z ∷ zs) h l =
      let parts = and_parts (not (lt z y)) (is_least y zs) l in
      let above : lt x z ≡ true = below_all x y z h (not-true _ parts.0) in
      let rest : filter (ties lt x) zs ≡ [] = none_among x y zs h parts.1 in
      rw (above, rest) refl

  kept : (x : X) (xs : List X) → filter (ties lt x) (x ∷ xs) ≡ x ∷ filter (ties lt x) xs
  kept x xs = rw (itself x) refl

  apart : (x : X) (xs : List X) (y : X) (ys : List X) → is_least y ys ≡ true → filter (ties lt x) (x ∷ xs) ≡ filter (ties lt x) (y ∷ ys) → lt x y ≡ false
  apart x xs y ys l h =
      elim (lt x y) as (λ b. lt x y ≡ b → b ≡ false) [
        | true ↦ λ q.
            let least : is_least y (y ∷ ys) ≡ true = rw (itself y, l) refl in
            let gone : filter (ties lt x) (y ∷ ys) ≡ [] = none_among x y (y ∷ ys) q least in
            let bad : ◌≡◌ {A = List X} (x ∷ filter (ties lt x) xs) [] = sym (kept x xs) ∙ h ∙ gone in
            absurd (cc)
        | false ↦ λ q. refl
      ] refl

  without : (b : Bool) (x : X) (xs ys : List X) → cond b (x ∷ xs) xs ≡ cond b (x ∷ ys) ys → xs ≡ ys
  without true x xs ys h = cc
  without false x xs ys h = h

  one_order : (xs ys : List X) → are_ordered xs ≡ true → are_ordered ys ≡ true → ((k : X) → filter (ties lt k) xs ≡ filter (ties lt k) ys) → xs ≡ ys
  one_order [] [] a b h = refl
  one_order [] (y ∷ ys) a b h =
      let bad : ◌≡◌ {A = List X} [] (y ∷ filter (ties lt y) ys) = h y ∙ kept y ys in
      absurd (cc)
  one_order (x ∷ xs) [] a b h =
      let bad : ◌≡◌ {A = List X} (x ∷ filter (ties lt x) xs) [] = sym (kept x xs) ∙ h x in
      absurd (cc)
  one_order (x ∷ xs) (y ∷ ys) a b h =
      let as' = and_parts (is_least x xs) (are_ordered xs) a in
      let bs' = and_parts (is_least y ys) (are_ordered ys) b in
      let less : lt x y ≡ false = apart x xs y ys bs'.0 (h x) in
      let more : lt y x ≡ false = apart y ys x xs as'.0 (sym (h y)) in
      let tied : filter (ties lt x) (y ∷ ys) ≡ y ∷ filter (ties lt x) ys = rw (less, more) refl in
      let heads : x ∷ filter (ties lt x) xs ≡ y ∷ filter (ties lt x) ys = sym (kept x xs) ∙ h x ∙ tied in
      let first : x ≡ y = cc in
      let rest : xs ≡ ys = one_order xs ys as'.1 bs'.1 (λ k. without (ties lt k x) x _ _ (h k ∙ ap (λ z. filter (ties lt k) (z ∷ ys)) (sym first))) in
      cc

  -- putting keeps the order, and puts an item before those that it ties with

  put_all : (p : X → Bool) (r : X) (xs : List X) → p r ≡ true → list_all p xs ≡ true → list_all p (put r xs) ≡ true
  put_all p r [] h l = rw h refl
  put_all p r (x ∷ xs) h l =
      let parts = and_parts (p x) (list_all p xs) l in
      let rest : list_all p (put r xs) ≡ true = put_all p r xs h parts.1 in
      elim (lt x r) as (λ b. list_all p (cond b (x ∷ put r xs) (r ∷ x ∷ xs)) ≡ true) [ true ↦ rw (parts.0, rest) refl | false ↦ rw (h, parts.0, parts.1) refl ]

  put_ordered : (r : X) (xs : List X) → are_ordered xs ≡ true → are_ordered (put r xs) ≡ true
  put_ordered r [] h = refl
  put_ordered r (x ∷ xs) h =
      let parts = and_parts (is_least x xs) (are_ordered xs) h in
      elim (lt x r) as (λ b. lt x r ≡ b → are_ordered (cond b (x ∷ put r xs) (r ∷ x ∷ xs)) ≡ true) [
        | true ↦ λ q.
            let above : lt r x ≡ false = o.one_way x r q in
            and_from (is_least x (put r xs)) (are_ordered (put r xs)) (put_all (λ y. not (lt y x)) r xs (rw above refl) parts.0) (put_ordered r xs parts.1)
        | false ↦ λ q.
            let least : is_least r xs ≡ true = least_on r x xs q parts.0 in
            and_from (is_least r (x ∷ xs)) (are_ordered (x ∷ xs)) (rw (q, least) refl) h
      ] refl

  passed : (a b : Bool) (x r : X) (l : List X) → (a ≡ true → b ≡ true → false ≡ true) → cond a (x ∷ cond b (r ∷ l) l) (cond b (r ∷ l) l) ≡ cond b (r ∷ cond a (x ∷ l) l) (cond a (x ∷ l) l)
  passed true true x r l h = let bad : false ≡ true = h refl refl in absurd (cc)
  passed true false x r l h = refl
  passed false true x r l h = refl
  passed false false x r l h = refl

  not_both : (k x r : X) → lt x r ≡ true → ties lt k x ≡ true → ties lt k r ≡ true → false ≡ true
  not_both k x r q t u =
      let a = and_parts (not (lt k x)) (not (lt x k)) t in
      let b = and_parts (not (lt k r)) (not (lt r k)) u in
      sym (o.chain x k r (not-true _ a.1) (not-true _ b.0)) ∙ q

  put_tied : (k r : X) (xs : List X) → filter (ties lt k) (put r xs) ≡ cond (ties lt k r) (r ∷ filter (ties lt k) xs) (filter (ties lt k) xs)
  put_tied k r [] = refl
  put_tied k r (x ∷ xs) =
      elim (lt x r) as (λ b. lt x r ≡ b → filter (ties lt k) (cond b (x ∷ put r xs) (r ∷ x ∷ xs)) ≡ cond (ties lt k r) (r ∷ filter (ties lt k) (x ∷ xs)) (filter (ties lt k) (x ∷ xs))) [
        | true ↦ λ q. ap (λ l. cond (ties lt k x) (x ∷ l) l) (put_tied k r xs) ∙ passed (ties lt k x) (ties lt k r) x r (filter (ties lt k) xs) (not_both k x r q)
        | false ↦ λ q. refl
      ] refl

  fold_ordered : (xs rs : List X) → are_ordered xs ≡ true → are_ordered (fold placed_in xs rs) ≡ true
  fold_ordered xs [] h = h
  fold_ordered xs (r ∷ rs) h = fold_ordered (placed_in xs r) rs (ap are_ordered (put-is r xs) ∙ put_ordered r xs h)

  turned : (r : X) (rs xs : List X) → reverse rs ++ r ∷ xs ≡ reverse (r ∷ rs) ++ xs
  turned r rs xs = sym (ap (λ l. l ++ xs) (reverse-append (r ∷ []) rs) ∙ append_assoc (reverse rs) (r ∷ []) xs)

  fold_tied : (k : X) (xs rs : List X) → filter (ties lt k) (fold placed_in xs rs) ≡ filter (ties lt k) (reverse rs ++ xs)
  fold_tied k xs [] = refl
  fold_tied k xs (r ∷ rs) =
      fold_tied k (placed_in xs r) rs
      ∙ filter-append (ties lt k) (reverse rs) (placed_in xs r)
      ∙ ap (λ l. filter (ties lt k) (reverse rs) ++ l) (ap (filter (ties lt k)) (put-is r xs) ∙ put_tied k r xs)
      ∙ sym (filter-append (ties lt k) (reverse rs) (r ∷ xs))
      ∙ ap (filter (ties lt k)) (turned r rs xs)

  pub sorts : (rs ys : List X) → IsSortedBy lt ys → IsStableBy lt (reverse rs) ys → ys ≡ fold placed_in [] rs
  sorts rs ys s stable =
      one_order ys (fold placed_in [] rs) (ordered ys s) (fold_ordered [] rs refl) (λ k. stable k ∙ sym (fold_tied k [] rs ∙ ap (filter (ties lt k)) (append-nil (reverse rs))))
