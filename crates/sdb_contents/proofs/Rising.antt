-- Points by rising event.
use Rattle.std.proofs.Common.{◌≡◌, ◌≢◌, ℕ, zero, suc, ◌+◌, ◌<◌, ◌≤◌, Bool, true, false, List, [], ◌∷◌, length, map, ◌⊎◌, inl, inr, refl, sym, ap, ◌∙◌, subst, arith}
use Rattle.std.specs.Prelude.{All, Contains, nat_lt, if◌then◌else◌, slice_index, slice_index_or}
use Rattle.std.specs.List.Sorted.{IsNonDecreasingBy, IsPermutation, IsStrictlyIncreasing}
use Rattle.std.proofs.lemmas.Bool.Decides.{nat_tests}
use Rattle.std.proofs.lemmas.List.Elements.{All-contains_itself, All-weaker}
use Rattle.std.proofs.lemmas.List.Sorted.{Contains-permutation, IsPermutation-sym}
use Rattle.sdb_contents.specs.Types.{Event, Point, TxId}
use Rattle.sdb_model.specs.Transactions.{point, ArePointsApart, point_at}
use Rattle.sdb_contents.specs.Order.{rising_from}
use Rattle.sdb_types.proofs.Public.{lt_of as is_less}

---- what a list has

abbrev Has : {X : Type 0} → X → List X → Type 0
Has x [] = ⊥
Has x (y ∷ ys) = (y ≡ x) ⊎ Has x ys

at_place : {X : Type 0} (xs : List X) (x : X) (k : ℕ) → k < length xs → slice_index_or xs k x ≡ x → Has x xs
at_place [] x k l e = absurd (omega (arith, l))
at_place (y ∷ ys) x zero l e = inl e
at_place (y ∷ ys) x (suc k) l e = inr (at_place ys x k (omega (arith, l)) e)

has_of : {X : Type 0} (xs : List X) (x : X) → Contains xs x → Has x xs
has_of xs x c = at_place xs x c.0 c.1 c.2

contains_of : {X : Type 0} (xs : List X) (x : X) → Has x xs → Contains xs x
contains_of [] x h = absurd h
contains_of (y ∷ ys) x (inl e) = (0, omega arith, e)
contains_of (y ∷ ys) x (inr h) = let c = contains_of ys x h in (suc c.0, later c.0 (length ys) c.1, c.2)
  where
    later : (a b : ℕ) → a < b → suc a < suc b
    later a b l = omega arith

has_map : {X Y : Type 0} (f : X → Y) (xs : List X) (x : X) → Has x xs → Has (f x) (map f xs)
has_map f [] x h = absurd h
has_map f (y ∷ ys) x (inl e) = inl (ap f e)
has_map f (y ∷ ys) x (inr h) = inr (has_map f ys x h)

map_has : {X Y : Type 0} (f : X → Y) (xs : List X) (y : Y) → Has y (map f xs) → (x : X) × Has x xs × (f x ≡ y)
map_has f [] y h = absurd h
map_has f (x ∷ xs) y (inl e) = (x, inl refl, e)
map_has f (x ∷ xs) y (inr h) = let r = map_has f xs y h in (r.0, inr r.1, r.2)

---- order

-- each is above the one before, the first above n
abbrev Rises : ℕ → List ℕ → Type 0
Rises n [] = Unit {0}
Rises n (x ∷ xs) = (n < x) × Rises x xs

strict_at : (n : ℕ) (xs : List ℕ) → Rises n xs → (k : ℕ) → suc k < length xs → slice_index xs k < slice_index xs (suc k)
strict_at n [] r k l = absurd (omega (arith, l))
strict_at n (x ∷ []) r k l = absurd (omega (arith, l))
strict_at n (x ∷ y ∷ ys) r zero l = r.1.0
strict_at n (x ∷ y ∷ ys) r (suc k) l = strict_at x (y ∷ ys) r.1 k (omega (arith, l))

strictly : (n : ℕ) (xs : List ℕ) → Rises n xs → IsStrictlyIncreasing xs
strictly n xs r k l = subst (λ m. slice_index xs k < slice_index xs m) (next k) (strict_at n xs r k (subst (λ m. m < length xs) (sym (next k)) l))
  where
    next : (k : ℕ) → suc k ≡ k + 1
    next k = omega arith

is_not_less : (m n : ℕ) → nat_lt m n ≡ false → n ≤ m
is_not_less m n h = grind (arith, nat_tests)

rises : (n : ℕ) (ps : List Point) → Rises n (map (λ (p : Point). p.event) (rising_from n ps))
rises n [] = tt
rises n (p ∷ ps) = by (nat_lt n p.event) refl (rises p.event ps) (rises n ps)
  where
    by : (b : Bool) → nat_lt n p.event ≡ b → Rises p.event (map (λ (p : Point). p.event) (rising_from p.event ps)) → Rises n (map (λ (p : Point). p.event) (rising_from n ps)) → Rises n (map (λ (p : Point). p.event) (if b then p ∷ rising_from p.event ps else rising_from n ps))
    by true e kept dropped = (is_less n p.event e, kept)
    by false e kept dropped = dropped

-- what is kept is there, and later
kept_is : (n : ℕ) (ps : List Point) (p : Point) → Has p (rising_from n ps) → Has p ps × (n < p.event)
kept_is n [] p h = absurd h
kept_is n (q ∷ qs) p h = by (nat_lt n q.event) refl (kept_is q.event qs p) (kept_is n qs p) h
  where
    lower : {a b c : ℕ} → a < b → b < c → a < c
    lower x y = omega arith

    by : (b : Bool) → nat_lt n q.event ≡ b → (Has p (rising_from q.event qs) → Has p qs × (q.event < p.event)) → (Has p (rising_from n qs) → Has p qs × (n < p.event)) → Has p (if b then q ∷ rising_from q.event qs else rising_from n qs) → ((q ≡ p) ⊎ Has p qs) × (n < p.event)
    by true e kept dropped (inl same) = (inl same, subst (λ x. n < x.event) same (is_less n q.event e))
    by true e kept dropped (inr h) = let r = kept h in (inr r.0, lower (is_less n q.event e) r.1)
    by false e kept dropped h = let r = dropped h in (inr r.0, r.1)

-- none is below n
abbrev Low : ℕ → List Point → Type 0
Low n [] = Unit {0}
Low n (p ∷ ps) = (n ≤ p.event) × Low n ps

abbrev Sorts : List Point → Type 0
Sorts [] = Unit {0}
Sorts (p ∷ ps) = Low p.event ps × Sorts ps

low_of : (n : ℕ) (ps : List Point) → ((k : ℕ) (d : Point) → k < length ps → n ≤ (slice_index_or ps k d).event) → Low n ps
low_of n [] h = tt
low_of n (p ∷ ps) h = (h 0 p (omega arith), low_of n ps (λ k d l. h (suc k) d (omega (arith, l))))

sorts : (ps : List Point) → IsNonDecreasingBy (λ (p : Point). p.event) ps → Sorts ps
sorts [] h = tt
sorts (p ∷ ps) h = (low_of p.event ps (λ k d l. h 0 (suc k) d (omega arith) (omega (arith, l))), sorts ps (λ i j d a b. h (suc i) (suc j) d (omega (arith, a)) (omega (arith, b))))

low_has : (n : ℕ) (ps : List Point) (p : Point) → Low n ps → Has p ps → n ≤ p.event
low_has n [] p low h = absurd h
low_has n (q ∷ qs) p low (inl e) = subst (λ x. n ≤ x.event) e low.0
low_has n (q ∷ qs) p low (inr h) = low_has n qs p low.1 h

-- what is later is kept, where no other has its event
is_kept : (n : ℕ) (ps : List Point) (p : Point) → Sorts ps → n < p.event → ((q : Point) → Has q ps → q.event ≡ p.event → q ≡ p) → Has p ps → Has p (rising_from n ps)
is_kept n [] p sorted later one h = absurd h
is_kept n (q ∷ qs) p sorted later one h = by (nat_lt n q.event) refl h (λ l m. is_kept q.event qs p sorted.1 l (λ r g e. one r (inr g) e) m) (λ m. is_kept n qs p sorted.1 later (λ r g e. one r (inr g) e) m)
  where
    not_later : (a b : ℕ) → b ≤ a → a < b → ⊥
    not_later a b x y = omega arith

    side : (a b : ℕ) → a ≤ b → (a ≡ b) ⊎ (a < b)
    side a b l = grind (arith, nat_tests)

    by : (b : Bool) → nat_lt n q.event ≡ b → (q ≡ p) ⊎ Has p qs → (q.event < p.event → Has p qs → Has p (rising_from q.event qs)) → (Has p qs → Has p (rising_from n qs)) → Has p (if b then q ∷ rising_from q.event qs else rising_from n qs)
    by true e (inl same) kept dropped = inl same
    by true e (inr m) kept dropped = elim (side q.event p.event (low_has q.event qs p sorted.0 m)) [
      | inl tie ↦ inl (one q (inl refl) tie)
      | inr less ↦ inr (kept less m)
    ]
    by false e (inl same) kept dropped = absurd (not_later n p.event (subst (λ x. x.event ≤ n) same (is_not_less n q.event e)) later)
    by false e (inr m) kept dropped = dropped m

---- the order of some transactions

-- What is so of the order of some transactions.
pub record AreRisen (events : List Event) (recorded : List TxId) (order : List Point) : Type 0 where
  pub points : All (λ p. p.event ≡ point events p.id) order
  pub rising : IsStrictlyIncreasing (map (λ p. p.event) order)
  pub among : (id : TxId) → Contains (map (λ p. p.id) order) id → Contains recorded id × (point events id ≢ 0)
  pub whole : ArePointsApart events recorded → (id : TxId) → Contains recorded id → point events id ≢ 0 → Contains (map (λ p. p.id) order) id

module _ (events : List Event) (recorded ids : List TxId) (points sorted : List Point) (of_ids : points ≡ map (point_at events) ids) (same_ids : IsPermutation recorded ids) (same_points : IsPermutation points sorted) where
  -- each point is that of one of them
  point_of : (p : Point) → Has p sorted → Has p.id recorded × (p.event ≡ point events p.id)
  point_of p h =
      let unsorted = has_of points p (Contains-permutation sorted points p (IsPermutation-sym points sorted same_points) (contains_of sorted p h)) in
      let r = map_has (point_at events) ids p (subst (λ ps. Has p ps) of_ids unsorted) in
      let among : Has r.0 recorded = has_of recorded r.0 (Contains-permutation ids recorded r.0 (IsPermutation-sym recorded ids same_ids) (contains_of ids r.0 r.1)) in
      (subst (λ q. Has q.id recorded) r.2 among, subst (λ q. q.event ≡ point events q.id) r.2 refl)

  has_point : (id : TxId) → Has id recorded → Has (point_at events id) sorted
  has_point id h =
      let of_id = has_map (point_at events) ids id (has_of ids id (Contains-permutation recorded ids id same_ids (contains_of recorded id h))) in
      has_of sorted (point_at events id) (Contains-permutation points sorted (point_at events id) same_points (contains_of points (point_at events id) (subst (λ ps. Has (point_at events id) ps) (sym of_ids) of_id)))

  all_points : All (λ p. p.event ≡ point events p.id) (rising_from 0 sorted)
  all_points = All-weaker (Contains (rising_from 0 sorted)) (λ p. p.event ≡ point events p.id) (λ p c. (point_of p (kept_is 0 sorted p (has_of (rising_from 0 sorted) p c)).0).1) (rising_from 0 sorted) (All-contains_itself (rising_from 0 sorted))

  all_rise : IsStrictlyIncreasing (map (λ p. p.event) (rising_from 0 sorted))
  all_rise = strictly 0 (map (λ (p : Point). p.event) (rising_from 0 sorted)) (rises 0 sorted)

  all_among : (id : TxId) → Contains (map (λ p. p.id) (rising_from 0 sorted)) id → Contains recorded id × (point events id ≢ 0)
  all_among id c =
      let r = map_has (λ (p : Point). p.id) (rising_from 0 sorted) id (has_of (map (λ (p : Point). p.id) (rising_from 0 sorted)) id c) in
      let kept = kept_is 0 sorted r.0 r.1 in
      let is = point_of r.0 kept.0 in
      (contains_of recorded id (subst (λ i. Has i recorded) r.2 is.0), λ none. positive r.0.event kept.1 (is.1 ∙ ap (λ i. point events i) r.2 ∙ none))
    where
      positive : (n : ℕ) → 0 < n → n ≡ 0 → ⊥
      positive n l e = omega arith

  all_ids : IsNonDecreasingBy (λ (p : Point). p.event) sorted → ArePointsApart events recorded → (id : TxId) → Contains recorded id → point events id ≢ 0 → Contains (map (λ p. p.id) (rising_from 0 sorted)) id
  all_ids ordered apart id c some =
      contains_of (map (λ (p : Point). p.id) (rising_from 0 sorted)) id (has_map (λ (p : Point). p.id) (rising_from 0 sorted) (point_at events id) (is_kept 0 sorted (point_at events id) (sorts sorted ordered) (above (point events id) some) one (has_point id (has_of recorded id c))))
    where
      above : (n : ℕ) → n ≢ 0 → 0 < n
      above n h = omega arith

      one : (q : Point) → Has q sorted → q.event ≡ point events id → q ≡ point_at events id
      one q h e =
          let is = point_of q h in
          let same : q.id ≡ id = sym (apart id q.id c (contains_of recorded q.id is.0) (sym e ∙ is.1) some) in
          ap (λ (i : TxId). record { id = i; event = q.event }) same ∙ ap (λ (n : ℕ). record { id = id; event = n }) e

  pub risen : IsNonDecreasingBy (λ (p : Point). p.event) sorted → AreRisen events recorded (rising_from 0 sorted)
  risen ordered = record { points = all_points; rising = all_rise; among = all_among; whole = all_ids ordered }
