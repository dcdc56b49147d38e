-- Items one after another: the loops, what they read, and that what is there is read.
use Rattle.std.proofs.Common.{◌≡◌, ℕ, zero, suc, ◌-◌, ◌+◌, ◌≤◌, ◌<◌, List, [], ◌∷◌, ◌++◌, length, Some, None, refl, sym, ap, subst, ◌∙◌, append_assoc, arith, flat_map}
use Rattle.std.specs.List.{AllByRecursion}
use Rattle.std.proofs.lemmas.List.{append-nil, length-append}
use Rattle.std.proofs.lemmas.Option.{same_Some}
use Rattle.sdb_report.specs.declared.unread.Unread.{Unread}
use Rattle.sdb_report.specs.declared.unread.Unread.TheVariants.{Bad, NoMemory}
use Rattle.sdb_report.specs.FieldReading.{Read, case_of, Fails, many, counted}
use Rattle.sdb_report.proofs.WordLaws.{Says, Sound, join}
use Rattle.sdb_types.proofs.Public.{bind_some}

---- turns of the loops

module _ {X : Type 0} (item_at : List X → List ℕ → Read X) (n i : ℕ) (xs : List X) (bytes : List ℕ) where
  pub many_more : (x : X) (rest : List ℕ) → i < n → item_at xs bytes ≡ Some (x, rest) → many item_at (n - i) xs bytes ≡ many item_at (n - (i + 1)) (xs ++ x ∷ []) rest
  many_more x rest lt h = let k : n - i ≡ suc (n - (i + 1)) = omega arith in rw (k, h) refl

  pub many_ends : i < n → item_at xs bytes ≡ None → many item_at (n - i) xs bytes ≡ (xs, bytes)
  many_ends lt h = let k : n - i ≡ suc (n - (i + 1)) = omega arith in rw (k, h) refl

  pub many_out : n ≤ i → many item_at (n - i) xs bytes ≡ (xs, bytes)
  many_out le = let k : n - i ≡ 0 = omega arith in rw k refl

module _ {X : Type 0} (item_at : List ℕ → Read X) (n i : ℕ) (xs : List X) (bytes : List ℕ) where
  pub counted_more : (x : X) (rest : List ℕ) → i < n → item_at bytes ≡ Some (x, rest) → counted item_at (n - i) xs bytes ≡ counted item_at (n - (i + 1)) (xs ++ x ∷ []) rest
  counted_more x rest lt h = let k : n - i ≡ suc (n - (i + 1)) = omega arith in rw (k, h) refl

  pub counted_bad : (e : Unread) → i < n → Fails e (item_at bytes) → Fails e (counted item_at (n - i) xs bytes)
  counted_bad NoMemory lt h = tt
  counted_bad Bad lt h = let k : n - i ≡ suc (n - (i + 1)) = omega arith in rw (k, h) refl

  pub counted_out : n ≤ i → counted item_at (n - i) xs bytes ≡ Some (xs, bytes)
  counted_out le = let k : n - i ≡ 0 = omega arith in rw k refl

---- each after those before it

abbrev pub Each : {X : Type 0} → (List X → X → Type 0) → List X → List X → Type 0
Each P xs [] = Unit {0}
Each P xs (y ∷ ys) = P xs y × Each P (xs ++ y ∷ []) ys

pub Each-all : {X : Type 0} (P : List X → X → Type 0) (Q : X → Type 0) → ((xs : List X) (x : X) → P xs x → Q x) → (xs ys : List X) → Each P xs ys → AllByRecursion Q ys
Each-all P Q each xs [] h = tt
Each-all P Q each xs (y ∷ ys) h = (each xs y h.0, Each-all P Q each (xs ++ y ∷ []) ys h.1)

pub Each-from_all : {X : Type 0} (P : List X → X → Type 0) (Q : X → Type 0) → ((xs : List X) (x : X) → Q x → P xs x) → (xs ys : List X) → AllByRecursion Q ys → Each P xs ys
Each-from_all P Q each xs [] h = tt
Each-from_all P Q each xs (y ∷ ys) h = (each xs y h.0, Each-from_all P Q each (xs ++ y ∷ []) ys h.1)

---- what is read

-- more items than those before
pub record More {X : Type 0} (text : X → List ℕ) (P : List X → X → Type 0) (xs : List X) (bytes : List ℕ) (x : List X × List ℕ) : Type 0 where
  pub items : List X
  pub all : x.0 ≡ xs ++ items
  pub parts : bytes ≡ flat_map text items ++ x.1
  pub each : Each P xs items

abbrev no_more : {X : Type 0} (text : X → List ℕ) (P : List X → X → Type 0) (xs : List X) (bytes : List ℕ) → More text P xs bytes (xs, bytes)
no_more text P xs bytes = record { items = []; all = sym (append-nil xs); parts = refl; each = tt }

abbrev one_more : {X : Type 0} (text : X → List ℕ) (P : List X → X → Type 0) (xs : List X) (bytes : List ℕ) (y : X × List ℕ) (x : List X × List ℕ)
    → bytes ≡ text y.0 ++ y.1 → P xs y.0 → More text P (xs ++ y.0 ∷ []) y.1 x → More text P xs bytes x
one_more text P xs bytes y x p f m = record {
  items = y.0 ∷ m.items;
  all = m.all ∙ append_assoc xs (y.0 ∷ []) m.items;
  parts = join (text y.0) (flat_map text m.items) x.1 p m.parts;
  each = (f, m.each);
}

module _ {X : Type 0} (item_at : List X → List ℕ → Read X) (text : X → List ℕ) (P : List X → X → Type 0) where
  pub many_is : ((xs : List X) (bytes : List ℕ) (x : X × List ℕ) → item_at xs bytes ≡ Some x → Says text (P xs) bytes x)
      → (n : ℕ) (xs : List X) (bytes : List ℕ) → More text P xs bytes (many item_at n xs bytes)
  many_is each zero xs bytes = no_more text P xs bytes
  many_is each (suc n) xs bytes =
      elim (item_at xs bytes) as (λ o. item_at xs bytes ≡ o → More text P xs bytes (case_of o (λ x. many item_at n (xs ++ x.0 ∷ []) x.1) (xs, bytes))) [
        | None ↦ λ q. no_more text P xs bytes
        | Some y ↦ λ q.
            let first = each xs bytes y q in
            one_more text P xs bytes y (many item_at n (xs ++ y.0 ∷ []) y.1) first.parts first.fits (many_is each n (xs ++ y.0 ∷ []) y.1)
      ] refl

  pub many_again : (Follows : List ℕ → Type 0) (rest : List ℕ) → ((xs : List X) (x : X) (r : List ℕ) → P xs x → Follows r → item_at xs (text x ++ r) ≡ Some (x, r))
      → ((x : X) (r : List ℕ) → Follows (text x ++ r)) → Follows rest → ((xs : List X) → item_at xs rest ≡ None)
      → (ys : List X) (n : ℕ) (xs : List X) → length ys ≤ n → Each P xs ys → many item_at n xs (flat_map text ys ++ rest) ≡ (xs ++ ys, rest)
  many_again Follows rest each begins last stops [] zero xs le h = ap (λ (l : List X). (l, rest)) (sym (append-nil xs))
  many_again Follows rest each begins last stops [] (suc n) xs le h = rw (stops xs) (ap (λ (l : List X). (l, rest)) (sym (append-nil xs)))
  many_again Follows rest each begins last stops (y ∷ ys) zero xs le h = absurd (omega arith)
  many_again Follows rest each begins last stops (y ∷ ys) (suc n) xs le h =
      let after : List ℕ = flat_map text ys ++ rest in
      let regrouped : flat_map text (y ∷ ys) ++ rest ≡ text y ++ after = append_assoc (text y) (flat_map text ys) rest in
      let first : item_at xs (text y ++ after) ≡ Some (y, after) = each xs y after h.0 (goes ys) in
      ap (many item_at (suc n) xs) regrouped ∙ rw first (many_again Follows rest each begins last stops ys n (xs ++ y ∷ []) (omega arith) h.1 ∙ ap (λ (l : List X). (l, rest)) (append_assoc xs (y ∷ []) ys))
    where
      goes : (zs : List X) → Follows (flat_map text zs ++ rest)
      goes [] = last
      goes (z ∷ zs) = subst Follows (sym (append_assoc (text z) (flat_map text zs) rest)) (begins z (flat_map text zs ++ rest))

module _ {X : Type 0} (item_at : List ℕ → Read X) (text : X → List ℕ) (P : X → Type 0) where
  abbrev pub here : List X → X → Type 0
  here xs x = P x

  pub record Counted (n : ℕ) (xs : List X) (bytes : List ℕ) (x : List X × List ℕ) : Type 0 where
    pub more : More text here xs bytes x
    pub count : length more.items ≡ n

  pub counted_is : Sound item_at text P → (n : ℕ) (xs : List X) (bytes : List ℕ) (x : List X × List ℕ) → counted item_at n xs bytes ≡ Some x → Counted n xs bytes x
  counted_is each zero xs bytes x e = subst (Counted 0 xs bytes) (same_Some (xs, bytes) x e) (record { more = no_more text here xs bytes; count = refl })
  counted_is each (suc n) xs bytes x e =
      let a = bind_some (item_at bytes) (λ y. counted item_at n (xs ++ y.0 ∷ []) y.1) x e in
      let first = each bytes a.0 a.1 in
      let others = counted_is each n (xs ++ a.0.0 ∷ []) a.0.1 x a.2 in
      record { more = one_more text here xs bytes a.0 x first.parts first.fits others.more; count = ap suc others.count }

  pub counted_again : ((x : X) (rest : List ℕ) → P x → item_at (text x ++ rest) ≡ Some (x, rest))
      → (ys : List X) (xs : List X) (rest : List ℕ) → AllByRecursion P ys → counted item_at (length ys) xs (flat_map text ys ++ rest) ≡ Some (xs ++ ys, rest)
  counted_again each [] xs rest h = ap (λ (l : List X). Some (l, rest)) (sym (append-nil xs))
  counted_again each (y ∷ ys) xs rest h =
      let after : List ℕ = flat_map text ys ++ rest in
      let regrouped : flat_map text (y ∷ ys) ++ rest ≡ text y ++ after = append_assoc (text y) (flat_map text ys) rest in
      let first : item_at (text y ++ after) ≡ Some (y, after) = each y after h.0 in
      ap (counted item_at (suc (length ys)) xs) regrouped ∙ rw first (counted_again each ys (xs ++ y ∷ []) rest h.1 ∙ ap (λ (l : List X). Some (l, rest)) (append_assoc xs (y ∷ []) ys))

-- each text takes a byte
pub count_le : {X : Type 0} (text : X → List ℕ) → ((x : X) → 0 < length (text x)) → (ys : List X) (rest : List ℕ) → length ys ≤ length (flat_map text ys ++ rest)
count_le text some [] rest = omega arith
count_le text some (y ∷ ys) rest =
    omega (arith, count_le text some ys rest, some y, length-append (flat_map text (y ∷ ys)) rest, length-append (text y) (flat_map text ys), length-append (flat_map text ys) rest)
