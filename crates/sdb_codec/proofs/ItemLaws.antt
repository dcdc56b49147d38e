-- Items one after another: what is read is what was written, and what was written is read again.
use Rattle.std.proofs.Common.{◌≡◌, ℕ, zero, suc, List, [], ◌∷◌, ◌++◌, length, All, Option, Some, None, Result, Ok, refl, ap, subst, ◌∙◌, append_assoc, arith, flat_map}
use Rattle.std.specs.List.{AllByRecursion}
use Rattle.std.proofs.lemmas.List.Elements.{All-from_recursion}
use Rattle.std.proofs.lemmas.List.Concat.{flat_map-cons}
use Rattle.sdb_types.specs.declared.value.Value.{Value}
use Rattle.sdb_types.specs.Fits.{value_fits}
use Rattle.sdb_codec.specs.Spelling.{value_bytes, values_bytes, ValueIsEncodable, ValuesAreEncodable}
use Rattle.sdb_codec.specs.Reading.{◌>>=◌, items_at, value_at, values_at}
use Rattle.sdb_codec.proofs.FieldLaws.{IsBytes, IsBytes-rest, bind_ok, ok_is, Takes, Takes-then, Takes-after, value_takes, value_again}

-- each item after the one before
abbrev pub Chain : {X : Type 0} → (Option X → X → Type 0) → Option X → List X → Type 0
Chain P before [] = Unit {0}
Chain P before (x ∷ xs) = P before x × Chain P (Some x) xs

pub Chain-all : {X : Type 0} (P : Option X → X → Type 0) (Q : X → Type 0) → ((before : Option X) (x : X) → P before x → Q x) → (before : Option X) (xs : List X) → Chain P before xs → AllByRecursion Q xs
Chain-all P Q each before [] h = tt
Chain-all P Q each before (x ∷ xs) h = (each before x h.0, Chain-all P Q each (Some x) xs h.1)

-- what holds of all holds along a chain
pub Chain-from_all : {X : Type 0} (P : Option X → X → Type 0) (Q : X → Type 0) → ((before : Option X) (x : X) → Q x → P before x) → (before : Option X) (xs : List X) → All Q xs → Chain P before xs
Chain-from_all P Q each before [] h = tt
Chain-from_all P Q each before (x ∷ xs) h = (each before x (h 0 x (omega arith)), Chain-from_all P Q each (Some x) xs (λ i d lt. h (suc i) d (omega arith)))

module _ {X : Type 0} (item_at : Option X → List ℕ → Result (X × List ℕ) ℕ) (text : X → List ℕ) (P : Option X → X → Type 0) where
  abbrev pub Took : Option X → List ℕ → ℕ → List X × List ℕ → Type 0
  Took before bytes n x = Takes bytes (flat_map text x.0) x.1 × (length x.0 ≡ n) × Chain P before x.0

  pub items_take : ((before : Option X) (bytes : List ℕ) (x : X × List ℕ) → IsBytes bytes → item_at before bytes ≡ Ok x → Takes bytes (text x.0) x.1 × P before x.0)
      → (before : Option X) (n : ℕ) (bytes : List ℕ) (x : List X × List ℕ) → IsBytes bytes → items_at item_at before n bytes ≡ Ok x → Took before bytes n x
  unfolding items_at
  items_take each before zero bytes x fits e = subst (Took before bytes 0) (ok_is ([], bytes) x e) (record { parts = refl; rest_fits = fits }, refl, tt)
  items_take each before (suc n) bytes x fits e =
      let a = bind_ok (item_at before bytes) (λ first. items_at item_at (Some first.0) n first.1 >>= λ others. Ok (first.0 ∷ others.0, others.1)) x e in
      let b = bind_ok (items_at item_at (Some a.0.0) n a.0.1) (λ others. Ok (a.0.0 ∷ others.0, others.1)) x a.2 in
      let first = each before bytes a.0 fits a.1 in
      let second = items_take each (Some a.0.0) n a.0.1 b.0 first.0.rest_fits b.1 in
      let both = Takes-then bytes (text a.0.0) a.0.1 (flat_map text b.0.0) b.0.1 first.0 second.0 in
      let made : List X × List ℕ = (a.0.0 ∷ b.0.0, b.0.1) in
      subst (Took before bytes (suc n)) (ok_is made x b.2) (rw flat_map-cons both, ap suc second.1, (first.1, second.2))

  pub items_again : ((before : Option X) (x : X) (rest : List ℕ) → P before x → item_at before (text x ++ rest) ≡ Ok (x, rest))
      → (before : Option X) (xs : List X) (rest : List ℕ) → Chain P before xs → items_at item_at before (length xs) (flat_map text xs ++ rest) ≡ Ok (xs, rest)
  unfolding items_at
  items_again each before [] rest h = refl
  items_again each before (x ∷ xs) rest h =
      let regrouped : flat_map text (x ∷ xs) ++ rest ≡ text x ++ (flat_map text xs ++ rest) = ap (λ (t : List ℕ). t ++ rest) (flat_map-cons text x xs) ∙ append_assoc (text x) (flat_map text xs) rest in
      ap (items_at item_at before (suc (length xs))) regrouped ∙ rw (each before x (flat_map text xs ++ rest) h.0, items_again each (Some x) xs rest h.1) refl

---- values after a count

abbrev pub values_after : Option Value → List ℕ → Result (Value × List ℕ) ℕ
values_after before rest = value_at rest

abbrev Readable : Option Value → Value → Type 0
Readable before v = value_fits v × ValueIsEncodable v

abbrev pub TakesValues : List ℕ → List Value × List ℕ → Type 0
TakesValues bytes x = Takes bytes (values_bytes x.0) x.1 × ValuesAreEncodable x.0

pub values_take : (bytes : List ℕ) (x : List Value × List ℕ) → IsBytes bytes → values_at bytes ≡ Ok x → TakesValues bytes x
unfolding values_at
values_take [] x fits e = absurd cc
values_take (n ∷ rest) x fits e =
    let fitting : Option Value → Value → Type 0 = λ before v. ValueIsEncodable v in
    let t = items_take values_after value_bytes fitting (λ before bytes v. value_takes bytes v) None n rest x (IsBytes-rest n rest fits) e in
    let counted : Takes (n ∷ rest) (n ∷ flat_map value_bytes x.0) x.1 = Takes-after n rest (flat_map value_bytes x.0) x.1 t.0 in
    let lengths = All-from_recursion ValueIsEncodable x.0 (Chain-all fitting ValueIsEncodable (λ before v h. h) None x.0 t.2) in
    (subst (λ (k : ℕ). Takes (n ∷ rest) (k ∷ flat_map value_bytes x.0) x.1) (cc t.1) counted, record { count = omega (arith, t.1, fits 0); lengths = lengths })

pub values_again : (vs : List Value) (rest : List ℕ) → All value_fits vs → ValuesAreEncodable vs → values_at (values_bytes vs ++ rest) ≡ Ok (vs, rest)
unfolding values_at
values_again vs rest known fits =
    items_again values_after value_bytes Readable (λ before v after h. value_again v after h.0 h.1) None vs rest
    (Chain-from_all Readable (λ v. value_fits v × ValueIsEncodable v) (λ before v h. h) None vs (λ i d lt. (known i d lt, fits.lengths i d lt)))
