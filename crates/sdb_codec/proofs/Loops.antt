-- Reading items one after the other, as a loop does.
use Rattle.std.proofs.Common.{◌≡◌, ℕ, suc, ◌-◌, ◌+◌, ◌≤◌, ◌<◌, List, [], ◌∷◌, ◌++◌, length, Option, Some, Result, Ok, Err, refl, sym, ap, ◌∙◌, append_assoc, arith}
use Rattle.std.proofs.lemmas.List.{append-nil, length-append}
use Rattle.std.proofs.lemmas.Option.{slice_get_read}
use Rattle.std.proofs.Math.Seq.{get_or-append_seam}
use Rattle.sdb_codec.specs.declared.refused.Stopped.{Stopped}
use Rattle.sdb_codec.specs.declared.refused.Stopped.TheVariants as stopped
use Rattle.sdb_codec.specs.Reading.{◌>>=◌, Stops, items_at, last_of}

-- what was read before, and what is still read
abbrev pub with_front : {X : Type 0} → List X → Result (List X × List ℕ) ℕ → Result (List X × List ℕ) ℕ
with_front front read = read >>= λ x. Ok (front ++ x.0, x.1)

pub last_of-push : {X : Type 0} (xs : List X) (x : X) → last_of (xs ++ x ∷ []) ≡ Some x
last_of-push xs x =
    let len = length-append xs (x ∷ []) in
    let k : length (xs ++ x ∷ []) - 1 ≡ length xs = omega arith in
    rw k (slice_get_read (xs ++ x ∷ []) (length (xs ++ x ∷ [])) (length xs) x refl (omega arith) (sym (get_or-append_seam xs x [] x)))

regroup : {X : Type 0} (front : List X) (n : X) (read : Result (List X × List ℕ) ℕ) → with_front front (read >>= λ x. Ok (n ∷ x.0, x.1)) ≡ with_front (front ++ n ∷ []) read
regroup {X} front n (Ok x) = ap (λ (ns : List X). Ok (ns, x.1)) (simp append_assoc)
regroup front n (Err f) = refl

module _ {X : Type 0} (item_at : Option X → List ℕ → Result (X × List ℕ) ℕ) (front : List X) (count i : ℕ) (bytes : List ℕ) (total : Result (List X × List ℕ) ℕ) where
  -- what a loop keeps
  abbrev pub Goes : Type 0
  Goes = with_front front (items_at item_at (last_of front) (count - i) bytes) ≡ total

  pub goes_on : (x : X) (after : List ℕ) → i < count → item_at (last_of front) bytes ≡ Ok (x, after) → Goes
      → with_front (front ++ x ∷ []) (items_at item_at (last_of (front ++ x ∷ [])) (count - (i + 1)) after) ≡ total
  unfolding items_at
  goes_on x after lt h so_far =
      let k : count - i ≡ suc (count - (i + 1)) = omega arith in
      let one : with_front front (items_at item_at (last_of front) (count - i) bytes) ≡ with_front (front ++ x ∷ []) (items_at item_at (Some x) (count - (i + 1)) after) = rw (k, h) (regroup front x (items_at item_at (Some x) (count - (i + 1)) after)) in
      ap (λ (before : Option X). with_front (front ++ x ∷ []) (items_at item_at before (count - (i + 1)) after)) (last_of-push front x) ∙ sym one ∙ so_far

  pub ends : (e : Stopped) → i < count → Stops e (item_at (last_of front) bytes) → Goes → Stops e total
  unfolding items_at
  ends stopped.NoMemory lt h so_far = tt
  ends (stopped.Wrong left) lt h so_far =
      let k : count - i ≡ suc (count - (i + 1)) = omega arith in
      let one : with_front front (items_at item_at (last_of front) (count - i) bytes) ≡ Err left = rw (k, h) refl in
      sym so_far ∙ one

  pub is_done : count ≤ i → Goes → total ≡ Ok (front, bytes)
  unfolding items_at
  is_done le so_far =
      let k : count - i ≡ 0 = omega arith in
      let one : with_front front (items_at item_at (last_of front) (count - i) bytes) ≡ Ok (front, bytes) = rw k (ap (λ (ns : List X). Ok (ns, bytes)) (append-nil front)) in
      sym so_far ∙ one
