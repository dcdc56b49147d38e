-- Reading lines one after the other, as a loop does.
use Rattle.std.proofs.Common.{◌≡◌, ℕ, suc, ◌-◌, ◌+◌, ◌≤◌, ◌<◌, List, [], ◌∷◌, ◌++◌, Ok, Err, refl, sym, ap, ◌∙◌, append_assoc, arith}
use Rattle.std.proofs.lemmas.List.{append-nil}
use Rattle.sdb_codec.specs.declared.refused.Stopped.{Stopped}
use Rattle.sdb_codec.specs.declared.refused.Stopped.TheVariants as stopped
use Rattle.sdb_report.specs.Reading.{Positioned, then_read, lines_at}
use Rattle.sdb_codec.specs.Reading.{Stops}

-- what was read before, and what is still read
abbrev pub with_front : {X : Type 0} → List X → Positioned (List X) → Positioned (List X)
with_front front read = then_read read (λ x. Ok (front ++ x.0, x.1))

regroup : {X : Type 0} (front : List X) (y : X) (read : Positioned (List X)) → with_front front (then_read read (λ x. Ok (y ∷ x.0, x.1))) ≡ with_front (front ++ y ∷ []) read
regroup {X} front y (Ok x) = ap (λ (ys : List X). Ok (ys, x.1)) (sym (append_assoc front (y ∷ []) x.0))
regroup front y (Err f) = refl

module _ {X : Type 0} (item_at : List X → List ℕ → Positioned X) (front : List X) (count i : ℕ) (bytes : List ℕ) (total : Positioned (List X)) where
  -- what a loop keeps
  abbrev pub Goes : Type 0
  Goes = with_front front (lines_at item_at front (count - i) bytes) ≡ total

  pub goes_on : (x : X) (after : List ℕ) → i < count → item_at front bytes ≡ Ok (x, after) → Goes
      → with_front (front ++ x ∷ []) (lines_at item_at (front ++ x ∷ []) (count - (i + 1)) after) ≡ total
  unfolding lines_at
  goes_on x after lt h so_far =
      let k : count - i ≡ suc (count - (i + 1)) = omega arith in
      let one : with_front front (lines_at item_at front (count - i) bytes) ≡ with_front (front ++ x ∷ []) (lines_at item_at (front ++ x ∷ []) (count - (i + 1)) after) =
      rw (k, h) (regroup front x (lines_at item_at (front ++ x ∷ []) (count - (i + 1)) after)) in
      sym one ∙ so_far

  pub ends : (e : Stopped) → i < count → Stops e (item_at front bytes) → Goes → Stops e total
  unfolding lines_at
  ends stopped.NoMemory lt h so_far = tt
  ends (stopped.Wrong left) lt h so_far =
      let k : count - i ≡ suc (count - (i + 1)) = omega arith in
      let one : with_front front (lines_at item_at front (count - i) bytes) ≡ Err left = rw (k, h) refl in
      sym so_far ∙ one

  pub is_done : count ≤ i → Goes → total ≡ Ok (front, bytes)
  unfolding lines_at
  is_done le so_far =
      let k : count - i ≡ 0 = omega arith in
      let one : with_front front (lines_at item_at front (count - i) bytes) ≡ Ok (front, bytes) = rw k (ap (λ (xs : List X). Ok (xs, bytes)) (append-nil front)) in
      sym so_far ∙ one
