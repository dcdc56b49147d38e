-- A line that was read up to a byte for which there was no memory.
use Rattle.std.proofs.Common.{◌≡◌, ◌≢◌, ℕ, ◌+◌, Bool, true, false, List, [], ◌∷◌, ◌++◌, length, Option, ap, length-append, arith}
use Rattle.std.specs.Prelude.{◌==◌, ◌||◌}
use Rattle.std.proofs.lemmas.Bool.Decides.{nat_tests}
use Rattle.sdb_types.specs.Bytes.{Takes}
use Rattle.sdb_types.proofs.Public.{takes_more}
use Rattle.sdb_shell.specs.declared.lines.LineStop.TheVariants as line_stop
use Rattle.sdb_shell.specs.Lines.{IsCut, has_lf}

has_lf_more : (xs : List ℕ) (b : ℕ) → has_lf xs ≡ false → (b == 10) ≡ false → has_lf (xs ++ b ∷ []) ≡ false
has_lf_more [] b h k = ap (λ t. t || false) k
has_lf_more (x ∷ xs) b h k = by (x == 10) h (λ g. has_lf_more xs b g k)
  where
    by : (t : Bool) → (t || has_lf xs) ≡ false → (has_lf xs ≡ false → has_lf (xs ++ b ∷ []) ≡ false) → (t || has_lf (xs ++ b ∷ [])) ≡ false
    by false g rest = rest g
    by true g rest = absurd (cc)

nat_other : (b : ℕ) → b ≢ 10 → (b == 10) ≡ false
nat_other b n = grind (arith, nat_tests)

pub cut_more : (old mid new : Option (List ℕ)) (used used_mid used_then : ℕ) (read : List ℕ) (b : ℕ) → Takes read old mid → has_lf read ≡ false → used_mid ≡ used + length read → b ≢ 10 → Takes (b ∷ []) mid new → used_then ≡ used_mid + 1 → IsCut old new used used_then line_stop.NoMemory
cut_more old mid new used used_mid used_then read b accepted one counted other more then = record {
  read = read ++ b ∷ [];
  accepted = takes_more read (b ∷ []) old mid new accepted more;
  one = has_lf_more read b one (nat_other b other);
  counted = let len : length (read ++ b ∷ []) ≡ length read + 1 = length-append read (b ∷ []) in omega (arith, len, then, counted);
  stop = tt;
}
