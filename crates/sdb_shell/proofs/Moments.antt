-- A time of a clock is a moment.
use Rattle.std.proofs.Common.{◌≡◌, ◌≤ℤ◌, ◌^◌, ℤ, pos, negsuc, true, arith, refl}
use Rattle.std.proofs.lemmas.Bool.Decides.{nat_tests}
use Rattle.std.specs.Prelude.{int_le}
use Rattle.sdb_record.specs.Meta.{is_moment}

pub moment_is : (n : ℤ) → pos 0 ≤ℤ n → n ≤ℤ pos (2 ^ 53) → is_moment n ≡ true
moment_is (pos k) low high =
    let early : int_le (pos 0) (pos k) ≡ true = grind (arith, nat_tests) in
    let late : int_le (pos k) (pos 9007199254740992) ≡ true = grind (arith, nat_tests) in
    rw (early, late) refl
moment_is (negsuc k) low high = absurd (omega arith)
