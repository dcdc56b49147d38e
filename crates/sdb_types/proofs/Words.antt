-- What is so of the bytes of names.
use Rattle.std.proofs.Common.{◌≡◌, ℕ, true, not, ◌==◌, arith, ◌<◌, refl}
use Rattle.std.proofs.lemmas.Bool.Decides.{nat_tests}
use Rattle.sdb_types.specs.Identifier.{is_part, is_start}

pub no_dot : (b : ℕ) → is_part b ≡ true → not (b == 46) ≡ true
no_dot b h = grind (arith, nat_tests)

pub part_small : (c : ℕ) → is_part c ≡ true → c < 128
part_small c h = grind (arith, nat_tests)

pub start_part : (c : ℕ) → is_start c ≡ true → is_part c ≡ true
start_part c h = rw h refl

pub start_small : (c : ℕ) → is_start c ≡ true → c < 128
start_small c h = grind (arith, nat_tests)
