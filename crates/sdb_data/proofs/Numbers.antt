-- Numbers that are parsed, and the numbers that fields say.
use Rattle.std.proofs.Common.{◌≡◌, ◌<◌, ◌^◌, ◌==◌, ℕ, suc, ℤ, pos, negsuc, List, [], ◌∷◌, Bool, true, false, cond, ◌&&◌, refl, sym, ap, subst, ◌∙◌, arith, Some, None, Err}
use Rattle.std.specs.Prelude.{codes, int_le, FitsSigned, neg_ℤ}
use Rattle.std.specs.Int.{Width, w32, w64}
use Rattle.std.specs.Char.{digit_value}
use Rattle.std.specs.Str.{bytes_eq}
use Rattle.std.specs.Str.Parse.{IsNumeral, ParsesSigned, starts_with_minus, without_leading_plus}
use Rattle.std.specs.Fmt.{decimal, signed_decimal}
use Rattle.std.proofs.lemmas.Slice.Eq.{bytes_eq-Decides}
use Rattle.std.proofs.lemmas.Bool.{false_from_ne_true, eqb-true}
use Rattle.std.proofs.lemmas.Bool.Decides.{nat_tests}
use Rattle.std.proofs.lemmas.Fmt.{decimal_is_IsNumeral, parse-signed_decimal}
use lib.Signed.{mag}
use Rattle.sdb_types.proofs.Public.{and_first, and_second}
use Rattle.sdb_data.specs.Fields.{number_of_digits, is_shortest, is_big, number_in}
use Rattle.sdb_types.specs.Fits.{fits_int}

---- ranges

pub int-small : (z : ℤ) → fits_int z ≡ true → mag z < 2 ^ 31
int-small (pos n) h = let k = and_second (int_le (negsuc 2147483647) (pos n)) _ h in grind (arith, nat_tests)
int-small (negsuc n) h = let k = and_first (int_le (negsuc 2147483647) (negsuc n)) _ h in grind (arith, nat_tests)

pub big-small : (z : ℤ) → is_big z ≡ true → mag z < 2 ^ 63
big-small (pos n) h = let k = and_second (int_le (negsuc 9007199254740991) (pos n)) _ h in grind (arith, nat_tests)
big-small (negsuc n) h = let k = and_first (int_le (negsuc 9007199254740991) (negsuc n)) _ h in grind (arith, nat_tests)

---- what is parsed

-- a text that isn't parsed says no number that fits
pub unparsed : {E : Type 0} (w : Width) (fits : ℤ → Bool) (field : List ℕ) (e : E) → ((z : ℤ) → fits z ≡ true → FitsSigned w z × (mag z < 2 ^ 63))
    → bytes_eq field (codes "-0") ≡ false → ParsesSigned w 10 field (Err e) → number_in fits field ≡ None
unparsed w fits field e small other h =
    elim (is_shortest field && fits (number_of_digits field)) as (λ b. (is_shortest field && fits (number_of_digits field)) ≡ b → cond (bytes_eq field (codes "-0")) (Some (pos 0)) (cond b (Some (number_of_digits field)) None) ≡ None) [
      | true ↦ λ q.
          let inside = small (number_of_digits field) (and_second (is_shortest field) (fits (number_of_digits field)) q) in
          let same : field ≡ signed_decimal (number_of_digits field) = (bytes_eq-Decides field (signed_decimal (number_of_digits field))).0 (and_first (is_shortest field) (fits (number_of_digits field)) q) in
          let ok = parse-signed_decimal w (number_of_digits field) field (Err e) inside.0 inside.1 same h in
          absurd (cc)
      | false ↦ λ q. rw other refl
    ] refl

pub int-fits : (z : ℤ) → fits_int z ≡ true → FitsSigned w32 z × (mag z < 2 ^ 63)
int-fits z h = let s = int-small z h in (record { sfits = s }, omega arith)

pub big-fits : (z : ℤ) → is_big z ≡ true → FitsSigned w64 z × (mag z < 2 ^ 63)
big-fits z h = let s = big-small z h in (record { sfits = s }, s)

---- what is written

no_sign : (s d : ℕ) → (digit_value s < 10 → ⊥) → digit_value d < 10 → (d == s) ≡ false
no_sign s d n h = false_from_ne_true (d == s) (λ e. n (subst (λ (c : ℕ). digit_value c < 10) (eqb-true d s e) h))

plain : (ds : List ℕ) → IsNumeral 10 ds → (starts_with_minus ds ≡ false) × (without_leading_plus ds ≡ ds)
plain [] h = absurd (omega (arith, h.0))
plain (d ∷ ds) h =
    let minus : (d == 45) ≡ false = no_sign 45 d (λ k. omega arith) h.1.0 in
    let plus : (d == 43) ≡ false = no_sign 43 d (λ k. omega arith) h.1.0 in
    (minus, rw plus refl)

-- the number that its decimal text says
pub said-again : (z : ℤ) → mag z < 2 ^ 63 → number_of_digits (signed_decimal z) ≡ z
said-again (pos n) h =
    let k = decimal_is_IsNumeral n (omega arith) in
    let p = plain (decimal n) k.0 in
    rw (p.0, p.1) (ap pos k.1)
said-again (negsuc n) h = ap (λ (m : ℕ). neg_ℤ (pos m)) (decimal_is_IsNumeral (suc n) (omega arith)).1

pub number-again : (fits : ℤ → Bool) (z : ℤ) → mag z < 2 ^ 63 → fits z ≡ true → number_in fits (signed_decimal z) ≡ Some z
number-again fits z h f =
    elim (bytes_eq (signed_decimal z) (codes "-0")) as (λ b. bytes_eq (signed_decimal z) (codes "-0") ≡ b → cond b (Some (pos 0)) (cond (is_shortest (signed_decimal z) && fits (number_of_digits (signed_decimal z))) (Some (number_of_digits (signed_decimal z))) None) ≡ Some z) [
      | true ↦ λ q.
          let e : signed_decimal z ≡ codes "-0" = (bytes_eq-Decides (signed_decimal z) (codes "-0")).0 q in
          let zero : pos 0 ≡ z = sym (ap number_of_digits e) ∙ said-again z h in
          ap Some zero
      | false ↦ λ q. rw (said-again z h, f, (bytes_eq-Decides (signed_decimal z) (signed_decimal z)).1 refl) refl
    ] refl
