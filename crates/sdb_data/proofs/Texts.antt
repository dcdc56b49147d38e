-- Texts and blobs in fields.
use Rattle.std.proofs.Common.{◌≡◌, ◌≤◌, ◌%◌, ◌/◌, ◌*◌, ◌==◌, ℕ, List, [], ◌∷◌, length, true, false, cond, ◌&&◌, refl, sym, ap, arith, Some, None, Ok, Err}
use Rattle.std.specs.Prelude.{Result, is_some, nat_le}
use Rattle.std.specs.List.{list_all}
use Rattle.std.specs.Str.{IsUtf8, is_utf8}
use Rattle.std.proofs.lemmas.Bool.{eq-eqb, eqb-true, false_from_ne_true}
use Rattle.std.proofs.lemmas.Bool.Decides.{nat_tests}
use Rattle.std.proofs.lemmas.List.Sums.{AllPass-from_list_all, list_all-from_AllPass}
use Rattle.std.proofs.lemmas.Str.{IsUtf8-from_is_utf8}
use Rattle.hex.specs.Hex.{decode_of, is_hex_digit}
use Rattle.hex.specs.declared.error.FromHexError.{FromHexError}
use Rattle.hex.proofs.HexLemmas.{decode_of-digits, decode_of-ok}
use Rattle.sdb_types.proofs.Public.{and_both, and_first, and_second}
use Rattle.sdb_data.specs.Fields.{begins_backslash, blob_in, decoded, has_blob_form, if_short, is_short, unescaped}

pub no-utf8 : (bs : List ℕ) → (IsUtf8 bs → ⊥) → false ≡ is_utf8 bs
no-utf8 bs not_so = sym (false_from_ne_true (is_utf8 bs) (λ e. not_so (IsUtf8-from_is_utf8 bs e)))

-- a text that doesn't begin with `\` means itself
pub plain : (field : List ℕ) → ((rest : List ℕ) → field ≡ 92 ∷ rest → ⊥) → unescaped field ≡ Some field
plain [] h = refl
plain (b ∷ bs) h =
    elim (b == 92) as (λ x. (b == 92) ≡ x → cond x (cond (begins_backslash bs) (Some bs) None) (Some (b ∷ bs)) ≡ Some (b ∷ bs)) [
      | true ↦ λ q. absurd (h bs (ap (λ (c : ℕ). c ∷ bs) (eqb-true b 92 q)))
      | false ↦ λ q. refl
    ] refl

-- after a `\`, the text is what follows, where that begins with one too
pub behind : (field rest : List ℕ) → field ≡ 92 ∷ rest → unescaped field ≡ cond (begins_backslash rest) (Some rest) None
behind field rest e = ap unescaped e

-- a field says a blob where it is an even number of hexadecimal digits, 8,192 at most
pub record IsBlob (field : List ℕ) : Type 0 where
  pub even : length field % 2 ≡ 0
  pub short : length field / 2 ≤ 4096
  pub digits : list_all is_hex_digit field ≡ true

is-blob : (field : List ℕ) → IsBlob field → is_some (blob_in field) ≡ true
is-blob field h =
    let d = decode_of-digits field h.even (AllPass-from_list_all is_hex_digit field h.digits) in
    let n = (decode_of-ok field d.0 d.1).2 in
    let m : length field ≡ 2 * length d.0 = n in
    let few : length d.0 ≤ 4096 = omega (arith, h.short) in
    let s : is_short d.0 ≡ true = grind (arith, nat_tests) in
    rw (d.1, s) refl

no-blob : (field : List ℕ) (r : Result (List ℕ) FromHexError) → decode_of field ≡ r → (IsBlob field → ⊥) → is_some (if_short (decoded r)) ≡ false
no-blob field (Err e) q h = refl
no-blob field (Ok bytes) q h =
    elim (is_short bytes) as (λ b. is_short bytes ≡ b → is_some (cond b (Some bytes) None) ≡ false) [
      | true ↦ λ s.
          let k = decode_of-ok field bytes q in
          let n : length field ≡ 2 * length bytes = k.2 in
          let few : length bytes ≤ 4096 = grind (arith, nat_tests) in
          absurd (h (record { even = k.0; short = omega arith; digits = list_all-from_AllPass is_hex_digit field k.1 }))
      | false ↦ λ s. refl
    ] refl

form : (field : List ℕ) → has_blob_form field ≡ true → IsBlob field
form field h =
    let rest = and_second (length field % 2 == 0) (nat_le (length field / 2) 4096 && list_all is_hex_digit field) h in
    let short = and_first (nat_le (length field / 2) 4096) (list_all is_hex_digit field) rest in
    record {
      even = eqb-true (length field % 2) 0 (and_first (length field % 2 == 0) _ h);
      short = grind (arith, nat_tests);
      digits = and_second (nat_le (length field / 2) 4096) (list_all is_hex_digit field) rest;
    }

formed : (field : List ℕ) → IsBlob field → has_blob_form field ≡ true
formed field h =
    let short : length field / 2 ≤ 4096 = h.short in
    let s : nat_le (length field / 2) 4096 ≡ true = grind (arith, nat_tests) in
    and_both (length field % 2 == 0) _ (eq-eqb (length field % 2) 0 h.even) (and_both (nat_le (length field / 2) 4096) _ s h.digits)

pub blob-form : (field : List ℕ) → has_blob_form field ≡ is_some (blob_in field)
blob-form field =
    elim (has_blob_form field) as (λ b. has_blob_form field ≡ b → b ≡ is_some (blob_in field)) [
      | true ↦ λ q. sym (is-blob field (form field q))
      | false ↦ λ q. sym (no-blob field (decode_of field) refl (λ h. let f = formed field h in absurd (cc)))
    ] refl
