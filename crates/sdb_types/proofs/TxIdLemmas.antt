-- The text of an id, and the id of a text.
use Rattle.std.proofs.Common.{◌≡◌, ℕ, zero, suc, ◌<◌, ◌^◌, List, All, Bool, true, false, IsTrue, Some, refl, sym, ap, ◌∙◌, subst, inl, arith}
use Rattle.std.specs.Int.{w128, to_be_bytes, from_be_bytes, bytes_high_first, byte_at}
use Rattle.std.specs.Ordering.{is_eq}
use Rattle.std.specs.Cmp.{tied_itself}
use Rattle.uuid.specs.Text.{lower, parsed}
use Rattle.std.proofs.Common.{Result, Ok, Err, IsOk, IfOk, ◌↔◌}
use Rattle.uuid.proofs.RoundTrips.{parses_hyphenated, parse_gives}
use Rattle.uuid.proofs.OrderLemmas.{from_be_bytes-to_be_bytes_16}
use Rattle.sdb_types.specs.TxId.{id_text}
use Rattle.sdb_types.specs.declared.value.Value.TheVariants as value
use Rattle.sdb_types.specs.Contents.{has_value}
use Rattle.sdb_types.specs.Exact.{equal_of}
use Rattle.sdb_types.specs.Order.{name_cmp}
use Rattle.sdb_types.proofs.KeyOrder.{name_exact, name_total}

byte_small : (k n : ℕ) → byte_at k n < 256
byte_small zero n = omega arith
byte_small (suc k) n = omega arith

bytes_small : (k n : ℕ) → All (λ b. b < 256) (bytes_high_first k n)
bytes_small zero n i d h = absurd (omega arith)
bytes_small (suc k) n zero d h = byte_small k n
bytes_small (suc k) n (suc i) d h = bytes_small k n i d (omega arith)

-- what a text of an id parses to
pub id_text_parses : (n : ℕ) (text : List ℕ) → text ≡ id_text n → Some (to_be_bytes w128 n) ≡ parsed text
id_text_parses n text e = parses_hyphenated lower (to_be_bytes w128 n) (inl refl) refl (bytes_small 16 n) ∙ ap parsed (sym e)

-- the number that is read from an id's text
pub number_read : {E : Type 0} (r : Result (List ℕ) E) (t u : List ℕ) (m n : ℕ) → (IsOk r ↔ ((x : List ℕ) × (parsed t ≡ Some x)))
    → IfOk r (λ x. Some x ≡ parsed t) → r ≡ Ok u → m ≡ from_be_bytes w128 u → n < 2 ^ 128 → t ≡ id_text n → m ≡ n
number_read r t u m n ok bytes is m_is small e =
    let p = parse_gives r t (to_be_bytes w128 n) ok bytes (id_text_parses n t e) in
    let q : u ≡ to_be_bytes w128 n = cc in
    m_is ∙ ap (from_be_bytes w128) q ∙ from_be_bytes-to_be_bytes_16 n small

pub read_or_refused : {E : Type 0} (r : Result (List ℕ) E) (t : List ℕ) (e : E) (n : ℕ) → (IsOk r ↔ ((x : List ℕ) × (parsed t ≡ Some x)))
    → IfOk r (λ x. Some x ≡ parsed t) → r ≡ Err e → t ≡ id_text n → ⊥
read_or_refused r t e n ok bytes is is_text =
    let p = parse_gives r t (to_be_bytes w128 n) ok bytes (id_text_parses n t is_text) in
    cc

-- whether a text is another is whether its value is the other's
pub is_text_value : (b : Bool) (t x : List ℕ) → IsTrue b ↔ (t ≡ x) → b ≡ has_value (Some (value.Text t)) (value.Text x)
is_text_value true t x h = sym (subst (λ (y : List ℕ). is_eq (name_cmp t y) ≡ true) (h.0 refl) (ap is_eq (tied_itself name_total t)))
is_text_value false t x h =
    elim (is_eq (name_cmp t x)) as (λ v. is_eq (name_cmp t x) ≡ v → false ≡ v) [
      | true ↦ λ e. h.1 (name_exact t x (equal_of (name_cmp t x) e))
      | false ↦ λ e. refl
    ] refl
