-- A field that a value is written as says that value.
use Rattle.std.proofs.Common.{◌≡◌, ◌<◌, ◌^◌, ◌==◌, ℕ, zero, suc, ℤ, pos, negsuc, List, [], ◌∷◌, Bool, true, false, not, cond, ◌&&◌, refl, sym, ap, subst, ◌∙◌, arith, Some, None}
use Rattle.std.specs.Prelude.{codes, nat_lt, slice_index}
use Rattle.std.specs.Option.{option_map}
use Rattle.std.specs.List.{list_all}
use Rattle.std.specs.Char.{digit_value}
use Rattle.std.specs.Str.{bytes_eq, is_utf8, IsAscii}
use Rattle.std.specs.Str.Parse.{IsNumeral}
use Rattle.std.specs.Fmt.{decimal, signed_decimal}
use Rattle.std.proofs.lemmas.Slice.Eq.{bytes_eq-Decides}
use Rattle.std.proofs.lemmas.Bool.{false_from_ne_true}
use Rattle.std.proofs.lemmas.Bool.Decides.{nat_tests}
use Rattle.std.proofs.lemmas.Fmt.{IsAscii-signed, decimal_is_IsNumeral}
use Rattle.std.proofs.lemmas.Str.{is_utf8-from_IsUtf8, IsUtf8-from_is_utf8, IsUtf8-from_ascii, IsUtf8-append}
use lib.Signed.{mag}
use Rattle.hex.specs.Hex.{encode_upper, upper_digits}
use Rattle.hex.proofs.HexLemmas.{IsAscii-encode_with, decode_of-encode_upper}
use Rattle.hex.proofs.OnLiterals.{hex_on_literals}
use Rattle.sdb_types.specs.declared.value.Value.{Value}
use Rattle.sdb_types.specs.declared.value.Value.TheVariants as value
use Rattle.sdb_types.proofs.Public.{and_first, and_second}
use Rattle.sdb_schema.specs.declared.table.Kind.{Kind}
use Rattle.sdb_schema.specs.declared.table.Kind.TheVariants as kind
use Rattle.sdb_schema.specs.declared.table.Column.{Column}
use Rattle.sdb_schema.specs.declared.table.Table.{Table}
use Rattle.sdb_schema.specs.Table.{is_key_column}
use Rattle.sdb_schema.specs.Rows.{is_of_kind, is_in_range}
use Rattle.sdb_data.specs.declared.field.Head.{Head}
use Rattle.sdb_data.specs.Fields.{begins_backslash, blob_in, escaped, field_of, if_short, is_big, is_null_field, is_short, null_field, value_given, number_of_digits, suits, text_in, unescaped, value_at}
use Rattle.sdb_data.specs.Printed.{is_byte, is_cell, is_small}
use Rattle.sdb_data.proofs.Numbers.{big-small, int-small, number-again}
use Rattle.sdb_types.specs.Fits.{fits_int}

---- each field is UTF-8

below : (n : ℕ) (bs : List ℕ) → 0 < n → list_all (λ b. nat_lt b n) bs ≡ true → (i : ℕ) → slice_index bs i < n
below n [] z h i = z
below n (b ∷ bs) z h zero = let k = and_first (nat_lt b n) _ h in grind (arith, nat_tests)
below n (b ∷ bs) z h (suc i) = below n bs z (and_second (nat_lt b n) _ h) i

pub ascii-utf8 : (bs : List ℕ) → IsAscii bs → is_utf8 bs ≡ true
ascii-utf8 bs h = is_utf8-from_IsUtf8 bs (IsUtf8-from_ascii bs h)

literal-utf8 : (bs : List ℕ) → list_all (λ b. nat_lt b 128) bs ≡ true → is_utf8 bs ≡ true
literal-utf8 bs h = ascii-utf8 bs (below 128 bs (omega arith) h)

pub null-utf8 : is_utf8 null_field ≡ true
null-utf8 = literal-utf8 null_field refl

and-false : (b : Bool) → false ≡ (b && false)
and-false true = refl
and-false false = refl

-- no column takes a field that isn't UTF-8
pub not-accepted : (h : Head) (field : List ℕ) → is_utf8 field ≡ false → false ≡ suits h field
not-accepted h field u =
    let other : is_null_field field ≡ false = false_from_ne_true (is_null_field field) (λ q.
    let e : field ≡ null_field = (bytes_eq-Decides field null_field).0 q in
    let t : is_utf8 field ≡ true = ap is_utf8 e ∙ null-utf8 in
    absurd (cc)) in
    rw (u, other) (and-false (not h.in_key))

escaped-utf8 : (t : List ℕ) → is_utf8 t ≡ true → is_utf8 (escaped t) ≡ true
escaped-utf8 t h =
    elim (begins_backslash t) as (λ b. is_utf8 (cond b (92 ∷ t) t) ≡ true) [
      | true ↦ is_utf8-from_IsUtf8 (92 ∷ t) (IsUtf8-append (92 ∷ []) t (IsUtf8-from_is_utf8 (92 ∷ []) (literal-utf8 (92 ∷ []) refl)) (IsUtf8-from_is_utf8 t h))
      | false ↦ h
    ]

pub field-utf8 : (v : Value) → is_in_range v ≡ true → is_small v ≡ true → is_utf8 (field_of v) ≡ true
field-utf8 value.Null r s = null-utf8
field-utf8 (value.Bool true) r s = literal-utf8 (codes "true") refl
field-utf8 (value.Bool false) r s = literal-utf8 (codes "false") refl
field-utf8 (value.Int n) r s = let m = int-small n s in ascii-utf8 (signed_decimal n) (IsAscii-signed n (omega arith))
field-utf8 (value.BigInt n) r s = ascii-utf8 (signed_decimal n) (IsAscii-signed n (big-small n r))
field-utf8 (value.Text t) r s = escaped-utf8 t (and_first (is_utf8 t) (is_short t) s)
field-utf8 (value.Blob bs) r s = ascii-utf8 (encode_upper bs) (IsAscii-encode_with upper_digits bs (below 128 upper_digits (omega arith) refl))

---- each field of a kind says its value

text-again : (t : List ℕ) → is_short t ≡ true → text_in (escaped t) ≡ Some t
text-again [] s = refl
text-again (b ∷ bs) s =
    elim (b == 92) as (λ x. (b == 92) ≡ x → if_short (unescaped (cond x (92 ∷ b ∷ bs) (b ∷ bs))) ≡ Some (b ∷ bs)) [
      | true ↦ λ q. rw (q, s) refl
      | false ↦ λ q. rw (q, s) refl
    ] refl

blob-again : (bs : List ℕ) → list_all is_byte bs ≡ true → is_short bs ≡ true → blob_in (encode_upper bs) ≡ Some bs
blob-again bs h s = rw (decode_of-encode_upper bs (below 256 bs (omega arith) h), s) refl

said-again : (k : Kind) (v : Value) → is_of_kind k v ≡ true → is_in_range v ≡ true → is_small v ≡ true → value_given k (field_of v) ≡ Some v
said-again kind.Boolean (value.Bool true) h r s = refl
said-again kind.Boolean (value.Bool false) h r s = refl
said-again kind.Int (value.Int n) h r s = let m = int-small n s in ap (option_map value.Int) (number-again fits_int n (omega arith) s)
said-again kind.BigInt (value.BigInt n) h r s = ap (option_map value.BigInt) (number-again is_big n (big-small n r) r)
said-again kind.Text (value.Text t) h r s = ap (option_map value.Text) (text-again t (and_second (is_utf8 t) (is_short t) s))
said-again kind.Blob (value.Blob bs) h r s = ap (option_map value.Blob) (blob-again bs (and_first (list_all is_byte bs) (is_short bs) s) (and_second (list_all is_byte bs) (is_short bs) s))
said-again kind.Boolean value.Null h r s = cc h
said-again kind.Boolean (value.Int n) h r s = cc h
said-again kind.Boolean (value.BigInt n) h r s = cc h
said-again kind.Boolean (value.Text t) h r s = cc h
said-again kind.Boolean (value.Blob bs) h r s = cc h
said-again kind.Int value.Null h r s = cc h
said-again kind.Int (value.Bool b) h r s = cc h
said-again kind.Int (value.BigInt n) h r s = cc h
said-again kind.Int (value.Text t) h r s = cc h
said-again kind.Int (value.Blob bs) h r s = cc h
said-again kind.BigInt value.Null h r s = cc h
said-again kind.BigInt (value.Bool b) h r s = cc h
said-again kind.BigInt (value.Int n) h r s = cc h
said-again kind.BigInt (value.Text t) h r s = cc h
said-again kind.BigInt (value.Blob bs) h r s = cc h
said-again kind.Text value.Null h r s = cc h
said-again kind.Text (value.Bool b) h r s = cc h
said-again kind.Text (value.Int n) h r s = cc h
said-again kind.Text (value.BigInt n) h r s = cc h
said-again kind.Text (value.Blob bs) h r s = cc h
said-again kind.Blob value.Null h r s = cc h
said-again kind.Blob (value.Bool b) h r s = cc h
said-again kind.Blob (value.Int n) h r s = cc h
said-again kind.Blob (value.BigInt n) h r s = cc h
said-again kind.Blob (value.Text t) h r s = cc h

---- `\N` says no value of a kind

null-no-digits : (n : ℕ) → n < 2 ^ 64 → bytes_eq null_field (decimal n) ≡ false
null-no-digits n h = false_from_ne_true (bytes_eq null_field (decimal n)) (λ q.
    let e : decimal n ≡ null_field = sym ((bytes_eq-Decides null_field (decimal n)).0 q) in
    let k : IsNumeral 10 null_field = subst (IsNumeral 10) e (decimal_is_IsNumeral n h).0 in
    let d : digit_value 92 < 10 = k.1.0 in
    omega arith)

null-no-number : (z : ℤ) → mag z < 2 ^ 63 → bytes_eq null_field (signed_decimal z) ≡ false
null-no-number (pos n) h = null-no-digits n (omega arith)
null-no-number (negsuc n) h = refl

pub null-said : (k : Kind) → value_given k null_field ≡ None
unfolding hex_on_literals
null-said kind.Boolean = refl
null-said kind.Int = rw (null-no-number (number_of_digits null_field) (omega arith)) refl
null-said kind.BigInt = rw (null-no-number (number_of_digits null_field) (omega arith)) refl
null-said kind.Text = refl
null-said kind.Blob = refl

---- a value of a column

pub record CellAgain (t : Table) (c : Column) (v : Value) : Type 0 where
  pub utf8 : is_utf8 (field_of v) ≡ true
  pub takes : suits (record { kind = c.kind; in_key = is_key_column t c.name }) (field_of v) ≡ true
  pub value : value_at c.kind (field_of v) ≡ v

null-again : (t : Table) (c : Column) → not (is_key_column t c.name) ≡ true → CellAgain t c value.Null
null-again t c h = record {
  utf8 = null-utf8;
  takes = rw (null-utf8, null-said c.kind, h) refl;
  value = rw (null-utf8, null-said c.kind) refl;
}

value-again : (t : Table) (c : Column) (v : Value) → (is_of_kind c.kind v && (is_in_range v && is_small v)) ≡ true → CellAgain t c v
value-again t c v h =
    let k = and_first (is_of_kind c.kind v) _ h in
    let rest = and_second (is_of_kind c.kind v) (is_in_range v && is_small v) h in
    let r = and_first (is_in_range v) (is_small v) rest in
    let s = and_second (is_in_range v) (is_small v) rest in
    let u = field-utf8 v r s in
    let e = said-again c.kind v k r s in
    record {
      utf8 = u;
      takes = rw (u, e) refl;
      value = rw (u, e) refl;
    }

pub cell-again : (t : Table) (c : Column) (v : Value) → is_cell t c v ≡ true → CellAgain t c v
cell-again t c value.Null h = null-again t c h
cell-again t c (value.Bool b) h = value-again t c (value.Bool b) h
cell-again t c (value.Int n) h = value-again t c (value.Int n) h
cell-again t c (value.BigInt n) h = value-again t c (value.BigInt n) h
cell-again t c (value.Text x) h = value-again t c (value.Text x) h
cell-again t c (value.Blob bs) h = value-again t c (value.Blob bs) h
