-- What a field says in a column of a kind, and the field that a value is written as.
use Rattle.std.specs.Prelude.{ℕ, ◌%◌, ◌/◌, ℤ, pos, negsuc, int_le, Bool, true, false, not, ◌&&◌, ◌||◌, ◌==◌, nat_le, if◌then◌else◌, List, [], ◌∷◌, length, map, codes, Option, Some, None, is_some, Result, Ok, Err}
use Rattle.std.specs.Option.{option_map}
use Rattle.std.specs.List.{list_all}
use Rattle.std.specs.Char.{to_ascii_lowercase}
use Rattle.std.specs.Str.{is_utf8, bytes_eq}
use Rattle.std.specs.Str.Parse.{signed_digits_value}
use Rattle.std.specs.Fmt.{signed_decimal}
use Rattle.hex.specs.Hex.{decode_of, encode_upper, is_hex_digit}
use Rattle.hex.specs.declared.error.FromHexError.{FromHexError}
use Rattle.sdb_types.specs.declared.value.Value.{Value}
use Rattle.sdb_types.specs.declared.value.Value.TheVariants as value
use Rattle.sdb_schema.specs.declared.table.Kind.{Kind}
use Rattle.sdb_schema.specs.declared.table.Kind.TheVariants as kind
use Rattle.sdb_data.specs.declared.field.Head.{Head}
use Rattle.sdb_types.specs.Fits.{fits_int}

---- NULL

abbrev pub null_field : List ℕ
null_field = codes "\\N"

abbrev pub is_null_field : List ℕ → Bool
is_null_field field = bytes_eq field null_field

---- BOOLEAN: `true` or `false`, in any case

abbrev pub is_spelled : List ℕ → List ℕ → Bool
is_spelled word field = bytes_eq (map to_ascii_lowercase field) (map to_ascii_lowercase word)

abbrev pub bool_in : List ℕ → Option Bool
bool_in field =
    if is_spelled (codes "true") field then Some true
    else if is_spelled (codes "false") field then Some false
    else None

---- INT and BIGINT: the shortest decimal text of a number in the kind's range, or `-0`

-- the number that digits say, after a `-` where there is one
abbrev pub number_of_digits : List ℕ → ℤ
number_of_digits field = signed_digits_value 10 field

abbrev pub is_shortest : List ℕ → Bool
is_shortest field = bytes_eq field (signed_decimal (number_of_digits field))

abbrev pub is_big : ℤ → Bool
is_big n = int_le (negsuc 9007199254740991) n && int_le n (pos 9007199254740992)

abbrev pub number_in : (ℤ → Bool) → List ℕ → Option ℤ
number_in fits field =
    if bytes_eq field (codes "-0") then Some (pos 0)
    else if is_shortest field && fits (number_of_digits field) then Some (number_of_digits field)
    else None

---- TEXT: the text, with one more `\` before it where it begins with one

-- at most 4,096 bytes
abbrev pub is_short : List ℕ → Bool
is_short bytes = nat_le (length bytes) 4096

abbrev pub begins_backslash : List ℕ → Bool
begins_backslash [] = false
begins_backslash (b ∷ bs) = b == 92

-- the text that a field means; none where it begins with a single `\`
abbrev pub unescaped : List ℕ → Option (List ℕ)
unescaped [] = Some []
unescaped (b ∷ bs) = if b == 92 then (if begins_backslash bs then Some bs else None) else Some (b ∷ bs)

abbrev pub if_short : Option (List ℕ) → Option (List ℕ)
if_short None = None
if_short (Some bytes) = if is_short bytes then Some bytes else None

abbrev pub text_in : List ℕ → Option (List ℕ)
text_in field = if_short (unescaped field)

---- BLOB: two hexadecimal digits for a byte, in either case

abbrev pub decoded : Result (List ℕ) FromHexError → Option (List ℕ)
decoded (Ok bytes) = Some bytes
decoded (Err e) = None

abbrev pub blob_in : List ℕ → Option (List ℕ)
blob_in field = if_short (decoded (decode_of field))

-- the form of such a field: an even number of digits, 8,192 at most
abbrev pub has_blob_form : List ℕ → Bool
has_blob_form field = (length field % 2 == 0) && (nat_le (length field / 2) 4096 && list_all is_hex_digit field)

---- a field of a column

-- the value that a text says in a column of a kind, if it says one
abbrev pub value_given : Kind → List ℕ → Option Value
value_given kind.Boolean field = option_map value.Bool (bool_in field)
value_given kind.Int field = option_map value.Int (number_in fits_int field)
value_given kind.BigInt field = option_map value.BigInt (number_in is_big field)
value_given kind.Text field = option_map value.Text (text_in field)
value_given kind.Blob field = option_map value.Blob (blob_in field)

-- the same of a field of any bytes
abbrev pub value_in : Kind → List ℕ → Option Value
value_in k field = if is_utf8 field then value_given k field else None

-- A column takes a field that says a value of its kind, and `\N`, which says none, unless it is of the primary key.
abbrev pub suits : Head → List ℕ → Bool
suits head field = is_some (value_in head.kind field) || (not head.in_key && is_null_field field)

abbrev pub or_null : Option Value → Value
or_null None = value.Null
or_null (Some v) = v

-- the value of a field that its column takes
abbrev pub value_at : Kind → List ℕ → Value
value_at k field = or_null (value_in k field)

---- written

abbrev pub bool_field : Bool → List ℕ
bool_field true = codes "true"
bool_field false = codes "false"

abbrev pub escaped : List ℕ → List ℕ
escaped text = if begins_backslash text then 92 ∷ text else text

-- the field that a value is written as
abbrev pub field_of : Value → List ℕ
field_of value.Null = null_field
field_of (value.Bool b) = bool_field b
field_of (value.Int n) = signed_decimal n
field_of (value.BigInt n) = signed_decimal n
field_of (value.Text text) = escaped text
field_of (value.Blob bytes) = encode_upper bytes
