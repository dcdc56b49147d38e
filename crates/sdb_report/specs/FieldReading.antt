-- Reading from the start of a text: what is there and the bytes after it, or nothing.
use Rattle.std.specs.Prelude.{◌≡◌, ◌^◌, ℕ, zero, suc, ◌+◌, ◌-◌, ◌*◌, min, ℤ, pos, negsuc, Bool, true, false, not, ◌&&◌, ◌||◌, ◌==◌, nat_lt, if◌then◌else◌, List, [], ◌∷◌, ◌++◌, length, take, drop, codes, decimal, Option, Some, None, Result, Ok, Err}
use Rattle.std.specs.Char.{is_ascii_digit}
use Rattle.std.specs.Fmt.{signed_decimal}
use Rattle.std.specs.List.{prefix_len}
use Rattle.std.specs.Result.{result_ok}
use Rattle.std.specs.Str.{is_utf8}
use Rattle.hex.specs.Hex.{decode_of, encode_upper}
use Rattle.sdb_types.specs.Columns.{is_null}
use Rattle.sdb_types.specs.Identifier.{is_part, is_name}
use Rattle.sdb_report.specs.Types.{Key, Pair, Record, Span, TableName, TxId, Value}
use Rattle.sdb_types.specs.declared.value.Value.TheVariants as value
use Rattle.sdb_record.specs.Ids.{id_of_text}
use Rattle.sdb_report.specs.declared.unread.Unread.{Unread}
use Rattle.sdb_report.specs.declared.unread.Unread.TheVariants as unread
use Rattle.sdb_codec.specs.Reading.{last_of, is_above}
use Rattle.sdb_types.specs.Options.{◌>>=◌}

abbrev pub Read : Type 0 → Type 0
Read A = Option (A × List ℕ)

abbrev pub case_of : {A B : Type 0} → Option A → (A → B) → B → B
case_of (Some x) f otherwise = f x
case_of None f otherwise = otherwise

-- What a function returned, seen by view, is what reading gives, unless memory ran out.
abbrev pub Fails : {Y : Type 0} → Unread → Option Y → Type 0
Fails unread.NoMemory read = Unit {0}
Fails unread.Bad read = read ≡ None

abbrev pub Gives : {X Y : Type 0} → (X → Y) → Result X Unread → Option Y → Type 0
Gives view (Ok x) read = read ≡ Some (view x)
Gives view (Err e) read = Fails e read

---- words and names

-- what follows a word that is at the start
abbrev pub after : List ℕ → List ℕ → Option (List ℕ)
after [] bytes = Some bytes
after (w ∷ ws) [] = None
after (w ∷ ws) (b ∷ bytes) = if w == b then after ws bytes else None

abbrev pub name_of : List ℕ → Option (List ℕ)
name_of text = if is_name text then Some text else None

abbrev pub text_of : List ℕ → Option (List ℕ)
text_of bytes = if is_utf8 bytes then Some bytes else None

unfoldable pub name_at : List ℕ → Read (List ℕ)
name_at bytes = name_of (take (prefix_len is_part bytes) bytes) >>= λ name. Some (name, drop (prefix_len is_part bytes) bytes)

---- numbers

abbrev pub widest : ℕ
widest = 2 ^ 64 - 1

-- a number with one more digit, cut at the widest
abbrev pub with_digit : ℕ → ℕ → ℕ
with_digit n c = min (min (n * 10) widest + (c - 48)) widest

-- the number that goes on with the digits at the start
abbrev pub number_on : ℕ → List ℕ → ℕ
number_on n [] = n
number_on n (c ∷ cs) = if is_ascii_digit c then number_on (with_digit n c) cs else n

-- a number in its shortest decimal
unfoldable pub natural_at : List ℕ → Read ℕ
natural_at bytes = after (decimal (number_on 0 bytes)) bytes >>= λ rest. Some (number_on 0 bytes, rest)

abbrev pub natural_below : ℕ → List ℕ → Read ℕ
natural_below limit bytes = natural_at bytes >>= λ n. if nat_lt n.0 limit then Some n else None

abbrev pub longest : ℕ
longest = 2 ^ 63 - 1

abbrev pub positive : ℕ → ℤ
positive n = pos (min n longest)

abbrev pub negative : ℕ → ℤ
negative zero = pos 0
negative (suc n) = negsuc (min n longest)

-- the number with its sign, cut at the longest
abbrev pub number_at : List ℕ → ℤ
number_at bytes = case_of (after (codes "-") bytes) (λ rest. negative (number_on 0 rest)) (positive (number_on 0 bytes))

unfoldable pub integer_at : List ℕ → Read ℤ
integer_at bytes = after (signed_decimal (number_at bytes)) bytes >>= λ rest. Some (number_at bytes, rest)

---- values

abbrev pub int_of : ℤ → Option ℤ
int_of (pos n) = if nat_lt n (2 ^ 31) then Some (pos n) else None
int_of (negsuc n) = if nat_lt n (2 ^ 31) then Some (negsuc n) else None

abbrev pub begins_number : List ℕ → Bool
begins_number [] = false
begins_number (c ∷ cs) = is_ascii_digit c || c == 45

unfoldable pub numeral_at : List ℕ → Read Value
numeral_at bytes = integer_at bytes >>= λ n. case_of (after (codes "L") n.1)
    (λ rest. Some (value.BigInt n.0, rest))
    (int_of n.0 >>= λ i. Some (value.Int i, n.1))

-- what is quoted, after what was read of it so far; `second` just after a quote
abbrev pub quoted_on : Bool → List ℕ → List ℕ → Read (List ℕ)
quoted_on true text [] = Some (text, [])
quoted_on true text (b ∷ bs) = if b == 39 then quoted_on false (text ++ b ∷ []) bs else Some (text, b ∷ bs)
quoted_on false text [] = None
quoted_on false text (b ∷ bs) = if b == 39 then quoted_on true text bs else quoted_on false (text ++ b ∷ []) bs

unfoldable pub text_at : List ℕ → Read Value
text_at bytes = quoted_on false [] bytes >>= λ t. text_of t.0 >>= λ text. Some (value.Text text, t.1)

abbrev pub is_unquoted : ℕ → Bool
is_unquoted b = not (b == 39)

-- digits up to the quote, in upper case alone
unfoldable pub blob_at : List ℕ → Read Value
blob_at bytes =
    result_ok (decode_of (take (prefix_len is_unquoted bytes) bytes)) >>= λ blob. after (encode_upper blob) bytes >>= λ rest. after (codes "'") rest >>= λ rest. Some (value.Blob blob, rest)

unfoldable pub value_at : List ℕ → Read Value
value_at bytes =
    if begins_number bytes then numeral_at bytes else
    case_of (after (codes "NULL") bytes) (λ rest. Some (value.Null, rest))
    (case_of (after (codes "TRUE") bytes) (λ rest. Some (value.Bool true, rest))
    (case_of (after (codes "FALSE") bytes) (λ rest. Some (value.Bool false, rest))
    (case_of (after (codes "'") bytes) text_at
    (case_of (after (codes "X'") bytes) blob_at None))))

---- lists

-- as many items as there are, in at most so many turns; each is read after those before it
abbrev pub many : {X : Type 0} → (List X → List ℕ → Read X) → ℕ → List X → List ℕ → List X × List ℕ
many item_at zero xs bytes = (xs, bytes)
many item_at (suc n) xs bytes = case_of (item_at xs bytes) (λ x. many item_at n (xs ++ x.0 ∷ []) x.1) (xs, bytes)

-- so many items
abbrev pub counted : {X : Type 0} → (List ℕ → Read X) → ℕ → List X → List ℕ → Read (List X)
counted item_at zero xs bytes = Some (xs, bytes)
counted item_at (suc n) xs bytes = item_at bytes >>= λ x. counted item_at n (xs ++ x.0 ∷ []) x.1

abbrev pub next_value_at : List Value → List ℕ → Read Value
next_value_at before bytes = after (codes ",") bytes >>= value_at

unfoldable pub some_values_at : List ℕ → Read (List Value)
some_values_at bytes = value_at bytes >>= λ v. Some (many next_value_at (length v.1) (v.0 ∷ []) v.1)

unfoldable pub values_at : List ℕ → Read (List Value)
values_at bytes = case_of (some_values_at bytes) (λ vs. Some vs) (Some ([], bytes))

unfoldable pub row_at : List ℕ → Read (List Value)
row_at bytes = after (codes "(") bytes >>= λ rest. values_at rest >>= λ vs. after (codes ")") vs.1 >>= λ rest. Some (vs.0, rest)

---- keys and records

unfoldable pub table_at : List ℕ → Read TableName
table_at bytes = name_at bytes >>= λ ns. after (codes ".") ns.1 >>= λ rest. name_at rest >>= λ table. Some (record { ns = ns.0; table = table.0 }, table.1)

unfoldable pub clustering_at : List ℕ → Read (List Value)
clustering_at bytes = case_of (after (codes ";") bytes) some_values_at (Some ([], bytes))

unfoldable pub key_at : List ℕ → Read Key
key_at bytes = table_at bytes >>= λ table. after (codes "(") table.1 >>= λ rest. values_at rest >>= λ partition. clustering_at partition.1 >>= λ clustering.
    after (codes ")") clustering.1 >>= λ rest. Some (record { table = table.0; partition = partition.0; clustering = clustering.0 }, rest)

unfoldable pub partition_at : List ℕ → Read (Option (List Value))
partition_at bytes = case_of (row_at bytes) (λ row. Some (Some row.0, row.1)) (Some (None, bytes))

unfoldable pub span_at : List ℕ → Read Span
span_at bytes = table_at bytes >>= λ table. partition_at table.1 >>= λ partition. Some (record { table = table.0; partition = partition.0 }, partition.1)

-- not Null, under a name above that of the column before
abbrev pub is_next_column : Option Pair → Pair → Bool
is_next_column before p = not (is_null p.value) && is_above before p.name

abbrev pub column_of : Option Pair → Pair → Option Pair
column_of before p = if is_next_column before p then Some p else None

unfoldable pub pair_at : List Pair → List ℕ → Read Pair
pair_at before bytes = name_at bytes >>= λ name. after (codes "=") name.1 >>= λ rest. value_at rest >>= λ v.
    column_of (last_of before) (record { name = name.0; value = v.0 }) >>= λ p. Some (p, v.1)

abbrev pub next_pair_at : List Pair → List ℕ → Read Pair
next_pair_at before bytes = after (codes ",") bytes >>= pair_at before

unfoldable pub some_pairs_at : List ℕ → Read (List Pair)
some_pairs_at bytes = pair_at [] bytes >>= λ p. Some (many next_pair_at (length p.1) (p.0 ∷ []) p.1)

unfoldable pub pairs_at : List ℕ → Read (List Pair)
pairs_at bytes = case_of (some_pairs_at bytes) (λ ps. Some ps) (Some ([], bytes))

unfoldable pub columns_at : List ℕ → Read (List Pair)
columns_at bytes = after (codes "{") bytes >>= λ rest. pairs_at rest >>= λ ps. after (codes "}") ps.1 >>= λ rest. Some (ps.0, rest)

unfoldable pub record_at : List ℕ → Read Record
record_at bytes = key_at bytes >>= λ key. columns_at key.1 >>= λ columns. Some (record { key = key.0; columns = columns.0 }, columns.1)

---- ids

-- the thirty-six bytes of an id
unfoldable pub id_at : List ℕ → Read TxId
id_at bytes = if nat_lt (length bytes) 36 then None else (text_of (take 36 bytes) >>= λ text. id_of_text text >>= λ id. Some (id, drop 36 bytes))
