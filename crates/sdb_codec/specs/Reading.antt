-- Reading from left to right, field by field. What is wrong is given by the bytes left where the first field begins that is
-- cut off or isn't of its form.
use Rattle.std.specs.Prelude.{◌≡◌, ℕ, zero, suc, ◌-◌, Bool, true, false, nat_lt, ◌==◌, if◌then◌else◌, List, [], ◌∷◌, length, take, drop, slice_get, Option, Some, None, Result, Ok, Err}
use Rattle.std.specs.Option.{option_map}
use Rattle.std.specs.Int.{Width, w16, w32, w64, byte_len, from_be_bytes, cast_signed}
use Rattle.std.specs.Str.{is_utf8}
use Rattle.std.specs.Ordering.{is_lt}
use Rattle.sdb_codec.specs.Types.{Key, Pair, Record, TableName, Value}
use Rattle.sdb_types.specs.declared.value.Value.TheVariants as value
use Rattle.sdb_types.specs.Identifier.{is_name}
use Rattle.sdb_types.specs.Columns.{is_null}
use Rattle.sdb_types.specs.Order.{name_cmp}
use Rattle.sdb_codec.specs.declared.refused.Stopped.{Stopped}
use Rattle.sdb_codec.specs.declared.refused.Stopped.TheVariants as stopped
use Rattle.sdb_codec.specs.declared.refused.ReadRefused.{ReadRefused}
use Rattle.sdb_codec.specs.declared.refused.ReadRefused.TheVariants as refused

infixl 10 ◌>>=◌
abbrev pub ◌>>=◌ : {A B : Type 0} → Result A ℕ → (A → Result B ℕ) → Result B ℕ
(Ok x) >>= f = f x
(Err left) >>= f = Err left

-- What a function returned, seen by view, is what reading gives, unless memory ran out.
abbrev pub Stops : {Y : Type 0} → Stopped → Result Y ℕ → Type 0
Stops stopped.NoMemory read = Unit {0}
Stops (stopped.Wrong left) read = read ≡ Err left

abbrev pub Gives : {X Y : Type 0} → (X → Y) → Result X Stopped → Result Y ℕ → Type 0
Gives view (Ok x) read = read ≡ Ok (view x)
Gives view (Err e) read = Stops e read

abbrev pub last_of : {X : Type 0} → List X → Option X
last_of xs = slice_get xs (length xs - 1)

---- parts of fields: each takes the bytes left where its field begins

abbrev pub number_at : Width → ℕ → List ℕ → Result (ℕ × List ℕ) ℕ
number_at w left bytes = if nat_lt (length bytes) (byte_len w) then Err left else Ok (from_be_bytes w (take (byte_len w) bytes), drop (byte_len w) bytes)

-- a length, and that many bytes
unfoldable pub sized_at : ℕ → List ℕ → Result (List ℕ × List ℕ) ℕ
sized_at left bytes = do
  n ← number_at w32 left bytes
  if nat_lt (length n.1) n.0 then Err left else Ok (take n.0 n.1, drop n.0 n.1)

unfoldable pub text_at : ℕ → List ℕ → Result (List ℕ × List ℕ) ℕ
text_at left bytes = do
  text ← sized_at left bytes
  if is_utf8 text.0 then Ok text else Err left

unfoldable pub bool_at : ℕ → List ℕ → Result (Bool × List ℕ) ℕ
bool_at left [] = Err left
bool_at left (zero ∷ rest) = Ok (false, rest)
bool_at left (suc zero ∷ rest) = Ok (true, rest)
bool_at left (suc (suc b) ∷ rest) = Err left

---- fields

-- a value of a kind
unfoldable pub value_of : ℕ → ℕ → List ℕ → Result (Value × List ℕ) ℕ
value_of left zero rest = Ok (value.Null, rest)
value_of left (suc zero) rest = do
  b ← bool_at left rest
  Ok (value.Bool b.0, b.1)
value_of left (suc (suc zero)) rest = do
  n ← number_at w32 left rest
  Ok (value.Int (cast_signed w32 n.0), n.1)
value_of left (suc (suc (suc zero))) rest = do
  n ← number_at w64 left rest
  Ok (value.BigInt (cast_signed w64 n.0), n.1)
value_of left (suc (suc (suc (suc zero)))) rest = do
  text ← text_at left rest
  Ok (value.Text text.0, text.1)
value_of left (suc (suc (suc (suc (suc zero))))) rest = do
  bytes ← sized_at left rest
  Ok (value.Blob bytes.0, bytes.1)
value_of left (suc (suc (suc (suc (suc (suc kind)))))) rest = Err left

unfoldable pub value_at : List ℕ → Result (Value × List ℕ) ℕ
value_at [] = Err 0
value_at (kind ∷ rest) = value_of (length (kind ∷ rest)) kind rest

-- one byte
abbrev pub count_at : List ℕ → Result (ℕ × List ℕ) ℕ
count_at [] = Err 0
count_at (n ∷ rest) = Ok (n, rest)

-- so many items one after another, each read after the one before
unfoldable pub items_at : {X : Type 0} → (Option X → List ℕ → Result (X × List ℕ) ℕ) → Option X → ℕ → List ℕ → Result (List X × List ℕ) ℕ
items_at item_at before zero bytes = Ok ([], bytes)
items_at item_at before (suc n) bytes = do
  first ← item_at before bytes
  others ← items_at item_at (Some first.0) n first.1
  Ok (first.0 ∷ others.0, others.1)

unfoldable pub values_at : List ℕ → Result (List Value × List ℕ) ℕ
values_at bytes = do
  n ← count_at bytes
  items_at (λ before rest. value_at rest) None n.0 n.1

abbrev pub name_of : ℕ → List ℕ → Result (List ℕ) ℕ
name_of left text = if is_name text then Ok text else Err left

-- the bytes before the first dot, and those after it
abbrev pub dot_split : List ℕ → Option (List ℕ × List ℕ)
dot_split [] = None
dot_split (c ∷ cs) = if c == 46 then Some ([], cs) else option_map (λ p. (c ∷ p.0, p.1)) (dot_split cs)

abbrev pub names_of : ℕ → Option (List ℕ × List ℕ) → Result TableName ℕ
names_of left None = Err left
names_of left (Some parts) = do
  ns ← name_of left parts.0
  table ← name_of left parts.1
  Ok (record { ns = ns; table = table })

-- two names with a dot between them
unfoldable pub table_at : List ℕ → Result (TableName × List ℕ) ℕ
table_at bytes = do
  text ← sized_at (length bytes) bytes
  table ← names_of (length bytes) (dot_split text.0)
  Ok (table, text.1)

unfoldable pub key_at : List ℕ → Result (Key × List ℕ) ℕ
key_at bytes = do
  table ← table_at bytes
  partition ← values_at table.1
  clustering ← values_at partition.1
  Ok (record { table = table.0; partition = partition.0; clustering = clustering.0 }, clustering.1)

-- above the name of the column before, if there is one
abbrev pub is_above : Option Pair → List ℕ → Bool
is_above None name = true
is_above (Some before) name = is_lt (name_cmp before.name name)

unfoldable pub column_name_at : Option Pair → List ℕ → Result (List ℕ × List ℕ) ℕ
column_name_at before bytes = do
  text ← sized_at (length bytes) bytes
  name ← name_of (length bytes) text.0
  if is_above before name then Ok (name, text.1) else Err (length bytes)

unfoldable pub column_value_at : List ℕ → Result (Value × List ℕ) ℕ
column_value_at bytes = do
  v ← value_at bytes
  if is_null v.0 then Err (length bytes) else Ok v

unfoldable pub pair_at : Option Pair → List ℕ → Result (Pair × List ℕ) ℕ
pair_at before bytes = do
  name ← column_name_at before bytes
  v ← column_value_at name.1
  Ok (record { name = name.0; value = v.0 }, v.1)

unfoldable pub columns_at : List ℕ → Result (List Pair × List ℕ) ℕ
columns_at bytes = do
  n ← number_at w16 (length bytes) bytes
  items_at pair_at None n.0 n.1

-- the number of the format
abbrev pub format_at : List ℕ → Result (List ℕ) ℕ
format_at [] = Err 0
format_at (n ∷ rest) = if n == 1 then Ok rest else Err (length (n ∷ rest))

unfoldable pub record_at : List ℕ → Result (Record × List ℕ) ℕ
record_at bytes = do
  rest ← format_at bytes
  key ← key_at rest
  columns ← columns_at key.1
  Ok (record { key = key.0; columns = columns.0 }, columns.1)

---- the whole

-- all of the bytes
abbrev pub whole : {X : Type 0} → Result (X × List ℕ) ℕ → Result X ℕ
whole read = read >>= λ x. if length x.1 == 0 then Ok x.0 else Err (length x.1)

-- a place counted from the start
abbrev pub from_front : {X : Type 0} → ℕ → Result X ℕ → Result X ℕ
from_front total (Ok x) = Ok x
from_front total (Err left) = Err (total - left)

abbrev pub refusal : ℕ → Stopped → ReadRefused
refusal total (stopped.Wrong left) = refused.BadBytes (total - left)
refusal total stopped.NoMemory = refused.NoMemory

-- the record that the bytes spell, or else the place of the first field that is cut off or isn't of its form, or of the first
-- byte after a whole record
abbrev pub record_in : List ℕ → Result Record ℕ
record_in bytes = from_front (length bytes) (whole (record_at bytes))

-- the same for a key
abbrev pub key_in : List ℕ → Result Key ℕ
key_in bytes = from_front (length bytes) (whole (key_at bytes))

-- What a function returned is what reading gives, unless memory ran out.
abbrev pub Reads : {X : Type 0} → Result X ReadRefused → Result X ℕ → Type 0
Reads (Ok x) read = read ≡ Ok x
Reads (Err refused.NoMemory) read = Unit {0}
Reads (Err (refused.BadBytes place)) read = read ≡ Err place
