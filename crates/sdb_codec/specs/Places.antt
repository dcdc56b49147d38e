-- Where bytes first go wrong. A record or a key is fields from left to right, each of the form that is due after those before
-- it. The bad place is where the first field begins that is cut off or isn't of that form, or where bytes go on after the
-- last field.
use Rattle.std.specs.Prelude.{◌≡◌, ◌≢◌, ℕ, zero, suc, ◌<◌, ◌^◌, Bool, true, false, List, [], ◌∷◌, ◌++◌, length, replicate, Option, Some, None}
use Rattle.std.specs.List.{flat_map}
use Rattle.std.specs.Str.{IsUtf8}
use Rattle.std.specs.Ordering.{is_lt}
use Rattle.std.specs.Int.{w16, to_be_bytes}
use Rattle.sdb_codec.specs.Types.{TableName, Value}
use Rattle.sdb_types.specs.declared.value.Value.TheVariants as value
use Rattle.sdb_types.specs.Identifier.{is_name}
use Rattle.sdb_types.specs.Columns.{is_null}
use Rattle.sdb_types.specs.Order.{name_cmp, table_text}
use Rattle.sdb_codec.specs.declared.refused.ReadRefused.{ReadRefused}
use Rattle.sdb_codec.specs.declared.refused.ReadRefused.TheVariants as refused
use Rattle.sdb_codec.specs.Spelling.{sized_bytes, value_bytes, ValueIsEncodable}

pub data Field : Type 0 where
  Format : Field
  Table : (table : TableName) → Field
  Count : (count : ℕ) → Field
  Item : (v : Value) → Field
  ColumnCount : (count : ℕ) → Field
  Name : (name : List ℕ) → Field

abbrev pub field_bytes : Field → List ℕ
field_bytes Format = 1 ∷ []
field_bytes (Table table) = sized_bytes (table_text table)
field_bytes (Count count) = count ∷ []
field_bytes (Item v) = value_bytes v
field_bytes (ColumnCount count) = to_be_bytes w16 count
field_bytes (Name name) = sized_bytes name

-- what is due: a column's name is above the one before, and so many columns follow it
pub data Due : Type 0 where
  FormatDue : Due
  TableDue : Due
  CountDue : Due
  ItemDue : Due
  ColumnCountDue : Due
  NameDue : (before : Option (List ℕ)) (more : ℕ) → Due
  CellDue : Due

-- the fields of a key, and of a record
abbrev pub key_due : List Due
key_due = TableDue ∷ CountDue ∷ CountDue ∷ []

abbrev pub record_due : List Due
record_due = FormatDue ∷ TableDue ∷ CountDue ∷ CountDue ∷ ColumnCountDue ∷ []

abbrev pub columns_due : Option (List ℕ) → ℕ → List Due
columns_due before zero = []
columns_due before (suc n) = NameDue before n ∷ []

-- what a field makes due
abbrev pub due_after : Due → Field → List Due
due_after CountDue (Count count) = replicate count ItemDue
due_after ColumnCountDue (ColumnCount count) = columns_due None count
due_after (NameDue before more) (Name name) = CellDue ∷ columns_due (Some name) more
due_after d f = []

abbrev pub IsText : Value → Type 0
IsText value.Null = Unit {0}
IsText (value.Bool b) = Unit {0}
IsText (value.Int n) = Unit {0}
IsText (value.BigInt n) = Unit {0}
IsText (value.Text text) = IsUtf8 text
IsText (value.Blob bytes) = Unit {0}

abbrev pub is_above_last : Option (List ℕ) → List ℕ → Bool
is_above_last None name = true
is_above_last (Some before) name = is_lt (name_cmp before name)

-- a field is of the form that is due
abbrev pub HasForm : Due → Field → Type 0
HasForm FormatDue Format = Unit {0}
HasForm TableDue (Table table) = (is_name table.ns ≡ true) × (is_name table.table ≡ true)
HasForm CountDue (Count count) = count < 256
HasForm ItemDue (Item v) = ValueIsEncodable v × IsText v
HasForm ColumnCountDue (ColumnCount count) = count < 2 ^ 16
HasForm (NameDue before more) (Name name) = (is_name name ≡ true) × (is_above_last before name ≡ true)
HasForm CellDue (Item v) = (is_null v ≡ false) × ValueIsEncodable v × IsText v
HasForm d f = ⊥

-- fields that are of their forms one after another, from what is due before them to what is due after them
abbrev pub Leads : List Due → List Field → List Due → Type 0
Leads due [] after = due ≡ after
Leads [] (f ∷ fs) after = ⊥
Leads (d ∷ due) (f ∷ fs) after = HasForm d f × Leads (due_after d f ++ due) fs after

-- The bytes go on after the last field, or begin with no field of the form that is due.
abbrev pub IsWrong : List Due → List ℕ → Type 0
IsWrong [] rest = rest ≢ []
IsWrong (d ∷ due) rest = (f : Field) (after : List ℕ) → HasForm d f → rest ≢ field_bytes f ++ after

-- the first wrong place
pub record IsFirstWrong (due : List Due) (bytes : List ℕ) (place : ℕ) : Type 0 where
  pub fields : List Field
  pub after : List Due
  pub rest : List ℕ
  pub leads : Leads due fields after
  pub split : bytes ≡ flat_map field_bytes fields ++ rest
  pub here : length (flat_map field_bytes fields) ≡ place
  pub wrong : IsWrong after rest

abbrev pub IsRefusedAt : List Due → List ℕ → ReadRefused → Type 0
IsRefusedAt due bytes refused.NoMemory = Unit {0}
IsRefusedAt due bytes (refused.BadBytes place) = IsFirstWrong due bytes place
