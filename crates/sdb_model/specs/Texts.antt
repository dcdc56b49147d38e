-- The texts of values, keys, spans, columns, records, rows and answers.
use Rattle.std.specs.Prelude.{ℕ, ℤ, Bool, true, false, ◌==◌, if◌then◌else◌, List, [], ◌∷◌, ◌++◌, length, codes, Option, None, Some, decimal, ◌+◌}
use Rattle.std.specs.List.{flat_map, join_by}
use Rattle.std.specs.Fmt.{signed_decimal}
use Rattle.hex.specs.Hex.{encode_upper}
use Rattle.sdb_types.specs.Order.{table_text}
use Rattle.sdb_types.specs.TxId.{id_text}
use Rattle.sdb_model.specs.Types.{Key, Pair, Record, Span, TxId, Value}
use Rattle.sdb_types.specs.declared.value.Value.TheVariants as value
use Rattle.sdb_model.specs.declared.answer.Answer.{Answer}
use Rattle.sdb_model.specs.declared.answer.Answer.TheVariants as answer
use Rattle.sdb_model.specs.declared.answer.Refusal.{Refusal}

---- values

-- a byte of a text inside quotes: a quote is written twice
abbrev pub doubled : ℕ → List ℕ
doubled b = if b == 39 then codes "''" else b ∷ []

-- a text between single quotes
abbrev pub quoted : List ℕ → List ℕ
quoted text = codes "'" ++ flat_map doubled text ++ codes "'"

abbrev pub bool_text_of : Bool → List ℕ
bool_text_of true = codes "TRUE"
bool_text_of false = codes "FALSE"

-- Numbers are decimal, a BigInt with `L` after it; a blob is two upper-case hexadecimal digits a byte.
abbrev pub value_text_of : Value → List ℕ
value_text_of value.Null = codes "NULL"
value_text_of (value.Bool b) = bool_text_of b
value_text_of (value.Int n) = signed_decimal n
value_text_of (value.BigInt n) = signed_decimal n ++ codes "L"
value_text_of (value.Text text) = quoted text
value_text_of (value.Blob bytes) = codes "X'" ++ encode_upper bytes ++ codes "'"

-- values with commas between them
abbrev pub values_text_of : List Value → List ℕ
values_text_of vs = join_by value_text_of (codes ",") vs

-- the values of a row: `(1,'a')`
abbrev pub row_text_of : List Value → List ℕ
row_text_of vs = codes "(" ++ values_text_of vs ++ codes ")"

---- keys and records

-- the clustering values, after a semicolon where there are any
abbrev pub clustering_text_of : List Value → List ℕ
clustering_text_of [] = []
clustering_text_of (v ∷ vs) = codes ";" ++ values_text_of (v ∷ vs)

-- `ns.table(1;2,'a')`
abbrev pub key_text_of : Key → List ℕ
key_text_of k = table_text k.table ++ codes "(" ++ values_text_of k.partition ++ clustering_text_of k.clustering ++ codes ")"

-- the partition of a span, where it has one
abbrev pub partition_text_of : Option (List Value) → List ℕ
partition_text_of None = []
partition_text_of (Some vs) = codes "(" ++ values_text_of vs ++ codes ")"

-- `ns.table` or `ns.table(1)`
abbrev pub span_text_of : Span → List ℕ
span_text_of s = table_text s.table ++ partition_text_of s.partition

-- `name=value`
abbrev pub pair_text_of : Pair → List ℕ
pair_text_of p = p.name ++ codes "=" ++ value_text_of p.value

-- `{a=1,b='x'}`
abbrev pub columns_text_of : List Pair → List ℕ
columns_text_of ps = codes "{" ++ join_by pair_text_of (codes ",") ps ++ codes "}"

-- `ns.table(1){a=1}`
abbrev pub record_text_of : Record → List ℕ
record_text_of r = key_text_of r.key ++ columns_text_of r.columns

---- answers

-- what a conflict found at its key: the columns of the record there, or none
abbrev pub found_columns_text_of : Option Record → List ℕ
found_columns_text_of None = codes "none"
found_columns_text_of (Some r) = columns_text_of r.columns

-- how many rows, then each row after a space
abbrev pub rows_text_of : List (List Value) → List ℕ
rows_text_of rows = decimal (length rows) ++ flat_map (λ row. codes " " ++ row_text_of row) rows

-- a key whose record is undecided, the transaction that prepared it, and when
abbrev pub busy_text_of : Key → TxId → ℤ → List ℕ
busy_text_of key id at = codes "busy " ++ key_text_of key ++ codes " " ++ id_text id.0 ++ codes " " ++ signed_decimal at

abbrev pub conflict_text_of : Key → Option Record → List ℕ
conflict_text_of key found = codes "conflict " ++ key_text_of key ++ codes " " ++ found_columns_text_of found

abbrev pub refusal_text_of : Refusal → List ℕ
refusal_text_of refusal = codes "refused " ++ decimal refusal.kind ++ codes " " ++ decimal refusal.place

abbrev pub answer_text_of : Answer → List ℕ
answer_text_of (answer.Rows rows) = codes "rows " ++ rows_text_of rows
answer_text_of (answer.Count n) = codes "count " ++ decimal n
answer_text_of answer.Done = codes "done"
answer_text_of answer.Committed = codes "committed"
answer_text_of (answer.Duplicate key) = codes "duplicate " ++ key_text_of key
answer_text_of (answer.Busy key id at) = busy_text_of key id at
answer_text_of (answer.Conflict key found) = conflict_text_of key found
answer_text_of (answer.Expired id) = codes "expired " ++ id_text id.0
answer_text_of answer.Faulted = codes "faulted"
answer_text_of (answer.Unknown id) = codes "unknown " ++ id_text id.0
answer_text_of (answer.BadRecord key) = codes "badrecord " ++ key_text_of key
answer_text_of (answer.Refused refusal) = refusal_text_of refusal
answer_text_of answer.Vacuuming = codes "vacuuming"
answer_text_of answer.OpenTransactions = codes "opentransactions"
answer_text_of answer.NoMemory = codes "nomemory"

-- a line, ended
abbrev pub with_lf : List ℕ → List ℕ
with_lf line = line ++ codes "\n"
