-- Reading a report line by line. What is wrong is given by the bytes left where the bad line begins.
use Rattle.std.specs.Prelude.{ℕ, zero, suc, ◌+◌, Bool, true, if◌then◌else◌, List, [], ◌∷◌, ◌++◌, length, take, drop, codes, Option, Some, None, Result, Ok, Err}
use Rattle.std.specs.List.{prefix_len}
use Rattle.std.specs.Ordering.{is_lt}
use Rattle.std.specs.Str.{bytes_eq}
use Rattle.sdb_types.specs.Order.{table_cmp}
use Rattle.sdb_report.specs.Types.{Event, Outcome, Point, TableDump, TableName, Value}
use Rattle.sdb_model.specs.Plain.{is_no_lf}
use Rattle.sdb_report.specs.Lines.{whole, numbered_event_of, is_empty}
use Rattle.sdb_report.specs.FieldReading.{case_of, after, natural_at, row_at, table_at, id_at}
use Rattle.sdb_codec.specs.Reading.{last_of}
use Rattle.sdb_types.specs.Options.{◌>>=◌}

-- what is read and the bytes after it, or how many bytes are left where the bad line begins
abbrev pub Positioned : Type 0 → Type 0
Positioned X = Result (X × List ℕ) ℕ

abbrev pub then_read : {X Y : Type 0} → Positioned X → (X × List ℕ → Positioned Y) → Positioned Y
then_read (Ok x) f = f x
then_read (Err left) f = Err left

-- one after the other, made into one
abbrev pub both : {X Y Z : Type 0} → (List ℕ → Positioned X) → (X → List ℕ → Positioned Y) → (X → Y → Z) → List ℕ → Positioned Z
both first second make bytes = then_read (first bytes) (λ x. then_read (second x.0 x.1) (λ y. Ok (make x.0 y.0, y.1)))

---- lines

-- the line at the start, which ends with LF, and the bytes after it
abbrev pub behind_lf : List ℕ → List ℕ → Option (List ℕ × List ℕ)
behind_lf line [] = None
behind_lf line (b ∷ rest) = Some (line, rest)

abbrev pub cut_line : List ℕ → Option (List ℕ × List ℕ)
cut_line bytes = behind_lf (take (prefix_len is_no_lf bytes) bytes) (drop (prefix_len is_no_lf bytes) bytes)

-- the line at the start, if it has a form
abbrev pub line_at : {X : Type 0} → (List ℕ → Option X) → List ℕ → Positioned X
line_at form_of bytes = case_of (cut_line bytes) (λ cut. case_of (form_of cut.0) (λ x. Ok (x, cut.1)) (Err (length bytes))) (Err (length bytes))

-- so many items one after another, each read after those before it
unfoldable pub lines_at : {X : Type 0} → (List X → List ℕ → Positioned X) → List X → ℕ → List ℕ → Positioned (List X)
lines_at item_at before zero bytes = Ok ([], bytes)
lines_at item_at before (suc n) bytes = both (item_at before) (λ x. lines_at item_at (before ++ x ∷ []) n) (λ x xs. x ∷ xs) bytes

---- the forms of lines

abbrev pub fixed_of : List ℕ → List ℕ → Option (List ℕ)
fixed_of word line = if bytes_eq line word then Some word else None

abbrev pub heading_of : List ℕ → List ℕ → Option ℕ
heading_of word line = after word line >>= λ rest. whole (natural_at rest)

unfoldable pub point_of : List ℕ → Option Point
point_of line = id_at line >>= λ id. after (codes " ") id.1 >>= λ rest. whole (natural_at rest) >>= λ n. Some (record { id = id.0; event = n })

abbrev pub row_of : List ℕ → Option (List Value)
row_of line = whole (row_at line)

-- the table comes after the one before
abbrev pub is_after : Option TableDump → TableName → Bool
is_after None name = true
is_after (Some dump) name = is_lt (table_cmp dump.name name)

abbrev pub next_table_of : Option TableDump → TableName → Option TableName
next_table_of before name = if is_after before name then Some name else None

unfoldable pub table_of : Option TableDump → List ℕ → Option (TableName × ℕ)
table_of before line = after (codes "table ") line >>= λ rest. table_at rest >>= λ name. next_table_of before name.0 >>= λ table. after (codes " ") name.1 >>= λ rest.
    whole (natural_at rest) >>= λ n. Some (table, n)

---- items

abbrev pub event_at : List Event → List ℕ → Positioned Event
event_at before bytes = line_at (numbered_event_of (length before + 1)) bytes

abbrev pub point_at : List Point → List ℕ → Positioned Point
point_at before bytes = line_at point_of bytes

abbrev pub row_line_at : List (List Value) → List ℕ → Positioned (List Value)
row_line_at before bytes = line_at row_of bytes

-- a table's line, and a line for each row
abbrev pub dump_at : List TableDump → List ℕ → Positioned TableDump
dump_at before bytes = both (line_at (table_of (last_of before))) (λ t. lines_at row_line_at [] t.1) (λ t rows. record { name = t.0; rows = rows }) bytes

---- parts

-- a heading with a count, and so many items
abbrev pub part_at : {X : Type 0} → List ℕ → (List X → List ℕ → Positioned X) → List ℕ → Positioned (List X)
part_at word item_at bytes = both (line_at (heading_of word)) (λ n. lines_at item_at [] n) (λ n xs. xs) bytes

abbrev pub title_at : List ℕ → Positioned (List ℕ)
title_at bytes = line_at (fixed_of (codes "scalardb report 1")) bytes

abbrev pub end_at : List ℕ → Positioned (List ℕ)
end_at bytes = line_at (fixed_of (codes "end")) bytes

abbrev pub events_at : List ℕ → Positioned (List Event)
events_at bytes = part_at (codes "events ") event_at bytes

abbrev pub order_at : List ℕ → Positioned (List Point)
order_at bytes = part_at (codes "order ") point_at bytes

abbrev pub tables_at : List ℕ → Positioned (List TableDump)
tables_at bytes = part_at (codes "tables ") dump_at bytes

abbrev pub Places : Type 0
Places = List Point × List TableDump

-- the order and the tables
abbrev pub places_at : List ℕ → Positioned Places
places_at bytes = both order_at (λ ps. tables_at) (λ ps ts. (ps, ts)) bytes

abbrev pub outcome_of : List Event → Places → Outcome
outcome_of es places = record { events = es; order = places.0; tables = places.1 }

abbrev pub parts_at : List ℕ → Positioned Outcome
parts_at bytes = both events_at (λ es. places_at) outcome_of bytes

-- the parts and the last line
abbrev pub body_at : List ℕ → Positioned Outcome
body_at bytes = both parts_at (λ o. end_at) (λ o word. o) bytes

abbrev pub report_at : List ℕ → Positioned Outcome
report_at bytes = both title_at (λ word. body_at) (λ word o. o) bytes

abbrev pub all_of : Positioned Outcome → Result Outcome ℕ
all_of (Ok x) = if is_empty x.1 then Ok x.0 else Err (length x.1)
all_of (Err left) = Err left

-- a report, and nothing after it
abbrev pub report_in : List ℕ → Result Outcome ℕ
report_in bytes = all_of (report_at bytes)
