-- What records a text of CSV has.
use Rattle.std.specs.Prelude.{ℕ, List}
use Rattle.csv.specs.Reading.{default_config, records, strip_bom}

-- The records of a text, each with the bytes of its fields. They are what the library reads with its defaults: commas part fields,
-- quotes may enclose one, CR, LF and CRLF end a record, a blank line is none, and a byte order mark at the start is dropped.
abbrev pub csv_records : List ℕ → List (List (List ℕ))
csv_records text = records default_config (strip_bom text)
