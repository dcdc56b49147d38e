-- How a table is written: with the library's defaults, but records of any lengths.
use Rattle.std.specs.Prelude.{◌≡◌, ℕ, List, Option, Some, Vec, true, false}
use Rattle.csv.specs.Writing.{default_writer, fields_written, has_written, text_written, with_flexible, writer_setup}
use Rattle.csv.specs.declared.writer.Writer.{Writer}
use Rattle.csv.specs.declared.writer.WriterBuilder.{WriterBuilder}

abbrev pub lenient : WriterBuilder
lenient = with_flexible default_writer true

-- what was written
abbrev pub written : {A : Type 0} → Writer (Vec ℕ A) → Option (List ℕ)
written w = text_written (λ v. Some v.items) w

-- no record was begun and not ended
abbrev pub AreWhole : {W : Type 0} → Writer W → Type 0
AreWhole w = (writer_setup w ≡ lenient) × (fields_written w ≡ 0) × (has_written w ≡ false)
