-- Tables with a transaction's own writes laid over them, and tables of what was read.
use Rattle.std.specs.Prelude.{List, [], ◌∷◌, Option}
use Rattle.std.specs.FinMap.{empty}
use Rattle.std.specs.Option.{option_and_then}
use Rattle.sdb_snapshot.specs.Types.{Pair, Record, Write}
use Rattle.sdb_record.specs.Rolls.{row_of_image, row_of_change}
use Rattle.sdb_model.specs.Exec.{Tables}
use Rattle.sdb_model.specs.Access.{with_row}
use Rattle.sdb_snapshot.specs.Reads.{ReadRecord}

-- The tables with a transaction's writes laid over them. Each key has one write, so the order doesn't matter.
abbrev pub with_own : Tables → List Write → Tables
with_own d [] = d
with_own d (w ∷ ws) = with_row (with_own d ws) w.key (row_of_change w.change)

-- the row of a record that was found: a tombstone shows none
abbrev pub row_found : Option Record → Option (List Pair)
row_found found = option_and_then row_of_image found

-- The tables that hold the rows of the records read, tombstones left out.
abbrev pub tables_of_reads : List ReadRecord → Tables
tables_of_reads [] = empty
tables_of_reads (e ∷ es) = with_row (tables_of_reads es) e.0 (row_found e.1)
