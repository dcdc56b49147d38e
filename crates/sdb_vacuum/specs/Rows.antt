-- What the rows of a table have come to, as the code holds it.
use Rattle.std.specs.Prelude.{◌≡◌, List}
use Rattle.sdb_types.specs.declared.record.Record.{Record}
use Rattle.sdb_txn.specs.Read.{Kind, Firm, Open, Bad, kind_of}
use Rattle.sdb_txn.specs.declared.row_kinds.Sort.TheVariants as sort
use Rattle.sdb_vacuum.specs.declared.rows.Found.{Found}
use Rattle.sdb_vacuum.specs.declared.rows.Found.TheVariants as found
use Rattle.sdb_vacuum.specs.Vacuum.{First, Nothing, Tombstone, Unresolved, Malformed}
use Rattle.sdb_txn.specs.Rows.{sort_of}

abbrev pub open_first : Kind → Record → List Record → First
open_first Firm r left = Nothing
open_first (Open meta) r left = Unresolved r meta left
open_first Bad r left = Nothing

abbrev pub found_as : Found → List Record → First
found_as found.Nothing left = Nothing
found_as (found.Tombstone r) left = Tombstone r left
found_as (found.Unresolved r) left = open_first (kind_of r) r left
found_as (found.Malformed key) left = Malformed key

-- the record that is to be resolved is unresolved
abbrev pub IsFound : Found → Type 0
IsFound (found.Unresolved r) = sort_of (kind_of r) ≡ sort.Open
IsFound f = Unit {0}
