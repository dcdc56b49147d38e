-- What an open transaction of a client that is alone has read is current.
use Rattle.std.specs.Prelude.{◌≡◌, true, Bool, ◌||◌, List}
use Rattle.std.specs.List.{AllByRecursion, list_any}
use Rattle.std.specs.FinMap.{get}
use Rattle.std.specs.Prelude.{None, if◌then◌else◌}
use Rattle.law_clients.specs.Types.{Key, Table}
use Rattle.sdb_types.specs.Contents.{in_span}
use Rattle.sdb_model.specs.Exec.{Tables}
use Rattle.sdb_snapshot.specs.Reads.{base_at, is_key_read}
use Rattle.sdb_snapshot.specs.Seen.{Seen}
use Rattle.law_protocol.specs.Lawful.{Labelled}
use Rattle.law_clients.specs.Reads.{SeenOk}
use Rattle.law_clients.specs.Commits.{IsScanCurrent}
use Rattle.law_clients.specs.Fitting.{tables_are_well_typed}
use Rattle.law_clients.specs.Database.{Database, is_listed, row_in}

-- a key was read by a get, or lies in a span that was scanned
abbrev pub was_covered : Seen → Key → Bool
was_covered s k = is_key_read s.read_set k || list_any (λ x. in_span x.span k) s.scans

-- Each key that was read has the record that was read there, or none where none was; and each span that was scanned has what was found.
pub record SeenAlone (catalog : List Table) (past : List Labelled) (g : Database) (s : Seen) : Type 0 where
  pub ok : SeenOk past s
  pub scans : AllByRecursion (IsScanCurrent catalog g) s.scans
  pub matches : (k : Key) → was_covered s k ≡ true → (is_listed catalog k ≡ true) × (g k ≡ base_at s.read_set k)

-- plain tables are the rows of the database
abbrev pub AreImagesOf : List Table → Database → Tables → Type 0
AreImagesOf catalog g d = (k : Key) → get d k ≡ (if is_listed catalog k then row_in g k else None)

-- plain tables that fit are the rows of the database
pub record HasTables (catalog : List Table) (g : Database) : Type 0 where
  pub tables : Tables
  pub are_images : AreImagesOf catalog g tables
  pub fit : tables_are_well_typed catalog tables ≡ true
