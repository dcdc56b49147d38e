-- What stores hold in the end, as a closing dump shows it.
use Rattle.std.specs.Prelude.{◌≡◌, ℕ, ◌<◌, ◌^◌, ◌↔◌, Contains, List, map, slice_get, true, Option, Some, None}
use Rattle.sdb_contents.specs.Types.{Decided, Key, Place, Table, TableDump, TxId}
use Rattle.sdb_record.specs.Coordinator.{coordinator_table}
use Rattle.sdb_stores.specs.Views.{Attached}
use Rattle.sdb_model.specs.Events.{StoreContents}
use Rattle.sdb_model.specs.Exec.{Tables}
use Rattle.sdb_model.specs.Images.{decision_at}
use Rattle.sdb_model.specs.Serial.{AreImages, dumps_of}
use Rattle.sdb_model.specs.Transactions.{Recorded}
use Rattle.sdb_contents.specs.Board.{AreUsable, AreUsableFor, contents_of_views}
use Rattle.sdb_contents.specs.Opening.{records_in, table_names}
use Rattle.sdb_contents.specs.Decided.{is_decided}
use Rattle.sdb_contents.specs.Dumped.{dump_by}
use Rattle.sdb_contents.specs.Odd.{IsOddAt, first_ill_formed, first_in, first_odd}
use Rattle.sdb_contents.specs.Refused.{first_unlike}
use Rattle.sdb_model.specs.Tables.{is_table_of_run}

-- the rows of a table under decisions on transactions
abbrev pub dump_in : (TxId → Option Decided) → Attached → Table → TableDump
dump_in decide stores t = dump_by decide t (records_in stores t.name)

-- those of a catalog's tables
abbrev pub dumps_in : (TxId → Option Decided) → Attached → List Table → List TableDump
dumps_in decide stores catalog = map (dump_in decide stores) catalog

-- The dumps are those of a catalog's tables under decisions on transactions, as far as contents are known.
abbrev pub AreDumpsUnder : (TxId → Option Decided) → List Table → Attached → List TableDump → Type 0
AreDumpsUnder decide catalog stores dumps =
    (i : ℕ) (t : Table) (dump : TableDump) → slice_get catalog i ≡ Some t → slice_get dumps i ≡ Some dump → AreUsableFor t.name stores → dump ≡ dump_in decide stores t

-- The dumps are those of the committed images of what the stores hold.
abbrev pub AreDumps : List Table → Attached → List TableDump → Type 0
AreDumps catalog stores dumps = (d : Tables) → AreImages catalog stores.places (contents_of_views stores.views) d → dumps ≡ dumps_of catalog d

-- The dump is that of a table's committed images, where its store and that of the coordinator's table have known contents.
abbrev pub IsDumpWhereKnown : Attached → Table → TableDump → Type 0
IsDumpWhereKnown stores t dump = AreUsableFor t.name stores → AreUsableFor coordinator_table stores → dump ≡ dump_in (decision_at stores.places (contents_of_views stores.views)) stores t

-- There is one dump of each table, in their order, under its name.
pub record AreDumpsWhereKnown (catalog : List Table) (stores : Attached) (dumps : List TableDump) : Type 0 where
  pub named : map (λ d. d.name) dumps ≡ table_names catalog
  pub each : (i : ℕ) (t : Table) (dump : TableDump) → slice_get catalog i ≡ Some t → slice_get dumps i ≡ Some dump → IsDumpWhereKnown stores t dump

-- The transactions are those that the stores record.
abbrev pub AreRecorded : List TxId → Attached → Type 0
AreRecorded ids stores = (id : TxId) → id.0 < 2 ^ 128 → Contains ids id ↔ Recorded stores.places (contents_of_views stores.views) id

---- records that stop a dump

-- Decisions are those of the coordinator's table.
pub record AreDecisions (places : List Place) (store_contents : List StoreContents) (decide : TxId → Option Decided) : Type 0 where
  pub at : (id : TxId) → id.0 < 2 ^ 128 → decide id ≡ decision_at places store_contents id

-- the key of the first record of a table that isn't well formed under decisions on transactions
abbrev pub first_ill_formed_in : (TxId → Option Decided) → Attached → Table → Option Key
first_ill_formed_in decide stores t = first_ill_formed decide stores.places (contents_of_views stores.views) t

-- The key is of a table, and that of its first record that isn't well formed, where the contents of its store are known.
pub record IsIllFormed (decide : TxId → Option Decided) (t : Table) (stores : Attached) (key : Key) : Type 0 where
  pub named : key.table ≡ t.name
  pub first : AreUsableFor t.name stores → first_ill_formed_in decide stores t ≡ Some key

-- The key is such a one of a table of a catalog, and that of the first such record of all its tables, where the stores are fit.
pub record IsIllFormedAmong (decide : TxId → Option Decided) (catalog : List Table) (stores : Attached) (key : Key) : Type 0 where
  pub at : ℕ
  pub table : Table
  pub there : slice_get catalog at ≡ Some table
  pub ill_formed : IsIllFormed decide table stores key
  pub first : AreUsable catalog stores → first_in (first_ill_formed_in decide stores) catalog ≡ Some key

-- No record of a catalog's tables is ill formed under decisions on transactions, as far as contents are known.
abbrev pub AreWellFormedUnder : (TxId → Option Decided) → List Table → Attached → Type 0
AreWellFormedUnder decide catalog stores = (i : ℕ) (t : Table) → slice_get catalog i ≡ Some t → AreUsableFor t.name stores → first_ill_formed_in decide stores t ≡ None

-- Where the store of the coordinator's table has known contents, each of its rows is well formed, and also each record of each table whose
-- store has known contents too.
pub record AreWellFormedWhereKnown (catalog : List Table) (stores : Attached) : Type 0 where
  pub rows : AreUsableFor coordinator_table stores → first_unlike is_decided (records_in stores coordinator_table) ≡ None
  pub records : AreUsableFor coordinator_table stores → AreWellFormedUnder (decision_at stores.places (contents_of_views stores.views)) catalog stores

-- The key is that of the first record that breaks the rules of its table, where the stores are fit.
abbrev pub IsFirstOdd : List Table → Attached → Key → Type 0
IsFirstOdd catalog stores key = AreUsable catalog stores → first_odd catalog stores.places (contents_of_views stores.views) ≡ Some key

-- The key is of a table of the run, and the record there breaks the rules of its table, where the contents of its store are known. Its image
-- is judged under decisions on transactions that are those of the coordinator's table, where the contents of that one's store are known.
pub record IsOddIn (catalog : List Table) (stores : Attached) (key : Key) : Type 0 where
  pub correct : is_table_of_run catalog key.table ≡ true
  pub decide : TxId → Option Decided
  pub decisions : AreUsableFor coordinator_table stores → AreDecisions stores.places (contents_of_views stores.views) decide
  pub odd : AreUsableFor key.table stores → IsOddAt catalog stores.places (contents_of_views stores.views) decide key
