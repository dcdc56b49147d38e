-- Committed images of the tables of a catalog, of which some move.
use Rattle.std.specs.Prelude.{◌≡◌, ℕ, true, List, map, Option, if◌then◌else◌}
use Rattle.std.specs.Option.{option_and_then, option_map_or}
use Rattle.std.specs.Result.{result_ok}
use Rattle.sdb_contents.specs.Types.{Entry, Key, Record}
use Rattle.sdb_types.specs.Contents.{record_at}
use Rattle.sdb_record.specs.Coordinator.{coordinator_key_of, decision_in}
use Rattle.sdb_record.specs.Meta.{id_in}
use Rattle.sdb_record.specs.Rolls.{image_of}
use Rattle.sdb_stores.specs.Views.{Attached, index_at}
use Rattle.sdb_catalog.specs.Opened.{store_in}
use Rattle.sdb_contents.specs.Joined.{is_among}
use Rattle.sdb_contents.specs.Moving.{moving_tables}
use Rattle.sdb_contents.specs.Retired.{Sides}
use Rattle.sdb_contents.specs.Writes.{contents_at}

-- the committed image at a key, where this is what is at each key
abbrev pub image_by : (Key → Option Record) → Key → Option Record
image_by at key = option_and_then (λ r. image_of r (option_and_then (λ id. option_and_then (λ row. result_ok (decision_in row)) (at (coordinator_key_of id))) (id_in r.columns))) (at key)

-- the index of the store that keeps a namespace: the one that its entries name, and otherwise the first
abbrev pub home_by : Attached → List Entry → List ℕ → ℕ
home_by stores es ns = option_map_or (index_at stores) (store_in es ns) 0

-- what is at a key, in the store that keeps its namespace
abbrev pub record_in_store : Attached → List Entry → Key → Option Record
record_in_store stores es key = record_at (contents_at stores.views (home_by stores es key.table.ns)) key

-- the same, where tables of moving namespaces are read in `from`
abbrev pub record_before : Sides → Attached → List Entry → Key → Option Record
record_before s stores es key = if is_among (moving_tables s.from es) key then record_at (contents_at stores.views (index_at stores s.from)) key else record_in_store stores es key

-- The key is of a table of the catalog.
abbrev pub IsOfTable : List Entry → Key → Type 0
IsOfTable es key = is_among (map (λ e. e.table.name) es) key ≡ true
