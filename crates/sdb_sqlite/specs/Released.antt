-- What the connection of a store holds: one row for each record.
use Rattle.std.specs.Prelude.{◌≡◌, ℕ, ℤ, List, [], ◌∷◌, Some, IfSome}
use Rattle.std.specs.List.{AllByRecursion}
use Rattle.sqlite.specs.Order.{Row}
use Rattle.sqlite.specs.Store.{Ghosts}
use Rattle.sqlite.specs.Held.{Held as Connected, state}
use Rattle.sdb_sqlite.specs.Types.{Key, Record}
use Rattle.sdb_types.specs.Order.{table_text}
use Rattle.sdb_types.specs.Contents.{Contents, record_at}
use Rattle.sdb_codec.specs.Spelling.{key_bytes}
use Rattle.sdb_sqlite.specs.Spans.{partition_key}
use Rattle.sdb_sqlite.specs.Rows.{stored, record_of_body, rows_at}
use Rattle.sdb_sqlite.specs.Database.{IsFormed, contents_of_state}

-- The row has the bytes of the record's key, the text of its table and the bytes of its partition, and its body is read as the record.
pub record IsRowOf (r : Record) (row : Row) : Type 0 where
  pub id : ℤ
  pub body : List ℕ
  pub is : row ≡ stored id (key_bytes r.key) (table_text r.key.table) (key_bytes (partition_key r.key.table r.key.partition)) body
  pub means : record_of_body r.key body ≡ r

-- The row is that of a record that is held.
abbrev pub IsContainedIn : Contents → Row → Type 0
IsContainedIn contents row = (r : Record) × (record_at contents r.key ≡ Some r) × IsRowOf r row

-- For each record that is held there is one row, and there is no other row.
pub record AreRowsOf (contents : Contents) (rows : List Row) : Type 0 where
  pub each : (key : Key) → IfSome (record_at contents key) (λ r. (row : Row) × (rows_at key rows ≡ row ∷ []) × IsRowOf r row)
  pub other : AllByRecursion (IsContainedIn contents) rows

-- The database has the table with its index, whose rows are those of the records held. A store made over it holds the same.
pub record IsReleased {S : Type 0} (g : Ghosts S) (contents : Contents) (connection : Connected S) : Type 0 where
  pub formed : IsFormed (state g connection)
  pub rows : AreRowsOf contents ((state g connection).now.trees 0)
  pub same : contents_of_state (state g connection) ≡ contents
