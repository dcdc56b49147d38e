-- Records of replies whose columns are as records hold them, and rows that an open transaction sees: each fits the catalog, or a statement
-- of the transaction read it.
use Rattle.std.specs.Prelude.{◌≡◌, ◌⊎◌, ℕ, Bool, true, List, filter, Option, Some, is_some, Contains}
use Rattle.std.specs.List.{AllByRecursion}
use Rattle.std.specs.Option.{option_map_or}
use Rattle.law_answers.specs.Types.{Doing, Event, Image, Key, Pair, Record, Table}
use Rattle.sdb_model.specs.Calls.{StoreCall, calls_of, is_stored_reply, records_read}
use Rattle.sdb_model.specs.Causes.{is_misfit}
use Rattle.sdb_model.specs.Exec.{Tables, all_rows, find_table, tables_of_rows}
use Rattle.sdb_model.specs.ReadSet.{has_read, reads_rows}
use Rattle.sdb_model.specs.Transactions.{Executed}
use Rattle.sdb_snapshot.specs.Seen.{Seen, row_seen}
use Rattle.law_clients.specs.Fitting.{row_is_well_typed}
use Rattle.sdb_txn.specs.declared.txn.Doing.TheVariants as doing
use Rattle.sdb_txn.specs.Txn.{TxnAt}

-- this holds of each of these calls
abbrev pub AreStoredReplies : List StoreCall → Type 0
AreStoredReplies calls = AllByRecursion (λ m. is_stored_reply m.reply ≡ true) calls

-- One of these statements, whose read has finished, read a record at the key that means a row which doesn't fit its table.
pub record WasMisfit (catalog : List Table) (events : List Event) (c : ℕ) (body : List Executed) (key : Key) : Type 0 where
  pub reader : Executed
  pub call : StoreCall
  pub found : Record
  pub among : Contains body reader
  pub finished : has_read events c reader ≡ true
  pub reads : Contains (calls_of events c reader) call × (reads_rows call ≡ true) × Contains (records_read call.reply) found × (found.key ≡ key)
  pub misfit : is_misfit catalog (calls_of events c reader) found ≡ true

-- Each row that is seen is of a table of the catalog, and fits it, or is one that such a statement read.
abbrev pub SeesFitOrRead : List Table → List Event → ℕ → List Executed → Seen → Type 0
SeesFitOrRead catalog events c body s = (q : Key) (cs : List Pair) → row_seen s.read_set s.writes q ≡ Some cs → (row_is_well_typed catalog q cs ≡ true) ⊎ ((is_some (find_table catalog q.table) ≡ true) × WasMisfit catalog events c body q)

-- This holds of a transaction whose COMMIT is not accepted yet.
abbrev pub SeesFitOrReadIn : List Table → List Event → ℕ → List Executed → Seen → Doing → Type 0
SeesFitOrReadIn catalog events c body s (doing.Commit k) = Unit {0}
SeesFitOrReadIn catalog events c body s d = SeesFitOrRead catalog events c body s

abbrev pub IsFitOrReadTxn : List Table → List Event → ℕ → List Executed → TxnAt → Type 0
IsFitOrReadTxn catalog events c body t = SeesFitOrReadIn catalog events c body t.seen t.doing

---- the rows that fit

-- there is no row, or it is of a table of the catalog and fits it
abbrev pub fits_if_any : List Table → Key → Option (List Pair) → Bool
fits_if_any catalog key row = option_map_or (row_is_well_typed catalog key) row true

abbrev pub fits_catalog : List Table → Image → Bool
fits_catalog catalog r = row_is_well_typed catalog r.key r.columns

-- tables without the rows that don't fit
abbrev pub fitting_part : List Table → Tables → Tables
fitting_part catalog d = tables_of_rows (filter (fits_catalog catalog) (all_rows d))
