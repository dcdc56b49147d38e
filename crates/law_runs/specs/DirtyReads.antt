-- What the calls of a statement showed of the transactions whose records they found.
use Rattle.std.specs.Prelude.{◌≡◌, ℕ, ◌<◌, true, false, List, Option, Some, Contains}
use Rattle.law_runs.specs.Types.{Decided, Event, Key, Pair, Record, Table, TxId}
use Rattle.sdb_types.specs.declared.record.State.TheVariants as state
use Rattle.sdb_record.specs.Meta.{id_in, is_in}
use Rattle.sdb_model.specs.ReadSet.{has_read}
use Rattle.sdb_model.specs.Calls.{StoreCall, calls_of, decision_observed, end_of}
use Rattle.sdb_model.specs.Explained.{IsTableKey, Observes}
use Rattle.sdb_model.specs.DirtyReads.{WasFound}
use Rattle.sdb_model.specs.Sql.{reads_vacuum}
use Rattle.sdb_model.specs.Transactions.{Executed, statements_by}

-- A call of a statement, before the statement's last event, showed the decision on the transaction that wrote a record.
pub record IsDecidedIn (events : List Event) (client : ℕ) (s : Executed) (r : Record) : Type 0 where
  pub id : TxId
  pub decided : Decided
  pub look : StoreCall
  pub writer : id_in r.columns ≡ Some id
  pub among : Contains (calls_of events client s) look
  pub observed : decision_observed id look ≡ Some decided
  pub early : look.at < end_of events s

-- Of each record that a statement's calls found at a key, and that isn't committed, they showed the decision.
abbrev pub FoundDecided : List Event → ℕ → Executed → Key → Type 0
FoundDecided events client s key = (m : StoreCall) (r : Record) → Contains (calls_of events client s) m → Observes m.request m.reply key (Some r) → is_in state.Committed r.columns ≡ false → IsDecidedIn events client s r

-- A statement of a client has finished its read, and is no VACUUM.
pub record IsReader (events : List Event) (client : ℕ) (s : Executed) : Type 0 where
  pub among : Contains (statements_by client events) s
  pub finished : has_read events client s ≡ true
  pub no_vacuum : reads_vacuum s.text ≡ false

-- Calls of such a statement showed a row at a key of a table.
abbrev pub ReadBy : List Table → List Event → ℕ → Executed → Key → Option (List Pair) → Type 0
ReadBy catalog events client s key row = IsReader events client s × IsTableKey catalog key × WasFound (calls_of events client s) key row
