-- The contents of the stores by the history: which record, which row.
use Rattle.std.specs.Prelude.{◌≡◌, ℕ, ◌^◌, ◌<◌, true, List, Option, None, unwrap_or}
use Rattle.std.specs.Option.{option_map}
use Rattle.law_protocol.specs.Types.{Key, Place, Record, Write}
use Rattle.sdb_record.specs.declared.write.Change.TheVariants as change
use Rattle.sdb_record.specs.Coordinator.{coordinator_key_of, coordinator_row_of}
use Rattle.sdb_record.specs.Rolls.{prepared_record, forward_record}
use Rattle.sdb_model.specs.Events.{StoreContents, stored_at}
use Rattle.law_protocol.specs.Plan.{Plan, write_at}
use Rattle.law_protocol.specs.History.{History, Standing, Final, Held}
use Rattle.law_protocol.specs.Lawful.{id}
use Rattle.sdb_model.specs.Tables.{is_data}

abbrev pub write_there : Plan → Key → Write
write_there plan k = unwrap_or (write_at plan k) (record { key = k; base = None; change = change.Delete })

-- the record that a transaction prepares at a key
unfoldable pub record_prepared_by : (ℕ → Plan) → ℕ → Key → Record
record_prepared_by plan t k = prepared_record (write_there (plan t) k) (id t) (plan t).now

-- and the one committed record that it leaves there
unfoldable pub record_left_by : (ℕ → Plan) → ℕ → Key → Record
record_left_by plan t k = forward_record (record_prepared_by plan t k) (plan t).now

abbrev pub record_for : (ℕ → Plan) → Key → Standing → Record
record_for plan k (Final t) = record_left_by plan t k
record_for plan k (Held t) = record_prepared_by plan t k

-- the row of a transaction
abbrev pub row_for : History → ℕ → Option Record
row_for w t = option_map (λ d. coordinator_row_of (id t) d (w.moment t)) (w.row t)

-- The stores hold what the history says: at each key of a table of records, and of each transaction's row.
pub record ContainsHistory (plan : ℕ → Plan) (places : List Place) (w : History) (store_contents : List StoreContents) : Type 0 where
  pub records : (k : Key) → is_data k ≡ true → stored_at places store_contents k ≡ option_map (record_for plan k) (w.rows k)
  pub rows : (t : ℕ) → t < 2 ^ 128 → stored_at places store_contents (coordinator_key_of (id t)) ≡ row_for w t
