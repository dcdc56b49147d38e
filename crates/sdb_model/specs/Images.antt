-- The committed images of what the stores hold, under the coordinator's rows.
use Rattle.std.specs.Prelude.{List, Option}
use Rattle.std.specs.Option.{option_and_then}
use Rattle.std.specs.Result.{result_ok}
use Rattle.sdb_model.specs.Types.{Decided, Key, Pair, Place, Record, TxId}
use Rattle.sdb_record.specs.Coordinator.{coordinator_key_of, decision_in}
use Rattle.sdb_record.specs.Meta.{id_in}
use Rattle.sdb_record.specs.Rolls.{image_of, row_of_image}
use Rattle.sdb_model.specs.Events.{StoreContents, stored_at}

-- the decision on a transaction: what its row in the coordinator's table says, where there is one and it is well formed
abbrev pub decision_at : List Place → List StoreContents → TxId → Option Decided
decision_at places store_contents id = option_and_then (λ row. result_ok (decision_in row)) (stored_at places store_contents (coordinator_key_of id))

-- the decision on the transaction that wrote a record
abbrev pub decision_on : List Place → List StoreContents → Record → Option Decided
decision_on places store_contents r = option_and_then (decision_at places store_contents) (id_in r.columns)

-- the committed image of what is at a key
abbrev pub image_at : List Place → List StoreContents → Key → Option Record
image_at places store_contents key = option_and_then (λ r. image_of r (decision_on places store_contents r)) (stored_at places store_contents key)

-- the row of that image
abbrev pub row_at : List Place → List StoreContents → Key → Option (List Pair)
row_at places store_contents key = option_and_then row_of_image (image_at places store_contents key)
