-- What the rows of the coordinator's table say.
use Rattle.std.specs.Prelude.{Bool, List, [], ◌∷◌, Option, None, is_ok}
use Rattle.std.specs.BTreeMap.{get}
use Rattle.std.specs.List.{filter_map}
use Rattle.std.specs.Option.{option_and_then}
use Rattle.std.specs.Ordering.{nat_cmp}
use Rattle.std.specs.Result.{result_ok}
use Rattle.sdb_contents.specs.Types.{Decided, Decision, Record, TxId}
use Rattle.sdb_types.specs.Contents.{record_among}
use Rattle.sdb_record.specs.declared.coordinator.Decision.TheVariants as decision
use Rattle.sdb_record.specs.Coordinator.{coordinator_key_of, decision_in, id_of_key}
use Rattle.sdb_contents.specs.declared.decisions.Decisions.{Decisions}

-- the decision on a transaction
abbrev pub decided : Decisions → TxId → Option Decided
decided d id = get nat_cmp d.by_id id.0

-- a coordinator's row that is well formed
abbrev pub is_decided : Record → Bool
is_decided row = is_ok (decision_in row)

-- the decision on a transaction, in its row
abbrev pub decision_among : List Record → TxId → Option Decided
decision_among rows id = option_and_then (λ row. result_ok (decision_in row)) (record_among rows (coordinator_key_of id))

abbrev pub recorded_by : TxId → Decision → List TxId
recorded_by id decision.Committed = id ∷ []
recorded_by id decision.Aborted = []

abbrev pub committed_one : Option TxId → Decision → Option TxId
committed_one id decision.Committed = id
committed_one id decision.Aborted = None

-- the transaction of a row, where that says that it is committed
abbrev pub recorded_in : Record → Option TxId
recorded_in row = option_and_then (λ d. committed_one (id_of_key row.key) d.decision) (result_ok (decision_in row))

-- the transactions that are committed, in the order of their rows
abbrev pub recorded_among : List Record → List TxId
recorded_among rows = filter_map recorded_in rows
