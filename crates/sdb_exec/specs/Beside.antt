-- What a row's key gives a column.
use Rattle.std.specs.Prelude.{if◌then◌else◌, List, [], ◌∷◌, Option, Some, None}
use Rattle.std.specs.Option.{option_or}
use Rattle.sdb_model.specs.Rows.{Name, same_name, order_names}
use Rattle.sdb_exec.specs.Types.{Image, Table, Value}

-- the value that is beside a name
abbrev pub beside : List Name → List Value → Name → Option Value
beside [] vs name = None
beside (n ∷ ns) [] name = None
beside (n ∷ ns) (v ∷ vs) name = if same_name n name then Some v else beside ns vs name

-- the value in the key of a row
abbrev pub in_key : Table → Image → Name → Option Value
in_key t r name = option_or (beside t.partition r.key.partition name) (beside (order_names t.clustering) r.key.clustering name)
