-- Values by key, as a list of entries in the order in which their keys were first used, each key once.
use Rattle.std.specs.Prelude.{List, [], ◌∷◌, Option, if◌then◌else◌}
use Rattle.std.specs.Map.{lookup}
use Rattle.sdb_types.specs.declared.key.Key.{Key}
use Rattle.sdb_types.specs.Order.{same_key}

-- the value of the first entry with that key
abbrev pub value_at : {V : Type 0} → List (Key × V) → Key → Option V
value_at es key = lookup (same_key key) es

-- with a value at a key: a key that is there keeps its place and takes the value, and a new key goes last
abbrev pub with_value : {V : Type 0} → List (Key × V) → Key → V → List (Key × V)
with_value [] key v = (key, v) ∷ []
with_value (e ∷ es) key v = if same_key key e.0 then (e.0, v) ∷ es else e ∷ with_value es key v
