-- What a map is filled with at once.
use Rattle.std.specs.Prelude.{◌≡◌, false, List, [], ◌∷◌, Some}
use Rattle.std.specs.List.{list_any}
use Rattle.sdb_types.specs.Order.{same_key}
use Rattle.sdb_snapshot.specs.Types.{Key, Record}
use Rattle.sdb_snapshot.specs.Reads.{ReadRecord}

-- each key is among them once
abbrev pub AreOnce : List Key → Type 0
AreOnce [] = Unit {0}
AreOnce (k ∷ ks) = (list_any (same_key k) ks ≡ false) × AreOnce ks

-- a record under its key, as found
abbrev pub found_in : Record → ReadRecord
found_in r = (r.key, Some r)
