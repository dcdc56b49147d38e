-- How changes are accepted: first each new key goes last, then each change is put at its key.
use Rattle.std.specs.Prelude.{if◌then◌else◌, List, [], ◌∷◌, ◌++◌}
use Rattle.sdb_types.specs.Order.{same_key}
use Rattle.sdb_snapshot.specs.Types.{Keyed, Write}
use Rattle.sdb_record.specs.Among.{is_written}
use Rattle.sdb_snapshot.specs.Reads.{ReadRecord}
use Rattle.sdb_snapshot.specs.Written.{write_of}

-- with a write whose key is new
abbrev pub with_new : List Write → Write → List Write
with_new ws w = if is_written ws w.key then ws else ws ++ w ∷ []

abbrev pub with_news : List ReadRecord → List Write → List Keyed → List Write
with_news read_set ws [] = ws
with_news read_set ws (k ∷ ks) = with_news read_set (with_new ws (write_of read_set k)) ks

-- with the change of a key that is written
abbrev pub with_laid : List Write → Keyed → List Write
with_laid [] k = []
with_laid (x ∷ xs) k = if same_key k.key x.key then record { key = x.key; base = x.base; change = k.change } ∷ xs else x ∷ with_laid xs k

abbrev pub with_laids : List Write → List Keyed → List Write
with_laids ws [] = ws
with_laids ws (k ∷ ks) = with_laids (with_laid ws k) ks
