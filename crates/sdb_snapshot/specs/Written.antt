-- What a transaction writes: one entry for each key, in the order of first writing.
use Rattle.std.specs.Prelude.{◌≡◌, ℕ, true, false, if◌then◌else◌, List, [], ◌∷◌}
use Rattle.std.specs.List.{AllByRecursion}
use Rattle.sdb_types.specs.Order.{same_key}
use Rattle.sdb_snapshot.specs.Types.{Keyed, Write}
use Rattle.sdb_record.specs.Rolls.{IsWrite, is_change}
use Rattle.sdb_record.specs.Among.{is_written}
use Rattle.sdb_snapshot.specs.Reads.{ReadRecord, base_at, is_key_read}

abbrev pub with_change_of : Write → Write → Write
with_change_of w later = record { key = w.key; base = w.base; change = later.change }

-- With a write: a key that was written keeps its place and its base and takes the change, and a new one goes last.
abbrev pub with_write : List Write → Write → List Write
with_write [] w = w ∷ []
with_write (x ∷ xs) w = if same_key w.key x.key then with_change_of x w ∷ xs else x ∷ with_write xs w

-- a change with its base: what was found at its key
abbrev pub write_of : List ReadRecord → Keyed → Write
write_of read_set k = record { key = k.key; base = base_at read_set k.key; change = k.change }

-- with changes, one after the other
abbrev pub with_writes : List ReadRecord → List Write → List Keyed → List Write
with_writes read_set ws [] = ws
with_writes read_set ws (k ∷ ks) = with_writes read_set (with_write ws (write_of read_set k)) ks

-- how many keys a transaction may write
abbrev pub most_writes : ℕ
most_writes = 4096

abbrev pub AreWrites : List Write → Type 0
AreWrites ws = AllByRecursion IsWrite ws

-- each write is of a key that was read, and its base is what was found there
abbrev pub HaveBases : List ReadRecord → List Write → Type 0
HaveBases read_set ws = AllByRecursion (λ w. (is_key_read read_set w.key ≡ true) × (w.base ≡ base_at read_set w.key)) ws

-- no two writes are of one key
abbrev pub HaveKeysOnce : List Write → Type 0
HaveKeysOnce [] = Unit {0}
HaveKeysOnce (w ∷ ws) = (is_written ws w.key ≡ false) × HaveKeysOnce ws

-- each change is of a key that was read, and leaves user columns alone
abbrev pub AreChanges : List ReadRecord → List Keyed → Type 0
AreChanges read_set ks = AllByRecursion (λ k. (is_key_read read_set k.key ≡ true) × (is_change k.change ≡ true)) ks
