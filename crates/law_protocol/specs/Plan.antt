-- What a transaction has read, and is to write, when its COMMIT is accepted.
use Rattle.std.specs.Prelude.{ℕ, ℤ, Bool, true, false, List, Option, slice_get}
use Rattle.std.specs.Option.{option_map, option_map_or, option_and_then}
use Rattle.law_protocol.specs.Types.{Change, Key, TxId, Write}
use Rattle.sdb_record.specs.declared.write.Change.TheVariants as change
use Rattle.sdb_record.specs.Moved.{version_of}
use Rattle.sdb_record.specs.Among.{write_among}
use Rattle.sdb_model.specs.ReadSet.{ReadItem, version_read}

-- What a transaction goes into its COMMIT with: its writes, its read set, in the order in which they are checked, and
-- the moment of the COMMIT.
pub record Plan : Type 0 where
  pub writes : List Write
  pub read_set : List ReadItem
  pub now : ℤ

-- the write of a key
unfoldable pub write_at : Plan → Key → Option Write
write_at plan key = write_among plan.writes key

-- the number of a version
abbrev pub number_of : Option TxId → Option ℕ
number_of version = option_map (λ id. id.0) version

-- whether a transaction writes a key, and if so the version of the base, none where there is no base
unfoldable pub written : Plan → Key → Option (Option ℕ)
written plan key = option_map (λ w. number_of (version_of w.base)) (write_at plan key)

abbrev pub is_delete : Change → Bool
is_delete change.Delete = true
is_delete (change.Row columns) = false

-- whether what a transaction writes at a key is a delete
unfoldable pub deletes : Plan → Key → Bool
deletes plan key = option_map_or (λ w. is_delete w.change) (write_at plan key) false

-- what the i-th read of the read set of a transaction says of a key
unfoldable pub version_read_at : Plan → ℕ → Key → Option (Option ℕ)
version_read_at plan i key = option_map number_of (option_and_then (λ n. version_read n key) (slice_get plan.read_set i))
