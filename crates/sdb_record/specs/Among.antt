-- What some reads and writes have at a key.
use Rattle.std.specs.Prelude.{Bool, List, Option, is_some, find}
use Rattle.std.specs.Option.{option_and_then}
use Rattle.sdb_record.specs.Types.{Key, TxId}
use Rattle.sdb_types.specs.Order.{same_key}
use Rattle.sdb_record.specs.declared.access.Read.{Read}
use Rattle.sdb_record.specs.declared.write.Write.{Write}

-- the version of a key among reads: none where it was read without a record, or not at all
abbrev pub version_among : List Read → Key → Option TxId
version_among reads key = option_and_then (λ r. r.version) (find (λ r. same_key key r.key) reads)

-- the write of a key among some
abbrev pub write_among : List Write → Key → Option Write
write_among writes key = find (λ w. same_key key w.key) writes

abbrev pub is_written : List Write → Key → Bool
is_written writes key = is_some (write_among writes key)
