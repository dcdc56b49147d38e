-- What was noted stays first.
use Rattle.std.proofs.Common.{Bool, true, false, cond, List, [], ◌∷◌, ◌++◌, Option}
use Rattle.sdb_snapshot.specs.Types.{Key, Record}
use Rattle.sdb_snapshot.specs.Reads.{ReadRecord, is_key_read, with_read_record}
use Rattle.sdb_snapshot.specs.Sets.{StartsWith}
use Rattle.sdb_snapshot.proofs.Fronts.{starts_more}

pub note_front : (xs read_set : List ReadRecord) (k : Key) (f : Option Record) → StartsWith xs read_set → StartsWith xs (with_read_record read_set k f)
note_front xs read_set k f h = by_noted (is_key_read read_set k)
  where
    by_noted : (b : Bool) → StartsWith xs (cond b read_set (read_set ++ (k, f) ∷ []))
    by_noted true = h
    by_noted false = starts_more xs read_set ((k, f) ∷ []) h
