-- What a row of the table means.
use Rattle.std.specs.Prelude.{◌≡◌, ◌≢◌, ◌⊎◌, [], List, ℕ}
use Rattle.sdb_sqlite.specs.Types.{Key, Record}
use Rattle.sdb_types.specs.Fits.{record_fits}
use Rattle.sdb_codec.specs.Spelling.{record_bytes, RecordIsEncodable}

-- The bytes spell the record.
abbrev pub Spells : List ℕ → Record → Type 0
Spells body r = RecordIsEncodable r × (body ≡ record_bytes r)

-- The bytes spell no record of that key.
abbrev pub IsForeign : List ℕ → Key → Type 0
IsForeign body key = (r : Record) → record_fits r → Spells body r → r.key ≢ key

-- The record that a row of that key with that body means: the one of that key that the body spells, or else one without
-- columns.
pub record IsRecordOf (body : List ℕ) (key : Key) (r : Record) : Type 0 where
  pub own : r.key ≡ key
  pub columns : Spells body r ⊎ ((r.columns ≡ []) × IsForeign body key)
