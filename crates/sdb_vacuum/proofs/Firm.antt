-- What the test of a row says of it.
use Rattle.std.proofs.Common.{◌≡◌, ◌<◌, ◌^◌}
use Rattle.std.specs.Prelude.{Ok, Some}
use Rattle.sdb_vacuum.specs.Types.{Meta, Record}
use Rattle.sdb_record.specs.Meta.{checked, id_in}
use Rattle.sdb_record.proofs.Public.{checked-version, version-writer}

-- a record that passes the checks has the writer that its metadata says
pub writer_of : (r : Record) (meta : Meta) → meta.id.0 < 2 ^ 128 → checked r.columns ≡ Ok meta → id_in r.columns ≡ Some meta.id
writer_of r meta small h = version-writer r meta.id meta.state small (checked-version r meta h)
