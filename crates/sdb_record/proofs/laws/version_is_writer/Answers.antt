use Rattle.sdb_record.proofs.ImageLaws.{checked-version, version-writer}
use Rattle.sdb_record.proofs.laws.version_is_writer.Goals as goal

pub returns : goal.returns
returns c = record { meta = checked-version; writer = version-writer }
