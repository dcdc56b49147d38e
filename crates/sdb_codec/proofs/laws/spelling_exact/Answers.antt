use Rattle.sdb_codec.proofs.RecordLaws.{record_apart, key_apart}
use Rattle.sdb_codec.proofs.laws.spelling_exact.Goals as goal

pub returns : goal.returns
returns c = record { records = record_apart; keys = key_apart }
