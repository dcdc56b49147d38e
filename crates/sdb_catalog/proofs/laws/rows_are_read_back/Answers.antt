use Rattle.sdb_catalog.proofs.OneReading.{one_reading, rows_open}
use Rattle.sdb_catalog.proofs.laws.rows_are_read_back.Goals as goal

pub returns : goal.returns
returns c = record { opened = rows_open; one = one_reading }
