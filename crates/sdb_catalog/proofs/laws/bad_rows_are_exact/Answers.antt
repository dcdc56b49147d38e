use Rattle.sdb_catalog.proofs.OneReading.{none_bad, one_bad}
use Rattle.sdb_catalog.proofs.laws.bad_rows_are_exact.Goals as goal

pub returns : goal.returns
returns c = record { none = none_bad; one = one_bad }
