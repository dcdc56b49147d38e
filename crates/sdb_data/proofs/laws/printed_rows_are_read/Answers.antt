use Rattle.sdb_data.proofs.TextAgain.{rows-are-read}
use Rattle.sdb_data.proofs.laws.printed_rows_are_read.Goals as goal

pub returns : goal.returns
returns c = rows-are-read
