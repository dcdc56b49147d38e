use Rattle.sdb_script.proofs.PrintedBack.{printed_back}
use Rattle.sdb_script.proofs.laws.printed_scripts_are_read.Goals as goal

pub returns : goal.returns
returns c = record { again = printed_back }
