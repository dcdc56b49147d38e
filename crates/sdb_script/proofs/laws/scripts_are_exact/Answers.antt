use Rattle.sdb_script.proofs.Scripts.{one_script, one_cause, apart, total}
use Rattle.sdb_script.proofs.laws.scripts_are_exact.Goals as goal

pub returns : goal.returns
returns c = record { one = one_script; cause = one_cause; apart = apart; total = total }
