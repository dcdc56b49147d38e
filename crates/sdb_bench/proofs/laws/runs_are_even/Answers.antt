use Rattle.sdb_bench.proofs.Serial.{run_is_even}
use Rattle.sdb_bench.proofs.laws.runs_are_even.Goals as goal

pub returns : goal.returns
returns c = run_is_even
