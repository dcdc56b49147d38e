use Rattle.std.proofs.Common.{All, take}
use Rattle.sdb_model.specs.Plain.{put_is_plain}
use Rattle.law_runs.proofs.facts.puts_facts.Given as goal

abbrev pub invariant-loop-put : goal.invariant-loop-put
invariant-loop-put l = All put_is_plain (take l.put-index l.puts)
