use Rattle.std.proofs.Common.{All, take}
use Rattle.sdb_types.specs.Fits.{put_fits}
use Rattle.sdb_types.proofs.facts.puts_facts.Given as goal

abbrev pub invariant-loop-put : goal.invariant-loop-put
invariant-loop-put l = All put_fits (take l.put-index l.puts)
