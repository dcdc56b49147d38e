use Rattle.std.proofs.Common.{All, take}
use Rattle.law_runs.specs.Facts.{dump_fits}
use Rattle.law_runs.proofs.facts.dumps_facts.Given as goal

abbrev pub invariant-loop-dump : goal.invariant-loop-dump
invariant-loop-dump l = All dump_fits (take l.dump-index l.dumps)
