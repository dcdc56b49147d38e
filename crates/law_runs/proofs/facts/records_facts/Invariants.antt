use Rattle.std.proofs.Common.{All, take}
use Rattle.sdb_types.specs.Fits.{record_fits}
use Rattle.law_runs.proofs.facts.records_facts.Given as goal

abbrev pub invariant-loop-rec : goal.invariant-loop-rec
invariant-loop-rec l = All record_fits (take l.rec-index l.records)
