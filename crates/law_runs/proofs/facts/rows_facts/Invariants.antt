use Rattle.std.proofs.Common.{All, take}
use Rattle.sdb_model.specs.Plain.{values_are_plain}
use Rattle.law_runs.proofs.facts.rows_facts.Given as goal

abbrev pub invariant-loop-row : goal.invariant-loop-row
invariant-loop-row l = All values_are_plain (take l.row-index l.rows)
