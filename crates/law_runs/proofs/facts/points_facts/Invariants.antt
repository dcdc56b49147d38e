use Rattle.std.proofs.Common.{All, take}
use Rattle.sdb_model.specs.Plain.{IsPlainPoint}
use Rattle.law_runs.proofs.facts.points_facts.Given as goal

abbrev pub invariant-loop-point : goal.invariant-loop-point
invariant-loop-point l = All IsPlainPoint (take l.point-index l.points)
