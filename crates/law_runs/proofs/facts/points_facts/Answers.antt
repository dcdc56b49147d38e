use Rattle.std.proofs.Common.{All, subst}
use Rattle.std.proofs.lemmas.List.{take_all}
use Rattle.std.proofs.lemmas.List.Elements.{All-more}
use Rattle.sdb_model.specs.Plain.{IsPlainPoint}
use Rattle.law_runs.proofs.facts.points_facts.Goals as goal

pub loop-point-preserved : goal.loop-point-preserved
loop-point-preserved c = All-more IsPlainPoint c.args.points.now c.loop-point.point-index (record { id = record { 0 = 0 }; event = 0 }) c.loop-point-test.true c.loop-point.invariant c.point_facts.ensures

pub returns : goal.returns
returns c = subst (All IsPlainPoint) (take_all c.loop-point.point-index c.args.points.now c.loop-point-test.false) c.loop-point.invariant
